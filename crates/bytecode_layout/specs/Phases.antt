-- The stores that begin a state, that turn a running state into a releasing or an ended one, and that release and end.
use Rattle.std.specs.Prelude.{◌≡◌, refl, List, [], ◌∷◌, reverse, map, ℕ, ◌*◌, ◌≤◌, ◌<◌, length}
use Rattle.std.proofs.Common.{ap, ◌∙◌}
use Rattle.std.proofs.lemmas.List.{length-reverse, length-map}
use Rattle.std.proofs.lemmas.List.Edits.{sets}
use Rattle.bytecode.specs.Machine.{Activation, Shared, end_by, running, unwinding, ended, all_holds}
use Rattle.bytecode.specs.State.{pad, zeros, header_bytes, encode}
use Rattle.bytecode_layout.specs.Rows.{pad-pad, pad-nil, pad-blank}
use Rattle.bytecode_layout.specs.Blank.{zeros-join, blank-row, wipe-row}
use Rattle.bytecode_layout.specs.Parts.{Parts, frame_bytes, entry_bytes, parts_bytes, no_frame, no_entry, parts_of, frames_of, groups_of, entries_of, frame_of, entry_of}
use Rattle.bytecode_layout.specs.Parts.{blank-frame, blank-entry, wide-frame, wide-entry, encode-parts}
use Rattle.bytecode_layout.specs.Places.{phase, code, activations, records, holds, group, parts, with_frames, frames-at, entries_at}
use Rattle.bytecode_layout.specs.Stores.{Store, ◌≔◌, stores, turns, stores-put}
use Rattle.bytecode_layout.specs.Slots.{group-popped}
use Rattle.bytecode_layout.specs.Steps.{activation}

-- the first n activations and the first r records made blank
abbrev pub wiped : List ℕ → ℕ → ℕ → List ℕ
wiped l n r = sets (sets l 32 (zeros (328 * n))) 11040 (zeros (44 * r))

wipe-law : (s : Shared) (f : Activation) (fs : List Activation) (n r : ℕ) → length (f ∷ fs) ≤ n → n ≤ 32 → length s.records ≤ r → r ≤ 256
    → wiped (encode (running s f fs)) n r ≡ parts_bytes (parts 0 0 (length (f ∷ fs)) (length s.records) (length (all_holds (f ∷ fs))) (frames_of []) (groups_of (all_holds (f ∷ fs))) (entries_of []))
wipe-law s f fs n r a b c d =
    let rs = s.records in
    let p : Parts = parts_of (running s f fs) in
    let xs = map frame_of (reverse (f ∷ fs)) in
    let w : length xs ≤ n = rw (length-map (reverse (f ∷ fs)) frame_of, length-reverse (f ∷ fs)) a in
    rw (encode-parts (running s f fs))
    (ap (λ (l : List ℕ). sets l 11040 (zeros (44 * r))) (wipe-row no_frame frame_bytes 328 wide-frame blank-frame n 32 (frames-at p) xs (pad-pad no_frame 32 xs) w b)
    ∙ wipe-row no_entry entry_bytes 44 wide-entry blank-entry r 256 (entries_at (with_frames (frames_of []) p)) (map entry_of rs) (pad-pad no_entry 256 (map entry_of rs)) (rw (length-map rs entry_of) c) d)

-- ── a condition, and the end by 0 ──
abbrev pub condition_is : ℕ → List Store
condition_is c = phase ≔ 1 ∷ code ≔ c ∷ activations ≔ 0 ∷ records ≔ 0 ∷ []

abbrev pub ends_by_zero : List Store
ends_by_zero = phase ≔ 2 ∷ activations ≔ 0 ∷ records ≔ 0 ∷ []

module _ (rs : Shared) (f : Activation) (fs : List Activation) (n r : ℕ) (a : length (f ∷ fs) ≤ n) (b : n ≤ 32) (c : length rs.records ≤ r) (d : r ≤ 256) where
  pub condition-law : (x : ℕ) → stores (wiped (encode (running rs f fs)) n r) (condition_is x) ≡ encode (unwinding (all_holds (f ∷ fs)) (end_by x))
  condition-law x = rw (wipe-law rs f fs n r a b c d, encode-parts (unwinding (all_holds (f ∷ fs)) (end_by x))) (stores-put _ (condition_is x) (tt, (tt, (tt, (tt, tt)))))

  pub end-law : all_holds (f ∷ fs) ≡ [] → stores (wiped (encode (running rs f fs)) n r) ends_by_zero ≡ encode (ended 0)
  end-law e = rw (wipe-law rs f fs n r a b c d, encode-parts (ended 0), e) (stores-put _ ends_by_zero (tt, (tt, (tt, tt))))

-- ── releasing ──
abbrev pub releases : ℕ → List Store
releases h = group h ≔ 0 ∷ holds ≔ h ∷ []

pub release-law : (g : ℕ) (gs : List ℕ) (c : ℕ) → length gs < 512 → stores (encode (unwinding (g ∷ gs) (end_by c))) (releases (length gs)) ≡ encode (unwinding gs (end_by c))
release-law g gs c h = turns _ _ (releases (length gs)) (h, (tt, tt)) (rw (group-popped g gs h))

pub finish-law : (c : ℕ) → stores (encode (unwinding [] (end_by c))) (phase ≔ 2 ∷ []) ≡ encode (ended c)
finish-law c = turns _ _ (phase ≔ 2 ∷ []) (tt, tt) refl

-- ── the beginning: the root with no cells yet ──
blank-header : header_bytes 0 0 0 0 0 ≡ zeros 32
unfolding header_bytes zeros
blank-header = refl

blank-groups : (n : ℕ) → pad n 0 [] ≡ zeros n
unfolding zeros
blank-groups n = pad-nil 0 n

blank-state : zeros 24576 ≡ parts_bytes (parts 0 0 0 0 0 (frames_of []) (groups_of []) (entries_of []))
unfolding parts_bytes
blank-state =
    rw (
      pad-pad no_frame 32 [],
      pad-pad {A = ℕ} 0 512 [],
      pad-pad no_entry 256 [],
      blank-row no_frame frame_bytes 328 wide-frame blank-frame 32,
      blank-row no_entry entry_bytes 44 wide-entry blank-entry 256,
      blank-header,
      blank-groups 512,
    )
    (zeros-join 32 24544 ∙ rw (zeros-join 10496 14048, zeros-join 512 13536, zeros-join 11264 2272))

first_frame : frames_of (activation 0 0 [] [] [] ∷ []) ≡ frames_of []
first_frame = pad-blank no_frame 32 []

pub begin-law : stores (zeros 24576) (activations ≔ 1 ∷ []) ≡ encode (running (record { records = [] }) (activation 0 0 [] [] []) [])
unfolding all_holds
begin-law =
    rw (blank-state, encode-parts (running (record { records = [] }) (activation 0 0 [] [] []) []), first_frame)
    (stores-put (parts 0 0 0 0 0 (frames_of []) (groups_of []) (entries_of [])) (activations ≔ 1 ∷ []) (tt, tt))
