-- Bytes that decode to a state, cleared, are its encoding: the whole state.
use Rattle.std.specs.Prelude.{◌≡◌, true, ◌&&◌, ◌⊎◌, ℕ, zero, suc, ◌+◌, ◌*◌, ◌-◌, ◌/◌, ◌%◌, ◌≤◌, replicate}
use Rattle.std.proofs.Math.Path.{refl, sym, ap}
use Rattle.std.proofs.Common.{◌∙◌, inl, inr, mul-suc, mul-zero, length-drop, take-append-drop, eqb-true, leb-true}
use Rattle.std.proofs.Math.Bool.{false}
use mathlib.Core.List.{List, [], ◌∷◌, ◌++◌, map, reverse, append_assoc, append-nil, reverse-reverse}
use Rattle.std.proofs.Math.Option.{none, some}
use native.Mathlib.Omega.{arith}
use Rattle.std.proofs.Math.Dec.{eqb, leb}
use Rattle.std.proofs.Math.ListN.{length, take, drop, get_elem?, length-append, length-take, length-reverse, drop_of_length-le}
use Rattle.std.proofs.lemmas.List.{length-map}
use Rattle.std.proofs.Math.Seq.{length-take-le, take-take, drop-drop, drop-cons}
use Rattle.logic.specs.Choice.{If◌then◌else◌}
use Rattle.words.specs.Numbers.{byte_at, half_at}
use Rattle.words.specs.Laws.{Bytes}
use Rattle.values.specs.Types.{Ty}
use Rattle.bytecode.specs.Macro.{Macro}
use Rattle.bytecode.specs.Machine.{Activation, Made, end_by, Machine, running, unwinding, ended, all_holds}
use Rattle.bytecode.specs.State.{pad, flat, zeros, part, activation_bytes, record_bytes, header_bytes, state_bytes, encode, read_activations, read_records, assemble, read_running, read_unwinding, decode}
use Rattle.bytecode_layout.specs.Rows.{pad-fill, flat_append, length-flat}
use Rattle.bytecode_layout.specs.Parts.{length-zeros, length-header}
use Rattle.bytecode_layout.specs.Blank.{no-zeros, zeros-join}
use Rattle.logic.specs.OptionLaws.{never-some, chosen, kept, same_some}
use Rattle.logic.specs.Tests.{halves}
use Rattle.bytecode_layout.specs.Decode.{turned, turned-holds, flat-written, wide-activation, wide-record}
use Rattle.bytecode_layout.specs.Inverse.{pick, bytes_drop}
use Rattle.bytecode_layout.specs.Cleared.{◌⋯◌, wipes, clear_activations, clear_records, clear_running, cleared, Clears, cleared-from}
use Rattle.bytecode_layout.specs.Normal.{ActivationsRead, RecordsRead, activations-read, records-read, four_bytes}

-- ── rows of chunks: those in use, then zeros ──
blank-chunks : (w k : ℕ) → flat (λ (l : List ℕ). l) (replicate k (zeros w)) ≡ zeros (w * k)
unfolding flat
blank-chunks w zero = rw (mul-zero w) no-zeros
blank-chunks w (suc k) = let e : w * suc k ≡ w + w * k = mul-suc w k ∙ omega arith in rw (e, zeros-join w (w * k), blank-chunks w k)

chunks-filled : {A : Type 0} (enc : A → List ℕ) (w n : ℕ) (xs : List A) → length xs ≤ n → flat (λ (l : List ℕ). l) (pad n (zeros w) (map enc xs)) ≡ flat enc xs ++ zeros (w * (n - length xs))
chunks-filled enc w n xs h =
    rw (
      pad-fill (zeros w) n (map enc xs) (rw (length-map xs enc) h),
      flat_append (λ (l : List ℕ). l) (map enc xs) (replicate (n - length (map enc xs)) (zeros w)),
      flat-written enc xs,
      length-map xs enc,
      blank-chunks w (n - length xs),
    )

zeros-filled : (n : ℕ) (gs : List ℕ) → length gs ≤ n → pad n 0 gs ≡ gs ++ zeros (n - length gs)
unfolding zeros
zeros-filled n gs h = pad-fill 0 n gs h

-- ── clearing at the front of what is left: k of the next n stay ──
front : (p rest : List ℕ) (s e k n : ℕ) → s ≡ length p + k → e ≡ length p + n → k ≤ n → n ≤ length rest
    → wipes (p ++ rest) 0 ((s ⋯ e) ∷ []) ≡ (p ++ (take k rest ++ zeros (n - k))) ++ drop n rest
front p rest s e k n hs he h r =
    let x = take n rest in
    let c : Clears 0 (length p) ((length p + k ⋯ length p + n) ∷ []) x (take k x ++ zeros (n - k)) = cleared-from 0 (length p) k n x (length-take-le n rest r) h in
    let z : length p ≡ 0 + length p = omega arith in
    rw (hs, he) (ap (λ (t : List ℕ). wipes (p ++ t) 0 ((length p + k ⋯ length p + n) ∷ [])) (sym (take-append-drop n rest))
    ∙ c.becomes p (drop n rest) z ∙ rw (take-take k n rest h) (simp append_assoc))

-- ── an encoding, with its zeros apart ──
encoded : (h : List ℕ) (xs : List Activation) (gs : List ℕ) (rs : List Made) → length xs ≤ 32 → length gs ≤ 512 → length rs ≤ 256
    → state_bytes h (map activation_bytes xs) (reverse gs) (map record_bytes rs)
    ≡ h ++ ((flat activation_bytes xs ++ zeros (328 * (32 - length xs))) ++ ((reverse gs ++ zeros (512 - length gs)) ++ ((flat record_bytes rs ++ zeros (44 * (256 - length rs))) ++ zeros 2272)))
unfolding state_bytes
encoded h xs gs rs a b c =
    rw (chunks-filled activation_bytes 328 32 xs a, zeros-filled 512 (reverse gs) (rw (length-reverse gs) b), length-reverse gs, chunks-filled record_bytes 44 256 rs c)

-- the header's bytes, some of them cleared
wiped-two : (a b c d : ℕ) (t : List ℕ) → wipes (a ∷ b ∷ c ∷ d ∷ t) 0 ((1 ⋯ 2) ∷ (3 ⋯ 4) ∷ []) ≡ a ∷ 0 ∷ c ∷ 0 ∷ t
unfolding zeros
wiped-two a b c d t = refl

wiped-four : (a b c d e f : ℕ) (t : List ℕ) → wipes (a ∷ b ∷ c ∷ d ∷ e ∷ f ∷ t) 0 ((2 ⋯ 6) ∷ []) ≡ a ∷ b ∷ 0 ∷ 0 ∷ 0 ∷ 0 ∷ t
unfolding zeros
wiped-four a b c d e f t = refl

six : zeros 6 ≡ 0 ∷ 0 ∷ 0 ∷ 0 ∷ 0 ∷ 0 ∷ []
unfolding zeros
six = refl

module _ (l : List ℕ) (long : length l ≡ 24576) (small : Bytes l) where
  low : (i : ℕ) → half_at l i % 256 ≡ byte_at l i
  low i = omega (arith, small i)

  high : (i : ℕ) → half_at l i / 256 ≡ byte_at l (i + 1)
  high i = omega (arith, small i)

  eight : l ≡ byte_at l 0 ∷ byte_at l 1 ∷ byte_at l 2 ∷ byte_at l 3 ∷ byte_at l 4 ∷ byte_at l 5 ∷ byte_at l 6 ∷ byte_at l 7 ∷ drop 8 l
  eight =
      four_bytes l (omega arith)
      ∙ rw (drop-cons l 4 0 (omega arith), drop-cons l 5 0 (omega arith), drop-cons l 6 0 (omega arith), drop-cons l 7 0 (omega arith))

  left : (n : ℕ) → length (drop n l) ≡ 24576 - n
  left n = length-drop n l ∙ rw long

  header-cleared : byte_at l 0 ≡ 0 → wipes l 0 ((1 ⋯ 2) ∷ (3 ⋯ 4) ∷ (8 ⋯ 32) ∷ []) ≡ header_bytes 0 0 (byte_at l 2) (half_at l 4) (half_at l 6) ++ drop 32 l
  unfolding header_bytes
  header-cleared e =
      let p = byte_at l 0 ∷ 0 ∷ byte_at l 2 ∷ 0 ∷ byte_at l 4 ∷ byte_at l 5 ∷ byte_at l 6 ∷ byte_at l 7 ∷ [] in
      ap (λ (z : List ℕ). wipes z 0 ((8 ⋯ 32) ∷ []))
      (ap (λ (z : List ℕ). wipes z 0 ((1 ⋯ 2) ∷ (3 ⋯ 4) ∷ [])) eight ∙ wiped-two (byte_at l 0) (byte_at l 1) (byte_at l 2) (byte_at l 3) _)
      ∙ front p (drop 8 l) 8 32 0 24 refl refl (omega arith) (rw (left 8) (omega arith))
      ∙ rw (low 4, high 4, low 6, high 6, e, drop-drop 24 8 l)

  -- ── a running state ──
  module _ (m : Macro) (n r h : ℕ) (fs : List Activation) (rs : List Made) (few : n ≤ 32) (some-records : r ≤ 256) (held : h ≤ 512)
      (a : ActivationsRead m n (drop 32 l) (part 10528 512 l) [] fs) (q : RecordsRead m r (drop 11040 l) rs) (head : List ℕ) (wide : length head ≡ 32) where
    abbrev shown : List ℕ
    shown = head ++ flat activation_bytes a.each

    length-shown : length shown ≡ 32 + 328 * n
    length-shown =
        length-append head (flat activation_bytes a.each) ∙ rw (wide, length-flat activation_bytes 328 wide-activation a.each, a.count) (omega arith)

    abbrev filled : List ℕ
    filled = shown ++ zeros (10496 - 328 * n)

    length-filled : length filled ≡ 10528
    length-filled = length-append shown (zeros (10496 - 328 * n)) ∙ rw (length-shown, length-zeros (10496 - 328 * n)) (omega arith)

    -- the activations that are not in use
    activations-filled : wipes (head ++ (flat activation_bytes a.each ++ drop (328 * n) (drop 32 l))) 0 ((32 + 328 * n ⋯ 10528) ∷ []) ≡ filled ++ drop 10528 l
    activations-filled =
        let rest = drop (328 * n) (drop 32 l) in
        let k = 10496 - 328 * n in
        let w : length rest ≡ 24544 - 328 * n = length-drop (328 * n) (drop 32 l) ∙ rw (left 32) in
        let o : 32 + (328 * n + k) ≡ 10528 = omega arith in
        let z : 10496 - 328 * n - 0 ≡ 10496 - 328 * n = omega arith in
        rw (← append_assoc head (flat activation_bytes a.each) rest)
        (front shown rest (32 + 328 * n) 10528 0 k (rw length-shown (omega arith)) (rw length-shown (omega arith)) (omega arith) (omega arith)
        ∙ rw (z, drop-drop k (328 * n) (drop 32 l), drop-drop (328 * n + k) 32 l, o))

    abbrev grouped : List ℕ
    grouped = filled ++ (take h (drop 10528 l) ++ zeros (512 - h))

    length-grouped : length grouped ≡ 11040
    length-grouped =
        let w : length (take h (drop 10528 l)) ≡ h = length-take-le h (drop 10528 l) (rw (left 10528) (omega arith)) in
        length-append filled (take h (drop 10528 l) ++ zeros (512 - h))
        ∙ rw (length-filled, length-append (take h (drop 10528 l)) (zeros (512 - h)), w, length-zeros (512 - h)) (omega arith)

    groups-filled : wipes (filled ++ drop 10528 l) 0 ((10528 + h ⋯ 11040) ∷ []) ≡ grouped ++ drop 11040 l
    groups-filled =
        front filled (drop 10528 l) (10528 + h) 11040 h 512 (rw length-filled) (rw length-filled) held (rw (left 10528) (omega arith)) ∙ rw (drop-drop 512 10528 l)

    records-filled : wipes (grouped ++ (flat record_bytes rs ++ drop (44 * r) (drop 11040 l))) 0 ((11040 + 44 * r ⋯ 24576) ∷ []) ≡ grouped ++ (flat record_bytes rs ++ zeros (13536 - 44 * r))
    records-filled =
        let rest = drop (44 * r) (drop 11040 l) in
        let k = 13536 - 44 * r in
        let w : length rest ≡ 13536 - 44 * r = length-drop (44 * r) (drop 11040 l) ∙ rw (left 11040) in
        let v : length (grouped ++ flat record_bytes rs) ≡ 11040 + 44 * r =
        length-append grouped (flat record_bytes rs) ∙ rw (length-grouped, length-flat record_bytes 44 wide-record rs, q.count) (omega arith) in
        let z : 13536 - 44 * r - 0 ≡ 13536 - 44 * r = omega arith in
        let last : drop k rest ≡ [] = drop_of_length-le rest {i = k} (omega arith) in
        rw (← append_assoc grouped (flat record_bytes rs) rest)
        (front (grouped ++ flat record_bytes rs) rest (11040 + 44 * r) 24576 0 k (rw v (omega arith)) (rw v (omega arith)) (omega arith) (omega arith) ∙ rw (z, last) (simp (append_assoc, append-nil)))

    running-cleared : (gs : List ℕ) → length gs ≡ h → reverse gs ≡ take h (drop 10528 l) → wipes l 0 ((1 ⋯ 2) ∷ (3 ⋯ 4) ∷ (8 ⋯ 32) ∷ []) ≡ head ++ drop 32 l
        → clear_running m n r h l ≡ state_bytes head (map activation_bytes a.each) (reverse gs) (map record_bytes rs)
    unfolding clear_running
    running-cleared gs gn gt hd =
        let c1 : clear_activations m n 32 (wipes l 0 ((1 ⋯ 2) ∷ (3 ⋯ 4) ∷ (8 ⋯ 32) ∷ [])) ≡ head ++ (flat activation_bytes a.each ++ drop (328 * n) (drop 32 l)) =
        ap (clear_activations m n 32) hd ∙ a.becomes head 32 wide in
        let c2 : wipes (clear_activations m n 32 (wipes l 0 ((1 ⋯ 2) ∷ (3 ⋯ 4) ∷ (8 ⋯ 32) ∷ []))) 0 ((32 + 328 * n ⋯ 10528) ∷ (10528 + h ⋯ 11040) ∷ []) ≡ grouped ++ drop 11040 l =
        ap (λ (z : List ℕ). wipes z 0 ((32 + 328 * n ⋯ 10528) ∷ (10528 + h ⋯ 11040) ∷ [])) c1
        ∙ ap (λ (z : List ℕ). wipes z 0 ((10528 + h ⋯ 11040) ∷ [])) activations-filled ∙ groups-filled in
        let en : length a.each ≤ 32 = rw a.count few in
        let rn : length rs ≤ 256 = rw q.count some-records in
        let e1 : 328 * (32 - n) ≡ 10496 - 328 * n = omega arith in
        let e2 : 13536 - 44 * r ≡ 44 * (256 - r) + 2272 = omega arith in
        ap (λ (z : List ℕ). wipes (clear_records m r 11040 z) 0 ((11040 + 44 * r ⋯ 24576) ∷ [])) c2
        ∙ ap (λ (z : List ℕ). wipes z 0 ((11040 + 44 * r ⋯ 24576) ∷ [])) (q.becomes grouped 11040 length-grouped)
        ∙ records-filled
        ∙ rw (encoded head a.each gs rs en (rw gn held) rn, a.count, q.count, gn, gt, e1, e2, zeros-join (44 * (256 - r)) 2272) (simp append_assoc)

  -- ── a releasing state, and an ended one ──
  unwinding-cleared : byte_at l 0 ≡ 1 → half_at l 6 ≤ 512
      → wipes l 0 ((2 ⋯ 6) ∷ (8 ⋯ 10528) ∷ (10528 + half_at l 6 ⋯ 24576) ∷ []) ≡ encode (unwinding (reverse (part 10528 (half_at l 6) l)) (end_by (byte_at l 1)))
  unfolding encode header_bytes flat
  unwinding-cleared e few =
      let h = half_at l 6 in
      let gs = reverse (part 10528 h l) in
      let p = byte_at l 0 ∷ byte_at l 1 ∷ 0 ∷ 0 ∷ 0 ∷ 0 ∷ byte_at l 6 ∷ byte_at l 7 ∷ [] in
      let w : length (drop 10528 l) ≡ 14048 = left 10528 in
      let gn : length gs ≡ h = length-reverse (part 10528 h l) ∙ length-take-le h (drop 10528 l) (omega arith) in
      let gt : reverse gs ≡ take h (drop 10528 l) = reverse-reverse (part 10528 h l) in
      let c1 : wipes l 0 ((2 ⋯ 6) ∷ []) ≡ p ++ drop 8 l =
      ap (λ (z : List ℕ). wipes z 0 ((2 ⋯ 6) ∷ [])) eight ∙ wiped-four (byte_at l 0) (byte_at l 1) (byte_at l 2) (byte_at l 3) (byte_at l 4) (byte_at l 5) _ in
      let c2 : wipes (p ++ drop 8 l) 0 ((8 ⋯ 10528) ∷ []) ≡ (p ++ zeros 10520) ++ drop 10528 l =
      front p (drop 8 l) 8 10528 0 10520 refl refl (omega arith) (rw (left 8) (omega arith)) ∙ rw (drop-drop 10520 8 l) in
      let n : length (p ++ zeros 10520) ≡ 10528 = length-append p (zeros 10520) ∙ rw (length-zeros 10520) in
      let last : drop 14048 (drop 10528 l) ≡ [] = drop_of_length-le (drop 10528 l) {i = 14048} (omega arith) in
      let c3 : wipes ((p ++ zeros 10520) ++ drop 10528 l) 0 ((10528 + h ⋯ 24576) ∷ []) ≡ (p ++ zeros 10520) ++ (take h (drop 10528 l) ++ zeros (14048 - h)) =
      front (p ++ zeros 10520) (drop 10528 l) (10528 + h) 24576 h 14048 (rw n) (rw n) (omega arith) (omega arith) ∙ rw last (append-nil _) in
      let z : 14048 - h ≡ (512 - h) + 13536 = omega arith in
      let gl : length gs ≤ 512 = rw gn few in
      ap (λ (z : List ℕ). wipes z 0 ((8 ⋯ 10528) ∷ (10528 + h ⋯ 24576) ∷ [])) c1 ∙ ap (λ (z : List ℕ). wipes z 0 ((10528 + h ⋯ 24576) ∷ [])) c2 ∙ c3
      ∙ rw (
        encoded (header_bytes 1 (byte_at l 1) 0 0 (length gs)) [] gs [] (omega arith) gl (omega arith),
        gn,
        gt,
        low 6,
        high 6,
        e,
        z,
        zeros-join (512 - h) 13536,
        zeros-join 11264 2272,
        zeros-join 24 10496,
      )
      (simp append_assoc)

  ended-cleared : byte_at l 0 ≡ 2 → wipes l 0 ((2 ⋯ 24576) ∷ []) ≡ encode (ended (byte_at l 1))
  unfolding encode header_bytes flat
  ended-cleared e =
      let p = byte_at l 0 ∷ byte_at l 1 ∷ [] in
      let c1 : l ≡ p ++ drop 2 l = drop-cons l 0 0 (omega arith) ∙ rw (drop-cons l 1 0 (omega arith)) in
      let w : length (drop 2 l) ≡ 24574 = left 2 in
      let last : drop 24574 (drop 2 l) ≡ [] = drop_of_length-le (drop 2 l) {i = 24574} (omega arith) in
      let c2 : wipes (p ++ drop 2 l) 0 ((2 ⋯ 24576) ∷ []) ≡ p ++ zeros 24574 = front p (drop 2 l) 2 24576 0 24574 refl refl (omega arith) (omega arith) ∙ rw last (append-nil _) in
      ap (λ (z : List ℕ). wipes z 0 ((2 ⋯ 24576) ∷ [])) c1 ∙ c2
      ∙ rw (
        encoded (header_bytes 2 (byte_at l 1) 0 0 0) [] [] [] (omega arith) (omega arith) (omega arith),
        e,
        zeros-join 6 24568,
        six,
        zeros-join 24 24544,
        zeros-join 10496 14048,
        zeros-join 512 13536,
        zeros-join 11264 2272,
      )

-- ── from what decodes ──

-- ── from what decodes ──
assembled : (h : ℕ) (rs : List Made) (fs : List Activation) (s : Machine) → assemble h rs fs ≡ some s
    → (f : Activation) × (gs : List Activation) × (fs ≡ f ∷ gs) × (running (record { records = rs }) f gs ≡ s) × (length (all_holds (f ∷ gs)) ≡ h)
assembled h rs [] s e = never-some e
assembled h rs (f ∷ gs) s e =
    let c = chosen (eqb (length (all_holds (f ∷ gs))) h) (some (running (record { records = rs }) f gs)) s e in
    (f, gs, refl, same_some c.1, eqb-true (length (all_holds (f ∷ gs))) h c.0)

module _ (m : Macro) (small-classes : (c : ℕ) (ts : List Ty) → get_elem? m.classes c ≡ some ts → length ts ≤ 8) (l : List ℕ) (long : length l ≡ 24576) (small : Bytes l) where
  running-is : (rs : List Made) (f : Activation) (fs : List Activation) → byte_at l 0 ≡ 0 → byte_at l 2 ≤ 32 → half_at l 4 ≤ 256
      → read_activations m (byte_at l 2) (drop 32 l) (part 10528 512 l) [] ≡ some (f ∷ fs) → read_records m (half_at l 4) (drop 11040 l) ≡ some rs → length (all_holds (f ∷ fs)) ≡ half_at l 6
      → clear_running m (byte_at l 2) (half_at l 4) (half_at l 6) l ≡ encode (running (record { records = rs }) f fs)
  unfolding encode
  running-is rs f fs e0 few records ea er eh =
      let n = byte_at l 2 in
      let r = half_at l 4 in
      let h = half_at l 6 in
      let gs = all_holds (f ∷ fs) in
      let hs = part 10528 512 l in
      let wh : length hs ≡ 512 = length-take-le 512 (drop 10528 l) (rw (left l long small 10528) (omega arith)) in
      let a = activations-read m n (drop 32 l) hs [] (f ∷ fs) (bytes_drop 32 l small) (rw (left l long small 32) (omega arith)) (omega arith) ea in
      let q = records-read m small-classes r (drop 11040 l) rs (bytes_drop 11040 l small) (rw (left l long small 11040) (omega arith)) er in
      let each : a.each ≡ reverse (f ∷ fs) = sym (reverse-reverse a.each) ∙ ap reverse (sym a.stack) in
      let tg : flat turned a.each ≡ reverse gs = rw each (sym (turned-holds (f ∷ fs))) in
      let gn : length (reverse gs) ≡ h = length-reverse gs ∙ eh in
      let g512 : reverse gs ≡ take h hs = rw (tg, gn) at a.holds in
      let held : h ≤ 512 = omega (arith, ap length g512, length-take h hs) in
      let gt : reverse gs ≡ take h (drop 10528 l) = g512 ∙ take-take h 512 (drop 10528 l) held in
      let na : n ≡ length (f ∷ fs) = sym a.count ∙ ap length each ∙ length-reverse (f ∷ fs) in
      let ra : r ≡ length rs = sym q.count in
      running-cleared l long small m n r h (f ∷ fs) rs few records held a q (header_bytes 0 0 n r h) (length-header 0 0 n r h) gs eh gt (header-cleared l long small e0)
      ∙ rw (each, na, ra, eh)

  running-read : byte_at l 0 ≡ 0 → (s : Machine) → read_running m l ≡ some s → clear_running m (byte_at l 2) (half_at l 4) (half_at l 6) l ≡ encode s
  unfolding read_running
  running-read e0 s e =
      let t = chosen (leb (byte_at l 2) 32 && leb (half_at l 4) 256) _ s e in
      let t1 = halves (leb (byte_at l 2) 32) (leb (half_at l 4) 256) t.0 in
      let a = kept (read_activations m (byte_at l 2) (drop 32 l) (part 10528 512 l) []) _ s t.1 in
      let r = kept (read_records m (half_at l 4) (drop 11040 l)) _ s a.2 in
      let x = assembled (half_at l 6) r.0 a.0 s r.2 in
      rw (← x.3) (running-is r.0 x.0 x.1 e0 (leb-true (byte_at l 2) 32 t1.0) (leb-true (half_at l 4) 256 t1.1) (rw x.2 at a.1) r.1 x.4)

  unwinding-read : (s : Machine) → read_unwinding l ≡ some s → (half_at l 6 ≤ 512) × (unwinding (reverse (part 10528 (half_at l 6) l)) (end_by (byte_at l 1)) ≡ s)
  unfolding read_unwinding
  unwinding-read s e =
      let c = chosen (leb (half_at l 6) 512) _ s e in
      (leb-true (half_at l 6) 512 c.0, same_some c.1)

  pub normal : (s : Machine) → decode m l ≡ some s → cleared m l ≡ encode s
  unfolding decode cleared
  normal s e = go (pick (eqb (byte_at l 0) 0) (read_running m l) _ (some s) e)
    where
      go2 : eqb (byte_at l 0) 0 ≡ false → eqb (byte_at l 0) 1 ≡ false → (If eqb (byte_at l 0) 2 then some (ended (byte_at l 1)) else none) ≡ some s → cleared m l ≡ encode s
      go2 p0 p1 d =
          let c = chosen (eqb (byte_at l 0) 2) (some (ended (byte_at l 1))) s d in
          rw (p0, p1, ← same_some c.1) (ended-cleared l long small (eqb-true (byte_at l 0) 2 c.0))

      go1 : eqb (byte_at l 0) 0 ≡ false
          → ((eqb (byte_at l 0) 1 ≡ true) × (read_unwinding l ≡ some s)) ⊎ ((eqb (byte_at l 0) 1 ≡ false) × ((If eqb (byte_at l 0) 2 then some (ended (byte_at l 1)) else none) ≡ some s))
          → cleared m l ≡ encode s
      go1 p0 (inl d) =
          let c = unwinding-read s d.1 in
          rw (p0, d.0, ← c.1) (unwinding-cleared l long small (eqb-true (byte_at l 0) 1 d.0) c.0)
      go1 p0 (inr d) = go2 p0 d.0 d.1

      go : ((eqb (byte_at l 0) 0 ≡ true) × (read_running m l ≡ some s))
          ⊎ ((eqb (byte_at l 0) 0 ≡ false) × ((If eqb (byte_at l 0) 1 then read_unwinding l else If eqb (byte_at l 0) 2 then some (ended (byte_at l 1)) else none) ≡ some s))
          → cleared m l ≡ encode s
      go (inl d) = rw d.0 (running-read (eqb-true (byte_at l 0) 0 d.0) s d.1)
      go (inr d) = go1 d.0 (pick (eqb (byte_at l 0) 1) (read_unwinding l) _ (some s) d.1)
