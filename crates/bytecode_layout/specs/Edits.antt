-- Stores within one activation. It may stand anywhere, with some above it and some below, and between two stores its numbers need be no
-- activation's: a frame in its place, whose counts stand apart from its rows.
use Rattle.std.specs.Prelude.{◌≡◌, refl, ℕ, ◌<◌, length, get_or}
use Rattle.std.proofs.Common.{sym, ap, ◌∙◌, length-append}
use mathlib.Core.List.{List, [], ◌∷◌, ◌++◌, reverse, map, append_assoc, reverse-append, reverse-cons}
use Rattle.std.proofs.lemmas.List.{length-reverse, length-map, get_or_at}
use Rattle.bytecode.specs.Machine.{Activation, Shared, Machine, running, all_holds}
use Rattle.bytecode.specs.State.{pad, encode}
use Rattle.bytecode_layout.specs.Rows.{alter, get_d-pad, pad-inner, map-append}
use Rattle.bytecode_layout.specs.Parts.{Frame, Parts, frame_bytes, parts_bytes, no_frame, parts_of, frame_of, frames_of, groups_of, entries_of, encode-parts}
use Rattle.bytecode_layout.specs.Focus.{Focus}
use Rattle.bytecode_layout.specs.Places.{InFrame, FrameHas, frame_get, frame_put, in_frame, frame_place, get, put, parts, with_frames, frame_at}
use Rattle.bytecode_layout.specs.Stores.{Store, ◌≔◌, stores, puts, AllThere, stores-put}

-- a state with an activation f, those above it from the top down, and those below it
abbrev pub on : Shared → List Activation → Activation → List Activation → Machine
on rs [] f fs = running rs f fs
on rs (u ∷ us) f fs = running rs u (us ++ (f ∷ fs))

-- its parts, with a frame in the place of f's
abbrev pub frames_with : List Activation → Frame → List Activation → List Frame
frames_with us a fs = pad 32 no_frame (map frame_of (reverse fs) ++ (a ∷ map frame_of (reverse us)))

abbrev pub raw_on : Shared → List Activation → Activation → List Activation → Frame → Parts
raw_on rs us f fs a =
    let xs = us ++ (f ∷ fs) in parts 0 0 (length xs) (length rs.records) (length (all_holds xs)) (frames_with us a fs) (groups_of (all_holds xs)) (entries_of rs.records)

frames-with : (us : List Activation) (f : Activation) (fs : List Activation) → frames_of (us ++ (f ∷ fs)) ≡ frames_with us (frame_of f) fs
frames-with us f fs = rw (reverse-append us (f ∷ fs), reverse-cons f fs, append_assoc (reverse fs) (f ∷ []) (reverse us), map-append frame_of (reverse fs) (f ∷ reverse us))

-- one frame altered
module _ (us fs : List Activation) (few : length fs < 32) where
  below : length (map frame_of (reverse fs)) ≡ length fs
  below = length-map (reverse fs) frame_of ∙ length-reverse fs

  frame-altered : (g : Frame → Frame) (a : Frame) → alter no_frame g (frames_with us a fs) (length fs) ≡ frames_with us (g a) fs
  frame-altered g a = ap (alter no_frame g (frames_with us a fs)) (sym below) ∙ pad-inner no_frame 32 g (map frame_of (reverse fs)) a (map frame_of (reverse us)) (rw below few)

  pub activation-altered : (g : Frame → Frame) (f f' : Activation) → g (frame_of f) ≡ frame_of f' → alter no_frame g (frames_of (us ++ (f ∷ fs))) (length fs) ≡ frames_of (us ++ (f' ∷ fs))
  activation-altered g f f' e = rw (frames-with us f fs, frames-with us f' fs, ← e) (frame-altered g (frame_of f))

same-holds : (us : List Activation) (f f' : Activation) (fs : List Activation) → f'.holds ≡ f.holds → all_holds (us ++ (f' ∷ fs)) ≡ all_holds (us ++ (f ∷ fs))
unfolding all_holds
same-holds [] f f' fs e = rw e
same-holds (u ∷ us) f f' fs e = ap (λ (l : List ℕ). u.holds ++ l) (same-holds us f f' fs e)

module _ (rs : Shared) (us : List Activation) (f : Activation) (fs : List Activation) where
  parts-on : parts_of (on rs us f fs) ≡ raw_on rs us f fs (frame_of f)
  parts-on = go us
    where
      go : (us : List Activation) → parts_of (on rs us f fs) ≡ raw_on rs us f fs (frame_of f)
      go [] = rw (← frames-with [] f fs)
      go (u ∷ us) = rw (← frames-with (u ∷ us) f fs)

  pub encode-raw : encode (on rs us f fs) ≡ parts_bytes (raw_on rs us f fs (frame_of f))
  encode-raw = encode-parts (on rs us f fs) ∙ ap parts_bytes parts-on

  pub same-raw : (f' : Activation) → f'.holds ≡ f.holds → (a : Frame) → raw_on rs us f fs a ≡ raw_on rs us f' fs a
  same-raw f' e a =
      let n : length (us ++ (f' ∷ fs)) ≡ length (us ++ (f ∷ fs)) = length-append us (f' ∷ fs) ∙ sym (length-append us (f ∷ fs)) in
      rw (same-holds us f f' fs e, n)

  module _ (few : length fs < 32) where
    raw-put : (a : Frame) (x : InFrame) (n : ℕ) → put (in_frame (length fs) x) n (raw_on rs us f fs a) ≡ raw_on rs us f fs (frame_put x n a)
    raw-put a x n = rw (frame-altered us fs few (frame_put x n) a)

    frame-there : (a : Frame) → get_or (frames_with us a fs) (length fs) no_frame ≡ a
    frame-there a =
        get_d-pad no_frame 32 (map frame_of (reverse fs) ++ (a ∷ map frame_of (reverse us))) (length fs) few
        ∙ get_or_at (map frame_of (reverse fs)) a (map frame_of (reverse us)) no_frame (length fs) (below us fs few)

    pub raw-get : (a : Frame) (x : InFrame) → get (in_frame (length fs) x) (raw_on rs us f fs a) ≡ frame_get x a
    raw-get a x = ap (frame_get x) (frame-there a)

    -- the frame's bytes as a part
    pub raw-focus : (a : Frame) → Focus frame_bytes (λ (x : Frame). parts_bytes (raw_on rs us f fs x)) (parts_bytes (raw_on rs us f fs a)) a (frame_place (length fs))
    raw-focus a =
        let p = frame_at (raw_on rs us f fs a) (length fs) few in
        record {
          pre = p.pre;
          post = p.post;
          place = p.place;
          split = λ x. ap (λ (xs : List Frame). parts_bytes (with_frames xs (raw_on rs us f fs a))) (sym (frame-altered us fs few (λ (y : Frame). x) a)) ∙ p.split x;
          now = p.now ∙ ap (λ (x : Frame). p.pre ++ (frame_bytes x ++ p.post)) (frame-there a);
        }

-- ── edits: numbers stored in one activation ──
pub record Edit : Type 0 where
  pub place : InFrame
  pub number : ℕ

infix 90 ◌↤◌
abbrev pub ◌↤◌ : InFrame → ℕ → Edit
x ↤ n = record { place = x; number = n }

abbrev pub inside : ℕ → List Edit → List Store
inside k [] = []
inside k (e ∷ es) = (in_frame k e.place ≔ e.number) ∷ inside k es

abbrev pub edited : List Edit → Frame → Frame
edited [] a = a
edited (e ∷ es) a = edited es (frame_put e.place e.number a)

abbrev pub AllIn : List Edit → Type 0
AllIn [] = Unit {0}
AllIn (e ∷ es) = FrameHas e.place × AllIn es

all_there : (k : ℕ) → k < 32 → (es : List Edit) → AllIn es → AllThere (inside k es)
all_there k few [] h = tt
all_there k few (e ∷ es) h = ((few, h.0), all_there k few es h.1)

-- the bytes after edits of f
abbrev pub written : Shared → List Activation → Activation → List Activation → List Edit → List ℕ
written rs us f fs es = stores (encode (on rs us f fs)) (inside (length fs) es)

module _ (rs : Shared) (us : List Activation) (f : Activation) (fs : List Activation) (few : length fs < 32) where
  raw-puts : (es : List Edit) (a : Frame) → puts (raw_on rs us f fs a) (inside (length fs) es) ≡ raw_on rs us f fs (edited es a)
  raw-puts [] a = refl
  raw-puts (e ∷ es) a = ap (λ (p : Parts). puts p (inside (length fs) es)) (raw-put rs us f fs few a e.place e.number) ∙ raw-puts es (frame_put e.place e.number a)

  -- the law over frames, and the law over activations
  pub raw-law : (es : List Edit) → AllIn es → (a : Frame) → stores (parts_bytes (raw_on rs us f fs a)) (inside (length fs) es) ≡ parts_bytes (raw_on rs us f fs (edited es a))
  raw-law es h a = stores-put (raw_on rs us f fs a) (inside (length fs) es) (all_there (length fs) few es h) ∙ ap parts_bytes (raw-puts es a)

  pub edit-law : (es : List Edit) → AllIn es → (f' : Activation) → edited es (frame_of f) ≡ frame_of f' → f'.holds ≡ f.holds
      → written rs us f fs es ≡ encode (on rs us f' fs)
  edit-law es h f' e i =
      rw (encode-raw rs us f fs) (raw-law es h (frame_of f) ∙ rw (e, encode-raw rs us f' fs) (ap parts_bytes (same-raw rs us f fs f' i (frame_of f'))))
