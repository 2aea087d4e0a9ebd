-- Stores at places, one after the other, and what they make of a machine state's bytes.
use Rattle.std.specs.Prelude.{◌≡◌, refl, List, [], ◌∷◌, reverse, map, ℕ, ◌<◌, length}
use Rattle.std.proofs.Common.{◌∙◌}
use Rattle.std.proofs.lemmas.List.{length-reverse, length-map}
use Rattle.std.proofs.lemmas.List.Edits.{sets}
use Rattle.words.specs.Laws.{bytes_of}
use Rattle.bytecode.specs.Machine.{Activation, Machine}
use Rattle.bytecode.specs.State.{encode}
use Rattle.bytecode_layout.specs.Rows.{alter, pad-inner, pad-next, pad-blank, map_turned}
use Rattle.bytecode_layout.specs.Parts.{Frame, Parts, parts_bytes, no_frame, parts_of, frame_of, frames_of, encode-parts}
use Rattle.bytecode_layout.specs.Places.{Place, place_of, size_of, There, put, writes}

-- a number stored at a place
pub record Store : Type 0 where
  pub place : Place
  pub number : ℕ

infix 90 ◌≔◌
abbrev pub ◌≔◌ : Place → ℕ → Store
x ≔ n = record { place = x; number = n }

-- the bytes after these stores
abbrev pub stores : List ℕ → List Store → List ℕ
stores l [] = l
stores l (s ∷ ss) = stores (sets l (place_of s.place) (bytes_of (size_of s.place) s.number)) ss

abbrev pub puts : Parts → List Store → Parts
puts p [] = p
puts p (s ∷ ss) = puts (put s.place s.number p) ss

abbrev pub AllThere : List Store → Type 0
AllThere [] = Unit {0}
AllThere (s ∷ ss) = There s.place × AllThere ss

pub stores-put : (p : Parts) (ss : List Store) → AllThere ss → stores (parts_bytes p) ss ≡ parts_bytes (puts p ss)
stores-put p [] h = refl
stores-put p (s ∷ ss) h = rw (writes s.place h.0 p s.number) (stores-put (put s.place s.number p) ss h.1)

-- the stores turn the bytes of one state into those of the other
pub turns : (s t : Machine) (ss : List Store) → AllThere ss → puts (parts_of s) ss ≡ parts_of t → stores (encode s) ss ≡ encode t
turns s t ss h e = rw (encode-parts s, encode-parts t, ← e) (stores-put (parts_of s) ss h)

-- ── one activation more, and one less ──
module _ (g : Frame → Frame) (f : Activation) (fs : List Activation) (few : length fs < 32) where
  pub next-altered : g no_frame ≡ frame_of f → alter no_frame g (frames_of fs) (length fs) ≡ frames_of (f ∷ fs)
  next-altered e =
      let n : length (map frame_of (reverse fs)) ≡ length fs = length-map (reverse fs) frame_of ∙ length-reverse fs in
      rw (map_turned frame_of f fs, ← e, ← n) (pad-next no_frame 32 g (map frame_of (reverse fs)) (rw n few))

  pub last-altered : g (frame_of f) ≡ no_frame → alter no_frame g (frames_of (f ∷ fs)) (length fs) ≡ frames_of fs
  last-altered e =
      let n : length (map frame_of (reverse fs)) ≡ length fs = length-map (reverse fs) frame_of ∙ length-reverse fs in
      rw (map_turned frame_of f fs, ← n) (pad-inner no_frame 32 g (map frame_of (reverse fs)) (frame_of f) [] (rw n few) ∙ rw e (pad-blank no_frame 32 (map frame_of (reverse fs))))
