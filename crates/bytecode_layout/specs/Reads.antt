-- What is read at the places of a machine state's bytes.
use Rattle.std.specs.Prelude.{◌≡◌, ℕ, zero, suc, ◌+◌, ◌<◌, length, get_or}
use Rattle.std.proofs.Common.{ap, ◌∙◌, arith}
use mathlib.Core.List.{List, [], ◌∷◌, ◌++◌, reverse, map, append_assoc, reverse-append, reverse-cons}
use Rattle.std.proofs.Math.Option.{some}
use Rattle.std.proofs.Math.ListN.{get_elem?}
use Rattle.std.proofs.lemmas.List.{length-reverse, length-map, get_or_at}
use Rattle.words.specs.Laws.{number_at}
use Rattle.values.specs.Values.{Value}
use Rattle.bytecode.specs.Machine.{Activation, Made, Shared, Machine, running, root_of}
use Rattle.bytecode.specs.State.{pad, encode}
use Rattle.bytecode_layout.specs.Rows.{get_d-pad}
use Rattle.bytecode_layout.specs.Parts.{no_frame, no_entry, parts_of, frame_of, entry_of, groups_of, encode-parts}
use Rattle.bytecode_layout.specs.Places.{Place, in_frame, in_entry, InFrame, FrameHas, frame_size, frame_offset, frame_get, frame_place, InEntry, EntryHas, entry_size}
use Rattle.bytecode_layout.specs.Places.{entry_offset, entry_get, entry_place, place_of, size_of, There, get, reads}
use Rattle.logic.specs.OptionLaws.{never-some}
use Rattle.bytecode_layout.specs.Slots.{map-turned-at}
use Rattle.bytecode_layout.specs.Edits.{on}
use Rattle.bytecode_layout.specs.Records.{entry-there, root-first}

pub encode-reads : (x : Place) → There x → (s : Machine) → number_at (size_of x) (encode s) (place_of x) ≡ get x (parts_of s)
encode-reads x h s = rw (encode-parts s) (reads x h (parts_of s))

-- an element of a list that is laid out from its end
turned-at : {A B : Type 0} (g : A → B) (z : B) (us : List A) (v : A) (vs : List A) → get_or (map g (reverse (us ++ (v ∷ vs)))) (length vs) z ≡ g v
turned-at g z us v vs = rw (map-turned-at g us v vs) (get_or_at (map g (reverse vs)) (g v) (map g (reverse us)) z (length vs) (length-map (reverse vs) g ∙ length-reverse vs))

-- ── activations: one with us above it and fs below it, and the root ──
module _ (x : InFrame) (h : FrameHas x) (rs : Shared) where
  frame-reads : (f : Activation) (fs : List Activation) (k : ℕ) → k < 32 → (g : Activation) → get_or (map frame_of (reverse (f ∷ fs))) k no_frame ≡ frame_of g
      → number_at (frame_size x) (encode (running rs f fs)) (frame_place k + frame_offset x) ≡ frame_get x (frame_of g)
  frame-reads f fs k few g e =
      encode-reads (in_frame k x) (few, h) (running rs f fs) ∙ ap (frame_get x) (get_d-pad no_frame 32 (map frame_of (reverse (f ∷ fs))) k few ∙ e)

  pub on-reads : (us : List Activation) (f : Activation) (fs : List Activation) → length fs < 32
      → number_at (frame_size x) (encode (on rs us f fs)) (frame_place (length fs) + frame_offset x) ≡ frame_get x (frame_of f)
  on-reads [] f fs few = frame-reads f fs (length fs) few f (turned-at frame_of no_frame [] f fs)
  on-reads (u ∷ us) f fs few = frame-reads u (us ++ (f ∷ fs)) (length fs) few f (turned-at frame_of no_frame (u ∷ us) f fs)

  pub root-reads : (f : Activation) (fs : List Activation) → number_at (frame_size x) (encode (running rs f fs)) (frame_place 0 + frame_offset x) ≡ frame_get x (frame_of (root_of f fs))
  root-reads f fs = frame-reads f fs 0 (omega arith) (root_of f fs) (rw (root-first f fs))

-- an operand with vs below it, and a cell: the word with g the word of a value, the type byte with its type byte
pub operand-is : (g : Value → ℕ) (us : List Value) (v : Value) (vs : List Value) → length vs < 32 → get_or (pad 32 0 (map g (reverse (us ++ (v ∷ vs))))) (length vs) 0 ≡ g v
operand-is g us v vs h = get_d-pad 0 32 (map g (reverse (us ++ (v ∷ vs)))) (length vs) h ∙ turned-at g 0 us v vs

pub value-is : {A : Type 0} (g : A → ℕ) (n : ℕ) (vs : List A) (j : ℕ) (v : A) → get_elem? vs j ≡ some v → j < n → get_or (pad n 0 (map g vs)) j 0 ≡ g v
value-is {A = A} g n vs j v e h = get_d-pad 0 n (map g vs) j h ∙ go vs j e
  where
    go : (us : List A) (j : ℕ) → get_elem? us j ≡ some v → get_or (map g us) j 0 ≡ g v
    go [] j e = never-some e
    go (u ∷ us) zero e = let i : u ≡ v = cc in ap g i
    go (u ∷ us) (suc j) e = go us j e

-- ── records ──
pub record-reads : (x : InEntry) → EntryHas x → (rs : Shared) (f : Activation) (fs : List Activation) (n : ℕ) (q : Made) → get_elem? rs.records n ≡ some q → n < 256
    → number_at (entry_size x) (encode (running rs f fs)) (entry_place n + entry_offset x) ≡ entry_get x (entry_of q)
record-reads x h rs f fs n q e k =
    encode-reads (in_entry n x) (k, h) (running rs f fs) ∙ ap (entry_get x) (get_d-pad no_entry 256 (map entry_of rs.records) n k ∙ entry-there rs.records n q e)

-- ── holds: the one with gs taken before it ──
pub group-is : (us : List ℕ) (g : ℕ) (gs : List ℕ) → length gs < 512 → get_or (groups_of (us ++ (g ∷ gs))) (length gs) 0 ≡ g
group-is us g gs h =
    get_d-pad 0 512 (reverse (us ++ (g ∷ gs))) (length gs) h
    ∙ rw (reverse-append us (g ∷ gs), reverse-cons g gs, append_assoc (reverse gs) (g ∷ []) (reverse us)) (get_or_at (reverse gs) g (reverse us) 0 (length gs) (length-reverse gs))
