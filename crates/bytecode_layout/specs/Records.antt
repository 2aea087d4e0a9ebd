-- The stores by which code makes records and changes their fields, and stores a cell of the root.
use Rattle.std.specs.Prelude.{◌≡◌, refl, ℕ, zero, suc, ◌<◌, length, get_or, set as replace}
use Rattle.std.proofs.Common.{ap, ◌∙◌, arith, length-append, length-set}
use mathlib.Core.List.{List, [], ◌∷◌, ◌++◌, reverse, map, reverse-cons}
use Rattle.std.proofs.Math.Option.{some}
use Rattle.std.proofs.Math.ListN.{get_elem?}
use Rattle.std.proofs.lemmas.List.{length-map}
use Rattle.bytecode.specs.Words.{value_word}
use Rattle.values.specs.Values.{Value, Cell, assigned}
use Rattle.bytecode.specs.Machine.{Activation, Made, Shared, running, all_holds, root_of, with_cells, put_top, put_lowest, field_put}
use Rattle.bytecode.specs.State.{type_byte, word_of_cell, byte_of_cell, encode}
use Rattle.bytecode_layout.specs.Rows.{alter, alter-alter, pad-inner, pad-next, pad-put, map-append}
use Rattle.bytecode_layout.specs.Parts.{Frame, Entry, no_frame, no_entry, parts_of, frame_of, frames_of, entry_of, entries_of, groups_of}
use Rattle.bytecode_layout.specs.Places.{records, in_entry, class, field_word, field_type, parts}
use Rattle.bytecode_layout.specs.Stores.{Store, ◌≔◌, stores, turns}
use Rattle.logic.specs.OptionLaws.{never-some}
use Rattle.logic.specs.ListLaws.{index_below}
use Rattle.bytecode_layout.specs.Slots.{field-put, field_next}
use Rattle.bytecode_layout.specs.Edits.{inside}
use Rattle.bytecode_layout.specs.Steps.{cell_is}

-- ── the stores ──
-- record r of class c, with no fields yet
abbrev pub makes : ℕ → ℕ → List Store
makes r c = in_entry r class ≔ c ∷ records ≔ suc r ∷ []

abbrev pub field_is : ℕ → ℕ → Value → List Store
field_is r x v = in_entry r (field_word x) ≔ value_word v ∷ in_entry r (field_type x) ≔ type_byte v ∷ []

abbrev pub made : ℕ → List Value → Made
made c vs = record { class = c; fields = vs }

-- ── records ──
pub entry-there : (rs : List Made) (n : ℕ) (q : Made) → get_elem? rs n ≡ some q → get_or (map entry_of rs) n no_entry ≡ entry_of q
entry-there [] n q e = never-some e
entry-there (r ∷ rs) zero q e = let i : r ≡ q = cc in ap entry_of i
entry-there (r ∷ rs) (suc n) q e = entry-there rs n q e

map-replaced : (rs : List Made) (n : ℕ) (q : Made) → map entry_of (replace rs n q) ≡ replace (map entry_of rs) n (entry_of q)
map-replaced [] n q = refl
map-replaced (r ∷ rs) zero q = refl
map-replaced (r ∷ rs) (suc n) q = ap (λ (l : List Entry). entry_of r ∷ l) (map-replaced rs n q)

entry-altered : (g : Entry → Entry) (rs : List Made) (n : ℕ) (q q' : Made) → get_elem? rs n ≡ some q → n < 256 → g (entry_of q) ≡ entry_of q'
    → alter no_entry g (entries_of rs) n ≡ entries_of (replace rs n q')
entry-altered g rs n q q' e h i =
    pad-put no_entry 256 g (map entry_of rs) n (rw (length-map rs entry_of) (index_below rs n q e)) h ∙ rw (entry-there rs n q e, i, map-replaced rs n q')

entry_next : (g : Entry → Entry) (rs : List Made) (q : Made) → length rs < 256 → g no_entry ≡ entry_of q → alter no_entry g (entries_of rs) (length rs) ≡ entries_of (rs ++ (q ∷ []))
entry_next g rs q h e =
    rw (map-append entry_of rs (q ∷ []), ← e, ← length-map rs entry_of) (pad-next no_entry 256 g (map entry_of rs) (rw (length-map rs entry_of) h))

module _ (s : Shared) (f : Activation) (fs : List Activation) where
  abbrev rs : List Made
  rs = s.records

  pub make-law : (c : ℕ) → length rs < 256 → stores (encode (running s f fs)) (makes (length rs) c) ≡ encode (running (record { records = rs ++ (made c [] ∷ []) }) f fs)
  make-law c h =
      let e : length (rs ++ (made c [] ∷ [])) ≡ suc (length rs) = length-append rs (made c [] ∷ []) ∙ omega arith in
      turns _ _ (makes (length rs) c) ((h, tt), (tt, tt)) (rw (e, entry_next _ rs (made c []) h refl))

  -- an edit of record n
  edit : (g : Entry → Entry) (n : ℕ) (q q' : Made) → get_elem? rs n ≡ some q → n < 256 → g (entry_of q) ≡ entry_of q'
      → parts 0 0 (length (f ∷ fs)) (length rs) (length (all_holds (f ∷ fs))) (frames_of (f ∷ fs)) (groups_of (all_holds (f ∷ fs))) (alter no_entry g (entries_of rs) n)
      ≡ parts_of (running (record { records = replace rs n q' }) f fs)
  edit g n q q' e h i = rw (length-set rs n q', entry-altered g rs n q q' e h i)

  -- a field behind the last of record n, and a field exchanged
  pub field-next-law : (n c : ℕ) (vs : List Value) (v : Value) → get_elem? rs n ≡ some (made c vs) → n < 256 → length vs < 8
      → stores (encode (running s f fs)) (field_is n (length vs) v) ≡ encode (running (record { records = replace rs n (made c (vs ++ (v ∷ []))) }) f fs)
  field-next-law n c vs v e h k =
      turns _ _ (field_is n (length vs) v) ((h, k), ((h, k), tt))
      (simp alter-alter (edit _ n (made c vs) (made c (vs ++ (v ∷ []))) e h (rw (field_next 8 value_word v vs k, field_next 8 type_byte v vs k))))

  pub field-law : (n x : ℕ) (q : Made) (v : Value) → get_elem? rs n ≡ some q → n < 256 → x < length q.fields → x < 8
      → stores (encode (running s f fs)) (field_is n x v) ≡ encode (running (record { records = field_put n x v q rs }) f fs)
  field-law n x q v e h i k =
      turns _ _ (field_is n x v) ((h, k), ((h, k), tt))
      (simp alter-alter
      (edit _ n q (made q.class (replace q.fields x v)) e h (rw (field-put 8 value_word v q.fields x i k, field-put 8 type_byte v q.fields x i k))))

-- ── a cell of the root ──
put-lowest : (cs : List Cell) (g : Activation) (gs : List Activation) → put_lowest cs (g ∷ gs) ≡ put_top cs g gs ∷ put_lowest cs gs
unfolding put_lowest
put-lowest cs g [] = refl
put-lowest cs g (h ∷ hs) = refl

pub length-lowest : (cs : List Cell) (fs : List Activation) → length (put_lowest cs fs) ≡ length fs
unfolding put_lowest
length-lowest cs [] = refl
length-lowest cs (f ∷ []) = refl
length-lowest cs (f ∷ (g ∷ gs)) = ap suc (length-lowest cs (g ∷ gs))

holds-lowest : (cs : List Cell) (f : Activation) (fs : List Activation) → all_holds (put_top cs f fs ∷ put_lowest cs fs) ≡ all_holds (f ∷ fs)
unfolding put_lowest all_holds
holds-lowest cs f [] = refl
holds-lowest cs f (g ∷ gs) = rw (put-lowest cs g gs) (ap (λ (l : List ℕ). f.holds ++ l) (holds-lowest cs g gs))

-- the activations above the root, from below
pub above : Activation → List Activation → List Activation
above f [] = []
above f (g ∷ gs) = above g gs ++ (f ∷ [])

pub root-first : (f : Activation) (fs : List Activation) → reverse (f ∷ fs) ≡ root_of f fs ∷ above f fs
unfolding root_of above
root-first f [] = refl
root-first f (g ∷ gs) = reverse-cons f (g ∷ gs) ∙ rw (root-first g gs)

root-put : (cs : List Cell) (f : Activation) (fs : List Activation) → reverse (put_top cs f fs ∷ put_lowest cs fs) ≡ with_cells cs (root_of f fs) ∷ above f fs
unfolding root_of above put_lowest
root-put cs f [] = refl
root-put cs f (g ∷ gs) = reverse-cons f (put_lowest cs (g ∷ gs)) ∙ rw (put-lowest cs g gs, root-put cs g gs)

module _ (rs : Shared) (f : Activation) (fs : List Activation) where
  root-edit : (g : Frame → Frame) (cs : List Cell) → g (frame_of (root_of f fs)) ≡ frame_of (with_cells cs (root_of f fs))
      → parts 0 0 (length (f ∷ fs)) (length rs.records) (length (all_holds (f ∷ fs))) (alter no_frame g (frames_of (f ∷ fs)) 0) (groups_of (all_holds (f ∷ fs))) (entries_of rs.records)
      ≡ parts_of (running rs (put_top cs f fs) (put_lowest cs fs))
  root-edit g cs e =
      let a : alter no_frame g (frames_of (f ∷ fs)) 0 ≡ frames_of (put_top cs f fs ∷ put_lowest cs fs) =
      rw (root-first f fs, root-put cs f fs, ← e) (pad-inner no_frame 32 g [] (frame_of (root_of f fs)) (map frame_of (above f fs)) (omega arith)) in
      rw (a, length-lowest cs fs, holds-lowest cs f fs)

  pub root-cell-law : (j : ℕ) (v : Value) → j < length (root_of f fs).cells → j < 32
      → stores (encode (running rs f fs)) (inside 0 (cell_is j v))
      ≡ encode (running rs (put_top (replace (root_of f fs).cells j (assigned v)) f fs) (put_lowest (replace (root_of f fs).cells j (assigned v)) fs))
  root-cell-law j v h k =
      turns _ _ (inside 0 (cell_is j v)) ((omega arith, k), ((omega arith, k), tt))
      (simp alter-alter
      (root-edit _ (replace (root_of f fs).cells j (assigned v))
      (rw (field-put 32 word_of_cell (assigned v) (root_of f fs).cells j h k, field-put 32 byte_of_cell (assigned v) (root_of f fs).cells j h k))))
