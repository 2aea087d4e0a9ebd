-- The numbers of entries, as the loops make them: each from what stands at its place and how many cells there were before.
use Rattle.std.specs.Prelude.{◌≡◌, refl, Bool, true, false, ◌&&◌, ◌⊎◌, List, [], ◌∷◌, ◌++◌, ℕ, ◌+◌, ◌-◌, ◌*◌, ◌/◌, ◌%◌, ◌≤◌, ◌<◌, eqb, nat_abs, length, get_or, set}
use Rattle.std.proofs.Common.{sym, ◌∙◌, inl, inr, arith}
use Rattle.std.proofs.Math.Option
use Rattle.std.proofs.Math.Numerals.{add-one}
use Rattle.std.proofs.Math.ListN.{length-set}
use Rattle.std.proofs.lemmas.List.Edits.{sets}
use borrow.Author.Tests.{eq-eqb, ne_eqb, lt-ltb, le-ltb}
use Rattle.logic.specs.Options.{is_some}
use Rattle.logic.specs.Choice.{If◌then◌else◌}
use Rattle.words.specs.Numbers.{half_at, word_at, integer_of, word_of}
use Rattle.words.specs.Laws.{four, number-below, word_back}
use Rattle.values.specs.Types.{Ty, integer, logical, bits, reference, ty_code}
use Rattle.language.specs.Table.{Entry, entry, in_layout, ty_of_code, natural}
use Rattle.logic.specs.Tests.{both_left, both_right}
use Rattle.language_laws.specs.Claims.{entries_of}
use Rattle.language_laws.specs.Codes.{type-coded, natural-pos}
use Rattle.table_entries.specs.Entries.{entry_at}
use Rattle.table_entries.specs.Stands.{field-number}
use Rattle.table_scopes.specs.Sees.{Legible}
use Rattle.compile_code.specs.Compile.{index_of}
use Rattle.compile_symbols.specs.declared.Numbers.{Numbers}
use Rattle.compile_symbols.specs.Numbers.{cells_within, packed, byte_of, cells_of, number_of}
use Rattle.compile_symbols.specs.Tabled.{Within, between, part_at, between-entry, between_none, layout-at}
use Rattle.compile_code.specs.Counts.{index-most}

-- ── definitions ──
abbrev pub one_if : ℕ → ℕ → ℕ
one_if k w = If eqb k w then 1 else 0

abbrev pub cells_of_kind : ℕ → ℕ
cells_of_kind k = If eqb k 10 then 1 else If eqb k 30 then 1 else If eqb k 31 then 3 else 0

abbrev pub names_class : ℕ → Entry → Bool
names_class a e = If eqb e.kind 11 then eqb e.a a else false

-- o is whose cells they are: those of a body (1: the root's), or the fields of a class
unfoldable pub numbers_owned : List ℕ → ℕ → ℕ → List Entry → List ℕ
numbers_owned cs o n [] = []
numbers_owned cs o n (e ∷ es) = number_of cs o n e ∷ numbers_owned cs o (n + cells_of e) es

-- a declaration of the root's head, with all its entries
unfoldable pub numbers_global : List ℕ → Numbers → List Entry → List ℕ
numbers_global cs n [] = []
numbers_global cs n (e ∷ es) =
    If eqb e.kind 11 then packed (16 + n.classes) n.classes 0 ∷ numbers_owned cs n.classes 0 es else
    If eqb e.kind 12 then packed (word_of e.b % 256) 0 n.bodies ∷ numbers_owned cs 0 0 es else
    number_of cs 1 n.cells e ∷ []

pub record Counts (kind : ℕ) (n r : Numbers) : Type 0 where
  pub cells : r.cells ≡ n.cells + cells_of_kind kind
  pub classes : r.classes ≡ n.classes + one_if kind 11
  pub bodies : r.bodies ≡ n.bodies + one_if kind 12

pub cells-few : (k : ℕ) → cells_of_kind k ≤ 3
cells-few k = go (eqb k 10) (eqb k 30) (eqb k 31)
  where
    go : (a b c : Bool) → (If a then 1 else If b then 1 else If c then 3 else 0) ≤ 3
    go true b c = omega arith
    go false true c = omega arith
    go false false true = omega arith
    go false false false = omega arith

pub one-few : (k w : ℕ) → one_if k w ≤ 1
one-few k w = go (eqb k w)
  where
    go : (b : Bool) → (If b then 1 else 0) ≤ 1
    go true = omega arith
    go false = omega arith

-- ── stores one after the other ──

-- ── the number of an entry ──

pub byte-below : (cs : List ℕ) (b : ℕ) → b < 65536 → byte_of cs b ≡ b
byte-below cs b h = rw (lt-ltb b 65536 h)

pub byte-class : (cs : List ℕ) (b : ℕ) → 65536 ≤ b → byte_of cs b ≡ 16 + index_of (b - 65536) cs
byte-class cs b h = rw (le-ltb b 65536 h)

-- "Types: 1 integer, 2 logical, 3 bits, 65,536 + class name for a reference."
code_is : (t : Ty) (n : ℕ) → ty_code t ≡ n → (n ≤ 3) ⊎ (65536 ≤ n)
code_is integer n e = inl (omega arith)
code_is logical n e = inl (omega arith)
code_is bits n e = inl (omega arith)
code_is (reference c) n e = inr (omega arith)

byte_small : (cs : List ℕ) (b : ℕ) → (b ≤ 3) ⊎ (65536 ≤ b) → byte_of cs b ≤ 16 + length cs
byte_small cs b (inl h) = omega (arith, byte-below cs b (omega arith))
byte_small cs b (inr h) = omega (arith, byte-class cs b h, index-most (b - 65536) cs)

-- a declared type as it is read: its number, and that its byte is one
pub record Read (l : List ℕ) (cs : List ℕ) (p : ℕ) : Type 0 where
  pub number : nat_abs (entry_at l p).b ≡ word_at l (8 * p + 4)
  pub small : byte_of cs (word_at l (8 * p + 4)) ≤ 16 + length cs

natural-word : (w : ℕ) → w < 4294967296 → natural (integer_of w) ≡ true → nat_abs (integer_of w) ≡ w
natural-word w h k = let e = natural-pos (integer_of w) k in sym (field-number w (nat_abs (integer_of w)) h e)

-- in any entry that keeps to the layout
pub layout-byte : (cs : List ℕ) (e : Entry) → in_layout e ≡ true → e.kind ≡ 10 → byte_of cs (nat_abs e.b) ≤ 16 + length cs
unfolding in_layout
layout-byte cs e h k =
    let z = e.b in
    let y : (natural z && is_some (ty_of_code (nat_abs z))) ≡ true = rw k at h in
    byte_small cs (nat_abs z) (code_is (Option.get_or (ty_of_code (nat_abs z)) integer) (nat_abs z) ((type-coded (nat_abs z)).back (both_right (natural z) (is_some (ty_of_code (nat_abs z))) y)))

pub read-type : {l : List ℕ} (cs : List ℕ) → Legible l → (p : ℕ) → p < length l / 8 → half_at l (8 * p) ≡ 10 → Read l cs p
unfolding in_layout
read-type {l} cs h p k e =
    let w = word_at l (8 * p + 4) in
    let z = integer_of w in
    let y : in_layout (entry 10 (half_at l (8 * p + 2)) z) ≡ true = rw e at (layout-at h p k) in
    let n = natural-word w (number-below l h.bytes (8 * p + 4) four) (both_left (natural z) (is_some (ty_of_code (nat_abs z))) y) in
    record { number = n; small = rw n at (layout-byte cs (entry_at l p) (layout-at h p k) e) }

-- by its kind
pub number-variable : (cs : List ℕ) (o n : ℕ) (l : List ℕ) (p w : ℕ) → half_at l (8 * p) ≡ 10 → nat_abs (entry_at l p).b ≡ w → number_of cs o n (entry_at l p) ≡ packed (byte_of cs w) o n
number-variable cs o n l p w e d = rw (eq-eqb (half_at l (8 * p)) 10 e, d)

pub number-case : (cs : List ℕ) (o n : ℕ) (l : List ℕ) (p : ℕ) → half_at l (8 * p) ≡ 30 → number_of cs o n (entry_at l p) ≡ packed 1 0 n
number-case cs o n l p e = rw e

pub number-loop : (cs : List ℕ) (o n : ℕ) (l : List ℕ) (p : ℕ) → half_at l (8 * p) ≡ 31 → number_of cs o n (entry_at l p) ≡ packed 1 0 n
number-loop cs o n l p e = rw e

pub number-other : (cs : List ℕ) (o n : ℕ) (l : List ℕ) (p : ℕ) → ¬ (half_at l (8 * p) ≡ 10) → ¬ (half_at l (8 * p) ≡ 30) → ¬ (half_at l (8 * p) ≡ 31)
    → number_of cs o n (entry_at l p) ≡ 0
number-other cs o n l p d e f = rw (ne_eqb (half_at l (8 * p)) 10 d, ne_eqb (half_at l (8 * p)) 30 e, ne_eqb (half_at l (8 * p)) 31 f)

-- ── the loop over entries: whatever finishes the rest finishes the whole ──
pub record CellsSoFar (l cs old new : List ℕ) (owner from to first place cell : ℕ) : Type 0 where
  pub same : sets new place (numbers_owned cs owner cell (between place to (entries_of l))) ≡ sets old from (numbers_owned cs owner first (between from to (entries_of l)))
  pub long : length new ≡ length old
  pub least : from ≤ place
  pub most : place ≤ to
  pub few : cell ≤ 3 * place

pub cells-start : (l cs old : List ℕ) (owner from to first : ℕ) → from ≤ to → first ≤ 3 * from → CellsSoFar l cs old old owner from to first from first
cells-start l cs old owner from to first h k = record { same = refl; long = refl; least = omega arith; most = h; few = k }

module _ {l cs old new : List ℕ} {owner from to first place cell : ℕ} (s : CellsSoFar l cs old new owner from to first place cell) where
  pub cells-next : (v n : ℕ) → place < to → to ≤ length l / 8 → v ≡ number_of cs owner cell (entry_at l place) → n ≡ cells_of_kind (half_at l (8 * place))
      → CellsSoFar l cs old (set new place v) owner from to first (place + 1) (cell + n)
  unfolding numbers_owned
  cells-next v n h k e d =
      record {
        same = rw (e, d, add-one place) (rw (between-entry l place to h k, add-one place) at s.same);
        long = length-set new place v ∙ s.long;
        least = omega (arith, s.least);
        most = omega arith;
        few = rw d (omega (arith, s.few, cells-few (half_at l (8 * place))));
      }

  pub cells-end : to ≤ place → new ≡ sets old from (numbers_owned cs owner first (between from to (entries_of l)))
  unfolding numbers_owned
  cells-end h = rw (between_none place to (entries_of l) h) at s.same

-- ── a declaration: its first entry, and those below it ──
module _ (l sizes : List ℕ) (place : ℕ) (w : Within l sizes place) (cs old : List ℕ) (n : Numbers) where
  part-is : part_at l sizes place ≡ entry_at l place ∷ between (place + 1) (place + get_or sizes place 0) (entries_of l)
  part-is = between-entry l place (place + get_or sizes place 0) (omega (arith, w.some)) w.within

  pub global-class : (new : List ℕ) (v end : ℕ) → half_at l (8 * place) ≡ 11 → end ≡ place + get_or sizes place 0 → v ≡ packed (16 + n.classes) n.classes 0
      → new ≡ sets (set old place v) (place + 1) (numbers_owned cs n.classes 0 (between (place + 1) end (entries_of l)))
      → new ≡ sets old place (numbers_global cs n (part_at l sizes place))
  unfolding numbers_global
  global-class new v end k e d h = h ∙ rw (part-is, k, e, d, add-one place)

  pub global-procedure : (new : List ℕ) (v end b : ℕ) → half_at l (8 * place) ≡ 12 → end ≡ place + get_or sizes place 0 → b < 4294967296 → b ≡ word_at l (8 * place + 4)
      → v ≡ packed (b % 256) 0 n.bodies → new ≡ sets (set old place v) (place + 1) (numbers_owned cs 0 0 (between (place + 1) end (entries_of l)))
      → new ≡ sets old place (numbers_global cs n (part_at l sizes place))
  unfolding numbers_global
  global-procedure new v end b k e m y d h =
      let z : word_of (integer_of (word_at l (8 * place + 4))) ≡ b = rw (← y) (word_back b m) in
      h ∙ rw (part-is, k, e, d, z, add-one place)

  pub global-local : (v : ℕ) → ¬ (half_at l (8 * place) ≡ 11) → ¬ (half_at l (8 * place) ≡ 12) → v ≡ number_of cs 1 n.cells (entry_at l place)
      → set old place v ≡ sets old place (numbers_global cs n (part_at l sizes place))
  unfolding numbers_global
  global-local v j k d = rw (part-is, ne_eqb (half_at l (8 * place)) 11 j, ne_eqb (half_at l (8 * place)) 12 k, d)

-- ── cells ──
pub cells-append : (us vs : List Entry) → cells_within (us ++ vs) ≡ cells_within us + cells_within vs
unfolding cells_within
cells-append [] vs = omega arith
cells-append (e ∷ us) vs = omega (arith, cells-append us vs)
