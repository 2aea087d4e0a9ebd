-- The types of entries one after the other, and their count.
use Rattle.std.specs.Prelude.{◌≡◌, refl, Bool, true, false, ℕ, zero, suc, ◌+◌, ◌-◌, ◌*◌, ◌/◌, ◌≤◌, ◌<◌, eqb, nat_abs, length, set, get_or, replicate}
use Rattle.std.proofs.Math.Path.{ap}
use Rattle.std.proofs.Common.{sym, ◌∙◌, arith}
use mathlib.Core.List.{List, [], ◌∷◌, ◌++◌}
use Rattle.std.proofs.lemmas.List.{length-replicate}
use Rattle.logic.specs.Choice.{If◌then◌else◌}
use Rattle.words.specs.Numbers.{half_at}
use Rattle.language.specs.Table.{Entry}
use Rattle.language_laws.specs.Claims.{entries_of}
use Rattle.table_entries.specs.Entries.{entry_at}
use Rattle.compile_symbols.specs.Numbers.{type_in, byte_of, cells_within}
use Rattle.compile_symbols.specs.Tabled.{classes_in, between, between-entry, between_none}
use Rattle.compile_symbols.specs.Entries.{cells_of_kind, cells-few}
use Rattle.compile_front.specs.Types.{types_of, types-append, types-end}
use Rattle.compile_front.specs.Told.{TypesKnown}
use Rattle.compile_front.specs.Writing.{Wrote, wrote_as, Writing, writing_start, writing-next, writing-room, writing-end}

-- ── a byte so many times ──
pub record SameWriting (old : List ℕ) (from count v : ℕ) (new : List ℕ) (at left : ℕ) : Type 0 where
  pub writing : Writing old from (replicate count v) new at (replicate left v)

pub same_start : (old : List ℕ) (from count v : ℕ) → SameWriting old from count v old from count
same_start old from count v = record { writing = writing_start old from (replicate count v) }

same_more : (left v : ℕ) → 0 < left → replicate left v ≡ v ∷ replicate (left - 1) v
same_more zero v h = absurd (omega arith)
same_more (suc left) v h = let e : suc left - 1 ≡ left = omega arith in rw e

module _ {old new : List ℕ} {from count v at left : ℕ} (s : SameWriting old from count v new at left) where
  pub same-room : from + count ≤ length old → at + left ≤ length new
  same-room h = omega (arith, s.writing.whole, s.writing.long, length-replicate left v, length-replicate count v)

  pub same_next : 0 < left → SameWriting old from count v (set new at v) (at + 1) (left - 1)
  same_next h = record { writing = writing-next s.writing (v ∷ []) (replicate (left - 1) v) (same_more left v h) (record { written = refl; ends = refl }) }

  pub same-done : left ≡ 0 → Wrote old from (replicate count v) new at
  same-done e = writing-end s.writing (ap (λ (n : ℕ). replicate n v) e)

-- ── one entry ──
type-same : (a b c : Bool) (x v : ℕ) → (0 < (If a then 1 else If b then 1 else If c then 3 else 0) → v ≡ (If a then x else 1))
    → replicate (If a then 1 else If b then 1 else If c then 3 else 0) v ≡ (If a then x ∷ [] else If b then 1 ∷ [] else If c then 1 ∷ 1 ∷ 1 ∷ [] else [])
type-same true b c x v h = rw (h (omega arith))
type-same false true c x v h = rw (h (omega arith))
type-same false false true x v h = rw (h (omega arith))
type-same false false false x v h = refl

module _ (l known : List ℕ) (i v : ℕ) (h : TypesKnown l known) (some : 1 ≤ i) (within : i < length l / 8) (tells : v ≡ type_in (get_or known i 0)) where
  types_same : replicate (cells_of_kind (half_at l (8 * i))) v ≡ types_of (classes_in l) (entry_at l i ∷ []) []
  unfolding types_of
  types_same =
      let e = entry_at l i in
      type-same (eqb e.kind 10) (eqb e.kind 30) (eqb e.kind 31) (byte_of (classes_in l) (nat_abs e.b)) v (λ k. tells ∙ h.tells i some within k)

  pub type-room : (n : ℕ) → n ≡ cells_of_kind (half_at l (8 * i)) → length (types_of (classes_in l) (entry_at l i ∷ []) []) ≡ n
  type-room n e = sym (ap length types_same) ∙ (length-replicate (cells_of_kind (half_at l (8 * i))) v ∙ sym e)

  pub put-cells : {old new : List ℕ} {at r : ℕ} (n : ℕ) → n ≡ cells_of_kind (half_at l (8 * i)) → Wrote old at (replicate n v) new r
      → Wrote old at (types_of (classes_in l) (entry_at l i ∷ []) []) new r
  put-cells n e w = wrote_as w (ap (λ (m : ℕ). replicate m v) e ∙ types_same)

-- ── from a place to another ──
pub types-step : (l cs : List ℕ) (i to : ℕ) → i < to → to ≤ length l / 8
    → types_of cs (between i to (entries_of l)) [] ≡ types_of cs (entry_at l i ∷ []) [] ++ types_of cs (between (i + 1) to (entries_of l)) []
types-step l cs i to h k =
    ap (λ (us : List Entry). types_of cs us []) (between-entry l i to h k)
    ∙ (types-append cs (entry_at l i ∷ []) (between (i + 1) to (entries_of l)) [] ∙ types-end cs (entry_at l i ∷ []) (types_of cs (between (i + 1) to (entries_of l)) []))

pub record TypesWriting (l old : List ℕ) (at from to : ℕ) (new : List ℕ) (i place : ℕ) : Type 0 where
  pub writing : Writing old at (types_of (classes_in l) (between from to (entries_of l)) []) new place (types_of (classes_in l) (between i to (entries_of l)) [])
  pub least : from ≤ i
  pub most : i ≤ to

pub types-start : (l old : List ℕ) (at from to : ℕ) → from ≤ to → TypesWriting l old at from to old from at
types-start l old at from to h = record { writing = writing_start old at _; least = omega arith; most = h }

module _ {l old new : List ℕ} {at from to i place : ℕ} (s : TypesWriting l old at from to new i place) (k : to ≤ length l / 8) where
  pub types-room : i < to → at + length (types_of (classes_in l) (between from to (entries_of l)) []) ≤ length old → place + length (types_of (classes_in l) (entry_at l i ∷ []) []) ≤ length new
  types-room h r = writing-room s.writing (types_of (classes_in l) (entry_at l i ∷ []) []) (types_of (classes_in l) (between (i + 1) to (entries_of l)) []) (types-step l (classes_in l) i to h k) r

  pub types-next : {late : List ℕ} {q : ℕ} → i < to → Wrote new place (types_of (classes_in l) (entry_at l i ∷ []) []) late q → TypesWriting l old at from to late (i + 1) q
  types-next h w =
      record {
        writing = writing-next s.writing (types_of (classes_in l) (entry_at l i ∷ []) []) (types_of (classes_in l) (between (i + 1) to (entries_of l)) []) (types-step l (classes_in l) i to h k) w;
        least = omega (arith, s.least);
        most = omega arith;
      }

  pub types-done : to ≤ i → Wrote old at (types_of (classes_in l) (between from to (entries_of l)) []) new place
  unfolding types_of
  types-done h = writing-end s.writing (ap (λ (us : List Entry). types_of (classes_in l) us []) (between_none i to (entries_of l) h))

-- ── how many ──
pub record CountSoFar (l : List ℕ) (from to i n : ℕ) : Type 0 where
  pub same : n + cells_within (between i to (entries_of l)) ≡ cells_within (between from to (entries_of l))
  pub most : i ≤ to
  pub few : n ≤ 3 * i

pub count-start : (l : List ℕ) (from to : ℕ) → from ≤ to → CountSoFar l from to from 0
count-start l from to h = record { same = omega arith; most = h; few = omega arith }

module _ {l : List ℕ} {from to i n : ℕ} (s : CountSoFar l from to i n) where
  pub count_next : (m : ℕ) → i < to → to ≤ length l / 8 → m ≡ cells_of_kind (half_at l (8 * i)) → CountSoFar l from to (i + 1) (n + m)
  unfolding cells_within
  count_next m h k e =
      let z : cells_within (between i to (entries_of l)) ≡ cells_of_kind (half_at l (8 * i)) + cells_within (between (i + 1) to (entries_of l)) = ap cells_within (between-entry l i to h k) in
      record { same = omega (arith, s.same); most = omega arith; few = omega (arith, s.few, cells-few (half_at l (8 * i))) }

  pub count-end : to ≤ i → n ≡ cells_within (between from to (entries_of l))
  unfolding cells_within
  count-end h = omega (arith, s.same, ap cells_within (between_none i to (entries_of l) h))
