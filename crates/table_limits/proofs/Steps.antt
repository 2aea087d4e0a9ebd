-- What the code comes to at each operand, and the bounds that keep its sums from wrapping. Assumes nothing.
use Rattle.std.specs.Prelude.{Option, Some, None, Ok, Err}
use mathlib.Core.Path.{◌≡◌, refl, ap, sym, ◌∙◌}
use mathlib.Core.Bool.{Bool, true, false, ◌&&◌}
use mathlib.Core.List.{List}
use Prim.Native.Nat.{ℕ, zero, suc, ◌+◌, ◌-◌, ◌≤◌, ◌<◌}
use native.Mathlib.Omega.{arith}
use native.Mathlib.Decide.{dec_le}
use native.Mathlib.Numerals.{add-one}
use lib.Dec.{eqb, ltb}
use lib.ListN.{length, drop}
use borrow.Author.Tests.{ltb-true, le-ltb}
use Rattle.logic.specs.Choice.{If◌then◌else◌}
use Rattle.language.specs.Table.{Entry}
use Rattle.logic.specs.Tests.{clash, both_left, both_right}
use Rattle.language_laws.specs.Claims.{entries_of}
use Rattle.table_read.specs.Operands.{is_leaf, sorts}
use Rattle.table_read.specs.Walk.{kind_at, name_at, size_at}
use Rattle.table_entries.specs.Entries.{entries_none, entries-some}
use Rattle.table_read.proofs.Roots.{tally-small}
use Rattle.table_read.proofs.Sorts.{leaf-sorts}
use Rattle.table_limits.specs.declared.sums.Used.{Used}
use Rattle.table_limits.specs.Sums.{used, alone_of, stacks, weight_of, head_of, kept_of, joined, over_of, declared_of, Level}
use Rattle.table_limits.specs.Usage.{through, usage_at, leaf_at, Bounded, head_from}

-- ── operands ──
module _ (f : List Entry → Option Used) (k head count i o : ℕ) (u : Used) (es : List Entry) where
  pub through-step : {v : Used} {x : Option Used} → i < count → x ≡ f es → x ≡ Some v
      → through f k head (count - i) i o u es
      ≡ through f k head (count - (i + 1)) (i + 1) (o + kept_of head i v.holds) (joined (weight_of k i) o u v) (drop v.entries es)
  unfolding through
  through-step h e q =
      let m : count - i ≡ suc (count - (i + 1)) = omega arith in
      ap (λ (n : ℕ). through f k head n i o u es) m ∙ rw (sym e ∙ q, add-one i)

  pub through-stop : {x : Option Used} → i < count → x ≡ f es → x ≡ None → through f k head (count - i) i o u es ≡ None
  unfolding through
  through-stop h e q =
      let m : count - i ≡ suc (count - (i + 1)) = omega arith in
      ap (λ (n : ℕ). through f k head n i o u es) m ∙ rw (sym e ∙ q)

  pub through-done : i ≡ count → through f k head (count - i) i o u es ≡ Some u
  unfolding through
  through-done h = let m : count - i ≡ 0 = omega arith in ap (λ (n : ℕ). through f k head n i o u es) m

-- the root's statements: no value waits, and no hold but the head's stays open
module _ (f : List Entry → Option Used) (count i o : ℕ) (u : Used) (es : List Entry) where
  pub items-step : {v : Used} {x : Option Used} → i < count → x ≡ f es → x ≡ Some v
      → through f 1 0 (count - i) i o u es ≡ through f 1 0 (count - (i + 1)) (i + 1) o (joined 0 o u v) (drop v.entries es)
  unfolding stacks
  items-step h e q =
      let z : o + 0 ≡ o = omega arith in
      through-step f 1 0 count i o u es h e q ∙ rw (le-ltb i 0 (omega arith), z) refl

-- ── an entry ──
pub usage-none : (d : ℕ) (es : List Entry) → d ≡ 0 → usage_at d es ≡ None
unfolding usage_at
usage-none d es e = rw e

pub usage-short : (d : ℕ) (l : List ℕ) → length l < 8 → usage_at d (entries_of l) ≡ None
unfolding usage_at
usage-short zero l h = refl
usage-short (suc d) l h = rw (entries_none l h)

pub usage-whole : (d : ℕ) (l : List ℕ) → (d ≡ 0 → ⊥) → 8 ≤ length l
    → let es = entries_of l in
    usage_at d es
    ≡ through (usage_at (d - 1)) (kind_at es) (head_of (kind_at es) (name_at es)) (length (sorts (kind_at es) (name_at es) (size_at es))) 0 0 (alone_of (kind_at es)) (drop 1 es)
unfolding usage_at
usage-whole d l p h = let m : d ≡ suc (d - 1) = omega arith in ap (λ (n : ℕ). usage_at n (entries_of l)) m ∙ rw (entries-some l h)

-- ── bounds ──
pub weight-low : (k i : ℕ) → weight_of k i ≤ i
weight-low k i = go (stacks k) (eqb k 31 && eqb i 3)
  where
    go : (b c : Bool) → (If b then If c then 0 else i else 0) ≤ i
    go true true = omega arith
    go true false = omega arith
    go false c = omega arith

pub kept_low : (head i h : ℕ) → kept_of head i h ≤ h
kept_low head i h = go (ltb i head)
  where
    go : (b : Bool) → (If b then h else 0) ≤ h
    go true = omega arith
    go false = omega arith

pub alone-level : (k : ℕ) → Level (alone_of k) × ((alone_of k).entries ≡ 1)
unfolding alone_of
alone-level k = go (eqb k 10) (eqb k 14) (eqb k 30) (eqb k 31)
  where
    pick : Bool → Bool → Bool → Bool → Used
    pick a b c d = If a then used 1 1 1 0 else If b then used 1 1 0 1 else If c then used 1 2 1 0 else If d then used 1 1 3 0 else used 1 1 0 0

    go : (a b c d : Bool) → Level (pick a b c d) × ((pick a b c d).entries ≡ 1)
    go true b c d = (omega arith, refl)
    go false true c d = (omega arith, refl)
    go false false true d = (omega arith, refl)
    go false false false true = (omega arith, refl)
    go false false false false = (omega arith, refl)

-- ── an entry without operands ──
pub leaf-short : (d : ℕ) (l : List ℕ) → length l < 8 → false ≡ leaf_at d (entries_of l)
unfolding is_leaf
leaf-short d l h = rw (entries_none l h) (never (ltb 0 d))
  where
    never : (b : Bool) → false ≡ (b && false)
    never true = refl
    never false = refl

pub leaf-here : (d : ℕ) (l : List ℕ) → leaf_at d (entries_of l) ≡ true → 8 ≤ length l
leaf-here d l t = elim (dec_le 8 (length l)) [ yes k ↦ k | no k ↦ clash (let e = leaf-short d l (omega arith) in cc) ]

pub leaf-found : (d : ℕ) (l : List ℕ) {u : Used} → leaf_at d (entries_of l) ≡ true → u ≡ alone_of (kind_at (entries_of l))
    → (Some u ≡ usage_at d (entries_of l)) × Bounded (Some u) (length l)
unfolding through
leaf-found d l t e =
    let k = kind_at (entries_of l) in
    let h = leaf-here d l t in
    let p = ltb-true 0 d (both_left (ltb 0 d) (is_leaf k) t) in
    let s = leaf-sorts k (name_at (entries_of l)) (size_at (entries_of l)) (both_right (ltb 0 d) (is_leaf k) t) in
    let a = alone-level k in
    (ap Some e ∙ sym (usage-whole d l (omega arith) h ∙ rw s), rw e (a.0, omega arith, omega arith))

pub joined-level : (w o : ℕ) (u v : Used) → Level u → Level v → w ≤ u.entries → o ≤ u.entries → Level (joined w o u v)
joined-level w o u v h k a b = (omega arith, omega arith, omega arith)

pub declared-level : (k : ℕ) (own v : Used) → Level own → 1 ≤ v.entries → Level (declared_of k own v)
declared-level k own v h a = (omega arith, omega (arith, tally-small k 10), omega (arith, tally-small k 14))

-- ── the root's head ──
module _ (count i : ℕ) (own : Used) (es : List Entry) (more : i < count) where
  opened : count - i ≡ suc (count - (i + 1))
  opened = omega arith

  pub head-over : {v : Used} {x : Option Used} → x ≡ usage_at 63 es → x ≡ Some v → over_of (kind_at es) v ≡ true → head_from (count - i) own es ≡ Err own.entries
  unfolding head_from
  head-over e q b = ap (λ (m : ℕ). head_from m own es) opened ∙ rw (sym e ∙ q, b)

  pub head-next : {v : Used} {x : Option Used} → x ≡ usage_at 63 es → x ≡ Some v → over_of (kind_at es) v ≡ false
      → head_from (count - i) own es ≡ head_from (count - (i + 1)) (declared_of (kind_at es) own v) (drop v.entries es)
  unfolding head_from
  head-next e q b = ap (λ (m : ℕ). head_from m own es) opened ∙ rw (sym e ∙ q, b)

  pub head-stop : {x : Option Used} → x ≡ usage_at 63 es → x ≡ None → head_from (count - i) own es ≡ Ok None
  unfolding head_from
  head-stop e q = ap (λ (m : ℕ). head_from m own es) opened ∙ rw (sym e ∙ q)

pub head-end : (n : ℕ) (own : Used) (es : List Entry) → n ≡ 0 → head_from n own es ≡ Ok (Some own)
unfolding head_from
head-end n own es e = rw e
