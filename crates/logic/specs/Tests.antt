-- Laws of tests: Booleans joined by `and` and `or`, choices by a test, and tests of numbers.
use Rattle.std.specs.Prelude.{◌≡◌, refl, Bool, true, false, not, ◌&&◌, ◌||◌, cond, ℕ, eqb, leb, ltb}
use Rattle.std.proofs.Common.{sym, true≢false, arith, ltb-true, ltb-false, leb-true, leb-false, eqb-true, lt-ltb, le-ltb, le-leb, eq-eqb, ne_eqb}
use Rattle.std.proofs.lemmas.Bool.{false≢true, eqb-false, lt-leb}
use Rattle.logic.specs.Choice.{If◌then◌else◌}

-- ── contradictions ──
-- whatever from a contradiction, which `cc` finds among the equations at hand
pub clash : {A : Type 0} → ◌≡◌ {A = ℕ} 0 1 → A
clash z = absurd (omega arith)

pub never : {A : Type 0} → false ≡ true → A
never e = absurd (false≢true e)

-- ── by a test ──
pub by-test {ℓ} : {P : Type ℓ} (t : Bool) → (t ≡ true → P) → (t ≡ false → P) → P
by-test true f g = f refl
by-test false f g = g refl

-- two tests that come out alike are one
pub together : (a b : Bool) → (a ≡ true → b ≡ true) → (a ≡ false → b ≡ false) → a ≡ b
together true b f g = sym (f refl)
together false b f g = sym (g refl)

-- ── and, or ──
pub both : {a b : Bool} → a ≡ true → b ≡ true → (a && b) ≡ true
both p q = rw (p, q)

pub halves : (a b : Bool) → (a && b) ≡ true → (a ≡ true) × (b ≡ true)
halves true b e = (refl, e)
halves false b e = never e

pub both_left : (a b : Bool) → (a && b) ≡ true → a ≡ true
both_left a b e = (halves a b e).0

pub both_right : (a b : Bool) → (a && b) ≡ true → b ≡ true
both_right a b e = (halves a b e).1

pub and-false : (a : Bool) → (a && false) ≡ false
and-false true = refl
and-false false = refl

pub and-true : (a : Bool) → (a && true) ≡ a
and-true true = refl
and-true false = refl

pub and_assoc : (a b c : Bool) → ((a && b) && c) ≡ (a && (b && c))
and_assoc true b c = refl
and_assoc false b c = refl

pub neither : (a b : Bool) → (a || b) ≡ false → (a ≡ false) × (b ≡ false)
neither true b e = never (sym e)
neither false b e = (refl, e)

pub or-false : (a : Bool) → (a || false) ≡ a
or-false true = refl
or-false false = refl

pub or_left : (a b : Bool) → a ≡ true → (a || b) ≡ true
or_left true b e = refl
or_left false b e = never e

pub or_right : (a b : Bool) → b ≡ true → (a || b) ≡ true
or_right true b e = refl
or_right false b e = e

-- ── choices ──
module _ {ℓ} {A : Type ℓ} where
  pub if-same : (t : Bool) (x : A) → (If t then x else x) ≡ x
  if-same true x = refl
  if-same false x = refl

  pub if-not : (t : Bool) (x y : A) → (If not t then x else y) ≡ (If t then y else x)
  if-not true x y = refl
  if-not false x y = refl

  -- a test joined of two
  pub if-and : (s t : Bool) (x y : A) → (If s && t then x else y) ≡ (If s then (If t then x else y) else y)
  if-and true t x y = refl
  if-and false t x y = refl

-- ── what a passed chain of tests says ──
no_other : (y : Bool) → not y ≡ y → ⊥
no_other true e = false≢true e
no_other false e = true≢false e

-- the outcome y is not that of the first way, or not that of the second
pub past : (y a b : Bool) → cond a (not y) b ≡ y → (a ≡ false) × (b ≡ y)
past y true b e = absurd (no_other y e)
past y false b e = (refl, e)

pub held : (y a b : Bool) → cond a b (not y) ≡ y → (a ≡ true) × (b ≡ y)
held y true b e = (refl, e)
held y false b e = absurd (no_other y e)

pub no_true : (a b : Bool) → cond a true b ≡ false → (a ≡ false) × (b ≡ false)
no_true true b e = never (sym e)
no_true false b e = (refl, e)

pub no_false : (a b : Bool) → cond a false b ≡ true → (a ≡ false) × (b ≡ true)
no_false true b e = never e
no_false false b e = (refl, e)

pub no-else : (a b : Bool) → cond a b false ≡ true → (a ≡ true) × (b ≡ true)
no-else true b e = (refl, e)
no-else false b e = never e

pub cond-and : (a b : Bool) → cond a b false ≡ a && b
cond-and true b = refl
cond-and false b = refl

-- ── tests of numbers ──
-- what omega reads of tests, and proves of them
pub ruleset tests = (arith, ltb-true, ltb-false, leb-true, leb-false, eqb-true, eqb-false, lt-ltb, le-ltb, le-leb, lt-leb, eq-eqb, ne_eqb)

pub eqb_comm : (x y : ℕ) → eqb x y ≡ eqb y x
eqb_comm x y = together (eqb x y) (eqb y x) (λ h. omega tests) (λ h. omega tests)

pub leb-not : (x y : ℕ) → leb x y ≡ not (ltb y x)
leb-not x y = together (leb x y) (not (ltb y x)) (λ h. rw (le-ltb y x (omega tests))) (λ h. rw (lt-ltb y x (omega tests)))
