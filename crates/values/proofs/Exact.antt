-- What the proofs of the operators on integers cite: exact results by way of 64 bits, and those that stay within 32.
-- A test for one integer is a fact of its bits, as word_of has them. Assumes nothing.
use mathlib.Core.Path.{◌≡◌, refl, sym, ap, ◌∙◌}
use mathlib.Core.Bool.{Bool, true, false}
use Prim.Native.Nat.{ℕ, zero, suc, ◌+◌, ◌*◌, ◌/◌, ◌≤◌, ◌<◌}
use native.Mathlib.Nat.{mul-le-mul, div-le_self, div-lt_self, div-one, mod-one}
use native.Mathlib.Omega.{arith}
use lib.Dec.{eqb, ltb}
use lib.IntN.{ℤ, pos, negsuc, neg_ℤ, nat_abs, sub_ℕ, ◌+ℤ◌, ◌-ℤ◌, ◌*ℤ◌, +ℤ_idl}
use lib.Signed.{mag, mag_rem, lt_z, le_z, quot_z, rem_z}
use borrow.Author.Tests.{lt-ltb, le-ltb, ltb-true, ltb-false, le-leb, leb-true, eq-eqb, ne_eqb}
use mir.Syntax.{w32, w64}
use mir.Val.{SFits, to_z, of_z}
use mir.ValLaws.{to_z-of_z}
use Rattle.words.specs.Numbers.{integer_of, word_of}
use Rattle.words.specs.Integers.{widen, widened}
use Rattle.values.specs.Arithmetic.{Outcome, gives, ends, settle, is_zero, unless_zero, quotient, rest, negation}
use Rattle.values.specs.Values.{same_integer}
use Rattle.logic.specs.Tests.{halves}

-- ── by way of 64 bits ──
pub widens : (z : ℤ) → SFits w32 z → SFits w64 (to_z w32 (of_z w32 z))
widens z h = rw (to_z-of_z w32 z h) (widen z h)

abbrev pub wide : ℤ → ℤ
wide z = to_z w64 (of_z w64 (to_z w32 (of_z w32 z)))

-- an operation whose results 64 bits hold
abbrev pub Holds : (ℤ → ℤ → ℤ) → Type 0
Holds op = (x y : ℤ) → mag x < 2147483648 → mag y < 2147483648 → mag (op x y) < 9223372036854775808

module _ (op : ℤ → ℤ → ℤ) (holds : Holds op) (x y : ℤ) (h : SFits w32 x) (k : SFits w32 y) where
  pub exact-fits : SFits w64 (op (wide x) (wide y))
  exact-fits = rw (widened x h, widened y k) (record { sfits = holds x y h.sfits k.sfits })

  pub exact : to_z w64 (of_z w64 (op (wide x) (wide y))) ≡ op x y
  exact = to_z-of_z w64 _ exact-fits ∙ rw (widened x h, widened y k)

-- mag z is at most the size of z, which a sum, a difference and a product bound
mag-size : (z : ℤ) → mag z ≤ nat_abs z
mag-size (pos n) = omega arith
mag-size (negsuc n) = omega arith

size-mag : (z : ℤ) → nat_abs z ≤ suc (mag z)
size-mag (pos n) = omega arith
size-mag (negsuc n) = omega arith

size-neg : (z : ℤ) → nat_abs (neg_ℤ z) ≡ nat_abs z
size-neg (pos zero) = refl
size-neg (pos (suc n)) = refl
size-neg (negsuc n) = refl

size-sub : (a b : ℕ) → nat_abs (sub_ℕ a b) ≤ a + b
size-sub a b = go (ltb a b) refl
  where
    go : (t : Bool) → ltb a b ≡ t → nat_abs (sub_ℕ a b) ≤ a + b
    go true e = rw e (omega (arith, ltb-true a b e))
    go false e = rw e (omega arith)

size-sum : (x y : ℤ) → nat_abs (x +ℤ y) ≤ nat_abs x + nat_abs y
size-sum (pos a) (pos b) = omega arith
size-sum (pos a) (negsuc b) = size-sub a (suc b)
size-sum (negsuc a) (pos b) = omega (arith, size-sub b (suc a))
size-sum (negsuc a) (negsuc b) = omega arith

size-product : (x y : ℤ) → nat_abs (x *ℤ y) ≡ nat_abs x * nat_abs y
size-product (pos a) (pos b) = refl
size-product (pos a) (negsuc b) = size-neg (pos (a * suc b))
size-product (negsuc a) (pos b) = size-neg (pos (suc a * b))
size-product (negsuc a) (negsuc b) = refl

pub sum-holds : Holds ◌+ℤ◌
sum-holds x y h k = omega (arith, mag-size (x +ℤ y), size-sum x y, size-mag x, size-mag y)

pub difference-holds : Holds ◌-ℤ◌
difference-holds x y h k = omega (arith, mag-size (x -ℤ y), size-sum x (neg_ℤ y), size-neg y, size-mag x, size-mag y)

pub product-holds : Holds ◌*ℤ◌
product-holds x y h k =
    let a : nat_abs x ≤ 2147483648 = omega (arith, size-mag x) in
    let b : nat_abs y ≤ 2147483648 = omega (arith, size-mag y) in
    let p : nat_abs x * nat_abs y ≤ 2147483648 * 2147483648 = mul-le-mul a b in
    omega (arith, mag-size (x *ℤ y), size-product x y, p)

-- ── the range of 32 bits, by the tests of the code ──
pub settled : (z : ℤ) → mag z < 2147483648 → settle z ≡ gives z
unfolding settle
settled z h = rw (lt-ltb (mag z) 2147483648 h)

overflows : (z : ℤ) → 2147483648 ≤ mag z → settle z ≡ ends 20
unfolding settle
overflows z h = rw (le-ltb (mag z) 2147483648 h)

pub too-low : (z : ℤ) → lt_z z (negsuc 2147483647) ≡ true → settle z ≡ ends 20
too-low (pos n) t = absurd (let e : ◌≡◌ {A = ℕ} 0 1 = cc in omega arith)
too-low (negsuc n) t = overflows (negsuc n) (omega (arith, ltb-true 2147483647 n t))

pub too-high : (z : ℤ) → lt_z (pos 2147483647) z ≡ true → settle z ≡ ends 20
too-high (pos n) t = overflows (pos n) (omega (arith, ltb-true 2147483647 n t))
too-high (negsuc n) t = absurd (let e : ◌≡◌ {A = ℕ} 0 1 = cc in omega arith)

pub within : (z : ℤ) → lt_z z (negsuc 2147483647) ≡ false → lt_z (pos 2147483647) z ≡ false → SFits w32 z
within (pos n) a b = record { sfits = omega (arith, ltb-false 2147483647 n b) }
within (negsuc n) a b = record { sfits = omega (arith, ltb-false 2147483647 n a) }

-- ── one integer, by its bits ──
pub same-integer : (x y : ℤ) → SFits w32 x → SFits w32 y → word_of x ≡ word_of y → x ≡ y
same-integer x y h k e = sym (to_z-of_z w32 x h) ∙ ap integer_of e ∙ to_z-of_z w32 y k

-- negation in 32 bits
pub negated : (z : ℤ) → pos 0 -ℤ z ≡ neg_ℤ z
negated z = +ℤ_idl (neg_ℤ z)

pub negation-fits : (x : ℤ) → SFits w32 x → (word_of x ≡ 2147483648 → ⊥) → SFits w32 (neg_ℤ x)
negation-fits (pos zero) h f = h
negation-fits (pos (suc n)) h f = record { sfits = omega arith }
negation-fits (negsuc n) h f = record { sfits = omega arith }

pub negation-over : (x : ℤ) → SFits w32 x → word_of x ≡ 2147483648 → settle (neg_ℤ x) ≡ ends 20
negation-over x h e = rw (same-integer x (negsuc 2147483647) h (record { sfits = omega arith }) e) (overflows (pos 2147483648) (omega arith))

-- ── division ──
-- a divisor by its bits: 0, not 0, −1
pub zero-divides : (y : ℤ) (o : Outcome ℤ) → SFits w32 y → word_of y ≡ 0 → unless_zero y o ≡ ends 21
zero-divides y o k e = rw (same-integer y (pos 0) k (record { sfits = omega arith }) e)

not-zero : (y : ℤ) → (word_of y ≡ 0 → ⊥) → is_zero y ≡ false
not-zero (pos b) f = ne_eqb b 0 f
not-zero (negsuc b) f = ne_eqb (suc b) 0 (λ e. omega arith)

pub divided : (y : ℤ) (o : Outcome ℤ) → (word_of y ≡ 0 → ⊥) → unless_zero y o ≡ o
divided y o f = rw (not-zero y f)

minus_one : (y : ℤ) → SFits w32 y → word_of y ≡ 4294967295 → y ≡ negsuc 0
minus_one y k e = same-integer y (negsuc 0) k (record { sfits = omega arith }) e

by-minus-one : (x : ℤ) → (quot_z x (negsuc 0) ≡ neg_ℤ x) × (rem_z x (negsuc 0) ≡ pos 0)
by-minus-one (pos a) = (rw (div-one a), rw (mod-one a))
by-minus-one (negsuc a) = (rw (div-one (suc a)), rw (mod-one (suc a)))

-- by another the quotient is no larger than the dividend
quotient-mag : (x y : ℤ) → SFits w32 y → (word_of y ≡ 4294967295 → ⊥) → mag (quot_z x y) ≤ mag x
quotient-mag (pos a) (pos b) k f = div-le_self a b
quotient-mag (pos a) (negsuc b) k f = omega (arith, mag-size (neg_ℤ (pos (a / suc b))), size-neg (pos (a / suc b)), div-le_self a (suc b))
quotient-mag (negsuc a) (pos b) k f = mag-negative (suc a / b) a (div-le_self (suc a) b)
  where
    mag-negative : (r a : ℕ) → r ≤ suc a → mag (neg_ℤ (pos r)) ≤ a
    mag-negative zero a h = omega arith
    mag-negative (suc r) a h = omega arith
quotient-mag (negsuc a) (negsuc b) k f =
    let g : 1 < suc b = omega arith in
    omega (arith, div-lt_self {n = suc a} {k = suc b} (omega arith) g)

module _ (x y : ℤ) (h : SFits w32 x) (k : SFits w32 y) (f : word_of y ≡ 0 → ⊥) where
  pub quotient-minus-one : word_of y ≡ 4294967295 → quotient x y ≡ negation x
  quotient-minus-one e = divided y (settle (quot_z x y)) f ∙ ap settle (rw (minus_one y k e) (by-minus-one x).0)

  pub rest-minus-one : word_of y ≡ 4294967295 → rest x y ≡ gives (pos 0)
  rest-minus-one e = divided y (settle (rem_z x y)) f ∙ ap settle (rw (minus_one y k e) (by-minus-one x).1) ∙ settled (pos 0) (omega arith)

  module _ (g : word_of y ≡ 4294967295 → ⊥) where
    quotient_fits : SFits w32 (quot_z x y)
    quotient_fits = record { sfits = omega (arith, quotient-mag x y k g) }

    -- what the machine asks of a division, and what it gives
    pub divides : (0 < of_z w32 y) × SFits w32 (quot_z (to_z w32 (of_z w32 x)) (to_z w32 (of_z w32 y)))
    divides = (omega arith, rw (to_z-of_z w32 x h, to_z-of_z w32 y k) quotient_fits)

    pub quotient-exact : gives (to_z w32 (of_z w32 (quot_z (to_z w32 (of_z w32 x)) (to_z w32 (of_z w32 y))))) ≡ quotient x y
    quotient-exact =
        rw (to_z-of_z w32 x h, to_z-of_z w32 y k, to_z-of_z w32 _ quotient_fits)
        (sym (divided y (settle (quot_z x y)) f ∙ settled (quot_z x y) quotient_fits.sfits))

  pub rest-exact : gives (to_z w32 (of_z w32 (rem_z (to_z w32 (of_z w32 x)) (to_z w32 (of_z w32 y))))) ≡ rest x y
  rest-exact =
      let r : SFits w32 (rem_z x y) = record { sfits = omega (arith, mag_rem x y) } in
      rw (to_z-of_z w32 x h, to_z-of_z w32 y k, to_z-of_z w32 _ r)
      (sym (divided y (settle (rem_z x y)) f ∙ settled (rem_z x y) r.sfits))

-- ── sign and equality ──
pub negative : (x : ℤ) → lt_z x (pos 0) ≡ true → neg_ℤ x ≡ pos (nat_abs x)
negative (pos n) t = absurd (omega (arith, ltb-true n 0 t))
negative (negsuc n) t = refl

pub positive : (x : ℤ) → lt_z x (pos 0) ≡ false → x ≡ pos (nat_abs x)
positive (pos n) t = refl
positive (negsuc n) t = absurd (let e : ◌≡◌ {A = ℕ} 0 1 = cc in omega arith)

pub size_below : (x : ℤ) → SFits w32 x → nat_abs x < 4294967296
size_below x h = omega (arith, size-mag x)

le_same : (x : ℤ) → le_z x x ≡ true
le_same (pos n) = le-leb n n (omega arith)
le_same (negsuc n) = le-leb n n (omega arith)

le-both : (x y : ℤ) → le_z x y ≡ true → le_z y x ≡ true → x ≡ y
le-both (pos a) (pos b) p q = ap pos (omega (arith, leb-true a b p, leb-true b a q))
le-both (pos a) (negsuc b) p q = absurd (let z : ◌≡◌ {A = ℕ} 0 1 = cc in omega arith)
le-both (negsuc a) (pos b) p q = absurd (let z : ◌≡◌ {A = ℕ} 0 1 = cc in omega arith)
le-both (negsuc a) (negsuc b) p q = ap negsuc (omega (arith, leb-true a b q, leb-true b a p))

pub equality : (x y : ℤ) → SFits w32 x → SFits w32 y → eqb (word_of x) (word_of y) ≡ same_integer x y
equality x y h k = go (same_integer x y) refl
  where
    go : (t : Bool) → same_integer x y ≡ t → eqb (word_of x) (word_of y) ≡ same_integer x y
    go true e =
        let p = halves (le_z x y) (le_z y x) e in
        eq-eqb _ _ (ap word_of (le-both x y p.0 p.1)) ∙ sym e
    go false e =
        ne_eqb (word_of x) (word_of y)
        (λ q. let s : same_integer x y ≡ true = rw (same-integer x y h k q, le_same y) in let z : ◌≡◌ {A = ℕ} 0 1 = cc in omega arith)
        ∙ sym e
