-- The integers of a loop: how the bound that its code keeps in place of the limit tells whether the next value is due, and that no sum leaves 32 bits.
-- An integer is moved up by 2 ^ 33, so that it is a natural number, of which `omega` knows all that is asked.
use Rattle.std.specs.Prelude.{◌≡◌, refl, Bool, true, false, not, ℕ, zero, suc, ◌+◌, ◌-◌, ◌≤◌, ◌<◌, ltb, ℤ, pos, negsuc, neg_ℤ, nat_abs, ◌+ℤ◌, ◌-ℤ◌}
use Rattle.std.proofs.Common.{sym, ap, ◌∙◌, arith, ltb-true, ltb-false, leb-true, leb-false, lt-ltb, le-ltb, le-leb}
use Rattle.std.specs.Bool.{beq}
use Rattle.std.proofs.Math.IntN.{sub_ℕ}
use Rattle.std.specs.Int.Signed.{mag, lt_z, le_z}
use Rattle.std.proofs.lemmas.Bool.{lt-leb}
use Rattle.logic.specs.Tests.{never}
use Rattle.values.specs.Arithmetic.{gives, settle}
use Rattle.language.specs.Execute.{Loop, due}
use Rattle.compile_code.specs.Compile.{most_integer, least_integer}

-- ── moved up ──
abbrev up : ℤ → ℕ
up (pos n) = 8589934592 + n
up (negsuc n) = 8589934592 - suc n

up-sub : (a b : ℕ) → a ≤ 4294967296 → b ≤ 4294967296 → up (sub_ℕ a b) + b ≡ 8589934592 + a
up-sub a b h k = go (ltb a b) refl
  where
    go : (t : Bool) → ltb a b ≡ t → up (sub_ℕ a b) + b ≡ 8589934592 + a
    go true e = rw e (omega (arith, ltb-true a b e))
    go false e = rw e (omega (arith, ltb-false a b e))

up-sum : (x y : ℤ) → nat_abs x ≤ 2147483648 → nat_abs y ≤ 2147483648 → up (x +ℤ y) + 8589934592 ≡ up x + up y
up-sum (pos a) (pos b) h k = omega arith
up-sum (pos a) (negsuc b) h k = omega (arith, up-sub a (suc b) (omega arith) (omega arith))
up-sum (negsuc a) (pos b) h k = omega (arith, up-sub b (suc a) (omega arith) (omega arith))
up-sum (negsuc a) (negsuc b) h k = omega arith

up-negated : (y : ℤ) → nat_abs y ≤ 2147483648 → (up (neg_ℤ y) + up y ≡ 17179869184) × (nat_abs (neg_ℤ y) ≤ 2147483648)
up-negated (pos zero) k = (refl, omega arith)
up-negated (pos (suc n)) k = (omega arith, omega arith)
up-negated (negsuc n) k = (omega arith, omega arith)

up-difference : (x y : ℤ) → nat_abs x ≤ 2147483648 → nat_abs y ≤ 2147483648 → up (x -ℤ y) + up y ≡ up x + 8589934592
up-difference x y h k = let n = up-negated y k in omega (arith, up-sum x (neg_ℤ y) h n.1, n.0)

-- ── tests, of what is moved up ──
at_most : (x y : ℤ) → le_z x y ≡ true → up x ≤ up y
at_most (pos a) (pos b) e = omega (arith, leb-true a b e)
at_most (pos a) (negsuc b) e = never e
at_most (negsuc a) (pos b) e = omega arith
at_most (negsuc a) (negsuc b) e = omega (arith, leb-true b a e)

above : (x y : ℤ) → nat_abs x ≤ 4294967296 → nat_abs y ≤ 4294967296 → le_z x y ≡ false → up y < up x
above (pos a) (pos b) h k e = omega (arith, leb-false a b e)
above (pos a) (negsuc b) h k e = omega arith
above (negsuc a) (pos b) h k e = never (sym e)
above (negsuc a) (negsuc b) h k e = omega (arith, leb-false b a e)

is-at-most : (x y : ℤ) → nat_abs x ≤ 4294967296 → nat_abs y ≤ 4294967296 → up x ≤ up y → le_z x y ≡ true
is-at-most (pos a) (pos b) h k e = le-leb a b (omega arith)
is-at-most (pos a) (negsuc b) h k e = absurd (omega arith)
is-at-most (negsuc a) (pos b) h k e = refl
is-at-most (negsuc a) (negsuc b) h k e = le-leb b a (omega arith)

is-above : (x y : ℤ) → up y < up x → le_z x y ≡ false
is-above (pos a) (pos b) e = lt-leb a b (omega arith)
is-above (pos a) (negsuc b) e = refl
is-above (negsuc a) (pos b) e = absurd (omega arith)
is-above (negsuc a) (negsuc b) e = lt-leb b a (omega arith)

below : (x y : ℤ) → nat_abs x ≤ 4294967296 → nat_abs y ≤ 4294967296 → lt_z x y ≡ true → up x < up y
below (pos a) (pos b) h k e = omega (arith, ltb-true a b e)
below (pos a) (negsuc b) h k e = never e
below (negsuc a) (pos b) h k e = omega arith
below (negsuc a) (negsuc b) h k e = omega (arith, ltb-true b a e)

at_least : (x y : ℤ) → lt_z x y ≡ false → up y ≤ up x
at_least (pos a) (pos b) e = omega (arith, ltb-false a b e)
at_least (pos a) (negsuc b) e = omega arith
at_least (negsuc a) (pos b) e = never (sym e)
at_least (negsuc a) (negsuc b) e = omega (arith, ltb-false b a e)

-- ── 32 bits ──
abbrev pub Small : ℤ → Type 0
Small z = mag z < 2147483648

small-up : (z : ℤ) → Small z → (nat_abs z ≤ 2147483648) × (6442450944 ≤ up z) × (up z < 10737418240)
small-up (pos n) h = (omega arith, omega arith, omega arith)
small-up (negsuc n) h = (omega arith, omega arith, omega arith)

up_small : (z : ℤ) → 6442450944 ≤ up z → up z < 10737418240 → Small z
up_small (pos n) h k = omega arith
up_small (negsuc n) h k = omega arith

pub settles-to : (z : ℤ) → Small z → settle z ≡ gives z
unfolding settle
settles-to z h = rw (lt-ltb (mag z) 2147483648 h)

pub fits-small : (z : ℤ) → ltb (mag z) 2147483648 ≡ true → Small z
fits-small z h = ltb-true (mag z) 2147483648 h

-- ── after a turn ──
-- what the code of a loop asks after a turn with the value v, of the step s and the bound t in its cells
abbrev pub onward : ℤ → ℤ → ℤ → Bool
onward s t v = beq (lt_z s (pos 0)) (lt_z t v)

-- it tells whether the next value is of 32 bits and due; the step is then the loop's own
pub record Steers (l : Loop) (s t : ℤ) : Type 0 where
  pub goes : (v : ℤ) → Small v → onward s t v ≡ true → (s ≡ l.step) × Small (v +ℤ l.step) × (due l (v +ℤ l.step) ≡ true)
  pub over : (v : ℤ) → Small v → onward s t v ≡ false → Small (v +ℤ l.step) → due l (v +ℤ l.step) ≡ false

agreeing : (a b : Bool) → beq a b ≡ true → b ≡ a
agreeing true true e = refl
agreeing true false e = never e
agreeing false true e = never e
agreeing false false e = refl

differing : (a b : Bool) → beq a b ≡ false → b ≡ not a
differing true true e = never (sym e)
differing true false e = refl
differing false true e = refl
differing false false e = never (sym e)

-- no value is above the largest integer
none_above : (v : ℤ) → Small v → lt_z most_integer v ≡ false
none_above (pos n) h = le-ltb 2147483647 n (omega arith)
none_above (negsuc n) h = refl

pub small_pos : (n : ℕ) → n < 2147483648 → Small (pos n)
small_pos n h = h

-- a turn is due, by the sign of the step
pub due-down : (l : Loop) (v : ℤ) → lt_z l.step (pos 0) ≡ true → due l v ≡ le_z l.limit v
unfolding due
due-down l v n = rw n

pub due-up : (l : Loop) (v : ℤ) → lt_z l.step (pos 0) ≡ false → due l v ≡ le_z v l.limit
unfolding due
due-up l v n = rw n

module _ (l : Loop) (hs : Small l.step) (hl : Small l.limit) where
  abbrev d : ℤ
  d = l.step

  abbrev z : ℤ
  z = l.limit

  s-up : (nat_abs d ≤ 2147483648) × (6442450944 ≤ up d) × (up d < 10737418240)
  s-up = small-up d hs

  l-up : (nat_abs z ≤ 2147483648) × (6442450944 ≤ up z) × (up z < 10737418240)
  l-up = small-up z hl

  next_up : (v : ℤ) → Small v → up (v +ℤ d) + 8589934592 ≡ up v + up d
  next_up v h = up-sum v d (small-up v h).0 s-up.0

  abs-small : (x : ℤ) → Small x → nat_abs x ≤ 4294967296
  abs-small x h = omega (arith, (small-up x h).0)

  module _ (n : lt_z d (pos 0) ≡ true) where
    negative : up d < 8589934592
    negative = below d (pos 0) (omega (arith, s-up.0)) (omega arith) n

    pub most-small : Small (most_integer +ℤ d)
    most-small = let e = up-sum most_integer d (omega arith) s-up.0 in up_small (most_integer +ℤ d) (omega (arith, e, s-up.1)) (omega (arith, e, negative))

    module _ (e : le_z z (most_integer +ℤ d) ≡ true) where
      room : up z + 8589934592 ≤ 10737418239 + up d
      room = omega (arith, at_most z (most_integer +ℤ d) e, up-sum most_integer d (omega arith) s-up.0)

      pub near-small : Small (z -ℤ d)
      near-small = let e = up-difference z d l-up.0 s-up.0 in up_small (z -ℤ d) (omega (arith, e, negative, l-up.1)) (omega (arith, e, room))

      pub down-small : Small (z -ℤ d -ℤ pos 1)
      down-small =
          let e = up-difference z d l-up.0 s-up.0 in
          let f = up-difference (z -ℤ d) (pos 1) (small-up (z -ℤ d) near-small).0 (omega arith) in
          up_small (z -ℤ d -ℤ pos 1) (omega (arith, e, f, negative, l-up.1)) (omega (arith, e, f, room))

      bound-is : up (z -ℤ d -ℤ pos 1) + up d + 1 ≡ up z + 8589934592
      bound-is =
          let e = up-difference z d l-up.0 s-up.0 in
          let f = up-difference (z -ℤ d) (pos 1) (small-up (z -ℤ d) near-small).0 (omega arith) in omega (arith, e, f)

      pub steers-down : Steers l d (z -ℤ d -ℤ pos 1)
      steers-down = record {
        goes = λ v h t.
            let p = below (z -ℤ d -ℤ pos 1) v (abs-small (z -ℤ d -ℤ pos 1) down-small) (abs-small v h) (agreeing (lt_z d (pos 0)) (lt_z (z -ℤ d -ℤ pos 1) v) t ∙ n) in
            let q = next_up v h in let b = bound-is in let w = small-up v h in
            let k : Small (v +ℤ d) = up_small (v +ℤ d) (omega (arith, p, q, b, l-up.1)) (omega (arith, q, negative, w.2)) in
            (refl, k, due-down l (v +ℤ d) n ∙ is-at-most z (v +ℤ d) (abs-small z hl) (abs-small (v +ℤ d) k) (omega (arith, p, q, b)));
        over = λ v h t k. due-down l (v +ℤ d) n
            ∙ is-above z (v +ℤ d) (omega (arith, at_least (z -ℤ d -ℤ pos 1) v (differing (lt_z d (pos 0)) (lt_z (z -ℤ d -ℤ pos 1) v) t ∙ ap not n), next_up v h, bound-is));
      }

    -- no value but the first is due
    pub once-down : le_z z (most_integer +ℤ d) ≡ false → Steers l (negsuc 0) most_integer
    once-down e = record {
      goes = λ v h t. never (rw (none_above v h) at t);
      over = λ v h t k. due-down l (v +ℤ d) n ∙ is-above z (v +ℤ d)
          (omega (arith, above z (most_integer +ℤ d) (abs-small z hl) (abs-small (most_integer +ℤ d) most-small) e, up-sum most_integer d (omega arith) s-up.0, next_up v h, (small-up v h).2));
    }

  module _ (n : lt_z d (pos 0) ≡ false) where
    positive : 8589934592 ≤ up d
    positive = at_least d (pos 0) n

    pub least-small : Small (least_integer +ℤ d)
    least-small = let e = up-sum least_integer d (omega arith) s-up.0 in up_small (least_integer +ℤ d) (omega (arith, e, positive)) (omega (arith, e, s-up.2))

    module _ (e : le_z (least_integer +ℤ d) z ≡ true) where
      pub up-small-bound : Small (z -ℤ d)
      up-small-bound =
          let b = up-difference z d l-up.0 s-up.0 in
          let r = at_most (least_integer +ℤ d) z e in
          up_small (z -ℤ d) (omega (arith, b, r, up-sum least_integer d (omega arith) s-up.0)) (omega (arith, b, positive, l-up.2))

      pub steers-up : Steers l d (z -ℤ d)
      steers-up = record {
        goes = λ v h t.
            let p = at_least (z -ℤ d) v (agreeing (lt_z d (pos 0)) (lt_z (z -ℤ d) v) t ∙ n) in
            let q = next_up v h in let b = up-difference z d l-up.0 s-up.0 in let w = small-up v h in
            let k : Small (v +ℤ d) = up_small (v +ℤ d) (omega (arith, q, positive, w.1)) (omega (arith, p, q, b, l-up.2)) in
            (refl, k, due-up l (v +ℤ d) n ∙ is-at-most (v +ℤ d) z (abs-small (v +ℤ d) k) (abs-small z hl) (omega (arith, p, q, b)));
        over = λ v h t k. due-up l (v +ℤ d) n ∙ is-above (v +ℤ d) z
            (omega (
              arith,
              below (z -ℤ d) v (abs-small (z -ℤ d) up-small-bound) (abs-small v h) (differing (lt_z d (pos 0)) (lt_z (z -ℤ d) v) t ∙ ap not n),
              next_up v h,
              up-difference z d l-up.0 s-up.0,
            ));
      }

    pub once-up : le_z (least_integer +ℤ d) z ≡ false → Steers l (negsuc 0) most_integer
    once-up e = record {
      goes = λ v h t. never (rw (none_above v h) at t);
      over = λ v h t k. due-up l (v +ℤ d) n ∙ is-above (v +ℤ d) z
          (omega (arith, above (least_integer +ℤ d) z (abs-small (least_integer +ℤ d) least-small) (abs-small z hl) e, up-sum least_integer d (omega arith) s-up.0, next_up v h, (small-up v h).1));
    }
