-- What the proofs of the operators on bits cite. Assumes nothing.
use mathlib.Core.Path.{◌≡◌, refl, ◌∙◌}
use mathlib.Core.Bool.{Bool, true, false}
use Prim.Native.Nat.{ℕ, zero, suc, ◌+◌, ◌*◌, ◌/◌, ◌%◌, ◌^◌, ◌<◌}
use native.Mathlib.Nat.{pow-suc}
use native.Mathlib.Omega.{arith}
use lib.Dec.{ltb}
use Rattle.std.specs.Bool.{if◌then◌else◌}
use lib.IntN.{ℤ, pos, negsuc, nat_abs}
use lib.Signed.{lt_z, le_z}
use borrow.Author.Tests.{le-ltb, le-leb}
use Rattle.logic.specs.Choice.{If◌then◌else◌}
use Rattle.values.specs.Arithmetic.{each_bit, left_by, right_by, shifted_left, shifted_right}

-- an operation on numbers that takes their lowest bits apart as each_bit does, on numbers of n bits
module _ (f op : ℕ → ℕ → ℕ) (none : op 0 0 ≡ 0) (step : (a b : ℕ) → op a b ≡ op (a / 2) (b / 2) * 2 + f (a % 2) (b % 2)) where
  pub by_bits : (n a b : ℕ) → a < 2 ^ n → b < 2 ^ n → op a b ≡ each_bit f n a b
  unfolding each_bit
  by_bits zero a b h k =
      let p : a ≡ 0 = omega arith in
      let q : b ≡ 0 = omega arith in
      rw (p, q) none
  by_bits (suc n) a b h k =
      let h' : a < 2 ^ n * 2 = rw (← pow-suc 2 n) h in
      let k' : b < 2 ^ n * 2 = rw (← pow-suc 2 n) k in
      step a b ∙ rw (by_bits n (a / 2) (b / 2) (omega arith) (omega arith))

-- std's shift by any count
pub any_left : (n x : ℕ) → (if ltb n 32 then (x * 2 ^ n) % 4294967296 else 0) ≡ left_by n x
unfolding left_by
any_left n x = go (ltb n 32)
  where
    go : (t : Bool) → (if t then (x * 2 ^ n) % 4294967296 else 0) ≡ (If t then (x * 2 ^ n) % 4294967296 else 0)
    go true = refl
    go false = refl

pub any_right : (n x : ℕ) → (if ltb n 32 then x / 2 ^ n else 0) ≡ right_by n x
unfolding right_by
any_right n x = go (ltb n 32)
  where
    go : (t : Bool) → (if t then x / 2 ^ n else 0) ≡ (If t then x / 2 ^ n else 0)
    go true = refl
    go false = refl

-- a shift, by the sign of its count
pub shifts_left : (x : ℕ) (n : ℤ) → shifted_left x n ≡ (If le_z (pos 0) n then left_by (nat_abs n) x else right_by (nat_abs n) x)
unfolding shifted_left
shifts_left x (pos n) = rw (le-leb 0 n (omega arith))
shifts_left x (negsuc n) = refl

pub shifts_right : (x : ℕ) (n : ℤ) → shifted_right x n ≡ (If lt_z n (pos 0) then left_by (nat_abs n) x else right_by (nat_abs n) x)
unfolding shifted_right
shifts_right x (pos n) = rw (le-ltb n 0 (omega arith))
shifts_right x (negsuc n) = refl
