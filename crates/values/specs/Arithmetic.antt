-- Exact arithmetic in the integers, brought into 32 bits or ended by a condition; bits and shifts.
use Rattle.std.specs.Prelude.{Bool, ℕ, zero, suc, ◌+◌, ◌*◌, ◌-◌, ◌/◌, ◌%◌, ◌^◌, min, max, eqb, ltb, ℤ, pos, negsuc, neg_ℤ, nat_abs, ◌+ℤ◌, ◌-ℤ◌, ◌*ℤ◌}
use Rattle.std.specs.Int.Signed.{mag, quot_z, rem_z}
use Rattle.logic.specs.Choice.{If◌then◌else◌}
use Rattle.values.specs.Ends.{overflow, zero_divisor}

-- a result, or the condition that ends execution in its place; `mistyped` where an operand is not of the type asked
pub data Outcome (A : Type 0) : Type 0 where
  gives : A → Outcome A
  ends : ℕ → Outcome A
  mistyped : Outcome A

-- ── integers ──
-- 20: "exact result outside 32 bits". mag z is n for n and for −(n + 1)
unfoldable pub settle : ℤ → Outcome ℤ
settle z = If ltb (mag z) 2147483648 then gives z else ends overflow

abbrev pub is_zero : ℤ → Bool
is_zero z = eqb (nat_abs z) 0

-- 21: "zero divisor", found before the range (T1)
abbrev pub unless_zero : ℤ → Outcome ℤ → Outcome ℤ
unless_zero d o = If is_zero d then ends zero_divisor else o

abbrev pub sum : ℤ → ℤ → Outcome ℤ
sum x y = settle (x +ℤ y)

abbrev pub difference : ℤ → ℤ → Outcome ℤ
difference x y = settle (x -ℤ y)

abbrev pub product : ℤ → ℤ → Outcome ℤ
product x y = settle (x *ℤ y)

-- "div drops the fraction toward zero; rem keeps the dividend's sign"
abbrev pub quotient : ℤ → ℤ → Outcome ℤ
quotient x y = unless_zero y (settle (quot_z x y))

abbrev pub rest : ℤ → ℤ → Outcome ℤ
rest x y = unless_zero y (settle (rem_z x y))

abbrev pub negation : ℤ → Outcome ℤ
negation x = settle (neg_ℤ x)

abbrev pub magnitude : ℤ → Outcome ℤ
magnitude x = settle (pos (nat_abs x))

-- ── bits: numbers below 2 ^ 32 ──
-- an operation on single bits, done on each of the lowest n
unfoldable pub each_bit : (ℕ → ℕ → ℕ) → ℕ → ℕ → ℕ → ℕ
each_bit f zero x y = 0
each_bit f (suc n) x y = each_bit f n (x / 2) (y / 2) * 2 + f (x % 2) (y % 2)

abbrev pub and_bits : ℕ → ℕ → ℕ
and_bits x y = each_bit min 32 x y

abbrev pub or_bits : ℕ → ℕ → ℕ
or_bits x y = each_bit max 32 x y

abbrev pub not_bits : ℕ → ℕ
not_bits x = 4294967295 - x

-- "Shifts fill with 0; a count of 32 or more gives #0"
unfoldable pub left_by : ℕ → ℕ → ℕ
left_by n x = If ltb n 32 then (x * 2 ^ n) % 4294967296 else 0

unfoldable pub right_by : ℕ → ℕ → ℕ
right_by n x = If ltb n 32 then x / 2 ^ n else 0

-- "a negative count shifts the other way by its size", also −2147483648 (T7)
unfoldable pub shifted_left : ℕ → ℤ → ℕ
shifted_left x (pos n) = left_by n x
shifted_left x (negsuc n) = right_by (suc n) x

unfoldable pub shifted_right : ℕ → ℤ → ℕ
shifted_right x (pos n) = right_by n x
shifted_right x (negsuc n) = left_by (suc n) x
