-- What the functions of this crate hand over stands for an outcome: a result, or the condition that ends execution by its number.
use Rattle.std.specs.Prelude.{ℕ, ℤ, Result, Ok, Err}
use Rattle.values.specs.Arithmetic.{Outcome, gives, ends}
use Rattle.values.specs.Ends.{overflow, zero_divisor, field_of_null, assert_false, case_index, out_of_range, too_many_activations, too_many_records, step_zero}
use Rattle.values.specs.declared.conditions.Condition.{Condition}
use Rattle.values.specs.declared.conditions.Condition.TheVariants as condition

abbrev pub number_of : Condition → ℕ
number_of condition.Overflow = overflow
number_of condition.ZeroDivisor = zero_divisor
number_of condition.FieldOfNull = field_of_null
number_of condition.AssertFalse = assert_false
number_of condition.CaseIndex = case_index
number_of condition.OutOfRange = out_of_range
number_of condition.TooManyActivations = too_many_activations
number_of condition.TooManyRecords = too_many_records
number_of condition.StepZero = step_zero

-- no operator on integers is mistyped, so the outcome is read whole from the answer
abbrev pub outcome_of : Result ℤ Condition → Outcome ℤ
outcome_of (Ok z) = gives z
outcome_of (Err c) = ends (number_of c)
