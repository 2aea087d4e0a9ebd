-- A name that opens every definition of this crate where a proof computes with them: `unfolding values_compute`.
use Rattle.values.specs.Types.{sames, all_fit}
use Rattle.values.specs.Operators.{unary_of, binary_of, op_type}
use Rattle.values.specs.Arithmetic.{settle, each_bit, left_by, right_by, shifted_left, shifted_right}
use Rattle.values.specs.Values.{tys_of, fresh_all, apply1, apply2}

unfoldable pub values_compute : Unit {0}
unfolding sames all_fit unary_of binary_of op_type settle each_bit left_by right_by shifted_left shifted_right tys_of fresh_all apply1 apply2
values_compute = tt
