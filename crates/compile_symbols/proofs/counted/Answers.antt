-- `compile_symbols::counted` meets its contract.
use native.Mathlib.Omega.{arith}
use Rattle.compile_symbols.specs.Entries.{cells-few, one-few}
use Rattle.compile_symbols.proofs.counted.Goals as goal

-- src/lib.rt:189:16
pub overflow_add-result : goal.overflow_add-result
overflow_add-result c = omega (arith, cells-few c.args.kind)

-- src/lib.rt:190:18
pub overflow_add-result-2 : goal.overflow_add-result-2
overflow_add-result-2 c =
    omega (arith, one-few c.args.kind 11)

-- src/lib.rt:191:17
pub overflow_add-result-3 : goal.overflow_add-result-3
overflow_add-result-3 c =
    omega (arith, one-few c.args.kind 12)
