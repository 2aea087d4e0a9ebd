-- `machine_ops::operands::op_condition` meets its contract.
use Rattle.machine_ops.proofs.OperandOps.{condition-tells}
use Rattle.machine_ops.proofs.operands.op_condition.Goals as goal

pub returns : goal.returns
returns c =
    condition-tells c.args.c _ c.condition.ensures
