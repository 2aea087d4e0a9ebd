-- `machine_ops::operands::op_operate` meets its contract.
use Rattle.machine_ops.proofs.OperandOps.{unary-number}
use Rattle.machine_ops.proofs.operands.op_operate.Goals as goal

pub returns : goal.returns
returns c = unary-number c.args.a _ _ c.requires.2 c.op_unary.ensures
