-- `machine_ops::operands::op_push` meets its contract.
use native.Mathlib.Omega.{arith}
use Rattle.machine_ops.proofs.OperandOps.{push-tells}
use Rattle.machine_ops.proofs.operands.op_push.Goals as goal

pub returns : goal.returns
returns c =
    push-tells c.args.w c.args.t _ _ (omega arith) c.push.ensures c.go_to.ensures
