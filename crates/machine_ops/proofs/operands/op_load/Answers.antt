-- `machine_ops::operands::op_load` meets its contract.
use native.Mathlib.Omega.{arith}
use Rattle.machine_ops.proofs.OperandOps.{load-tells}
use Rattle.machine_ops.proofs.operands.op_load.Goals as goal

pub returns : goal.returns
returns c =
    load-tells c.args.a c.args.b c.owner-g.result _ _ (omega arith) c.owner-g.ensures.1
    c.owner-g.ensures.2 _ _ c.cell_word-w.ensures c.cell_type-t.ensures c.op_push.ensures
