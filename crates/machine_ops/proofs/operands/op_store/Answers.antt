-- `machine_ops::operands::op_store` meets its contract.
use native.Mathlib.Omega.{arith}
use Rattle.machine_ops.proofs.OperandOps.{store-tells}
use Rattle.machine_ops.proofs.operands.op_store.Goals as goal

pub returns : goal.returns
returns c =
    store-tells c.args.a c.args.b c.owner-g.result _ _ (omega arith) c.owner-g.ensures.1
    c.owner-g.ensures.2 _ _ _ (omega arith) (omega arith) c.operand_word-w.ensures
    c.operand_type-t.ensures c.put_cell.ensures c.pop.ensures c.go_to.ensures
