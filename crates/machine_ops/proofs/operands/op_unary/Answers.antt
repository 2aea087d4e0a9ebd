-- `machine_ops::operands::op_unary` meets its contract.
use native.Mathlib.Omega.{arith}
use Rattle.machine_ops.proofs.OperandOps.{unary-gives, unary-ends}
use Rattle.machine_ops.proofs.operands.op_unary.Goals as goal

pub returns-in-Ok : goal.returns-in-Ok
returns-in-Ok c =
    unary-gives c.args.a _ _ _ (omega arith) (omega arith) c.operand_word-x.ensures
    c.operand_type-t.ensures c.unary.ensures _ _ _ c.in-Ok.is c.put_operand.ensures
    c.go_to.ensures

pub returns-in-Err : goal.returns-in-Err
returns-in-Err c =
    unary-ends c.args.a _ _ _ (omega arith) (omega arith) c.operand_word-x.ensures c.operand_type-t.ensures
    c.unary.ensures _ _ _ c.in-Err.is (rw (← c.number.ensures) c.op_condition.ensures)
