-- `machine_ops::events::op_assert` meets its contract.
use native.Mathlib.Omega.{arith}
use Rattle.machine_ops.proofs.JumpEventOps.{assert-false, assert-true}
use Rattle.machine_ops.proofs.events.op_assert.Goals as goal

pub returns-then-w-eq0 : goal.returns-then-w-eq0
returns-then-w-eq0 c =
    assert-false (omega arith) (omega arith) _ c.operand_word-w.ensures _ _ c.if-w-eq0.true c.op_condition.ensures

pub returns : goal.returns
returns c =
    assert-true (omega arith) (omega arith) _ c.operand_word-w.ensures _ _ c.if-w-eq0.false c.pop.ensures c.go_to.ensures
