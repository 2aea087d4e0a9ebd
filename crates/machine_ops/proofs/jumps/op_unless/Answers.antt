-- `machine_ops::jumps::op_unless` meets its contract.
use native.Mathlib.Omega.{arith}
use Rattle.machine_ops.proofs.JumpEventOps.{unless-false, unless-true}
use Rattle.machine_ops.proofs.jumps.op_unless.Goals as goal

pub returns-then-w-eq0 : goal.returns-then-w-eq0
returns-then-w-eq0 c =
    unless-false (omega arith) (omega arith) _ c.operand_word-w.ensures c.args.b _ _ c.pop.ensures c.if-w-eq0.true c.go_to.ensures

pub returns : goal.returns
returns c =
    unless-true (omega arith) (omega arith) _ c.operand_word-w.ensures c.args.b _ _ c.pop.ensures c.if-w-eq0.false c.go_to-2.ensures
