-- `machine_ops::events::op_set` meets its contract.
use native.Mathlib.Omega.{arith}
use Rattle.machine_ops.proofs.JumpEventOps.{set-low, set-high, set-level, set_tells}
use Rattle.machine_ops.proofs.events.op_set.Goals as goal

pub returns-then-x-lt1 : goal.returns-then-x-lt1
returns-then-x-lt1 c =
    set-low (omega arith) (omega arith) _ _ c.operand_word-y.ensures c.operand_word-x.ensures _ _ c.op_condition.ensures (omega arith)

pub returns-then-x-gt-CHANNELS : goal.returns-then-x-gt-CHANNELS
returns-then-x-gt-CHANNELS c =
    set-high (omega arith) (omega arith) _ _ c.operand_word-y.ensures c.operand_word-x.ensures _ _ c.op_condition-then-x-gt-CHANNELS.ensures (omega arith)

pub returns-then-y-gt-MAX_LEVEL : goal.returns-then-y-gt-MAX_LEVEL
returns-then-y-gt-MAX_LEVEL c =
    set-level (omega arith) (omega arith) _ _ c.operand_word-y.ensures c.operand_word-x.ensures _ _ c.op_condition-then-y-gt-MAX_LEVEL.ensures (omega arith)

pub returns : goal.returns
returns c =
    set_tells (omega arith) (omega arith) _ _ c.operand_word-y.ensures c.operand_word-x.ensures _ _ _ (omega arith)
    (omega arith) (omega arith) c.pop.ensures c.pop-2.ensures c.go_to.ensures
