-- `machine_ops::events::op_fader` meets its contract.
use mathlib.Core.Path.{refl}
use native.Mathlib.Omega.{arith}
use Rattle.machine_ops.proofs.JumpEventOps.{fader-low, fader-high, fader-tells}
use Rattle.machine_ops.proofs.events.op_fader.Goals as goal

pub returns-then-x-lt1 : goal.returns-then-x-lt1
returns-then-x-lt1 c =
    fader-low (omega arith) (omega arith) _ c.operand_word-x.ensures c.args.readings.now _ _ (omega arith) c.op_condition.ensures

pub returns-then-x-gt-LAST_FADER : goal.returns-then-x-gt-LAST_FADER
returns-then-x-gt-LAST_FADER c =
    fader-high (omega arith) (omega arith) _ c.operand_word-x.ensures c.args.readings.now _ _ (omega arith) c.op_condition-then-x-gt-LAST_FADER.ensures

pub returns : goal.returns
returns c =
    fader-tells (omega arith) (omega arith) _ c.operand_word-x.ensures c.args.readings.now _ _ _ (omega arith)
    (omega arith) refl c.put_operand.ensures c.go_to.ensures
