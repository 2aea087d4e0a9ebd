-- `machine_ops::moves::move_operands` meets its contract.
use native.Mathlib.Omega.{arith}
use mathlib.Core.Path.{◌≡◌, refl, ◌∙◌}
use Rattle.machine_ops.proofs.MoveLoops.{fill_none, fill-next}
use Rattle.machine_ops.proofs.moves.move_operands.Goals as goal

pub loop-j-init : goal.loop-j-init
loop-j-init c = (refl, fill_none _ _ _ _ _)

pub loop-j-preserved : goal.loop-j-preserved
loop-j-preserved c = (
  c.put_value.auto.state ∙ c.loop-j.invariant.0,
  fill-next _ _ _ _ _ _ _ _ _ _ c.loop-j.invariant.1
      c.operand_word-w.ensures c.operand_type-t.ensures
      c.put_value.ensures,
)

pub returns : goal.returns
returns c = let e : c.loop-j.j ≡ c.args.count = omega arith in rw (← e) c.loop-j.invariant.1
