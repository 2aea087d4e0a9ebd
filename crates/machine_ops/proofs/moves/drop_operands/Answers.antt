-- `machine_ops::moves::drop_operands` meets its contract.
use native.Mathlib.Omega.{arith}
use mathlib.Core.Path.{◌∙◌}
use Rattle.machine_ops.proofs.MoveLoops.{drop-next, drop-end}
use Rattle.machine_ops.proofs.moves.drop_operands.Goals as goal

pub loop-k-preserved : goal.loop-k-preserved
loop-k-preserved c = (
  c.pop.auto.state ∙ c.loop-k.invariant.0,
  drop-next _ _ _ _ _ _ _ (omega arith) c.loop-k.invariant.1 c.pop.ensures,
)

pub returns : goal.returns
returns c = drop-end _ _ _ _ _ _ (omega arith) c.loop-k.invariant.1
