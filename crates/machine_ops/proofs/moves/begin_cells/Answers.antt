-- `machine_ops::moves::begin_cells` meets its contract.
use native.Mathlib.Omega.{arith}
use mathlib.Core.Path.{refl, ◌∙◌}
use Rattle.machine_ops.proofs.MoveLoops.{begin-next, begin-end}
use Rattle.machine_ops.proofs.moves.begin_cells.Goals as goal

pub loop-j-init : goal.loop-j-init
loop-j-init c = (refl, refl)

pub loop-j-preserved : goal.loop-j-preserved
loop-j-preserved c = (
  c.put_cell.auto.state ∙ c.loop-j.invariant.0,
  begin-next c.args.code.now _ _ _ _ _ _ _ _ (omega arith)
      c.loop-j.invariant.1 c.put_cell.ensures,
)

pub returns : goal.returns
returns c = begin-end c.args.code.now _ _ _ _ _ _ _ (omega arith) c.loop-j.invariant.1
