-- `table_scopes::spans::spanned` meets its contract.
use mathlib.Core.Path.{◌∙◌}
use native.Mathlib.Omega.{arith}
use Rattle.table_scopes.specs.Hops.{hops-next, hops-early, hops-end}
use Rattle.table_scopes.proofs.spans.spanned.Goals as goal

pub returns-then-count-at : goal.returns-then-count-at
returns-then-count-at c = hops-early c.loop-left.invariant.0 (omega arith)

pub loop-left-preserved : goal.loop-left-preserved
loop-left-preserved c = (
  hops-next c.loop-left.invariant.0 c.size_at-at.result (omega arith)
      (c.size_at-at.ensures ∙ c.requires.0.sized c.loop-left.at
      (omega arith)),
  c.loop-left.invariant.1,
)

pub returns : goal.returns
returns c = hops-end c.loop-left.invariant.0 (omega arith)
