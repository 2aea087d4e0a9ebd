-- `load_rules::ops::op_go` meets its contract.
use mathlib.Core.Path.{sym, ◌∙◌}
use borrow.Author.Tests.{ne_eqb}
use Rattle.load_places.specs.Rules.{op_go}
use Rattle.load_rules.proofs.Jumps.{go-lands, go-lost}
use Rattle.load_rules.proofs.ops.op_go.Goals as goal

pub returns-then-a-ne0 : goal.returns-then-a-ne0
unfolding op_go
returns-then-a-ne0 c = (simp (ne_eqb _ _ c.if-a-ne0.true), tt)

pub returns-then-lands_at : goal.returns-then-lands_at
returns-then-lands_at c = (go-lands _ _ _ _ _ _ c.if-a-ne0.false (sym c.lands_at.ensures ∙ c.if-lands_at.true), tt)

pub returns-else-lands_at : goal.returns-else-lands_at
returns-else-lands_at c = (go-lost _ _ _ _ _ _ c.if-a-ne0.false (sym c.lands_at.ensures ∙ c.if-lands_at.false), tt)
