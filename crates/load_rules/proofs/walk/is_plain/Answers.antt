-- `load_rules::walk::is_plain` meets its contract.
use borrow.Author.Tests.{eq-eqb, ne_eqb}
use Rattle.load_places.specs.Rules.{plain}
use Rattle.load_rules.proofs.walk.is_plain.Goals as goal

pub returns-then-body-ne0 : goal.returns-then-body-ne0
unfolding plain
returns-then-body-ne0 c = simp (ne_eqb _ _ c.if-body-ne0.true)

pub returns-else-body-ne0 : goal.returns-else-body-ne0
unfolding plain
returns-else-body-ne0 c = simp (eq-eqb _ _ c.if-body-ne0.false)
