-- `load_rules::ops::has_operands` meets its contract.
use borrow.Author.Tests.{eq-eqb, ne_eqb}
use Rattle.load_rules.specs.Paired.{has_operands}
use Rattle.load_rules.proofs.ops.has_operands.Goals as goal

pub returns-then-a-eq0 : goal.returns-then-a-eq0
unfolding has_operands
returns-then-a-eq0 c = simp (eq-eqb _ _ c.if-a-eq0.true)

pub returns-else-a-eq0 : goal.returns-else-a-eq0
unfolding has_operands
returns-else-a-eq0 c = simp (ne_eqb _ _ c.if-a-eq0.false)
