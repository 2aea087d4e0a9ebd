-- `load_rules::ops::op_operator` meets its contract.
use mathlib.Core.Path.{◌∙◌}
use borrow.Author.Tests.{eq-eqb, ne_eqb}
use Rattle.load_places.specs.Rules.{op_operator}
use Rattle.load_rules.proofs.ops.op_operator.Goals as goal

pub returns-then-b-ne0 : goal.returns-then-b-ne0
unfolding op_operator
returns-then-b-ne0 c = (simp (ne_eqb _ _ c.if-b-ne0.true), tt)

pub returns : goal.returns
unfolding op_operator
returns c =
    (c.operate.ensures.0 ∙ simp (eq-eqb _ _ c.if-b-ne0.false), c.operate.ensures.1)
