-- `load_rules::ops::op_logical` meets its contract.
use mathlib.Core.Path.{◌∙◌}
use borrow.Author.Tests.{eq-eqb, ne_eqb, lt-ltb, le-ltb}
use Rattle.load_places.specs.Rules.{op_logical}
use Rattle.load_rules.proofs.ops.op_logical.Goals as goal

pub returns-then-a-ne0 : goal.returns-then-a-ne0
unfolding op_logical
returns-then-a-ne0 c = (simp (ne_eqb _ _ c.if-a-ne0.true), tt)

pub returns-then-b-ge2 : goal.returns-then-b-ge2
unfolding op_logical
returns-then-b-ge2 c = (simp (eq-eqb _ _ c.if-a-ne0.false, le-ltb _ _ c.if-b-ge2.true), tt)

pub returns : goal.returns
unfolding op_logical
returns c =
    (c.push_type.ensures.0 ∙ simp (eq-eqb _ _ c.if-a-ne0.false, lt-ltb _ _ c.if-b-ge2.false), c.push_type.ensures.1)
