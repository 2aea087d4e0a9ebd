-- `load_rules::ops::op_end` meets its contract.
use mathlib.Core.Path.{sym, ◌∙◌}
use borrow.Author.Tests.{eq-eqb, ne_eqb}
use Rattle.load_places.specs.Rules.{op_end}
use Rattle.load_rules.proofs.TypeStack.{length-tops}
use Rattle.load_rules.proofs.Chains.{operands-some, operands-none}
use Rattle.load_rules.proofs.ops.op_end.Goals as goal

pub returns-then-has_operands : goal.returns-then-has_operands
unfolding op_end
returns-then-has_operands c = (simp (operands-some _ _ (sym c.has_operands.ensures ∙ c.if-has_operands.true)), tt)

pub returns-then-body-ne0 : goal.returns-then-body-ne0
unfolding op_end
returns-then-body-ne0 c = let n = operands-none _ _ (sym c.has_operands.ensures ∙ c.if-has_operands.false) in (simp (n.0, n.1, ne_eqb _ _ c.if-body-ne0.true), tt)

pub returns-then-holds-ne0 : goal.returns-then-holds-ne0
unfolding op_end
returns-then-holds-ne0 c =
    let n = operands-none _ _ (sym c.has_operands.ensures ∙ c.if-has_operands.false) in
    (simp (n.0, n.1, eq-eqb _ _ c.if-body-ne0.false, ne_eqb _ _ c.if-holds-ne0.true), tt)

pub returns-then-depth-ne0 : goal.returns-then-depth-ne0
unfolding op_end
returns-then-depth-ne0 c =
    let n = operands-none _ _ (sym c.has_operands.ensures ∙ c.if-has_operands.false) in
    (simp (length-tops, n.0, n.1, eq-eqb _ _ c.if-body-ne0.false, eq-eqb _ _ c.if-holds-ne0.false, ne_eqb _ _ c.if-depth-ne0.true), tt)

pub returns : goal.returns
unfolding op_end
returns c =
    let n = operands-none _ _ (sym c.has_operands.ensures ∙ c.if-has_operands.false) in
    (simp (length-tops, n.0, n.1, eq-eqb _ _ c.if-body-ne0.false, eq-eqb _ _ c.if-holds-ne0.false, eq-eqb _ _ c.if-depth-ne0.false), tt)
