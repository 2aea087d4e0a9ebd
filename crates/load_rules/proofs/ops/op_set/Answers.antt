-- `load_rules::ops::op_set` meets its contract.
use mathlib.Core.Path.{sym, ◌∙◌}
use Rattle.load_places.specs.Rules.{op_set}
use Rattle.load_rules.proofs.Chains.{after, operands-some, operands-none}
use Rattle.load_rules.proofs.ops.op_set.Goals as goal

pub returns-then-has_operands : goal.returns-then-has_operands
unfolding op_set
returns-then-has_operands c = (simp (operands-some _ _ (sym c.has_operands.ensures ∙ c.if-has_operands.true)), tt)

pub returns : goal.returns
unfolding op_set
returns c =
    let n = operands-none _ _ (sym c.has_operands.ensures ∙ c.if-has_operands.false) in
    (after _ c.pop_type-f.ensures.0 c.pop_after.ensures.0 ∙ simp (n.0, n.1), c.pop_after.ensures.1)
