-- `load_rules::ops::op_fader` meets its contract.
use mathlib.Core.Path.{sym, ◌∙◌}
use Rattle.load_places.specs.Rules.{op_fader}
use Rattle.load_rules.proofs.Chains.{operands-some, operands-none}
use Rattle.load_rules.proofs.ops.op_fader.Goals as goal

pub returns-then-has_operands : goal.returns-then-has_operands
unfolding op_fader
returns-then-has_operands c = (simp (operands-some _ _ (sym c.has_operands.ensures ∙ c.if-has_operands.true)), tt)

pub returns : goal.returns
unfolding op_fader
returns c =
    let n = operands-none _ _ (sym c.has_operands.ensures ∙ c.if-has_operands.false) in (c.trade_one.ensures.0 ∙ simp (n.0, n.1), c.trade_one.ensures.1)
