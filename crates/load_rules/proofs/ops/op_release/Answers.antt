-- `load_rules::ops::op_release` meets its contract.
use mathlib.Core.Path.{sym, ◌∙◌}
use native.Mathlib.Omega.{arith}
use borrow.Author.Tests.{eq-eqb, ne_eqb}
use Rattle.load_places.specs.Rules.{op_release}
use Rattle.load_rules.proofs.Chains.{operands-some, operands-none}
use Rattle.load_rules.proofs.ops.op_release.Goals as goal

pub returns-then-has_operands : goal.returns-then-has_operands
unfolding op_release
returns-then-has_operands c = (simp (operands-some _ _ (sym c.has_operands.ensures ∙ c.if-has_operands.true)), tt)

pub returns-then-holds-eq0 : goal.returns-then-holds-eq0
unfolding op_release
returns-then-holds-eq0 c = let n = operands-none _ _ (sym c.has_operands.ensures ∙ c.if-has_operands.false) in (simp (n.0, n.1, eq-eqb _ _ c.if-holds-eq0.true), tt)

pub returns : goal.returns
unfolding op_release
returns c = let n = operands-none _ _ (sym c.has_operands.ensures ∙ c.if-has_operands.false) in (simp (n.0, n.1, ne_eqb _ _ c.if-holds-eq0.false), (omega arith, omega arith))
