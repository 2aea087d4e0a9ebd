-- `load_rules::ops::op_return` meets its contract.
use native.Mathlib.Omega.{arith}
use borrow.Author.Tests.{eq-eqb, ne_eqb}
use mathlib.Core.Path.{sym, ◌∙◌}
use Rattle.load_places.specs.Rules.{op_return}
use Rattle.load_rules.proofs.Chains.{operands-some, operands-none}
use Rattle.load_rules.proofs.Calls.{return-goes}
use Rattle.load_rules.proofs.ops.op_return.Goals as goal

pub returns-then-has_operands : goal.returns-then-has_operands
unfolding op_return
returns-then-has_operands c = (simp (operands-some _ _ (sym c.has_operands.ensures ∙ c.if-has_operands.true)), tt)

pub returns-then-body-eq0 : goal.returns-then-body-eq0
unfolding op_return
returns-then-body-eq0 c = let n = operands-none _ _ (sym c.has_operands.ensures ∙ c.if-has_operands.false) in (simp (n.0, n.1, eq-eqb _ _ c.if-body-eq0.true), tt)

pub returns-then-holds-ne0 : goal.returns-then-holds-ne0
unfolding op_return
returns-then-holds-ne0 c =
    let n = operands-none _ _ (sym c.has_operands.ensures ∙ c.if-has_operands.false) in (
      simp (
        n.0,
        n.1,
        ne_eqb _ _ c.if-body-eq0.false,
        ne_eqb c.args.holds 0
            (λ z. c.if-holds-ne0.true (omega arith)),
      ),
      tt,
    )

pub returns : goal.returns
returns c =
    let n = operands-none _ _ (sym c.has_operands.ensures
    ∙ c.if-has_operands.false) in (
      c.just.ensures.0
          ∙ return-goes _ _ _ _ _ _ n.0 n.1 c.if-body-eq0.false (omega arith) _ c.body_at-q.ensures.is,
      c.just.ensures.1,
    )
