-- `load_rules::ops::operate` meets its contract.
use native.Mathlib.Omega.{arith}
use mathlib.Core.Path.{sym, ◌∙◌}
use Rattle.load_rules.proofs.Chains.{meets, lacks}
use Rattle.load_rules.proofs.Operators.{operates-none, operates-sum, operates-order, operates-equal, operates-both, operates-not, operates-shift, operates-gap, operates-one, operates-past}
use Rattle.load_rules.proofs.ops.operate.Goals as goal

pub returns-in-1-to-5 : goal.returns-in-1-to-5
returns-in-1-to-5 c = (c.trade_two.ensures.0 ∙ operates-sum _ _ _ (omega arith) (omega arith), c.trade_two.ensures.1)

pub returns-in-6-to-9 : goal.returns-in-6-to-9
returns-in-6-to-9 c = (c.trade_two-in-6-to-9.ensures.0 ∙ operates-order _ _ _ (omega arith) (omega arith), c.trade_two-in-6-to-9.ensures.1)

pub returns-in-10-to-11 : goal.returns-in-10-to-11
returns-in-10-to-11 c =
    (c.trade_two-in-10-to-11.ensures.0 ∙ operates-equal _ _ _ _ c.top_of-t.ensures (omega arith) (omega arith), c.trade_two-in-10-to-11.ensures.1)

pub returns-then-is_twofold-2 : goal.returns-then-is_twofold-2
returns-then-is_twofold-2 c = (
  c.trade_two-then-is_twofold-2.ensures.0 ∙ meets _ _ (sym c.is_twofold-in-12-to-13.ensures ∙ c.if-is_twofold-2.true)
      ∙ operates-both _ _ _ _ c.top_of-t.ensures (omega arith) (omega arith),
  c.trade_two-then-is_twofold-2.ensures.1,
)

pub returns-else-is_twofold-2 : goal.returns-else-is_twofold-2
returns-else-is_twofold-2 c =
    (lacks _ _ (sym c.is_twofold-in-12-to-13.ensures ∙ c.if-is_twofold-2.false) ∙ operates-both _ _ _ _ c.top_of-t.ensures (omega arith) (omega arith), tt)

pub returns-in-14-to-15 : goal.returns-in-14-to-15
returns-in-14-to-15 c = (c.trade_two-in-14-to-15.ensures.0 ∙ operates-shift _ _ _ (omega arith) (omega arith), c.trade_two-in-14-to-15.ensures.1)

pub returns-in-20-to-21 : goal.returns-in-20-to-21
returns-in-20-to-21 c = (c.trade_one-in-20-to-21.ensures.0 ∙ operates-one _ _ _ (omega arith) (omega arith), c.trade_one-in-20-to-21.ensures.1)

pub returns-then-is_twofold : goal.returns-then-is_twofold
returns-then-is_twofold c = (
  c.trade_one.ensures.0 ∙ meets _ _ (sym c.is_twofold.ensures ∙ c.if-is_twofold.true)
      ∙ operates-not _ _ _ _ c.top_of-t.ensures (omega (arith, c.in-22.is)) (omega (arith, c.in-22.is)),
  c.trade_one.ensures.1,
)

pub returns-else-is_twofold : goal.returns-else-is_twofold
returns-else-is_twofold c = (
  lacks _ _ (sym c.is_twofold.ensures ∙ c.if-is_twofold.false)
      ∙ operates-not _ _ _ _ c.top_of-t.ensures (omega (arith, c.in-22.is)) (omega (arith, c.in-22.is)),
  tt,
)

pub returns-in_default : goal.returns-in_default
returns-in_default c = (operates-none _ _ _ (omega arith), tt)

pub returns-in_default-2 : goal.returns-in_default-2
returns-in_default-2 c = (operates-gap _ _ _ (omega arith) (omega arith), tt)

pub returns-in_default-3 : goal.returns-in_default-3
returns-in_default-3 c = (operates-past _ _ _ (omega arith), tt)
