-- `load_rules::stack::take_types` meets its contract.
use native.Mathlib.Omega.{arith}
use mathlib.Core.Path.{sym, ◌∙◌}
use Rattle.load_rules.proofs.RecordTypes.{takes-end, takes_none, takes-other, takes_one}
use Rattle.load_rules.proofs.stack.take_types.Goals as goal

pub returns-then-e-eq0 : goal.returns-then-e-eq0
returns-then-e-eq0 c = (sym (c.loop-n.invariant.1 ∙ takes_none _ _ _ _ _ _ (omega arith) c.if-e-eq0.true), tt)

pub returns-then-stack-e : goal.returns-then-stack-e
returns-then-stack-e c = (sym (c.loop-n.invariant.1 ∙ takes-other _ _ _ _ _ _ (omega arith) c.if-e-eq0.false c.if-stack-e.true), tt)

pub loop-n-preserved : goal.loop-n-preserved
loop-n-preserved c = (omega arith, c.loop-n.invariant.1 ∙ takes_one _ _ _ _ _ _ (omega arith) c.if-e-eq0.false c.if-stack-e.false)

pub returns : goal.returns
returns c = (sym (c.loop-n.invariant.1 ∙ takes-end _ _ _ _ _ _ (omega arith)), (omega arith, omega arith))
