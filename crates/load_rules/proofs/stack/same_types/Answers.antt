-- `load_rules::stack::same_types` meets its contract.
use native.Mathlib.Omega.{arith}
use mathlib.Core.Path.{sym, ◌∙◌}
use Rattle.load_rules.proofs.RecordTypes.{alike-down, alike-off, alike_end}
use Rattle.load_rules.proofs.stack.same_types.Goals as goal

pub returns-then-stack-i : goal.returns-then-stack-i
returns-then-stack-i c = sym (c.loop-i.invariant ∙ alike-off _ _ _ _ (omega arith) c.if-stack-i.true)

pub loop-i-preserved : goal.loop-i-preserved
loop-i-preserved c = c.loop-i.invariant ∙ alike-down _ _ _ _ (omega arith) c.if-stack-i.false

pub returns : goal.returns
returns c = sym (c.loop-i.invariant ∙ alike_end _ _ _ _ (omega arith))
