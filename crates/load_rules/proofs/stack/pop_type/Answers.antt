-- `load_rules::stack::pop_type` meets its contract.
use native.Mathlib.Omega.{arith}
use mathlib.Core.Path.{sym}
use Rattle.load_rules.proofs.TypeStack.{pop-none, pop-other, pop-takes}
use Rattle.load_rules.proofs.stack.pop_type.Goals as goal

pub returns-then-depth-eq0 : goal.returns-then-depth-eq0
returns-then-depth-eq0 c = (sym (pop-none _ _ _ _ c.if-depth-eq0.true), tt)

pub returns-then-stack-e : goal.returns-then-stack-e
returns-then-stack-e c = (sym (pop-other _ _ _ _ c.if-depth-eq0.false c.if-stack-e.true), tt)

pub returns : goal.returns
returns c = (sym (pop-takes _ _ _ _ c.if-depth-eq0.false c.if-stack-e.false), (omega arith, omega arith))
