-- `load_rules::stack::top_of` meets its contract.
use Rattle.load_rules.proofs.TypeStack.{top-none, top-some}
use Rattle.load_rules.proofs.stack.top_of.Goals as goal

pub returns-then-depth-eq0 : goal.returns-then-depth-eq0
returns-then-depth-eq0 c = top-none _ _ c.if-depth-eq0.true

pub returns : goal.returns
returns c = top-some _ _ c.if-depth-eq0.false
