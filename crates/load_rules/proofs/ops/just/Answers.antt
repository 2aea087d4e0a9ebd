-- `load_rules::ops::just` meets its contract.
use mathlib.Core.Path.{◌∙◌}
use Rattle.load_rules.proofs.Chains.{told}
use Rattle.load_rules.proofs.Calls.{empties, crowds, just-none, just-of}
use Rattle.load_rules.proofs.ops.just.Goals as goal

pub returns-then-depth-ne0 : goal.returns-then-depth-ne0
returns-then-depth-ne0 c = (crowds _ _ c.if-depth-ne0.true ∙ just-none _ _ _ c.if-t-eq0.true, tt)

pub returns-else-depth-ne0 : goal.returns-else-depth-ne0
returns-else-depth-ne0 c = (empties _ _ c.if-depth-ne0.false ∙ just-none _ _ _ c.if-t-eq0.true, tt)

pub returns-then-e-ne0 : goal.returns-then-e-ne0
returns-then-e-ne0 c =
    (crowds _ _ c.if-e-ne0.true ∙ just-of _ _ _ c.if-t-eq0.false _ (told c.args.stack.now c.in-Goes.is c.pop_type.ensures.0), tt)

pub returns-else-e-ne0 : goal.returns-else-e-ne0
returns-else-e-ne0 c =
    (empties _ _ c.if-e-ne0.false ∙ just-of _ _ _ c.if-t-eq0.false _ (told c.args.stack.now c.in-Goes.is c.pop_type.ensures.0), tt)

pub returns-in-Ends : goal.returns-in-Ends
returns-in-Ends c =
    (just-of _ _ _ c.if-t-eq0.false _ (told c.args.stack.now c.in-Ends.is c.pop_type.ensures.0), tt)

pub returns-in-Bad : goal.returns-in-Bad
returns-in-Bad c =
    (just-of _ _ _ c.if-t-eq0.false _ (told c.args.stack.now c.in-Bad.is c.pop_type.ensures.0), tt)
