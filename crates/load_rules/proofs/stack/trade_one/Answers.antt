-- `load_rules::stack::trade_one` meets its contract.
use Rattle.load_places.specs.Rules.{trade1}
use Rattle.load_rules.proofs.Chains.{after}
use Rattle.load_rules.proofs.stack.trade_one.Goals as goal

pub returns : goal.returns
unfolding trade1
returns c =
    (after _ c.pop_type-f.ensures.0 c.push_after.ensures.0, c.push_after.ensures.1)
