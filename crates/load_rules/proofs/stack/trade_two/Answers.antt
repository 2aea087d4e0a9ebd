-- `load_rules::stack::trade_two` meets its contract.
use Rattle.load_places.specs.Rules.{trade2}
use Rattle.load_rules.proofs.Chains.{after_two}
use Rattle.load_rules.proofs.stack.trade_two.Goals as goal

pub returns : goal.returns
unfolding trade2
returns c =
    (after_two _ _ c.pop_type-f.ensures.0 c.pop_after-g.ensures.0 c.push_after.ensures.0, c.push_after.ensures.1)
