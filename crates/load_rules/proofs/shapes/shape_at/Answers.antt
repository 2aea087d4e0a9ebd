-- `load_rules::shapes::shape_at` meets its contract.
use Rattle.load_rules.proofs.ShapeSearch as law
use Rattle.load_rules.proofs.shapes.shape_at.Goals as goal

pub returns-then-from-eq0 : goal.returns-then-from-eq0
returns-then-from-eq0 c =
    law.group-vacant _ _ c.requires.0 _ _ c.requires.1 c.wide-from.ensures.0 c.if-from-eq0.true
