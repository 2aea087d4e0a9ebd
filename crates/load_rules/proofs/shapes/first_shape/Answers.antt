-- `load_rules::shapes::first_shape` meets its contract.
use native.Mathlib.Omega.{arith}
use Rattle.load_records.proofs.Whole.{shape-start}
use Rattle.load_rules.proofs.ShapeSearch as law
use Rattle.load_rules.proofs.shapes.first_shape.Goals as goal

pub overflow_add-base : goal.overflow_add-base
overflow_add-base c = omega (arith, shape-start _ _ _ c.requires.3 c.requires.2, law.end_low _ c.requires.0 c.requires.1 0 (omega arith))

pub shape_read-requires : goal.shape_read-requires
shape_read-requires c = (c.requires.0, c.requires.1, (0, omega arith, shape-start _ _ _ c.requires.3 c.requires.2))

pub returns : goal.returns
returns c =
    law.first_next _ _ _ c.shape_read.ensures.0 (shape-start _ _ _ c.requires.3 c.requires.2) c.shape_read.ensures.1 (omega (arith, c.requires.3))
