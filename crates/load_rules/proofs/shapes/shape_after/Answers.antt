-- `load_rules::shapes::shape_after` meets its contract.
use native.Mathlib.Omega.{arith}
use mathlib.Core.Path.{refl}
use Rattle.load_rules.proofs.ShapeSearch as law
use Rattle.load_rules.proofs.shapes.shape_after.Goals as goal

pub overflow_add-next : goal.overflow_add-next
overflow_add-next c =
    omega (arith, law.behind-here _ c.requires.0 _ _ c.requires.2 c.if-next-address.false c.requires.3)

pub byte_at-types-requires : goal.byte_at-types-requires
byte_at-types-requires c =
    omega (arith, law.behind-here _ c.requires.0 _ _ c.requires.2 c.if-next-address.false c.requires.3)

pub overflow_add-next-2 : goal.overflow_add-next-2
overflow_add-next-2 c =
    omega (arith, law.behind-here _ c.requires.0 _ _ c.requires.2 c.if-next-address.false c.requires.3)

pub overflow_add-next-3 : goal.overflow_add-next-3
overflow_add-next-3 c =
    omega (arith, c.byte_at-types.ensures.0, law.behind-here _ c.requires.0 _ _ c.requires.2 c.if-next-address.false c.requires.3)

pub shape_read-requires : goal.shape_read-requires
shape_read-requires c =
    (c.requires.0, c.requires.1, law.behind-stands _ c.requires.0 _ _ c.requires.2 c.if-next-address.false c.requires.3 _ c.byte_at-types.ensures.0)

pub returns : goal.returns
returns c =
    law.next-behind _ c.requires.0 _ _ c.requires.2 c.if-next-address.false c.requires.3 _ _ _ c.shape_read.ensures.0 c.byte_at-types.ensures.0 refl
    c.shape_read.ensures.1
