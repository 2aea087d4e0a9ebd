-- `load_rules::shapes::shape_read` meets its contract.
use native.Mathlib.Omega.{arith}
use mathlib.Core.Path.{refl}
use Rattle.load_rules.proofs.ShapeSearch as law
use Rattle.load_rules.proofs.shapes.shape_read.Goals as goal

pub overflow_add-place : goal.overflow_add-place
overflow_add-place c = let t = c.requires.2 in omega (arith, t.2, law.end_low _ c.requires.0 c.requires.1 t.0 t.1)

pub returns-then-place-code : goal.returns-then-place-code
returns-then-place-code c =
    (refl, λ j h e. law.told-end _ c.requires.0 c.requires.1 _ j h e c.if-place-code.true)

pub overflow_add-place-2 : goal.overflow_add-place-2
overflow_add-place-2 c =
    let t = c.requires.2 in omega (arith, t.2, law.end_low _ c.requires.0 c.requires.1 t.0 t.1)

pub half_at-address-requires : goal.half_at-address-requires
half_at-address-requires c =
    let t = c.requires.2 in
    let h = law.before-end _ c.requires.0 c.requires.1 t.0 _ t.1 t.2 c.if-place-code.false in
    omega (arith, t.2, law.shape-low _ c.requires.0 c.requires.1 t.0 h)
