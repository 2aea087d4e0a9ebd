-- `load_rules::shapes::search_shape` meets its contract: the loop stands at a shape that is not past the address, or at the end.
use native.Mathlib.Omega.{arith}
use Rattle.load_rules.proofs.ShapeSearch as law
use Rattle.load_rules.proofs.shapes.search_shape.Goals as goal

pub overflow_add-p : goal.overflow_add-p
overflow_add-p c =
    let t = c.loop-p.invariant in omega (arith, t.2, law.end_low _ c.requires.0 c.requires.1 t.0 t.1)

pub half_at-a-requires : goal.half_at-a-requires
half_at-a-requires c = omega (arith, law.search-room _ c.requires.0 c.requires.1 _ _ c.loop-p.invariant c.loop-p-test.true)

pub returns-then-a-address : goal.returns-then-a-address
returns-then-a-address c =
    law.search-here _ c.requires.0 c.requires.1 _ _ c.loop-p.invariant c.loop-p-test.true _ c.half_at-a.ensures.0 c.if-a-address.true

pub returns-then-address-a : goal.returns-then-address-a
returns-then-address-a c =
    law.search-gone _ c.requires.0 c.requires.1 _ _ c.loop-p.invariant c.loop-p-test.true _ c.half_at-a.ensures.0 c.if-address-a.true

pub byte_at-requires : goal.byte_at-requires
byte_at-requires c =
    omega (arith, law.search-room _ c.requires.0 c.requires.1 _ _ c.loop-p.invariant c.loop-p-test.true)

pub loop-p-preserved : goal.loop-p-preserved
loop-p-preserved c =
    law.search-on _ c.requires.0 c.requires.1 _ _ c.loop-p.invariant c.loop-p-test.true _
    c.half_at-a.ensures.0 (omega arith) c.if-a-address.false _
    c.byte_at.ensures.0

pub returns : goal.returns
returns c = law.search-end _ c.requires.0 c.requires.1 _ _ c.loop-p.invariant (omega arith)
