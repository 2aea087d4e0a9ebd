-- The loop's invariant, TypesWriting: the types of the entries that are left, put after what is written, are all types (specs/Leaves).
use native.Mathlib.Omega.{arith}
use Rattle.compile_front.specs.Leaves.{types-start, types-room, types-next, types-done}
use Rattle.compile_front.proofs.put_types.Goals as goal

pub loop-i-init : goal.loop-i-init
loop-i-init c = types-start _ _ _ _ _ c.requires.2

pub put_type-place-requires : goal.put_type-place-requires
put_type-place-requires c =
    let s = c.loop-i.invariant in (
      c.requires.0,
      omega (arith, s.least, c.requires.1),
      omega (arith, c.requires.3),
      types-room s c.requires.3 (omega arith) c.requires.4,
    )

pub loop-i-preserved : goal.loop-i-preserved
loop-i-preserved c =
    types-next c.loop-i.invariant c.requires.3 (omega arith) c.put_type-place.ensures

pub shape_of-out : goal.shape_of-out
shape_of-out c = c.loop-i.invariant.writing.long

pub returns : goal.returns
returns c = types-done c.loop-i.invariant c.requires.3 (omega arith)
