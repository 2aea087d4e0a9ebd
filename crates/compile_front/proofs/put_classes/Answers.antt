-- The loop's invariant, HeadWriting: what is left to write for the classes (specs/Globals).
use mathlib.Core.Path.{◌≡◌}
use native.Mathlib.Nat.{sub-zero}
use Prim.Native.Nat.{◌+◌, ◌-◌}
use native.Mathlib.Omega.{arith}
use Rattle.compile_front.specs.Globals.{head-start, head-within, head-room, head-next, head-end, classes-add, classes-none, class-short}
use Rattle.compile_front.specs.Front.{class_part, classes_from}
use Rattle.compile_symbols.specs.Tabled.{the_tree, classes_in, part_at, entries-few}
use Rattle.compile_front.proofs.put_classes.Goals as goal

pub loop-i-init : goal.loop-i-init
loop-i-init c =
    rw (sub-zero c.args.source.now.count) (head-start (classes_from (the_tree c.args.source.now.table.now)) _ _ c.requires.0)

pub put_if_class-at-requires : goal.put_if_class-at-requires
put_if_class-at-requires c =
    let w = (head-within c.requires.0.tabled c.loop-i.invariant (omega arith)) in (
      c.requires.1,
      w,
      class-short c.requires.0.tabled c.loop-i.invariant (omega arith),
      head-room c.requires.0.tabled c.loop-i.invariant (class_part (classes_in c.args.source.now.table.now)
          (part_at c.args.source.now.table.now c.args.source.now.sizes.now c.loop-i.place))
          (classes-add c.args.source.now.table.now c.args.source.now.sizes.now c.loop-i.place (c.args.source.now.count - c.loop-i.i)) c.requires.2
          (omega arith),
    )

pub size_at-place-requires : goal.size_at-place-requires
size_at-place-requires c =
    let w = (head-within c.requires.0.tabled c.loop-i.invariant (omega arith)) in omega (arith, w.some, w.within, w.wide)

pub overflow_add-place : goal.overflow_add-place
overflow_add-place c =
    let w = (head-within c.requires.0.tabled c.loop-i.invariant (omega arith)) in omega (arith, w.within, c.size_at-place.ensures, entries-few c.requires.0.tabled)

pub loop-i-preserved : goal.loop-i-preserved
loop-i-preserved c =
    let fewer : c.args.source.now.count - (c.loop-i.i + 1) ≡ c.args.source.now.count - c.loop-i.i - 1 = omega arith in
    rw fewer (head-next c.requires.0.tabled c.loop-i.invariant (classes-add c.args.source.now.table.now c.args.source.now.sizes.now
    c.loop-i.place (c.args.source.now.count - c.loop-i.i)) c.put_if_class-at.ensures c.size_at-place.ensures (omega arith))

pub shape_of-out : goal.shape_of-out
shape_of-out c = c.loop-i.invariant.writing.long

pub returns : goal.returns
returns c =
    head-end c.requires.0.tabled c.loop-i.invariant
    (classes-none (the_tree c.args.source.now.table.now)) (omega arith)
