-- The loop's invariant, HeadWriting: what is left to write for the root's variables (specs/Globals).
use mathlib.Core.Path.{◌≡◌}
use native.Mathlib.Nat.{sub-zero}
use Prim.Native.Nat.{◌+◌, ◌-◌}
use mathlib.Core.List.{[], ◌∷◌}
use native.Mathlib.Omega.{arith}
use Rattle.compile_front.specs.Globals.{head-start, head-within, head-room, head-next, head-end, variables-add, variables-none}
use Rattle.compile_front.specs.Front.{variables_from}
use Rattle.compile_front.specs.Types.{types_of}
use Rattle.compile_symbols.specs.Tabled.{the_tree, classes_in, entries-few}
use Rattle.table_entries.specs.Entries.{entry_at}
use Rattle.compile_front.proofs.put_variables.Goals as goal

pub loop-i-init : goal.loop-i-init
loop-i-init c =
    rw (sub-zero c.args.source.now.count) (head-start (variables_from (the_tree c.args.source.now.table.now)) _ _ c.requires.0)

pub put_type-at-requires : goal.put_type-at-requires
put_type-at-requires c =
    let w = (head-within c.requires.0.tabled c.loop-i.invariant (omega arith)) in (
      c.requires.1,
      c.loop-i.invariant.some,
      omega (arith, w.some, w.within),
      head-room c.requires.0.tabled c.loop-i.invariant (types_of (classes_in c.args.source.now.table.now)
          (entry_at c.args.source.now.table.now c.loop-i.place ∷ []) [])
          (variables-add c.args.source.now.table.now c.args.source.now.sizes.now c.loop-i.place (c.args.source.now.count - c.loop-i.i)) c.requires.2
          (omega arith),
    )

pub size_at-place-requires : goal.size_at-place-requires
size_at-place-requires c =
    let w = (head-within c.requires.0.tabled c.loop-i.invariant (omega arith)) in omega (arith, w.some, w.within, w.wide)

pub overflow_add-place : goal.overflow_add-place
overflow_add-place c =
    let w = (head-within c.requires.0.tabled c.loop-i.invariant (omega arith)) in omega (arith, w.within, c.size_at-place.ensures, entries-few c.requires.0.tabled)

pub loop-i-preserved : goal.loop-i-preserved
loop-i-preserved c =
    let fewer : c.args.source.now.count - (c.loop-i.i + 1) ≡ c.args.source.now.count - c.loop-i.i - 1 = omega arith in
    rw fewer (head-next c.requires.0.tabled c.loop-i.invariant (variables-add c.args.source.now.table.now c.args.source.now.sizes.now
    c.loop-i.place (c.args.source.now.count - c.loop-i.i)) c.put_type-at.ensures c.size_at-place.ensures (omega arith))

pub shape_of-out : goal.shape_of-out
shape_of-out c = c.loop-i.invariant.writing.long

pub returns : goal.returns
returns c =
    head-end c.requires.0.tabled c.loop-i.invariant
    (variables-none (the_tree c.args.source.now.table.now)) (omega arith)
