-- `table_scopes::heads::add_globals` meets its contract.
use native.Mathlib.Omega.{arith}
use mathlib.Core.Path.{refl, ◌∙◌}
use Prim.Native.Nat.{◌+◌, ◌-◌}
use Rattle.table_scopes.specs.Items.{global_at, globals_from, after, adds-room, adds-next, adds-end, globals-more, globals-none, globals-here, globals-next}
use Rattle.table_scopes.proofs.heads.add_globals.Goals as goal

pub add_global-up-requires : goal.add_global-up-requires
add_global-up-requires c =
    let l = c.args.table.now in
    let place = c.loop-left.place in
    let left = c.loop-left.left in
    let rh = globals-here l place left (omega arith) c.loop-left.invariant.1 in
    let step = globals-more l place left _ (omega arith) refl in (
      rh,
      c.requires.2,
      adds-room c.loop-left.invariant.0 (global_at l place) (globals_from l (after l place) (left - 1)) step c.requires.3,
    )

pub size_at-place-requires : goal.size_at-place-requires
size_at-place-requires c =
    let l = c.args.table.now in
    let place = c.loop-left.place in
    let left = c.loop-left.left in
    let rh = globals-here l place left (omega arith) c.loop-left.invariant.1 in
    omega (arith, c.requires.0.wide, rh.within)

pub loop-left-preserved : goal.loop-left-preserved
loop-left-preserved c =
    let l = c.args.table.now in
    let place = c.loop-left.place in
    let left = c.loop-left.left in
    let rh = globals-here l place left (omega arith) c.loop-left.invariant.1 in
    let z = c.size_at-place.ensures ∙ c.requires.0.sized place (omega (arith, rh.within)) in
    let step = globals-more l place left c.size_at-place.result (omega arith) z in
    let a = adds-next c.loop-left.invariant.0 (global_at l place)
    (globals_from l (place + c.size_at-place.result) (left - 1)) step c.add_global-up.ensures in
    (a, globals-next l place left c.size_at-place.result (omega arith) z c.loop-left.invariant.1, a.same)

pub returns : goal.returns
returns c = adds-end c.loop-left.invariant.0 (globals-none c.args.table.now c.loop-left.place c.loop-left.left (omega arith))
