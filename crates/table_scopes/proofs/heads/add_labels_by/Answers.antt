-- `table_scopes::heads::add_labels_by` meets its contract.
use native.Mathlib.Omega.{arith}
use mathlib.Core.Path.{refl, ◌∙◌}
use Prim.Native.Nat.{◌+◌, ◌-◌}
use Rattle.table_scopes.specs.Environment.{env_of}
use Rattle.table_scopes.specs.Items.{one_at, labels_from, after, adds-room, adds-next, adds-end, labels-more, labels-none, reach_here, reach-next}
use Rattle.table_scopes.specs.Spared.{sparing-next, sparing-end, env-length}
use Rattle.table_scopes.proofs.heads.add_labels_by.Goals as goal

pub add_one_by-more-requires : goal.add_one_by-more-requires
add_one_by-more-requires c =
    let l = c.args.table.now in
    let place = c.loop-left.place in
    let left = c.loop-left.left in
    let rh = reach_here l place left (omega arith) c.loop-left.invariant.1 in
    let step = labels-more l place left _ (omega arith) refl in (
      rh,
      c.requires.2,
      adds-room c.loop-left.invariant.0 (one_at 20 5 l place) (labels_from l (after l place) (left - 1)) step c.requires.3,
      c.loop-left.invariant.4,
    )

pub kind_at-requires : goal.kind_at-requires
kind_at-requires c =
    reach_here c.args.table.now c.loop-left.place c.loop-left.left (omega arith) c.loop-left.invariant.1

pub size_at-place-requires : goal.size_at-place-requires
size_at-place-requires c =
    let rh = reach_here c.args.table.now c.loop-left.place c.loop-left.left (omega arith) c.loop-left.invariant.1 in
    omega (arith, c.requires.0.wide)

pub loop-left-preserved : goal.loop-left-preserved
loop-left-preserved c =
    let l = c.args.table.now in
    let place = c.loop-left.place in
    let left = c.loop-left.left in
    let rh = reach_here l place left (omega arith) c.loop-left.invariant.1 in
    let z = c.size_at-place.ensures ∙ c.requires.0.sized place (omega (arith, rh)) in
    let step = labels-more l place left c.size_at-place.result (omega arith) z in
    let g = c.add_one_by-more.ensures.0 in
    let a = adds-next c.loop-left.invariant.0 (one_at 20 5 l place) (labels_from l (place + c.size_at-place.result) (left - 1)) step g in (
      a,
      reach-next l place left c.size_at-place.result (omega arith) z c.loop-left.invariant.1,
      a.same,
      sparing-next c.loop-left.invariant.3 (omega arith) (env_of _ c.add_one_by-more.result) c.all_pushed-once.result c.size_at-place.result z
          (rw (env-length _ c.loop-left.up, env-length _ c.add_one_by-more.result, ← c.kind_at.ensures) c.all_pushed-once.ensures)
          g.now,
      c.add_one_by-more.ensures.1,
      omega (arith, c.loop-left.invariant.5),
    )

pub returns : goal.returns
returns c = (
  adds-end c.loop-left.invariant.0 (labels-none c.args.table.now c.loop-left.place c.loop-left.left (omega arith)),
  sparing-end c.loop-left.invariant.3 (omega arith),
)
