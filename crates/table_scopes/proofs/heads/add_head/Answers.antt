-- `table_scopes::heads::add_head` meets its contract.
use native.Mathlib.Omega.{arith}
use Prim.Native.Nat.{◌+◌, ◌-◌}
use Rattle.table_scopes.specs.Items.{one_at, items_at, adds-room, adds-next, adds-end, items_next, items-none}
use Rattle.table_scopes.proofs.heads.add_head.Goals as goal

pub add_one-up-requires : goal.add_one-up-requires
add_one-up-requires c =
    let l = c.args.table.now in
    let place = c.loop-place.place in
    let end = c.args.at + c.args.count in (
      omega arith,
      c.requires.1,
      adds-room c.loop-place.invariant.0 (one_at 10 c.args.sort l place) (items_at c.args.sort l (place + 1) (end - (place + 1)))
          (items_next c.args.sort l place end (omega arith)) c.requires.2,
    )

pub loop-place-preserved : goal.loop-place-preserved
loop-place-preserved c =
    let l = c.args.table.now in
    let place = c.loop-place.place in
    let end = c.args.at + c.args.count in
    let a = adds-next c.loop-place.invariant.0 (one_at 10 c.args.sort l place) (items_at c.args.sort l (place + 1) (end - (place + 1)))
    (items_next c.args.sort l place end (omega arith)) c.add_one-up.ensures in (a, a.same)

pub returns : goal.returns
returns c =
    adds-end c.loop-place.invariant.0 (items-none c.args.sort
    c.args.table.now c.loop-place.place (c.args.at + c.args.count - c.loop-place.place) (omega arith))
