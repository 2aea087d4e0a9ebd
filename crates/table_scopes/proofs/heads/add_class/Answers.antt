-- `table_scopes::heads::add_class` meets its contract.
use Prim.Native.Nat.{◌+◌}
use Rattle.table_scopes.specs.Items.{a_at, b_at, one_at, items_at, grown-append}
use Rattle.table_scopes.proofs.heads.add_class.Goals as goal

pub returns : goal.returns
returns c =
    grown-append (one_at 11 6 c.args.table.now c.args.place)
    (items_at (65536 + a_at c.args.table.now c.args.place) c.args.table.now (c.args.place + 1)
    (b_at c.args.table.now c.args.place)) c.add_one-up.ensures
    (rw (c.a_at.ensures, c.b_at.ensures) at c.add_head.ensures)
