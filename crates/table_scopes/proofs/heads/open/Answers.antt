-- `table_scopes::heads::open` meets its contract: the mark, the names of the head, the labels.
use native.Mathlib.Omega.{arith}
use mathlib.Core.List.{◌++◌}
use Prim.Native.Nat.{◌+◌}
use Rattle.table_scopes.specs.Environment.{item}
use Rattle.table_scopes.specs.EnvironmentLaws.{grown-push}
use Rattle.table_scopes.specs.Items.{items_at, labels_from, grown-append, grown-marked}
use Rattle.table_scopes.proofs.heads.open.Goals as goal

pub returns : goal.returns
returns c =
    let l = c.args.table.now in
    let heads = items_at 4 l c.args.at c.args.heads in
    let labels = labels_from l (c.args.at + c.args.heads) c.args.items in
    let pushed = grown-push c.args.env.now _ c.args.top c.args.mark 0 0 0 (omega arith) c.push.ensures in (
      grown-marked (item c.args.mark 0 0 0) (heads ++ labels) pushed (grown-append heads labels c.add_head-up.ensures c.add_labels.ensures.0),
      c.add_labels.ensures.1,
    )
