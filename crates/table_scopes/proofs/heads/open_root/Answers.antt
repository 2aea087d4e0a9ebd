-- `table_scopes::heads::open_root` meets its contract.
use native.Mathlib.Omega.{arith}
use mathlib.Core.List.{◌++◌}
use Rattle.table_scopes.specs.Environment.{item}
use Rattle.table_scopes.specs.EnvironmentLaws.{grown-push}
use Rattle.table_scopes.specs.Items.{globals_from, labels_from, grown-append, grown-marked}
use Rattle.table_scopes.proofs.heads.open_root.Goals as goal

pub returns : goal.returns
returns c =
    let l = c.args.table.now in
    let heads = globals_from l 1 c.args.heads in
    let labels = labels_from l c.args.after c.args.items in
    let pushed = grown-push c.args.env.now _ 0 65536 0 0 0 (omega arith) c.push.ensures in (
      grown-marked (item 65536 0 0 0) (heads ++ labels) pushed (grown-append heads labels c.add_globals-up.ensures c.add_labels.ensures.0),
      c.add_labels.ensures.1,
    )
