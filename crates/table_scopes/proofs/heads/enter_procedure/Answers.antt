-- `table_scopes::heads::enter_procedure` meets its contract: the wall, then the parameters.
use native.Mathlib.Omega.{arith}
use Rattle.table_scopes.specs.Environment.{item}
use Rattle.table_scopes.specs.EnvironmentLaws.{grown-push}
use Rattle.table_scopes.specs.Items.{items_at, grown-marked}
use Rattle.table_scopes.proofs.heads.enter_procedure.Goals as goal

pub returns : goal.returns
returns c =
    grown-marked (item 65537 0 0 0) (items_at 4 c.args.table.now c.args.at c.args.parameters)
    (grown-push c.args.env.now _ c.args.top 65537 0 0 0 (omega arith) c.push.ensures) c.add_head.ensures
