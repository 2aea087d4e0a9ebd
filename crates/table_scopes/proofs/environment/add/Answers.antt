-- `table_scopes::environment::add` meets its contract.
use Rattle.table_scopes.specs.EnvironmentLaws.{is-added, grown-push}
use Rattle.table_scopes.specs.Filter.{covers-push}
use Rattle.table_scopes.proofs.environment.add.Goals as goal

pub returns : goal.returns
returns c = (
  is-added c.args.env.now _ c.args.top c.args.name c.args.sort c.args.number
      c.args.place c.requires.0 c.here_by.ensures c.if-here_by.false c.push.ensures,
  rw (
    (grown-push c.args.env.now _ c.args.top c.args.name c.args.sort c.args.number c.args.place
        c.requires.0 c.push.ensures).now,
    c.note.ensures,
  ) (covers-push c.args.name c.args.sort c.args.number c.args.place c.requires.1),
)
