use mathlib.Core.Path.{◌≡◌}
use Rattle.table_scopes.specs.Environment.{find, env_of, passing}
use Rattle.table_scopes.proofs.environment.find.Given as goal

abbrev pub invariant-loop-i : goal.invariant-loop-i
invariant-loop-i l = find l.name (env_of l.env l.top) ≡ passing l.passed (find l.name (env_of l.env l.i))
