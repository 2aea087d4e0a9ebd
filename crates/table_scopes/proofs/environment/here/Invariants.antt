use mathlib.Core.Path.{◌≡◌}
use Rattle.table_scopes.specs.Environment.{here, env_of}
use Rattle.table_scopes.proofs.environment.here.Given as goal

abbrev pub invariant-loop-i : goal.invariant-loop-i
invariant-loop-i l = here l.name (env_of l.env l.top) ≡ here l.name (env_of l.env l.i)
