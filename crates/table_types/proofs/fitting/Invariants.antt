use mathlib.Core.Path.{◌≡◌}
use Prim.Native.Nat.{◌+◌}
use lib.ListN.{drop}
use Rattle.table_scopes.specs.Environment.{env_of}
use Rattle.table_types.specs.Settle.{values, same_all, types_at}
use Rattle.table_types.proofs.fitting.Given as goal

abbrev pub invariant-loop-i : goal.invariant-loop-i
invariant-loop-i l =
    same_all (values l.count (env_of l.env (l.top + l.count))) (types_at l.table l.from l.declared)
    ≡ same_all (drop l.i (values l.count (env_of l.env (l.top + l.count)))) (drop l.i (types_at l.table l.from l.declared))
