use Prim.Native.Nat.{◌+◌}
use Rattle.table_scopes.specs.Environment.{env_of, Grown}
use mathlib.Core.List.{◌++◌}
use Rattle.compile_scopes.specs.Marks.{marks}
use Rattle.compile_emit.proofs.mark_holds.Given as goal

abbrev pub invariant-loop-i : goal.invariant-loop-i
invariant-loop-i l = Grown l.top l.initial.env l.env (l.top + l.i) (marks l.i ++ env_of l.initial.env l.top) l.i
