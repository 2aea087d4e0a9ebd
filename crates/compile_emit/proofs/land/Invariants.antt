use mathlib.Core.Path.{◌≡◌}
use Prim.Native.Nat.{◌+◌, ◌≤◌}
use Rattle.table_scopes.specs.Environment.{env_of}
use Rattle.compile_symbols.specs.Meaning.{meaning_of}
use Rattle.compile_nodes.specs.Knows.{passed_to}
use Rattle.compile_emit.proofs.land.Given as goal

abbrev pub invariant-loop-i : goal.invariant-loop-i
invariant-loop-i l =
    (passed_to l.name (env_of l.env l.top) ≡ l.n + passed_to l.name (env_of l.env l.i)) × (meaning_of l.name (env_of l.env l.top) l.aims ≡ meaning_of l.name (env_of l.env l.i) l.aims) × (l.n + l.i ≤ l.top)
