use mathlib.Core.Path.{◌≡◌}
use lib.ListN.{length}
use Rattle.table_read.proofs.Roots.{Declared}
use Prim.Native.Nat.{◌-◌}
use Rattle.table_read.proofs.read_head.Given as goal

abbrev pub invariant-loop-i : goal.invariant-loop-i
invariant-loop-i l =
    Declared l.count l.part l.initial.sizes l.sizes l.rest l.passed l.classes l.procedures (l.count - l.i) × (length l.sizes ≡ length l.initial.sizes)
