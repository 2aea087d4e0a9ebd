use mathlib.Core.Path.{◌≡◌}
use lib.ListN.{length}
use Rattle.table_read.specs.Operands.{sorts}
use Rattle.table_read.proofs.Steps.{Passed}
use Prim.Native.Nat.{◌+◌, ◌*◌}
use Rattle.table_read.proofs.+operands_read_entry.Given as goal

abbrev pub decreases-operands : goal.decreases-operands
decreases-operands l = 2 * l.nesting

abbrev pub decreases-read_entry : goal.decreases-read_entry
decreases-read_entry l = 2 * l.nesting + 1

abbrev pub invariant-operands-loop-i : goal.invariant-operands-loop-i
invariant-operands-loop-i l =
    Passed l.nesting (sorts l.kind l.a l.n) l.part l.place l.initial.sizes l.sizes l.rest l.passed l.i × (length l.sizes ≡ length l.initial.sizes)
