use mathlib.Core.Path.{◌≡◌}
use lib.ListN.{length}
use Rattle.machine_ops.specs.Moves.{filled}
use Rattle.machine_ops.proofs.moves.move_operands.Given as goal

abbrev pub invariant-loop-j : goal.invariant-loop-j
invariant-loop-j l = (length l.state ≡ length l.initial.state) × (l.state ≡ filled l.initial.state l.frame l.k l.words l.types l.j)
