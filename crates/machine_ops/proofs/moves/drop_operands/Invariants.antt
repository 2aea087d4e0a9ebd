use Prim.Native.Nat.{◌-◌}
use mathlib.Core.Path.{◌≡◌}
use lib.ListN.{length}
use Rattle.machine_ops.specs.Moves.{dropped}
use Rattle.machine_ops.proofs.moves.drop_operands.Given as goal

abbrev pub invariant-loop-k : goal.invariant-loop-k
invariant-loop-k l = (length l.state ≡ length l.initial.state) × (dropped l.initial.state l.frame l.depth l.count ≡ dropped l.state l.frame l.k (l.k - (l.depth - l.count)))
