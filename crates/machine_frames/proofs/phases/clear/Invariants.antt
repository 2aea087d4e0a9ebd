use Rattle.bytecode.specs.State.{zeros}
use lib.Seq.{sets}
use lib.ListN.{length}
use mathlib.Core.Path.{◌≡◌}
use Rattle.machine_frames.proofs.phases.clear.Given as goal

abbrev pub invariant-loop-k : goal.invariant-loop-k
invariant-loop-k l = (length l.state ≡ length l.initial.state) × (l.state ≡ sets l.initial.state l.place (zeros l.k))
