use mathlib.Core.Path.{◌≡◌}
use Prim.Native.Nat.{◌+◌, ◌-◌, ◌≤◌}
use lib.ListN.{length}
use lib.Seq.{sets}
use Rattle.bytecode.specs.State.{zeros, state_length}
use Rattle.state_write.proofs.clearing.wipe.Given as goal

abbrev pub invariant-loop-i : goal.invariant-loop-i
invariant-loop-i l = (l.i ≤ l.place + l.from + (l.to - l.from)) × (length l.state ≡ state_length) × (l.state ≡ sets l.initial.state (l.place + l.from) (zeros (l.i - (l.place + l.from))))
