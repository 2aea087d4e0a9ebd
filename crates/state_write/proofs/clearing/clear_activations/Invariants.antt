use Prim.Native.Nat.{◌-◌}
use Rattle.bytecode.specs.State.{activations_at}
use Rattle.state_write.proofs.ClearingLaws as law
use Rattle.state_write.proofs.clearing.clear_activations.Given as goal

abbrev pub invariant-loop-i : goal.invariant-loop-i
invariant-loop-i l = law.Left (law.activations l.code) l.initial.state activations_at l.count l.state l.place (l.count - l.i)
