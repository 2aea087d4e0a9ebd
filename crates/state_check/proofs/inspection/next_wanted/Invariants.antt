use Prim.Native.Nat.{ℕ, ◌≤◌, ◌<◌}
use Rattle.state_sound.specs.Fits.{address_in}
use Rattle.state_check.proofs.inspection.next_wanted.Given as goal

abbrev pub invariant-loop-k : goal.invariant-loop-k
invariant-loop-k l = ((j : ℕ) → j < l.k → l.address ≤ address_in l.of.state.now j → l.best ≤ address_in l.of.state.now j)
