use mathlib.Core.Path.{◌≡◌}
use Prim.Native.Nat.{◌*◌, ◌≤◌}
use Rattle.state_sound.specs.Fits.{held}
use Rattle.state_check.proofs.tests.open_holds.Given as goal

abbrev pub invariant-loop-k : goal.invariant-loop-k
invariant-loop-k l = (l.sum ≡ held l.of.state.now l.k) × (l.sum ≤ 255 * l.k)
