use mathlib.Core.Path.{◌≡◌}
use Rattle.state_sound.specs.Each.{each}
use Rattle.state_sound.specs.Fits.{frame_fits}
use Rattle.state_check.proofs.tests.frames_fit.Given as goal

abbrev pub invariant-loop-k : goal.invariant-loop-k
invariant-loop-k l = l.ok ≡ each (frame_fits l.at.code.now l.of.state.now l.of.records l.of.activations) 0 l.k
