use mathlib.Core.Path.{◌≡◌}
use Rattle.state_sound.specs.Each.{each}
use Rattle.state_check.proofs.TestExits as law
use Rattle.state_check.proofs.tests.row_fits.Given as goal

abbrev pub invariant-loop-j : goal.invariant-loop-j
invariant-loop-j l = l.ok ≡ each (law.fits_at l.code l.of.state.now l.of.records l.row l.place l.t l.w) 0 l.j
