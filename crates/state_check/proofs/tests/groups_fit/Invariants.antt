use mathlib.Core.Path.{◌≡◌}
use Rattle.state_sound.specs.Each.{each}
use Rattle.state_check.proofs.TestExits as law
use Rattle.state_check.proofs.tests.groups_fit.Given as goal

abbrev pub invariant-loop-j : goal.invariant-loop-j
invariant-loop-j l = l.ok ≡ each (law.group_at l.state) 0 l.j
