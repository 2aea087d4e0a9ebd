use mathlib.Core.Path.{◌≡◌}
use Rattle.state_sound.specs.Each.{each}
use Rattle.state_check.proofs.TypeRows.{same_at}
use Rattle.state_check.proofs.inspection.same_row.Given as goal

abbrev pub invariant-loop-j : goal.invariant-loop-j
invariant-loop-j l = l.ok ≡ each (same_at l.code l.row l.place l.from) 0 l.j
