use mathlib.Core.Path.{◌≡◌}
use Rattle.state_sound.specs.Each.{each}
use Rattle.state_check.proofs.StandingLaws as law
use Rattle.load_places.specs.Search.{tops}
use Rattle.state_check.proofs.inspection.all_stand.Given as goal

abbrev pub invariant-loop-k : goal.invariant-loop-k
invariant-loop-k l =
    l.ok ≡ each (law.stand_at l.at.code.now l.of.state.now l.of.records l.of.activations l.address l.body l.holds (tops l.stack 0 l.depth)) 0 l.k
