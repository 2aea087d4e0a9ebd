use mathlib.Core.Path.{◌≡◌}
use Rattle.load_places.specs.Search.{Clean}
use Rattle.load_places.specs.Rules.{into, broken}
use Rattle.load_check.specs.Walk.{Moves, InBody, Next}
use Rattle.state_check.specs.Tested.{Upto}
use lib.ListN.{length}
use Rattle.state_check.proofs.inspection.walk_tests.Given as goal

abbrev pub invariant-loop-address : goal.invariant-loop-address
invariant-loop-address l =
    InBody l.code l.address l.here × (length l.stack ≡ 32) × Moves l.stack l.flow (into l.code l.address)
    × Clean (broken l.code) l.address × Upto l.code l.of.state.now l.of.records l.of.activations l.address l.ok l.next × Next l.code l.address l.shape
