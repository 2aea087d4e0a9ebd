use mathlib.Core.Path.{◌≡◌}
use Prim.Native.Nat.{◌≤◌}
use Rattle.load_places.specs.Search.{tops}
use Rattle.load_places.specs.Rules.{takes}
use Rattle.load_rules.proofs.stack.take_types.Given as goal

abbrev pub invariant-loop-n : goal.invariant-loop-n
invariant-loop-n l = (l.e ≤ l.depth) × (takes l.code l.place l.number l.holds (tops l.stack 0 l.depth) ≡ takes l.code l.place l.n l.holds (tops l.stack 0 l.e))
