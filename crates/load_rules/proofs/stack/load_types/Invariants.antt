use mathlib.Core.Path.{◌≡◌}
use lib.ListN.{length}
use Rattle.load_places.specs.Search.{tops}
use Rattle.load_rules.proofs.stack.load_types.Given as goal

abbrev pub invariant-loop-i : goal.invariant-loop-i
invariant-loop-i l = (length l.stack ≡ length l.initial.stack) × (tops l.stack 0 l.i ≡ tops l.code l.place l.i)
