use mathlib.Core.Path.{◌≡◌}
use Rattle.load_places.specs.Search.{tops, alike}
use Rattle.load_rules.proofs.stack.same_types.Given as goal

abbrev pub invariant-loop-i : goal.invariant-loop-i
invariant-loop-i l = (alike (tops l.stack 0 l.depth) (tops l.code l.place l.depth) ≡ alike (tops l.stack 0 l.i) (tops l.code l.place l.i))
