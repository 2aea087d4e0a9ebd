use mathlib.Core.Path.{◌≡◌}
use Rattle.load_places.specs.Records.{class_place}
use Rattle.load_check.proofs.root.root_at.Given as goal

abbrev pub invariant-loop-k : goal.invariant-loop-k
invariant-loop-k l = (l.p ≡ class_place l.code l.k)
