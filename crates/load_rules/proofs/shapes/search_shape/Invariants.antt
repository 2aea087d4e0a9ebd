use Prim.Native.Nat.{◌-◌}
use lib.ListN.{length}
use Rattle.load_rules.specs.Moves.{NotPast}
use Rattle.load_rules.proofs.shapes.search_shape.Given as goal

abbrev pub invariant-loop-p : goal.invariant-loop-p
invariant-loop-p l = NotPast l.code l.address l.p

abbrev pub decreases-loop-p : goal.decreases-loop-p
decreases-loop-p l = length l.code - l.p
