use Rattle.compile_front.specs.Leaves.{CountSoFar}
use Rattle.compile_front.proofs.typed_in.Given as goal

abbrev pub invariant-loop-i : goal.invariant-loop-i
invariant-loop-i l = CountSoFar l.table l.from l.to l.i l.n
