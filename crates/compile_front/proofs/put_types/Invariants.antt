use Rattle.compile_front.specs.Leaves.{TypesWriting}
use Rattle.compile_front.proofs.put_types.Given as goal

abbrev pub invariant-loop-i : goal.invariant-loop-i
invariant-loop-i l = TypesWriting l.source.table.now l.initial.out l.at l.from l.to l.out l.i l.place
