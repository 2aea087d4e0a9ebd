use Prim.Native.Nat.{◌-◌}
use Rattle.compile_front.specs.Globals.{ProcsWriting}
use Rattle.compile_front.proofs.put_procedures.Given as goal

abbrev pub invariant-loop-i : goal.invariant-loop-i
invariant-loop-i l = ProcsWriting l.source.table.now l.ends l.initial.out l.from l.out l.place (l.source.count - l.i) l.first l.at
