use Prim.Native.Nat.{◌-◌}
use Rattle.compile_whole.specs.Declares.{HeadSoFar}
use Rattle.compile_bodies.proofs.declare_globals.Given as goal

abbrev pub invariant-loop-i : goal.invariant-loop-i
invariant-loop-i l = HeadSoFar l.source.table.now l.source.known.now l.initial.out l.initial.p l.out l.place (l.count - l.i) l.p
