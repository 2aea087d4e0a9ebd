use Prim.Native.Nat.{◌-◌}
use Rattle.compile_walk.specs.Given.{Same, arrays}
use Rattle.compile_whole.specs.Loop.{ProcsSoFar}
use Rattle.compile_bodies.proofs.procedures.Given as goal

abbrev pub invariant-loop-i : goal.invariant-loop-i
invariant-loop-i l = record {
  same : Same l.initial.lent l.lent;
  far : ProcsSoFar l.source.table.now l.source.sizes.now l.source.known.now l.source.aims.now l.top (arrays l.initial.lent l.initial.stack) l.initial.p (arrays l.lent l.stack) l.place (l.count - l.i) l.p;
}
