use Prim.Native.Nat.{◌-◌}
use Rattle.compile_whole.specs.Declares.{HoldsSoFar}
use Rattle.compile_bodies.proofs.root_holds.Given as goal

abbrev pub invariant-loop-i : goal.invariant-loop-i
invariant-loop-i l = HoldsSoFar l.table l.place (l.count - l.i) l.n
