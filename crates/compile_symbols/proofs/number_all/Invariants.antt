use Prim.Native.Nat.{◌-◌}
use Rattle.compile_symbols.specs.Whole.{NumbersSoFar}
use Rattle.compile_symbols.proofs.number_all.Given as goal

abbrev pub invariant-loop-i : goal.invariant-loop-i
invariant-loop-i l = NumbersSoFar l.table l.initial.known l.known l.place (l.count - l.i) l.n
