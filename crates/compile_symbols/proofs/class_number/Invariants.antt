use Prim.Native.Nat.{◌-◌}
use Rattle.compile_symbols.specs.Classes.{ClassSoFar}
use Rattle.compile_symbols.proofs.class_number.Given as goal

abbrev pub invariant-loop-i : goal.invariant-loop-i
invariant-loop-i l = ClassSoFar l.root.table.now l.name l.place (l.root.count - l.i) l.n
