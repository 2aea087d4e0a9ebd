use Prim.Native.Nat.{◌-◌}
use Rattle.compile_front.specs.Globals.{HeadWriting}
use Rattle.compile_front.specs.Front.{classes_from}
use Rattle.compile_symbols.specs.Tabled.{the_tree}
use Rattle.compile_front.proofs.put_classes.Given as goal

abbrev pub invariant-loop-i : goal.invariant-loop-i
invariant-loop-i l = HeadWriting (classes_from (the_tree l.source.table.now)) l.source.table.now l.initial.out l.from l.out l.place (l.source.count - l.i) l.at
