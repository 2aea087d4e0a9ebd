use Rattle.compile_symbols.specs.Entries.{CellsSoFar}
use Rattle.compile_symbols.specs.Tabled.{classes_in}
use Rattle.compile_symbols.proofs.number_cells.Given as goal

abbrev pub invariant-loop-place : goal.invariant-loop-place
invariant-loop-place l = CellsSoFar l.root.table.now (classes_in l.root.table.now) l.initial.known l.known l.owner l.from l.to l.first l.place l.cell
