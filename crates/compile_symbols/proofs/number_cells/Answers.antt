-- The loop's invariant, CellsSoFar: the numbers of the entries that are left, put after what is written, are all numbers (specs/Entries).
use mathlib.Core.Path.{◌∙◌, ap}
use native.Mathlib.Omega.{arith}
use Rattle.compile_symbols.specs.Entries.{cells_of_kind, cells-few, cells-start, cells-next, cells-end}
use Rattle.compile_symbols.specs.Tabled.{entries-few}
use Rattle.compile_symbols.proofs.number_cells.Goals as goal

pub loop-place-init : goal.loop-place-init
loop-place-init c =
    cells-start _ _ _ _ _ _ _ c.requires.1 c.requires.5

pub entry_known-requires : goal.entry_known-requires
entry_known-requires c =
    let s = c.loop-place.invariant in (c.requires.0, omega (arith, s.most), c.requires.4, omega (arith, s.few, s.most, entries-few c.requires.0.tabled))

pub offset_bounds-known-place : goal.offset_bounds-known-place
offset_bounds-known-place c = omega (arith, c.loop-place.invariant.long)

pub bounds-known-place : goal.bounds-known-place
bounds-known-place c = omega (arith, c.loop-place.invariant.long)

pub overflow_add-cell : goal.overflow_add-cell
overflow_add-cell c =
    omega (arith, c.loop-place.invariant.few, cells-few c.kind_at.result)

pub loop-place-preserved : goal.loop-place-preserved
loop-place-preserved c =
    cells-next c.loop-place.invariant c.entry_known.result c.cells_of-cell.result (omega arith)
    c.requires.2 c.entry_known.ensures (c.cells_of-cell.ensures ∙ ap cells_of_kind c.kind_at.ensures)

pub shape_of-known : goal.shape_of-known
shape_of-known c = c.loop-place.invariant.long

pub returns : goal.returns
returns c = cells-end c.loop-place.invariant (omega arith)
