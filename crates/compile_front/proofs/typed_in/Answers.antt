-- The loop's invariant, CountSoFar: the entries counted and those that are left make all (specs/Leaves).
use mathlib.Core.Path.{◌∙◌, ap}
use native.Mathlib.Omega.{arith}
use Rattle.compile_front.specs.Leaves.{count-start, count_next, count-end}
use Rattle.compile_symbols.specs.Entries.{cells_of_kind, cells-few}
use Rattle.compile_front.proofs.typed_in.Goals as goal

pub loop-i-init : goal.loop-i-init
loop-i-init c = count-start _ _ _ c.requires.0

pub kind_at-requires : goal.kind_at-requires
kind_at-requires c = omega (arith, c.requires.1)

pub overflow_add-n : goal.overflow_add-n
overflow_add-n c =
    omega (arith, cells-few c.kind_at.result, c.loop-i.invariant.few, c.requires.1)

pub loop-i-preserved : goal.loop-i-preserved
loop-i-preserved c =
    count_next c.loop-i.invariant c.cells_of-n.result (omega arith) c.requires.1
    (c.cells_of-n.ensures ∙ ap cells_of_kind c.kind_at.ensures)

pub returns : goal.returns
returns c = count-end c.loop-i.invariant (omega arith)
