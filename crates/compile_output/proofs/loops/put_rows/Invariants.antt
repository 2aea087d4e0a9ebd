use mathlib.Core.Path.{◌≡◌}
use lib.ListN.{length, take}
use Rattle.compile_output.specs.Rows.{cursor_rows, emit_rows}
use Rattle.compile_output.proofs.loops.put_rows.Given as goal

abbrev pub invariant-loop-row : goal.invariant-loop-row
invariant-loop-row l =
    (l.p ≡ cursor_rows l.pattern l.row-index l.depth l.initial.p) × (l.out ≡ emit_rows l.pattern l.row-index l.holds l.depth (take l.depth l.stack) l.cell l.start l.exit l.initial.p l.initial.out) × (length l.out ≡ length l.initial.out)
