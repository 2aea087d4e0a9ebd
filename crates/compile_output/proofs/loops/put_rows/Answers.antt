-- `compile_output::loops::put_rows` meets its contract: after i turns the first i rows are written.
use mathlib.Core.Path.{◌≡◌, refl, ap, ◌∙◌}
use native.Mathlib.Omega.{arith}
use Prim.Native.Nat.{ℕ}
use lib.ListN.{length, get_or, take}
use Rattle.compile_output.specs.Rows.{cursor_rows, emit_rows, fits-row, length-row, rows-cursor, rows-emitted}
use Rattle.compile_output.specs.declared.loops.Row.TheVariants.{Mark}
use Rattle.compile_output.proofs.loops.put_rows.Goals as goal

pub loop-row-init : goal.loop-row-init
unfolding cursor_rows emit_rows
loop-row-init c = (refl, refl, refl)

pub put_row-p-requires : goal.put_row-p-requires
put_row-p-requires c =
    let a = c.args in let w = c.loop-row in
    let g = c.requires in
    (g.0, g.1, g.2, g.3, g.4, rw (w.invariant.0, w.invariant.2) (fits-row a.pattern.now w.row-index (length a.pattern.now) a.depth (length a.out.now) a.cursor (omega arith) g.5))

pub loop-row-preserved : goal.loop-row-preserved
loop-row-preserved c =
    let a = c.args in let w = c.loop-row in
    let t = a.pattern.now in let ts = take a.depth a.stack.now in
    let e = c.put_row-p.ensures in let i = w.row-index in (
      e.0 ∙ rw w.invariant.0 (rows-cursor t i a.depth a.cursor),
      e.1 ∙ rw (w.invariant.0, w.invariant.1) (rows-emitted t i a.holds a.depth ts a.cell a.start a.exit a.cursor a.out.now),
      ap (length {A = ℕ}) e.1 ∙ (length-row a.holds a.depth ts a.cell a.start a.exit (get_or t i Mark) w.p w.out ∙ w.invariant.2),
    )

pub returns : goal.returns
returns c =
    let w = c.loop-row in let a = c.args in
    let e : w.row-index ≡ length a.pattern.now = omega arith in (
      w.invariant.0 ∙ ap (λ (n : ℕ). cursor_rows a.pattern.now n a.depth a.cursor) e,
      w.invariant.1 ∙ ap (λ (n : ℕ). emit_rows a.pattern.now n a.holds a.depth (take a.depth a.stack.now) a.cell a.start a.exit a.cursor a.out.now) e,
    )
