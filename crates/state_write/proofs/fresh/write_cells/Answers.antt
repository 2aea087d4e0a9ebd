-- `state_write::fresh::write_cells` meets its contract.
use native.Mathlib.Omega.{arith}
use mathlib.Core.Path.{◌≡◌, sym, ap, ◌∙◌}
use Prim.Native.Nat.{ℕ}
use lib.ListN.{length}
use Rattle.bytecode.specs.State.{encode}
use Rattle.bytecode_layout.specs.Parts.{length-encode}
use Rattle.state_write.specs.Fresh.{fresh_with, fresh-next}
use Rattle.state_write.proofs.fresh.write_cells.Goals as goal

pub loop-j-init : goal.loop-j-init
loop-j-init c = c.requires.3

pub write_cell-requires : goal.write_cell-requires
write_cell-requires c = (ap length c.loop-j.invariant ∙ length-encode _, omega arith)

pub loop-j-preserved : goal.loop-j-preserved
loop-j-preserved c =
    c.write_cell.ensures ∙ rw c.loop-j.invariant
    (fresh-next c.args.code.now
    c.args.place
    c.args.count c.loop-j.j
    c.requires.2 (omega arith)
    c.requires.1)

pub shape_of-state : goal.shape_of-state
shape_of-state c =
    ap length c.loop-j.invariant ∙ length-encode _ ∙ sym (ap length c.requires.3 ∙ length-encode _)

pub returns : goal.returns
returns c =
    c.loop-j.invariant ∙ ap (λ (k : ℕ). encode (fresh_with c.args.code.now c.args.place k)) (let z : c.loop-j.j ≡ c.args.count = omega arith in z)
