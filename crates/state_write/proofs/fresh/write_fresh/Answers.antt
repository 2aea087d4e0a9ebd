-- `state_write::fresh::write_fresh` meets its contract.
use mathlib.Core.Path.{sym, ap, ◌∙◌}
use lib.ListN.{length}
use Rattle.bytecode_layout.specs.Parts.{length-encode}
use Rattle.state_write.specs.Fresh.{fresh-none}
use Rattle.state_write.proofs.fresh.write_fresh.Goals as goal

pub write_cells-requires : goal.write_cells-requires
write_cells-requires c =
    (c.requires.0, c.requires.1, c.requires.2, rw c.clear_all.ensures (fresh-none c.args.code.now c.args.place))

pub shape_of-state : goal.shape_of-state
shape_of-state c =
    ap length c.write_cells.ensures ∙ length-encode _ ∙ sym c.requires.3
