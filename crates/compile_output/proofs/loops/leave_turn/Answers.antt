-- `compile_output::loops::leave_turn` meets its contract: the rows of its pattern come to the code.
use mathlib.Core.Path.{◌∙◌}
use Rattle.compile_output.specs.LoopRows.{turned-after, turned-written}
use Rattle.compile_output.proofs.loops.leave_turn.Goals as goal

pub put_rows-requires : goal.put_rows-requires
put_rows-requires c =
    let a = c.args in let g = c.requires in let f = g.5 in
    (g.0, g.1, g.2, g.3, g.4, rw (turned-after f.1 a.cell a.began a.exit a.cursor) f.2)

pub returns : goal.returns
returns c = λ s k.
    let a = c.args in let e = c.put_rows.ensures in
    (e.0 ∙ turned-after k a.cell a.began a.exit a.cursor, e.1 ∙ turned-written k a.cell a.began a.exit a.cursor a.out.now)
