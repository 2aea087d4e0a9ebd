-- `compile_output::loops::enter_turns` meets its contract: the rows of its pattern come to the code.
use mathlib.Core.Path.{◌∙◌}
use native.Mathlib.Omega.{arith}
use lib.ListN.{length}
use Rattle.compile_code.specs.Compile.{code_entered}
use Rattle.compile_output.specs.EmitCode.{address-small}
use Rattle.compile_output.specs.LoopRows.{entered-after, entered-written}
use Rattle.compile_output.proofs.loops.enter_turns.Goals as goal

pub overflow_cast-cursor : goal.overflow_cast-cursor
overflow_cast-cursor c =
    let a = c.args in let f = c.requires.4 in
    let s = address-small (code_entered a.cell a.cursor.address a.exit f.0) a.cursor (length a.out.now) f.2 in omega (arith, s)

pub put_rows-requires : goal.put_rows-requires
put_rows-requires c =
    let a = c.args in let g = c.requires in let f = g.4 in (
      g.0,
      address-small (code_entered a.cell a.cursor.address a.exit f.0) a.cursor (length a.out.now) f.2,
      g.1,
      g.2,
      g.3,
      rw (entered-after f.1 a.cell a.cursor.address a.exit a.cursor) f.2,
    )

pub returns : goal.returns
returns c = λ s k.
    let a = c.args in let e = c.put_rows.ensures in
    (e.0 ∙ entered-after k a.cell a.cursor.address a.exit a.cursor, e.1 ∙ entered-written k a.cell a.cursor.address a.exit a.cursor a.out.now)
