-- `state_check::inspection::same_row` meets its contract.
use native.Mathlib.Omega.{arith}
use mathlib.Core.Path.{sym}
use Rattle.state_sound.specs.Each.{each_none, each_more}
use Rattle.state_check.proofs.TestExits.{each-end}
use Rattle.state_check.proofs.TypeRows.{same_at}
use Rattle.state_check.proofs.inspection.same_row.Goals as goal

pub loop-j-init : goal.loop-j-init
loop-j-init c = sym (each_none _)

pub loop-j-preserved : goal.loop-j-preserved
loop-j-preserved c =
    rw (c.byte_at-b.ensures.0, c.byte_at-a.ensures.0)
    (each_more (same_at c.args.code.now
    c.args.row.now c.args.place
    c.args.from) c.loop-j.j _
    c.loop-j.invariant)

pub returns : goal.returns
returns c = each-end _ _ _ _ c.loop-j.auto.j-end (omega arith) c.loop-j.invariant
