-- `state_check::tests::row_fits` meets its contract.
use native.Mathlib.Omega.{arith}
use mathlib.Core.Path.{sym}
use Rattle.state_sound.specs.Each.{each_none, each_more}
use Rattle.state_check.proofs.TestExits as law
use Rattle.state_check.proofs.tests.row_fits.Goals as goal

pub loop-j-init : goal.loop-j-init
loop-j-init c = sym (each_none _)

pub value_fits-f-requires : goal.value_fits-f-requires
value_fits-f-requires c =
    (c.requires.0, c.requires.1)

pub loop-j-preserved : goal.loop-j-preserved
loop-j-preserved c =
    rw (
      c.value_fits-f.ensures,
      c.word_at-v.ensures.0,
      c.byte_at-b.ensures.0,
      c.byte_at-a.ensures.0,
    ) (each_more
    (law.fits_at c.args.code.now
    c.args.of.now.state.now
    c.args.of.now.records
    c.args.row.now
    c.args.place
    c.args.t
    c.args.w) _ _
    c.loop-j.invariant)

pub returns : goal.returns
returns c = law.row_is _ _ _ _ _ _ _ _ _ _ c.loop-j.auto.j-end (omega arith) c.loop-j.invariant
