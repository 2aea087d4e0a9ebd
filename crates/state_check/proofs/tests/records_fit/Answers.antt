-- `state_check::tests::records_fit` meets its contract.
use native.Mathlib.Omega.{arith}
use mathlib.Core.Path.{sym}
use Rattle.state_sound.specs.Each.{each_none, each_more}
use Rattle.state_check.proofs.TestExits as law
use Rattle.state_sound.specs.Fits.{record_fits}
use Rattle.state_check.proofs.tests.records_fit.Goals as goal

pub loop-k-init : goal.loop-k-init
loop-k-init c = sym (each_none _)

pub record_fits-f-requires : goal.record_fits-f-requires
record_fits-f-requires c =
    (c.requires.0, c.requires.1, omega (arith, c.args.of.now.small))

pub loop-k-preserved : goal.loop-k-preserved
loop-k-preserved c =
    rw c.record_fits-f.ensures
    (each_more (record_fits c.args.at.now.code.now
    c.args.of.now.state.now c.args.of.now.records)
    c.loop-k.k _ c.loop-k.invariant)

pub returns : goal.returns
returns c = law.each-end _ _ _ _ c.loop-k.auto.k-end (omega arith) c.loop-k.invariant
