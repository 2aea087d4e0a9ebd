-- `state_check::tests::frames_fit` meets its contract.
use native.Mathlib.Omega.{arith}
use mathlib.Core.Path.{sym}
use Rattle.state_sound.specs.Each.{each_none, each_more}
use Rattle.state_check.proofs.TestExits as law
use Rattle.state_sound.specs.Fits.{frame_fits}
use Rattle.state_check.proofs.tests.frames_fit.Goals as goal

pub loop-k-init : goal.loop-k-init
loop-k-init c = sym (each_none _)

pub frame_fits-f-requires : goal.frame_fits-f-requires
frame_fits-f-requires c = (
  c.requires.0,
  c.requires.1,
  omega arith,
)

pub loop-k-preserved : goal.loop-k-preserved
loop-k-preserved c =
    rw c.frame_fits-f.ensures
    (each_more (frame_fits c.args.at.now.code.now
    c.args.of.now.state.now c.args.of.now.records
    c.args.of.now.activations) c.loop-k.k _ c.loop-k.invariant)

pub returns : goal.returns
returns c = law.each-end _ _ _ _ c.loop-k.auto.k-end (omega arith) c.loop-k.invariant
