-- `state_check::tests::groups_fit` meets its contract.
use native.Mathlib.Omega.{arith}
use mathlib.Core.Path.{sym}
use Rattle.state_sound.specs.Each.{each_none, each_more}
use Rattle.state_check.proofs.TestExits as law
use Rattle.state_check.proofs.tests.groups_fit.Goals as goal

pub returns-then-holds-gt-MAX_OPEN_HOLDS : goal.returns-then-holds-gt-MAX_OPEN_HOLDS
returns-then-holds-gt-MAX_OPEN_HOLDS c = law.groups-over _ _ c.if-holds-gt-MAX_OPEN_HOLDS.true

pub loop-j-init : goal.loop-j-init
loop-j-init c = sym (each_none _)

pub loop-j-preserved : goal.loop-j-preserved
loop-j-preserved c =
    rw c.byte_at.ensures.0
    (each_more (law.group_at c.args.state.now) c.loop-j.j _
    c.loop-j.invariant)

pub returns : goal.returns
returns c = law.groups-is _ _ (omega arith) _ _ c.loop-j.auto.j-end (omega arith) c.loop-j.invariant
