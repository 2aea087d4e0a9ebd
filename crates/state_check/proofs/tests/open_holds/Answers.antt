-- `state_check::tests::open_holds` meets its contract.
use native.Mathlib.Omega.{arith}
use Rattle.state_check.proofs.TestExits as law
use Rattle.state_check.proofs.tests.open_holds.Goals as goal

pub loop-k-init : goal.loop-k-init
loop-k-init c = (law.held_none _, omega arith)

pub loop-k-preserved : goal.loop-k-preserved
loop-k-preserved c = (rw c.byte_at-sum.ensures.0 (law.held_more _ _ _ c.loop-k.invariant.0), omega arith)

pub returns : goal.returns
returns c = law.held-end _ _ _ _ c.loop-k.auto.k-end (omega arith) c.loop-k.invariant.0
