-- `state_check::tests::points_to` meets its contract.
use Rattle.state_check.proofs.TestExits as law
use Rattle.state_check.proofs.tests.points_to.Goals as goal

pub returns-then-w-eq0 : goal.returns-then-w-eq0
returns-then-w-eq0 c = law.points-null _ _ _ _ c.if-w-eq0.true

pub returns-then-of-k : goal.returns-then-of-k
returns-then-of-k c = law.points-past _ _ _ _ c.if-w-eq0.false c.if-of-k.true

pub returns : goal.returns
returns c = rw c.byte_at.ensures.0 (law.points-made _ _ _ _ c.if-w-eq0.false c.if-of-k.false)
