-- `state_check::inspection::next_wanted` meets its contract.
use native.Mathlib.Omega.{arith}
use Rattle.state_check.proofs.StandingLaws as law
use Rattle.state_check.proofs.inspection.next_wanted.Goals as goal

pub loop-k-init : goal.loop-k-init
loop-k-init c = λ j p. absurd (omega arith)

pub loop-k-preserved : goal.loop-k-preserved
loop-k-preserved c =
    law.nearer-more c.args.of.now.state.now c.args.address
    c.loop-k.k c.loop-k.best c.nearer-best.result c.half_at-a.result
    c.loop-k.invariant c.nearer-best.ensures.0 c.nearer-best.ensures.1 c.half_at-a.ensures.0

pub returns : goal.returns
returns c = λ j p q. c.loop-k.invariant j (omega arith) q

pub overflow_mul-k : goal.overflow_mul-k
overflow_mul-k c = omega (arith, c.requires (omega arith))

pub overflow_add-k : goal.overflow_add-k
overflow_add-k c = omega (arith, c.requires (omega arith))

pub overflow_add-k-in-loop-k : goal.overflow_add-k-in-loop-k
overflow_add-k-in-loop-k c = omega (arith, c.requires (omega arith))

pub half_at-a-requires : goal.half_at-a-requires
half_at-a-requires c = omega (arith, c.requires (omega arith))
