-- `machine_run::steps::run_sound` meets its contract.
use native.Mathlib.Omega.{arith}
use Rattle.machine_run.specs.Held.{since}
use Rattle.machine_run.proofs.ByteSteps.{held-long}
use Rattle.machine_run.proofs.RunLoop.{begin, ended-runs}
use Rattle.machine_run.proofs.steps.run_sound.Goals as goal

pub bounds-state-0 : goal.bounds-state-0
bounds-state-0 c =
    omega (arith, held-long c.requires.1)

pub returns-then-phase-eq-RELEASING : goal.returns-then-phase-eq-RELEASING
returns-then-phase-eq-RELEASING c =
    c.release-answer.ensures (since _ 0) (λ q. omega (arith, c.if-phase-eq-RELEASING.true)) (begin c.args.code.now c.args.readings.now _ _)

pub bounds-state-1 : goal.bounds-state-1
bounds-state-1 c =
    omega (arith, held-long c.requires.1)

pub returns : goal.returns
returns c =
    ended-runs c.args.code.now c.args.readings.now _ c.requires.2 _ c.if-phase-eq-RUNNING.false c.if-phase-eq-RELEASING.false
