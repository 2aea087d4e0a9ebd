-- `machine_run::steps::release` meets its contract.
use native.Mathlib.Omega.{arith}
use mathlib.Core.Path.{refl}
use Rattle.machine_run.proofs.ByteSteps.{held-long, few-open, releasing-ends, releasing-gives}
use Rattle.machine_run.proofs.RunLoop.{gave, finished, spent}
use Rattle.machine_run.proofs.steps.release.Goals as goal

pub returns-then-allowance-taken : goal.returns-then-allowance-taken
returns-then-allowance-taken c =
    λ b alive R. spent c.args.code.now c.args.readings.now _ b _ _ c.requires.2 alive (omega (arith, c.requires.3)) R

pub half_at-h-requires : goal.half_at-h-requires
half_at-h-requires c =
    omega (arith, held-long c.requires.0)

pub bounds-state-1 : goal.bounds-state-1
bounds-state-1 c =
    omega (arith, held-long c.requires.0)

pub put_byte-requires : goal.put_byte-requires
put_byte-requires c =
    omega (arith, held-long c.requires.0)

pub returns-then-h-eq0 : goal.returns-then-h-eq0
returns-then-h-eq0 c =
    λ b alive R. finished c.args.code.now c.args.readings.now _ _ _
    (λ k. omega (arith, c.shared_slice_known-2-1.given k))
    (releasing-ends c.args.code.now _ c.args.readings.now _ _ _ 0 c.requires.1 c.half_at-h.ensures
    c.if-h-eq0.true c.put_byte.ensures refl) _ _ b (omega arith) R c.requires.2 alive _ refl

pub bounds-state-h : goal.bounds-state-h
bounds-state-h c =
    omega (arith, held-long c.requires.0, c.half_at-h.ensures, few-open _ _ c.requires.0 c.requires.1)

pub release-requires : goal.release-requires
release-requires c =
    (held-long c.requires.0, omega (arith, c.half_at-h.ensures, few-open _ _ c.requires.0 c.requires.1))

pub returns : goal.returns
returns c =
    λ b alive R. gave c.args.code.now
    c.args.readings.now _ _ _
    (λ k. omega (arith, c.shared_slice_known-2-1.given k))
    (releasing-gives c.args.code.now _
    c.args.readings.now _ _ _
    c.requires.1
    c.half_at-h.ensures c.if-h-eq0.false
    (omega (
      arith,
      c.half_at-h.ensures,
      few-open _ _ c.requires.0
          c.requires.1,
    )) refl
    c.release.ensures) _ _ b (omega arith) R c.requires.2
    alive _ refl
