-- `state_check::inspection::count_wanted` meets its contract.
use native.Mathlib.Omega.{arith}
use mathlib.Core.Path.{sym, ◌∙◌}
use Rattle.state_check.proofs.StandingLaws as law
use Rattle.state_check.proofs.inspection.count_wanted.Goals as goal

pub returns-then-not-plain : goal.returns-then-not-plain
returns-then-not-plain c =
    law.counts-not c.args.state.now c.args.plain (c.if-not-plain.true)

pub byte_at-phase-requires : goal.byte_at-phase-requires
byte_at-phase-requires c =
    omega (arith, c.requires (c.if-not-plain.false))

pub returns-then-phase-ne-RUNNING : goal.returns-then-phase-ne-RUNNING
returns-then-phase-ne-RUNNING c =
    law.counts-other c.args.state.now c.args.plain (c.if-not-plain.false) (λ z. c.if-phase-ne-RUNNING.true (c.byte_at-phase.ensures.0 ∙ z))

pub byte_at-n-requires : goal.byte_at-n-requires
byte_at-n-requires c =
    omega (arith, c.requires (c.if-not-plain.false))

pub half_at-r-requires : goal.half_at-r-requires
half_at-r-requires c =
    omega (arith, c.requires (c.if-not-plain.false))

pub returns : goal.returns
returns c =
    rw (c.byte_at-n.ensures.0, c.half_at-r.ensures.0) (law.counts-in c.args.state.now c.args.plain
    (c.if-not-plain.false) (sym c.byte_at-phase.ensures.0 ∙ c.if-phase-ne-RUNNING.false))
