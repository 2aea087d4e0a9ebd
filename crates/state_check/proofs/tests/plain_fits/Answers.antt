-- `state_check::tests::plain_fits` meets its contract.
use mathlib.Core.Path.{sym, ◌∙◌}
use Rattle.state_check.proofs.TestExits as law
use Rattle.state_check.proofs.tests.plain_fits.Goals as goal

pub returns-then-phase-eq-RUNNING : goal.returns-then-phase-eq-RUNNING
returns-then-phase-eq-RUNNING c =
    c.running_fits.ensures ∙ rw (c.half_at-h.ensures.0, c.half_at-r.ensures.0, c.byte_at-n.ensures.0)
    (law.plain-running _ _ (sym c.byte_at-phase.ensures.0 ∙ c.if-phase-eq-RUNNING.true))

pub returns-then-is_condition : goal.returns-then-is_condition
returns-then-is_condition c =
    c.groups_fit.ensures ∙ rw c.half_at-h.ensures.0 (law.plain-releasing _ _
    (λ z. c.if-phase-eq-RUNNING.false (c.byte_at-phase.ensures.0 ∙ z)) (sym c.byte_at-phase.ensures.0 ∙ c.if-phase-eq-RELEASING.true)
    (sym c.is_condition.ensures ∙ c.if-is_condition.true))

pub returns-else-is_condition : goal.returns-else-is_condition
returns-else-is_condition c =
    c.if-is_condition.false ∙ law.plain_other _ _ (λ z. c.if-phase-eq-RUNNING.false (c.byte_at-phase.ensures.0 ∙ z))
    (sym c.byte_at-phase.ensures.0 ∙ c.if-phase-eq-RELEASING.true) (sym c.is_condition.ensures ∙ c.if-is_condition.false)

pub returns-then-phase-eq-ENDED : goal.returns-then-phase-eq-ENDED
returns-then-phase-eq-ENDED c =
    c.is_end.ensures ∙ law.plain-ended _ _ (λ z. c.if-phase-eq-RUNNING.false (c.byte_at-phase.ensures.0 ∙ z))
    (λ z. c.if-phase-eq-RELEASING.false (c.byte_at-phase.ensures.0 ∙ z)) (sym c.byte_at-phase.ensures.0 ∙ c.if-phase-eq-ENDED.true)

pub returns : goal.returns
returns c =
    law.plain-none _ _ (λ z. c.if-phase-eq-RUNNING.false (c.byte_at-phase.ensures.0 ∙ z))
    (λ z. c.if-phase-eq-RELEASING.false (c.byte_at-phase.ensures.0 ∙ z)) (λ z. c.if-phase-eq-ENDED.false (c.byte_at-phase.ensures.0 ∙ z))
