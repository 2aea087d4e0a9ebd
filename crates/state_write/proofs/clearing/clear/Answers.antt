-- `state_write::clearing::clear` meets its contract.
use native.Mathlib.Omega.{arith}
use mathlib.Core.Path.{sym, ◌∙◌}
use Rattle.state_write.proofs.ClearingLaws as law
use Rattle.state_write.proofs.clearing.clear.Goals as goal

pub byte_at-phase-requires : goal.byte_at-phase-requires
byte_at-phase-requires c =
    let e = law.long _ _ (λ i. (c.slice_known-1.given i).fits) c.requires.0 in omega (arith, e)

pub clear_running-requires : goal.clear_running-requires
clear_running-requires c = (
  c.requires.1,
  c.requires.2,
  law.long _ _ (λ i. (c.slice_known-1.given i).fits) c.requires.0,
  law.uncleared _ _ (λ i. (c.slice_known-1.given i).fits) c.requires.0 (sym c.byte_at-phase.ensures.0 ∙ c.if-phase-eq-RUNNING.true),
)

pub returns-then-phase-eq-RUNNING : goal.returns-then-phase-eq-RUNNING
returns-then-phase-eq-RUNNING c =
    law.encodes _ _ _ (λ i. (c.shared_slice_known-1.given i).fits) (λ i. (c.slice_known-1.given i).fits)
    (c.clear_running.ensures ∙ law.as-running _ _ (sym c.byte_at-phase.ensures.0 ∙ c.if-phase-eq-RUNNING.true))

pub clear_releasing-requires : goal.clear_releasing-requires
clear_releasing-requires c =
    law.long _ _ (λ i. (c.slice_known-1.given i).fits) c.requires.0

pub returns-then-phase-eq-RELEASING : goal.returns-then-phase-eq-RELEASING
returns-then-phase-eq-RELEASING c =
    law.encodes _ _ _ (λ i. (c.shared_slice_known-1.given i).fits) (λ i. (c.slice_known-1.given i).fits)
    (c.clear_releasing.ensures ∙ law.as-releasing _ _ (λ e. c.if-phase-eq-RUNNING.false (c.byte_at-phase.ensures.0 ∙ e))
    (sym c.byte_at-phase.ensures.0 ∙ c.if-phase-eq-RELEASING.true))

pub wipe-requires : goal.wipe-requires
wipe-requires c = (
  law.long _ _ (λ i. (c.slice_known-1.given i).fits)
      c.requires.0,
  omega arith,
  omega arith,
)

pub returns : goal.returns
returns c =
    law.encodes _ _ _ (λ i. (c.shared_slice_known-1.given i).fits) (λ i. (c.slice_known-1.given i).fits)
    (c.wipe.ensures ∙ law.as-ended _ _ (λ e. c.if-phase-eq-RUNNING.false (c.byte_at-phase.ensures.0 ∙ e))
    (λ e. c.if-phase-eq-RELEASING.false (c.byte_at-phase.ensures.0 ∙ e)))
