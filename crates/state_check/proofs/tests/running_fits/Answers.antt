-- `state_check::tests::running_fits` meets its contract.
use native.Mathlib.Omega.{arith}
use mathlib.Core.Path.{sym, ◌∙◌}
use Rattle.state_check.proofs.TestExits as law
use Rattle.state_check.proofs.tests.running_fits.Goals as goal

pub returns-then-activations-lt1 : goal.returns-then-activations-lt1
returns-then-activations-lt1 c =
    law.running-1 _ _ _ _ _ (omega arith)

pub returns-then-activations-gt-MAX_ACTIVATIONS : goal.returns-then-activations-gt-MAX_ACTIVATIONS
returns-then-activations-gt-MAX_ACTIVATIONS c =
    law.running-2 _ _ _ _ _ (omega arith) (omega arith)

pub returns-then-records-gt-MAX_RECORDS : goal.returns-then-records-gt-MAX_RECORDS
returns-then-records-gt-MAX_RECORDS c =
    law.running-3 _ _ _ _ _ (omega arith) (omega arith) (omega arith)

pub returns-then-byte_at-ne0 : goal.returns-then-byte_at-ne0
returns-then-byte_at-ne0 c =
    law.running-4 _ _ _ _ _ (omega arith) (omega arith) (omega arith) (λ z. c.if-byte_at-ne0.true (c.byte_at.ensures.0 ∙ z))

pub returns-then-open_holds-holds : goal.returns-then-open_holds-holds
returns-then-open_holds-holds c =
    law.running-5 _ _ _ _ _ (omega arith) (omega arith) (omega arith) (sym c.byte_at.ensures.0
    ∙ c.if-byte_at-ne0.false) (λ z. c.if-open_holds-holds.true (c.open_holds.ensures ∙ z))

pub returns-then-not-groups_fit : goal.returns-then-not-groups_fit
returns-then-not-groups_fit c =
    law.running-6 _ _ _ _ _ (omega arith) (omega arith) (omega arith) (sym c.byte_at.ensures.0 ∙ c.if-byte_at-ne0.false)
    (sym c.open_holds.ensures ∙ c.if-open_holds-holds.false) (sym c.groups_fit.ensures ∙ c.if-not-groups_fit.true)

pub returns-then-not-records_fit : goal.returns-then-not-records_fit
returns-then-not-records_fit c =
    law.running-7 _ _ _ _ _ (omega arith) (omega arith) (omega arith) (sym c.byte_at.ensures.0 ∙ c.if-byte_at-ne0.false)
    (sym c.open_holds.ensures ∙ c.if-open_holds-holds.false)
    (sym c.groups_fit.ensures ∙ c.if-not-groups_fit.false)
    (sym c.records_fit.ensures ∙ c.if-not-records_fit.true)

pub returns : goal.returns
returns c =
    c.frames_fit.ensures ∙ law.running-8 _ _ _ _ _ (omega arith) (omega arith) (omega arith)
    (sym c.byte_at.ensures.0 ∙ c.if-byte_at-ne0.false) (sym c.open_holds.ensures ∙ c.if-open_holds-holds.false)
    (sym c.groups_fit.ensures ∙ c.if-not-groups_fit.false)
    (sym c.records_fit.ensures ∙ c.if-not-records_fit.false)
