-- `state_check::inspection::stands_at` meets its contract.
use native.Mathlib.Omega.{arith}
use mathlib.Core.Path.{sym, ap, ◌∙◌}
use Prim.Native.Nat.{ℕ}
use Rattle.state_check.proofs.StandingLaws as law
use Rattle.load_check.specs.Lookups.{head_of}
use Rattle.state_check.specs.Tested.{args_fit}
use Rattle.state_check.proofs.inspection.stands_at.Goals as goal

pub returns-then-o-body : goal.returns-then-o-body
returns-then-o-body c =
    law.stands-1 _ _ _ _ _ _ _ _ _ (λ z. c.if-o-body.true (c.byte_at-o.ensures.0 ∙ z))

pub returns-then-g-holds : goal.returns-then-g-holds
returns-then-g-holds c =
    law.stands-2 _ _ _ _ _ _ _ _ _ (sym c.byte_at-o.ensures.0 ∙ c.if-o-body.false) (λ z. c.if-g-holds.true (c.byte_at-g.ensures.0 ∙ z))

pub returns-then-not-args_fit : goal.returns-then-not-args_fit
returns-then-not-args_fit c =
    law.stands-3 _ _ _ _ _ _ _ _ _ (sym c.byte_at-o.ensures.0 ∙ c.if-o-body.false)
    (sym c.byte_at-g.ensures.0 ∙ c.if-g-holds.false)
    (sym (ap (λ (x : ℕ). args_fit c.args.at.now.code.now c.args.of.now.state.now c.args.of.now.activations c.args.k
    c.args.stack.now x c.args.depth) c.byte_at-a.ensures.0) ∙ sym c.args_fit.ensures
    ∙ c.if-not-args_fit.true)

pub row_fits-requires : goal.row_fits-requires
row_fits-requires c =
    let w = law.args-few _ _
    _ _
    _ c.byte_at-a.result
    c.args.depth
    (sym c.args_fit.ensures ∙ c.if-not-args_fit.false) in (
      (head_of _ c.requires.0.0.bodied.well).bytes,
      c.requires.1.long,
      omega arith,
      omega arith,
      omega arith,
    )

pub returns : goal.returns
returns c =
    c.row_fits.ensures ∙ rw c.byte_at-a.ensures.0 (law.stands-4 _ _ _ _ _ _ _ _ _
    (sym c.byte_at-o.ensures.0 ∙ c.if-o-body.false) (sym c.byte_at-g.ensures.0 ∙ c.if-g-holds.false)
    (sym (ap (λ (x : ℕ). args_fit c.args.at.now.code.now c.args.of.now.state.now c.args.of.now.activations c.args.k
    c.args.stack.now x c.args.depth) c.byte_at-a.ensures.0) ∙ sym c.args_fit.ensures
    ∙ c.if-not-args_fit.false))
