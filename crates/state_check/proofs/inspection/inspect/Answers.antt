-- `state_check::inspection::inspect` meets its contract.
use native.Mathlib.Omega.{arith}
use mathlib.Core.Path.{sym, ◌∙◌}
use Rattle.load_check.specs.Walk as rule
use Rattle.load_check.specs.Lookups.{head-known}
use Rattle.state_check.proofs.InspectionTells as telling
use Rattle.state_check.proofs.inspection.inspect.Goals as goal

pub returns-then-bad_head : goal.returns-then-bad_head
returns-then-bad_head c =
    telling.refuses _ c.args.state.now 8 0 (sym (rule.judge-head _ (sym c.bad_head.ensures ∙ c.if-bad_head.true)))

pub half_at-instructions-requires : goal.half_at-instructions-requires
half_at-instructions-requires c = omega (arith, (head-known _ (sym c.bad_head.ensures ∙ c.if-bad_head.false)).bytes)

pub inspect_in-requires : goal.inspect_in-requires
inspect_in-requires c = (
  sym c.bad_head.ensures ∙ c.if-bad_head.false,
  c.half_at-instructions.ensures.0,
  rule.zeros-long _ 64 (omega (arith, c.half_at-instructions.ensures.1)),
  c.requires.0,
  c.requires.1,
  rule.zeros-index _ 64 _,
)

pub inspect_in-requires-then-instructions-le8192 : goal.inspect_in-requires-then-instructions-le8192
inspect_in-requires-then-instructions-le8192 c = (
  sym c.bad_head.ensures ∙ c.if-bad_head.false,
  c.half_at-instructions.ensures.0,
  rule.zeros-long _ 1024 (omega (arith, c.half_at-instructions.ensures.1)),
  c.requires.0,
  c.requires.1,
  rule.zeros-index _ 1024 _,
)

pub inspect_in-requires-2 : goal.inspect_in-requires-2
inspect_in-requires-2 c = (
  sym c.bad_head.ensures ∙ c.if-bad_head.false,
  c.half_at-instructions.ensures.0,
  rule.zeros-long _ 8192 (omega (arith, c.half_at-instructions.ensures.1)),
  c.requires.0,
  c.requires.1,
  rule.zeros-index _ 8192 _,
)

pub returns-then-instructions-le512 : goal.returns-then-instructions-le512
returns-then-instructions-le512 c =
    telling.told _ _ (λ i. (c.shared_slice_known-2-1.given i).fits) _ _ c.inspect_in.result c.inspect_in.ensures

pub returns-then-instructions-le8192 : goal.returns-then-instructions-le8192
returns-then-instructions-le8192 c =
    telling.told _ _ (λ i. (c.shared_slice_known-2-1.given i).fits) _ _ c.inspect_in-then-instructions-le8192.result c.inspect_in-then-instructions-le8192.ensures

pub returns : goal.returns
returns c =
    telling.told _ _ (λ i. (c.shared_slice_known-2-1.given i).fits) _ _ c.inspect_in-2.result c.inspect_in-2.ensures
