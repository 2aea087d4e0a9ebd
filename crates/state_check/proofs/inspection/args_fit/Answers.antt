-- `state_check::inspection::args_fit` meets its contract.
use native.Mathlib.Omega.{arith}
use mathlib.Core.Path.{ap, ◌∙◌}
use Prim.Native.Nat.{◌+◌}
use Rattle.state_check.proofs.StandingLaws as law
use Rattle.load_places.specs.Records.{body_place}
use Rattle.state_check.proofs.inspection.args_fit.Goals as goal

pub returns-then-of-j : goal.returns-then-of-j
returns-then-of-j c =
    law.args-top _ _ _ _ _ _ _ c.if-of-j.true

pub body_at-q-requires : goal.body_at-q-requires
body_at-q-requires c = (
  c.requires.0.0.bodied,
  omega (
    arith,
    c.requires.1.of-bodies (c.args.k + 1) (omega arith),
  ),
)

pub returns-then-operands-t : goal.returns-then-operands-t
returns-then-operands-t c =
    law.args-off _ _ _ _ _ _ _ (omega arith) c.body_at-q.result
    (c.body_at-q.ensures.is ∙ ap (body_place c.args.at.now.code.now) c.byte_at-b.ensures.0)
    (λ z. c.if-operands-t.true (omega arith))

pub returns : goal.returns
returns c =
    c.same_row.ensures ∙ rw c.byte_at-t.ensures.0
    (law.args_row _ _ _ _ _ _ _ (omega arith) c.body_at-q.result
    (c.body_at-q.ensures.is ∙ ap (body_place c.args.at.now.code.now) c.byte_at-b.ensures.0) (omega arith))
