-- `state_check::tests::frame_fits` meets its contract.
use native.Mathlib.Omega.{arith}
use mathlib.Core.Path.{sym, ap, ◌∙◌}
use Rattle.state_check.proofs.TestExits as law
use Rattle.load_places.specs.Records.{body_place}
use Rattle.load_check.specs.Lookups.{head_of}
use Rattle.state_check.proofs.tests.frame_fits.Goals as goal

pub byte_at-m-requires : goal.byte_at-m-requires
byte_at-m-requires c = omega (arith, (head_of _ c.requires.0.0.bodied.well).bytes)

pub returns-then-m-b : goal.returns-then-m-b
returns-then-m-b c = law.frame-1 _ _ _ _ _ (omega arith)

pub returns-then-cells-gt-MAX_CELLS : goal.returns-then-cells-gt-MAX_CELLS
returns-then-cells-gt-MAX_CELLS c = law.frame-2 _ _ _ _ _ (omega arith) _ (c.body_at-q.ensures.is ∙ ap (body_place c.args.at.now.code.now) c.byte_at-b.ensures.0) (omega arith)

pub returns-then-depth-gt-MAX_OPERANDS : goal.returns-then-depth-gt-MAX_OPERANDS
returns-then-depth-gt-MAX_OPERANDS c =
    law.frame-3 _ _ _ _ _ (omega arith) _
    (c.body_at-q.ensures.is ∙ ap (body_place c.args.at.now.code.now) c.byte_at-b.ensures.0) (omega arith) (omega arith)

pub returns-then-open-gt-MAX_HOLDS : goal.returns-then-open-gt-MAX_HOLDS
returns-then-open-gt-MAX_HOLDS c =
    law.frame-4 _ _ _ _ _ (omega arith) _
    (c.body_at-q.ensures.is ∙ ap (body_place c.args.at.now.code.now) c.byte_at-b.ensures.0) (omega arith) (omega arith) (omega arith)

pub returns-then-count-i : goal.returns-then-count-i
returns-then-count-i c =
    law.frame-5 _ _ _ _ _ (omega arith) _
    (c.body_at-q.ensures.is ∙ ap (body_place c.args.at.now.code.now) c.byte_at-b.ensures.0) (omega arith) (omega arith) (omega arith) (omega arith)

pub calls_next-requires : goal.calls_next-requires
calls_next-requires c = (
  c.requires.0,
  c.requires.1,
  c.requires.2,
  omega arith,
)

pub returns-then-not-calls_next : goal.returns-then-not-calls_next
returns-then-not-calls_next c =
    law.frame-6 _ _ _ _ _ (omega arith) _ (c.body_at-q.ensures.is ∙ ap (body_place c.args.at.now.code.now) c.byte_at-b.ensures.0)
    (omega arith) (omega arith) (omega arith) (omega arith) (sym c.calls_next.ensures ∙ c.if-not-calls_next.true)

pub row_fits-requires : goal.row_fits-requires
row_fits-requires c = (
  (head_of _ c.requires.0.0.bodied.well).bytes,
  c.requires.1,
  omega (arith, c.body_at-q.ensures.inside),
  omega arith,
  omega arith,
)

pub returns : goal.returns
returns c =
    c.row_fits.ensures ∙ rw c.byte_at-cells.ensures.0
    (law.frame-7 _ _ _ _ _ (omega arith) _ (c.body_at-q.ensures.is ∙ ap (body_place c.args.at.now.code.now) c.byte_at-b.ensures.0)
    (omega arith) (omega arith) (omega arith) (omega arith) (sym c.calls_next.ensures ∙ c.if-not-calls_next.false))
