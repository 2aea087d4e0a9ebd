-- `state_check::tests::record_fits` meets its contract.
use native.Mathlib.Omega.{arith}
use mathlib.Core.Path.{ap, ◌∙◌}
use Rattle.state_check.proofs.TestExits as law
use Rattle.load_places.specs.Records.{class_place}
use Rattle.load_check.specs.Lookups.{head_of}
use Rattle.state_check.proofs.tests.record_fits.Goals as goal

pub byte_at-n-requires : goal.byte_at-n-requires
byte_at-n-requires c =
    omega (arith, (head_of _ c.requires.0.0.classed.well).bytes)

pub returns-then-n-a : goal.returns-then-n-a
returns-then-n-a c =
    law.record-none _ _ _ _ (omega arith)

pub row_fits-requires : goal.row_fits-requires
row_fits-requires c =
    let h = (head_of _ c.requires.0.0.classed.well).bytes in
    let w = law.few-fields _ _ _ _ c.requires.0.0.classed.well (omega arith)
    c.class_at-q.ensures.is c.byte_at-f.ensures.0 in (
      h,
      c.requires.1,
      omega (arith, c.class_at-q.ensures.inside),
      omega arith,
      omega arith,
    )

pub returns : goal.returns
returns c =
    c.row_fits.ensures ∙ rw c.byte_at-f.ensures.0 (law.record-row _ _ _ _ c.class_at-q.result
    (c.class_at-q.ensures.is ∙ ap (class_place c.args.at.now.code.now) c.byte_at-a.ensures.0) (omega arith))
