-- `load_rules::ops::cell_type` meets its contract.
use Rattle.load_rules.proofs.Cells.{cell-far, cell-over, cell-there}
use Rattle.load_rules.proofs.ops.cell_type.Goals as goal

pub returns-then-a-ge2 : goal.returns-then-a-ge2
returns-then-a-ge2 c = cell-far _ _ _ _ c.if-a-ge2.true

pub returns-then-c-b : goal.returns-then-c-b
returns-then-c-b c =
    cell-over _ _ _ _ c.if-a-ge2.false _ c.owner_body-o.ensures _ c.body_at-q.ensures.is _ c.byte_at-c.ensures.0 c.if-c-b.true

pub returns : goal.returns
returns c =
    cell-there _ _ _ _ c.if-a-ge2.false _ c.owner_body-o.ensures _ c.body_at-q.ensures.is _ c.byte_at-c.ensures.0 c.if-c-b.false
