-- `load_rules::ops::field_type` meets its contract.
use native.Mathlib.Omega.{arith}
use Rattle.load_records.proofs.Known.{head_of}
use Rattle.load_rules.proofs.Fields.{field-none, field-over, field-there}
use Rattle.load_rules.proofs.ops.field_type.Goals as goal

pub byte_at-n-requires : goal.byte_at-n-requires
byte_at-n-requires c = omega (arith, (head_of _ c.requires.well).bytes)

pub returns-then-n-a-clause-field : goal.returns-then-n-a-clause-field
returns-then-n-a-clause-field c = field-none _ _ _ _ c.byte_at-n.ensures.0 c.if-n-a.true

pub returns-then-m-b-clause-field : goal.returns-then-m-b-clause-field
returns-then-m-b-clause-field c =
    field-over _ _ _ _ c.byte_at-n.ensures.0 c.if-n-a.false _ c.class_at-q.ensures.is _ c.byte_at-m.ensures.0 c.if-m-b.true

pub returns-clause-field : goal.returns-clause-field
returns-clause-field c =
    field-there _ _ _ _ c.byte_at-n.ensures.0 c.if-n-a.false _ c.class_at-q.ensures.is _ c.byte_at-m.ensures.0 c.if-m-b.false

pub returns-clause-few : goal.returns-clause-few
returns-clause-few c = λ e. omega (arith, (head_of _ c.requires.well).few-classes, c.byte_at-n.ensures.0, c.if-n-a.false)
