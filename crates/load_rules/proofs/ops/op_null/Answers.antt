-- `load_rules::ops::op_null` meets its contract.
use native.Mathlib.Omega.{arith}
use mathlib.Core.Path.{◌∙◌}
use borrow.Author.Tests.{ne_eqb}
use Rattle.load_places.specs.Rules.{op_null}
use Rattle.load_records.proofs.Known.{head_of}
use Rattle.load_rules.proofs.Cells.{null-over, null-goes}
use Rattle.load_rules.proofs.ops.op_null.Goals as goal

pub returns-then-b-ne0 : goal.returns-then-b-ne0
unfolding op_null
returns-then-b-ne0 c = (simp (ne_eqb _ _ c.if-b-ne0.true), tt)

pub byte_at-n-requires : goal.byte_at-n-requires
byte_at-n-requires c = omega (arith, (head_of _ c.requires.0).bytes)

pub returns-then-n-a : goal.returns-then-n-a
returns-then-n-a c = (null-over _ _ _ _ _ c.if-b-ne0.false (omega arith), tt)

pub class_type-requires : goal.class_type-requires
class_type-requires c =
    omega (arith, (head_of _ c.requires.0).few-classes)

pub returns : goal.returns
returns c = (
  c.push_type.ensures.0 ∙ null-goes _ _ _ _ _ c.if-b-ne0.false
      (omega arith) _ c.class_type.ensures,
  c.push_type.ensures.1,
)
