-- `load_rules::ops::op_call` meets its contract.
use native.Mathlib.Omega.{arith}
use mathlib.Core.Path.{◌∙◌}
use borrow.Author.Tests.{eq-eqb, ne_eqb}
use Rattle.load_places.specs.Rules.{op_call}
use Rattle.load_records.proofs.Known.{head_of}
use Rattle.load_rules.proofs.Calls.{call-over, call-plain, call-pushes}
use Rattle.load_rules.proofs.ops.op_call.Goals as goal

pub returns-then-a-ne0 : goal.returns-then-a-ne0
unfolding op_call
returns-then-a-ne0 c = (simp (ne_eqb _ _ c.if-a-ne0.true), tt)

pub returns-then-b-eq0 : goal.returns-then-b-eq0
unfolding op_call
returns-then-b-eq0 c = (simp (eq-eqb _ _ c.if-a-ne0.false, eq-eqb _ _ c.if-b-eq0.true), tt)

pub byte_at-m-requires : goal.byte_at-m-requires
byte_at-m-requires c =
    omega (arith, (head_of _ c.requires.0.well).bytes)

pub returns-then-m-b : goal.returns-then-m-b
returns-then-m-b c = (call-over _ _ _ _ _ c.if-a-ne0.false c.if-b-eq0.false (omega arith), tt)

pub returns-then-t-eq0 : goal.returns-then-t-eq0
returns-then-t-eq0 c =
    rw c.rebuilt.ensures (
      call-plain _ _ _ _ _ c.if-a-ne0.false
          c.if-b-eq0.false (omega arith) _
          c.body_at-q.ensures.is _ c.byte_at-n.ensures.0 _
          c.take_types-f.ensures.0 c.if-t-eq0.true,
      c.take_types-f.ensures.1,
    )

pub returns : goal.returns
returns c = (
  c.push_after.ensures.0 ∙ call-pushes _ _ _ _ _
      c.if-a-ne0.false
      c.if-b-eq0.false (omega arith) _
      c.body_at-q.ensures.is _
      c.byte_at-n.ensures.0 _
      c.take_types-f.ensures.0 c.if-t-eq0.false,
  c.push_after.ensures.1,
)
