-- `machine_ops::operators::unary` meets its contract.
use Rattle.machine_ops.proofs.OperatorSays.{held, works-negate, works-absolute, works-not-logical, works-not-bits}
use Rattle.machine_ops.proofs.operators.unary.Goals as goal

pub returns-then-t-eq-TYPE_LOGICAL : goal.returns-then-t-eq-TYPE_LOGICAL
returns-then-t-eq-TYPE_LOGICAL c =
    works-not-logical c.args.op c.args.t c.args.x _ c.in_default.in_default-own.rest.0.1 c.in_default.in_default-own.rest.1 c.if-t-eq-TYPE_LOGICAL.true (rw c.truth.ensures)

pub returns-in-20 : goal.returns-in-20
returns-in-20 c =
    works-negate c.args.op c.args.t c.args.x _ _
    (held _ _ c.integer_of.ensures c.ranges.x) c.in-20.is
    _ c.negate.ensures c.number.ensures

pub returns-in-21 : goal.returns-in-21
returns-in-21 c =
    works-absolute c.args.op c.args.t c.args.x _ _
    (held _ _ c.integer_of-in-21.ensures c.ranges.x) c.in-21.is
    _ c.absolute.ensures c.number-in-21.ensures

pub returns-else-t-eq-TYPE_LOGICAL : goal.returns-else-t-eq-TYPE_LOGICAL
returns-else-t-eq-TYPE_LOGICAL c =
    works-not-bits c.args.op c.args.t c.args.x _ c.in_default.in_default-own.rest.0.1 c.in_default.in_default-own.rest.1 c.if-t-eq-TYPE_LOGICAL.false (rw c.not_bits.ensures)
