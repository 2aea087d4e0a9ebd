-- `values::integers::negate` meets its contract.
use mir.Syntax.{w32}
use mir.ValLaws.{to_z-of_z}
use Rattle.values.proofs.Exact.{settled, negated, negation-fits, negation-over}
use Rattle.values.proofs.integers.negate.Goals as goal

pub returns-then-x-eqminus2147483648 : goal.returns-then-x-eqminus2147483648
returns-then-x-eqminus2147483648 c = rw (negation-over c.args.x c.ranges.x c.if-x-eqminus2147483648.true)

pub overflow_sub-result : goal.overflow_sub-result
overflow_sub-result c = rw (to_z-of_z w32 _ c.ranges.x, negated c.args.x) (negation-fits _ c.ranges.x c.if-x-eqminus2147483648.false)

pub returns : goal.returns
returns c =
    let g = negation-fits _ c.ranges.x c.if-x-eqminus2147483648.false in
    rw (to_z-of_z w32 _ c.ranges.x, negated c.args.x, to_z-of_z w32 _ g, settled _ g.sfits)
