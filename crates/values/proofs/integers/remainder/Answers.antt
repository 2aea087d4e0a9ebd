-- `values::integers::remainder` meets its contract.
use mathlib.Core.Path.{sym}
use Rattle.values.proofs.Exact.{zero-divides, rest-minus-one, divides, rest-exact}
use Rattle.values.proofs.integers.remainder.Goals as goal

pub returns-then-y-eq0 : goal.returns-then-y-eq0
returns-then-y-eq0 c = sym (zero-divides _ _ c.ranges.y c.if-y-eq0.true)

pub returns-then-y-eqminus1 : goal.returns-then-y-eqminus1
returns-then-y-eqminus1 c =
    sym (rest-minus-one _ _ c.ranges.x c.ranges.y c.if-y-eq0.false c.if-y-eqminus1.true)

pub nonzero_rem-result : goal.nonzero_rem-result
nonzero_rem-result c =
    divides _ _ c.ranges.x c.ranges.y c.if-y-eq0.false c.if-y-eqminus1.false

pub returns : goal.returns
returns c =
    rest-exact _ _ c.ranges.x c.ranges.y c.if-y-eq0.false
