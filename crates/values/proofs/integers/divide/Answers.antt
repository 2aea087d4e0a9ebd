-- `values::integers::divide` meets its contract.
use mathlib.Core.Path.{sym, ◌∙◌}
use mir.Syntax.{w32}
use mir.ValLaws.{to_z-of_z}
use Rattle.values.proofs.Exact.{zero-divides, quotient-minus-one, divides, quotient-exact}
use Rattle.values.proofs.integers.divide.Goals as goal

pub returns-then-y-eq0 : goal.returns-then-y-eq0
returns-then-y-eq0 c = sym (zero-divides _ _ c.ranges.y c.if-y-eq0.true)

pub returns-then-y-eqminus1 : goal.returns-then-y-eqminus1
returns-then-y-eqminus1 c =
    rw (to_z-of_z w32 _ c.ranges.x) at c.negate.ensures
    ∙ sym (quotient-minus-one _ _ c.ranges.x c.ranges.y c.if-y-eq0.false c.if-y-eqminus1.true)

pub nonzero_div-result : goal.nonzero_div-result
nonzero_div-result c =
    divides _ _ c.ranges.x c.ranges.y c.if-y-eq0.false c.if-y-eqminus1.false

pub returns : goal.returns
returns c =
    quotient-exact _ _ c.ranges.x c.ranges.y c.if-y-eq0.false c.if-y-eqminus1.false
