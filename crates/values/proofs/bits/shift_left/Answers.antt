-- `values::bits::shift_left` meets its contract.
use mir.Syntax.{w32}
use mir.ValLaws.{to_z-of_z}
use Rattle.values.proofs.Digits.{shifts_left, any_left, any_right}
use Rattle.values.proofs.bits.shift_left.Goals as goal

pub returns-then-n-ge0 : goal.returns-then-n-ge0
returns-then-n-ge0 c =
    let is = to_z-of_z w32 _ c.ranges.n in
    rw (shifts_left c.args.x c.args.n, rw is at c.if-n-ge0.true, c.unbounded_shl.ensures, c.unsigned_abs-by.ensures.value, is) (any_left _ c.args.x)

pub returns-else-n-ge0 : goal.returns-else-n-ge0
returns-else-n-ge0 c =
    let is = to_z-of_z w32 _ c.ranges.n in
    rw (shifts_left c.args.x c.args.n, rw is at c.if-n-ge0.false, c.unbounded_shr.ensures, c.unsigned_abs-by.ensures.value, is) (any_right _ c.args.x)
