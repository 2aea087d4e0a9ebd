-- `values::integers::absolute` meets its contract.
use mir.Syntax.{w32}
use mir.ValLaws.{to_z-of_z}
use Rattle.values.proofs.Exact.{settled, negative, positive}
use Rattle.values.proofs.integers.absolute.Goals as goal

pub returns-then-x-lt0 : goal.returns-then-x-lt0
returns-then-x-lt0 c =
    let f = c.ranges.x in
    rw (to_z-of_z w32 _ f, negative _ (rw (to_z-of_z w32 _ f) at c.if-x-lt0.true)) at c.negate.ensures

pub returns : goal.returns
returns c =
    let f = c.ranges.x in
    let e = positive c.args.x (rw (to_z-of_z w32 _ f) at c.if-x-lt0.false) in
    rw (to_z-of_z w32 _ f, ← e, settled _ f.sfits)
