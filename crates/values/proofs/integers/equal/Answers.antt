-- `values::integers::equal` meets its contract.
use Rattle.values.proofs.Exact.{equality}
use Rattle.values.proofs.integers.equal.Goals as goal

pub returns : goal.returns
returns c = equality _ _ c.ranges.x c.ranges.y
