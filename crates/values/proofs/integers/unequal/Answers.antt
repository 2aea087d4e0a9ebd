-- `values::integers::unequal` meets its contract.
use mathlib.Core.Path.{ap}
use mathlib.Core.Bool.{not}
use Rattle.values.proofs.Exact.{equality}
use Rattle.values.proofs.integers.unequal.Goals as goal

pub returns : goal.returns
returns c = ap not (equality _ _ c.ranges.x c.ranges.y)
