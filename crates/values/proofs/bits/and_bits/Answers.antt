-- `values::bits::and_bits` meets its contract.
use Prim.Native.Nat.{min}
use mathlib.Core.Path.{refl}
use lib.Bits.{bit_and, and_step}
use Rattle.values.proofs.Digits.{by_bits}
use Rattle.values.proofs.bits.and_bits.Goals as goal

pub returns : goal.returns
returns c = by_bits min bit_and refl and_step 32 _ _ c.ranges.x.fits c.ranges.y.fits
