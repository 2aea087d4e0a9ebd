-- `values::bits::or_bits` meets its contract.
use Prim.Native.Nat.{max}
use mathlib.Core.Path.{refl}
use lib.Bits.{bit_or, or_step}
use Rattle.values.proofs.Digits.{by_bits}
use Rattle.values.proofs.bits.or_bits.Goals as goal

pub returns : goal.returns
returns c = by_bits max bit_or refl or_step 32 _ _ c.ranges.x.fits c.ranges.y.fits
