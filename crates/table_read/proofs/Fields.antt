-- A law of the layout's tests. Assumes nothing.
use mathlib.Core.Path.{◌≡◌, refl}
use lib.Dec.{leb-zero}
use lib.IntN.{ℤ, pos, negsuc}
use lib.Signed.{le_z}
use Rattle.language.specs.Table.{natural}

pub natural-least : (z : ℤ) → le_z (pos 0) z ≡ natural z
natural-least (pos n) = leb-zero n
natural-least (negsuc n) = refl
