-- Numbers in bytes. "Numbers are little-endian." (paper 01)
use Rattle.std.specs.Prelude.{List, [], ◌∷◌, ℕ, ◌+◌, ◌*◌, ◌/◌, ◌%◌, get_or, ℤ}
use Rattle.std.specs.Int.{w32}
use Rattle.std.proofs.Common.{to_z, of_z}

-- the number that stands at a place: of one byte, two (u16) and four (u32)
abbrev pub byte_at : List ℕ → ℕ → ℕ
byte_at l i = get_or l i 0

abbrev pub half_at : List ℕ → ℕ → ℕ
half_at l i = get_or l i 0 + get_or l (i + 1) 0 * 256

abbrev pub word_at : List ℕ → ℕ → ℕ
word_at l i = get_or l i 0 + get_or l (i + 1) 0 * 256 + get_or l (i + 2) 0 * 65536 + get_or l (i + 3) 0 * 16777216

-- the bytes of a number; the last is not reduced, so that reading them gives every number back
abbrev pub half : ℕ → List ℕ
half n = n % 256 ∷ n / 256 ∷ []

abbrev pub word : ℕ → List ℕ
word n = n % 256 ∷ n / 256 % 256 ∷ n / 65536 % 256 ∷ n / 16777216 ∷ []

-- 32 bits as an integer in two's complement, and back
abbrev pub integer_of : ℕ → ℤ
integer_of n = to_z w32 n

abbrev pub word_of : ℤ → ℕ
word_of z = of_z w32 z
