-- Integers of 32 bits that are computed with by way of 64 bits: what a proof of such code cites.
use Rattle.std.specs.Prelude.{◌≡◌, refl, true, false, ℕ, suc, ◌≤◌, ◌<◌, ℤ, pos, negsuc, ◌+ℤ◌, ◌-ℤ◌}
use Rattle.std.proofs.Common.{arith, lt-ltb, le-ltb, ltb-true, SFits, to_z, of_z}
use Rattle.std.specs.Int.Signed.{lt_z}
use Rattle.std.specs.Int.{w32, w64}
use Rattle.std.proofs.lemmas.Int.{to_z_pos, to_z-of_z}
use Rattle.words.specs.Numbers.{integer_of, word_of}

pub widen : (z : ℤ) → SFits w32 z → SFits w64 z
widen z h = record { sfits = omega arith }

-- a 32-bit integer read from its bits, cast to 64 bits and read again
pub widened : (z : ℤ) → SFits w32 z → to_z w64 (of_z w64 (to_z w32 (of_z w32 z))) ≡ z
widened z h = rw (to_z-of_z w32 z h, to_z-of_z w64 z (widen z h))

-- a word with the sign's bit
pub word-negative : (w : ℕ) → 2147483648 ≤ w → w < 4294967296 → to_z w64 w -ℤ pos 4294967296 ≡ integer_of w
word-negative w a b = rw (to_z_pos w64 w (omega arith), le-ltb w 2147483648 a, lt-ltb w 4294967296 b)

pub integer-negative : (z : ℤ) → SFits w32 z → lt_z z (pos 0) ≡ true → z +ℤ pos 4294967296 ≡ pos (word_of z)
integer-negative (pos n) h t = absurd (omega (arith, ltb-true n 0 t))
integer-negative (negsuc n) h t = rw (le-ltb 4294967296 (suc n) (omega arith))

pub integer-positive : (z : ℤ) → lt_z z (pos 0) ≡ false → z ≡ pos (word_of z)
integer-positive (pos n) t = refl
integer-positive (negsuc n) t = absurd (let z : ◌≡◌ {A = ℕ} 0 1 = cc in omega arith)
