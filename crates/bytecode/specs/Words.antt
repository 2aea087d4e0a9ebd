-- Values as 32-bit words, in compiled macros and in the run state.
use Rattle.std.specs.Prelude.{Bool, true, false, ℕ, zero, suc, eqb, ltb}
use Rattle.std.proofs.Math.Option.{Option, none, some}
use Rattle.words.specs.Numbers.{integer_of, word_of}
use Rattle.values.specs.Types.{Ty, integer, logical, bits, reference}
use Rattle.values.specs.Values.{Value, int, log, bit, ref}

abbrev pub log_word : Bool → ℕ
log_word false = 0
log_word true = 1

abbrev pub ref_word : Option ℕ → ℕ
ref_word none = 0
ref_word (some n) = suc n

abbrev pub value_word : Value → ℕ
value_word (int z) = word_of z
value_word (log b) = log_word b
value_word (bit n) = n
value_word (ref c r) = ref_word r

abbrev pub word_ref : ℕ → Option ℕ
word_ref zero = none
word_ref (suc n) = some n

-- a word is a value of every type but logical, which has two
abbrev pub valid_word : Ty → ℕ → Bool
valid_word integer w = true
valid_word logical w = ltb w 2
valid_word bits w = true
valid_word (reference c) w = true

abbrev pub word_value : Ty → ℕ → Value
word_value integer w = int (integer_of w)
word_value logical w = log (eqb w 1)
word_value bits w = bit w
word_value (reference c) w = ref c (word_ref w)
