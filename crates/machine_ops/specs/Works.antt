-- Operators on words with type bytes: what is to be answered for the outcome on the values that they stand for.
use Rattle.std.specs.Prelude.{◌≡◌, true, ℕ, ℤ, Result, Ok, Err}
use Rattle.std.proofs.Math.Option.{some}
use Rattle.bytecode.specs.Words.{value_word, valid_word, word_value}
use Rattle.words.specs.Numbers.{word_of}
use Rattle.values.specs.Types.{Ty, ty_byte}
use Rattle.values.specs.Operators.{Unary, Binary, unary_of, binary_of}
use Rattle.values.specs.Arithmetic.{Outcome, gives, ends, mistyped}
use Rattle.values.specs.Values.{Value, ty_of, apply1, apply2}
use Rattle.values.specs.Answers.{number_of}
use Rattle.values.specs.declared.conditions.Condition.{Condition}
use Rattle.machine_ops.specs.declared.operators.Typed.{Typed}

-- what is answered: a word with its type byte, or a condition
abbrev pub Worked : Type 0
Worked = Result Typed Condition

abbrev pub typed : ℕ → ℕ → Typed
typed w t = record { word = w; ty = t }

-- a result on integers, as a word with the type byte 1
abbrev pub worked : Result ℤ Condition → Worked
worked (Ok z) = Ok (typed (word_of z) 1)
worked (Err e) = Err e

-- the condition with number c
pub record Breaks (c : ℕ) (r : Worked) : Type 0 where
  pub condition : Condition
  pub is : r ≡ Err condition
  pub number : c ≡ number_of condition

-- of operands that an operator does not take nothing is said
abbrev pub Says : Outcome Value → Worked → Type 0
Says (gives v) r = r ≡ Ok (typed (value_word v) (ty_byte (ty_of v)))
Says (ends c) r = Breaks c r
Says mistyped r = Unit {0}

-- operator number n on the word x of type byte t
abbrev pub Works1 : ℕ → ℕ → ℕ → Worked → Type 0
Works1 n t x r = (o : Unary) (ty : Ty) → unary_of n ≡ some o → t ≡ ty_byte ty → valid_word ty x ≡ true → Says (apply1 o (word_value ty x)) r

-- and on the words x, of type byte t, and y
abbrev pub Works2 : ℕ → ℕ → ℕ → ℕ → Worked → Type 0
Works2 n t x y r = (o : Binary) (ty tu : Ty) → binary_of n ≡ some o → t ≡ ty_byte ty → valid_word ty x ≡ true → valid_word tu y ≡ true
    → Says (apply2 o (word_value ty x) (word_value tu y)) r
