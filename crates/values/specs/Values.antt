-- Values with their types, and the operators on them, shared by the tree's execution and the plain machine.
use Rattle.std.specs.Prelude.{◌||◌, Bool, true, false, not, ◌&&◌, List, [], ◌∷◌, ℕ, eqb, leb, ℤ, pos, negsuc}
use Rattle.std.specs.Bool.{beq}
use Rattle.std.proofs.Math.Option.{Option, none, some}
use Rattle.std.specs.Int.Signed.{lt_z, le_z}
use Rattle.logic.specs.Choice.{If◌then◌else◌}
use Rattle.logic.specs.Options.{if_some}
use Rattle.values.specs.Types.{Ty, integer, logical, bits, reference}
use Rattle.values.specs.Operators.{Unary, negate, absolute, complement, Binary, plus, minus, times, divide, remainder, less, at_most, greater, at_least, equal}
use Rattle.values.specs.Operators.{unequal, both, either, shift_left, shift_right}
use Rattle.values.specs.Arithmetic.{Outcome, gives, ends, mistyped, sum, difference, product, quotient, rest, negation, magnitude, and_bits, or_bits, not_bits, shifted_left, shifted_right}

-- a reference has its class; it is null or a record's number, records counted from 0 as they are made
pub data Value : Type 0 where
  int : ℤ → Value
  log : Bool → Value
  bit : ℕ → Value
  ref : ℕ → Option ℕ → Value

abbrev pub ty_of : Value → Ty
ty_of (int z) = integer
ty_of (log b) = logical
ty_of (bit n) = bits
ty_of (ref c r) = reference c

unfoldable pub tys_of : List Value → List Ty
tys_of [] = []
tys_of (v ∷ vs) = ty_of v ∷ tys_of vs

-- "Variables of a block start at 0, false, #0 or null"
abbrev pub initial : Ty → Value
initial integer = int (pos 0)
initial logical = log false
initial bits = bit 0
initial (reference c) = ref c none

-- the integer that a value is, if it is one; and so for the other types
abbrev pub as_integer : Value → Option ℤ
as_integer (int z) = some z
as_integer (log b) = none
as_integer (bit n) = none
as_integer (ref c r) = none

abbrev pub as_logical : Value → Option Bool
as_logical (int z) = none
as_logical (log b) = some b
as_logical (bit n) = none
as_logical (ref c r) = none

abbrev pub as_bits : Value → Option ℕ
as_bits (int z) = none
as_bits (log b) = none
as_bits (bit n) = some n
as_bits (ref c r) = none

pub record Reference : Type 0 where
  pub class : ℕ
  pub target : Option ℕ

abbrev pub as_reference : Value → Option Reference
as_reference (int z) = none
as_reference (log b) = none
as_reference (bit n) = none
as_reference (ref c r) = some (record { class = c; target = r })

-- what a variable, parameter or cell holds
pub data Cell : Type 0 where
  assigned : Value → Cell

abbrev pub ty_of_cell : Cell → Ty
ty_of_cell (assigned v) = ty_of v

abbrev pub fresh : Ty → Cell
fresh t = assigned (initial t)

unfoldable pub fresh_all : List Ty → List Cell
fresh_all [] = []
fresh_all (t ∷ ts) = fresh t ∷ fresh_all ts

-- ── ranges, as op 15, op 16 and kinds 28 and 51 test them ──
abbrev pub between : ℕ → ℕ → ℤ → Bool
between lo hi (pos n) = leb lo n && leb n hi
between lo hi (negsuc n) = false

abbrev pub size : ℤ → ℕ
size (pos n) = n
size (negsuc n) = 0

-- ── operators ──
abbrev pub map_outcome : {A B : Type 0} → (A → B) → Outcome A → Outcome B
map_outcome f (gives a) = gives (f a)
map_outcome f (ends c) = ends c
map_outcome f mistyped = mistyped

-- an operand of the type asked
abbrev pub asked : {A : Type 0} → Option A → (A → Outcome Value) → Outcome Value
asked o f = if_some o f mistyped

-- logical, or else bits
abbrev pub logical_else_bits : Value → (Bool → Outcome Value) → (ℕ → Outcome Value) → Outcome Value
logical_else_bits v f g = if_some (as_logical v) f (asked (as_bits v) g)

abbrev pub arithmetic : (ℤ → ℤ → Outcome ℤ) → Value → Value → Outcome Value
arithmetic f v w = asked (as_integer v) (λ x. asked (as_integer w) (λ y. map_outcome int (f x y)))

abbrev pub ordering : (ℤ → ℤ → Bool) → Value → Value → Outcome Value
ordering f v w = asked (as_integer v) (λ x. asked (as_integer w) (λ y. gives (log (f x y))))

abbrev pub shift : (ℕ → ℤ → ℕ) → Value → Value → Outcome Value
shift f v w = asked (as_bits v) (λ x. asked (as_integer w) (λ n. gives (bit (f x n))))

abbrev pub junction : (Bool → Bool → Bool) → (ℕ → ℕ → ℕ) → Value → Value → Outcome Value
junction f g v w =
    logical_else_bits v (λ a. asked (as_logical w) (λ b. gives (log (f a b)))) (λ m. asked (as_bits w) (λ n. gives (bit (g m n))))

abbrev pub same_integer : ℤ → ℤ → Bool
same_integer x y = le_z x y && le_z y x

-- references are equal where both are null or both the same record (T8)
abbrev pub same_ref : Option ℕ → Option ℕ → Bool
same_ref none none = true
same_ref none (some n) = false
same_ref (some m) none = false
same_ref (some m) (some n) = eqb m n

-- two values of one type
abbrev pub equality : (Bool → Bool) → Value → Value → Outcome Value
equality f (int x) w = asked (as_integer w) (λ y. gives (log (f (same_integer x y))))
equality f (log a) w = asked (as_logical w) (λ b. gives (log (f (beq a b))))
equality f (bit m) w = asked (as_bits w) (λ n. gives (log (f (eqb m n))))
equality f (ref c r) w =
    asked (as_reference w) (λ s. If eqb c s.class then gives (log (f (same_ref r s.target))) else mistyped)

unfoldable pub apply1 : Unary → Value → Outcome Value
apply1 negate v = asked (as_integer v) (λ x. map_outcome int (negation x))
apply1 absolute v = asked (as_integer v) (λ x. map_outcome int (magnitude x))
apply1 complement v = logical_else_bits v (λ a. gives (log (not a))) (λ m. gives (bit (not_bits m)))

-- both operands at hand; the tree itself decides when a logical `and` or `or` does not need its second
unfoldable pub apply2 : Binary → Value → Value → Outcome Value
apply2 plus = arithmetic sum
apply2 minus = arithmetic difference
apply2 times = arithmetic product
apply2 divide = arithmetic quotient
apply2 remainder = arithmetic rest
apply2 less = ordering lt_z
apply2 at_most = ordering le_z
apply2 greater = ordering (λ x y. lt_z y x)
apply2 at_least = ordering (λ x y. le_z y x)
apply2 equal = equality (λ b. b)
apply2 unequal = equality not
apply2 both = junction ◌&&◌ and_bits
apply2 either = junction ◌||◌ or_bits
apply2 shift_left = shift shifted_left
apply2 shift_right = shift shifted_right
