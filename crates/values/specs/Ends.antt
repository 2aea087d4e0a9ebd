-- The numbers of refusals and conditions. (paper 01, Refusals and ends)
use Rattle.std.specs.Prelude.{Bool, List, [], ◌∷◌, ℕ}
use Rattle.logic.specs.Lists.{among}

-- a refusal: its number, and its place: "2 to 5 the entry (…); 6 the body's entry, procedures first; 8 the first record that does not read, 9
-- the address"
pub record Refusal : Type 0 where
  pub number : ℕ
  pub place : ℕ

abbrev pub refusal : ℕ → ℕ → Refusal
refusal n p = record { number = n; place = p }

-- something, or the refusal given in its place
pub data Judged (A : Type 0) : Type 0 where
  accepted : A → Judged A
  refused : Refusal → Judged A

-- the conditions, by what they say
abbrev pub overflow : ℕ
overflow = 20

abbrev pub zero_divisor : ℕ
zero_divisor = 21

abbrev pub field_of_null : ℕ
field_of_null = 22

abbrev pub assert_false : ℕ
assert_false = 23

abbrev pub case_index : ℕ
case_index = 24

abbrev pub out_of_range : ℕ
out_of_range = 25

abbrev pub too_many_activations : ℕ
too_many_activations = 26

abbrev pub too_many_records : ℕ
too_many_records = 27

-- "(28: step zero, found after the limit.)" (paper 02, ticket 1)
abbrev pub step_zero : ℕ
step_zero = 28

-- "A condition (20 to 27) stops execution"; "A loaded macro may end by 28 besides 20 to 27" (paper 02, ticket 1)
abbrev pub conditions : List ℕ
conditions =
    overflow ∷ zero_divisor ∷ field_of_null ∷ assert_false ∷ case_index ∷ out_of_range ∷ too_many_activations ∷ too_many_records ∷ step_zero ∷ []

abbrev pub is_condition : ℕ → Bool
is_condition c = among c conditions
