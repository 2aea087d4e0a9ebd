-- Types, and how they are compared. "Types: 1 integer, 2 logical, 3 bits, 65,536 + class name for a reference." (paper 01)
use Rattle.std.specs.Prelude.{Bool, true, false, ◌&&◌, List, [], ◌∷◌, ℕ, ◌+◌, eqb}

-- a reference names its class: by name in a table, by number in a compiled macro
pub data Ty : Type 0 where
  integer logical bits : Ty
  reference : ℕ → Ty

-- the code of a type in a table
abbrev pub ty_code : Ty → ℕ
ty_code integer = 1
ty_code logical = 2
ty_code bits = 3
ty_code (reference c) = 65536 + c

-- "A type byte is 1, 2, 3, or 16 + class number."
abbrev pub ty_byte : Ty → ℕ
ty_byte integer = 1
ty_byte logical = 2
ty_byte bits = 3
ty_byte (reference c) = 16 + c

-- "Types must be identical": their codes are equal (N11)
abbrev pub same : Ty → Ty → Bool
same t u = eqb (ty_code t) (ty_code u)

-- a value of type t may be assigned to a variable, parameter or field of type u
abbrev pub fits : Ty → Ty → Bool
fits t u = same t u

unfoldable pub sames : List Ty → List Ty → Bool
sames [] [] = true
sames [] (u ∷ us) = false
sames (t ∷ ts) [] = false
sames (t ∷ ts) (u ∷ us) = same t u && sames ts us

-- as many values as places, each fitting its own
unfoldable pub all_fit : List Ty → List Ty → Bool
all_fit [] [] = true
all_fit [] (u ∷ us) = false
all_fit (t ∷ ts) [] = false
all_fit (t ∷ ts) (u ∷ us) = fits t u && all_fit ts us
