-- The lines that paper 01 marks with *, proved together as one table over the definitions.
use Rattle.std.specs.Prelude.{◌≡◌, refl, List, [], ◌∷◌, ℕ, zero, suc, pos, negsuc, replicate}
use Rattle.values.specs.Operators.{divide, remainder, absolute, shift_left, shift_right}
use Rattle.values.specs.Arithmetic.{gives, ends}
use Rattle.values.specs.Values.{int, bit, apply1, apply2}
use Rattle.language.specs.Table.{Entry}
use Rattle.examples.specs.Cases.{cases_compute}
use Rattle.examples.specs.Notation.{e, executed, verdict}

-- n variables in the root's head
unfoldable pub variables : ℕ → List Entry
variables zero = []
variables (suc n) = e 10 n 1 ∷ variables n

-- `assert ¬ (false and (1 div 0 = 1))`: ends by 0 only where the value is false and no condition comes
unfoldable pub shortcut : List Entry
shortcut =
    e 1 0 1 ∷ e 26 0 0 ∷ e 48 22 0 ∷ e 49 12 0 ∷ e 41 0 0 ∷ e 49 10 0 ∷ e 49 4 0 ∷ e 40 0 1 ∷ e 40 0 0 ∷ e 40 0 1 ∷ []

pub stars :
    -- 7 div −2 = −3, 7 rem −2 = 1
    (apply2 divide (int (pos 7)) (int (negsuc 1)) ≡ gives (int (negsuc 2)))
    × (apply2 remainder (int (pos 7)) (int (negsuc 1)) ≡ gives (int (pos 1)))
    -- −7 div 2 = −3, −7 rem 2 = −1
    × (apply2 divide (int (negsuc 6)) (int (pos 2)) ≡ gives (int (negsuc 2)))
    × (apply2 remainder (int (negsuc 6)) (int (pos 2)) ≡ gives (int (negsuc 0)))
    -- −2147483648 div −1: 20; rem −1: 0; abs −2147483648: 20
    × (apply2 divide (int (negsuc 2147483647)) (int (negsuc 0)) ≡ ends 20)
    × (apply2 remainder (int (negsuc 2147483647)) (int (negsuc 0)) ≡ gives (int (pos 0)))
    × (apply1 absolute (int (negsuc 2147483647)) ≡ ends 20)
    -- false and (1 div 0 = 1): false, no condition
    × (executed shortcut 0 ≡ 0 ∷ [])
    -- #1 shl 31 = #80000000; shl 32 = #0; #1 shr −1 = #2
    × (apply2 shift_left (bit 1) (int (pos 31)) ≡ gives (bit 0x80000000))
    × (apply2 shift_left (bit 1) (int (pos 32)) ≡ gives (bit 0))
    × (apply2 shift_right (bit 1) (int (negsuc 0)) ≡ gives (bit 2))
    -- 32 variables accepted, 33: 6; 16 open holds accepted, 17: 6
    × (verdict (e 1 32 0 ∷ variables 32) ≡ [])
    × (verdict (e 1 33 0 ∷ variables 33) ≡ 6 ∷ 0 ∷ [])
    × (verdict (e 1 16 0 ∷ replicate 16 (e 14 7 0)) ≡ [])
    × (verdict (e 1 17 0 ∷ replicate 17 (e 14 7 0)) ≡ 6 ∷ 0 ∷ [])
unfolding cases_compute variables shortcut
stars = (refl, refl, refl, refl, refl, refl, refl, refl, refl, refl, refl, refl, refl, refl, refl)
