-- The examples of the request for loops (paper 02, ticket 1), computed on the definitions.
use Rattle.std.specs.Prelude.{◌≡◌, refl, List, [], ◌∷◌, ◌++◌, ℕ, zero, suc, ℤ, pos, negsuc}
use Rattle.language.specs.Table.{Entry, entry}
use Rattle.examples.specs.Cases.{cases_compute}
use Rattle.examples.specs.Notation.{e, executed, verdict}

abbrev whole : ℤ → Entry
whole z = entry 40 0 z

-- FOR I := start STEP step UNTIL limit DO SET(I, 7), or SET(1, 7); I is 5
abbrev sets : List Entry → List Entry
sets bounds = e 1 0 1 ∷ e 31 5 0 ∷ (bounds ++ (e 28 0 0 ∷ e 44 5 0 ∷ e 40 0 7 ∷ []))

abbrev turns : List Entry → List Entry
turns bounds = e 1 0 1 ∷ e 31 5 0 ∷ (bounds ++ (e 28 0 0 ∷ e 40 0 1 ∷ e 40 0 7 ∷ []))

-- (a) 1 STEP 1 UNTIL 3, and down again; from 4 on there is no turn
counts : (executed (sets (whole (pos 1) ∷ whole (pos 1) ∷ whole (pos 3) ∷ [])) 9 ≡ 1 ∷ 1 ∷ 7 ∷ 1 ∷ 2 ∷ 7 ∷ 1 ∷ 3 ∷ 7 ∷ 0 ∷ [])
    × (executed (sets (whole (pos 3) ∷ whole (negsuc 1) ∷ whole (pos 1) ∷ [])) 9 ≡ 1 ∷ 3 ∷ 7 ∷ 1 ∷ 1 ∷ 7 ∷ 0 ∷ [])
    × (executed (sets (whole (pos 4) ∷ whole (pos 1) ∷ whole (pos 3) ∷ [])) 9 ≡ 0 ∷ [])
unfolding cases_compute
counts = (refl, refl, refl)

-- (b) 2147483646 STEP 1 UNTIL 2147483647, (c) 2147483647 STEP -2147483648 UNTIL -2147483648: two turns, and no overflow
at-the-ends : (executed (turns (whole (pos 2147483646) ∷ whole (pos 1) ∷ whole (pos 2147483647) ∷ [])) 9 ≡ 1 ∷ 1 ∷ 7 ∷ 1 ∷ 1 ∷ 7 ∷ 0 ∷ [])
    × (executed (turns (whole (pos 2147483647) ∷ whole (negsuc 2147483647) ∷ whole (negsuc 2147483647) ∷ [])) 9 ≡ 1 ∷ 1 ∷ 7 ∷ 1 ∷ 1 ∷ 7 ∷ 0 ∷ [])
unfolding cases_compute
at-the-ends = (refl, refl)

-- (d) 5 STEP 0 UNTIL 1: 28, though no turn would come; 5 STEP 0 UNTIL 1 DIV 0: 21, which the limit gives before
step-zero : (executed (turns (whole (pos 5) ∷ whole (pos 0) ∷ whole (pos 1) ∷ [])) 9 ≡ 28 ∷ [])
    × (executed (turns (whole (pos 5) ∷ whole (pos 0) ∷ e 49 4 0 ∷ whole (pos 1) ∷ whole (pos 0) ∷ [])) 9 ≡ 21 ∷ [])
unfolding cases_compute
step-zero = (refl, refl)

-- (e) I := 9 in the statement; a goto to I; a start that is a logical
not-a-variable : (verdict (e 1 0 1 ∷ e 31 5 0 ∷ e 40 0 1 ∷ e 40 0 1 ∷ e 40 0 3 ∷ e 21 0 0 ∷ e 44 5 0 ∷ e 40 0 9 ∷ []) ≡ 4 ∷ 6 ∷ [])
    × (verdict (e 1 0 1 ∷ e 31 5 0 ∷ e 40 0 1 ∷ e 40 0 1 ∷ e 40 0 3 ∷ e 25 5 0 ∷ []) ≡ 4 ∷ 5 ∷ [])
    × (verdict (e 1 0 1 ∷ e 31 5 0 ∷ e 41 0 1 ∷ e 40 0 1 ∷ e 40 0 3 ∷ e 1 0 0 ∷ []) ≡ 4 ∷ 1 ∷ [])
unfolding cases_compute
not-a-variable = (refl, refl, refl)

-- (f) FOR I := I: not in sight there; with an integer I around, which is 2, the start is 2
in_start : (verdict (e 1 0 1 ∷ e 31 5 0 ∷ e 44 5 0 ∷ e 40 0 1 ∷ e 40 0 3 ∷ e 1 0 0 ∷ []) ≡ 3 ∷ 2 ∷ [])
    × (executed (e 1 1 2 ∷ e 10 5 1 ∷ e 21 0 0 ∷ e 44 5 0 ∷ e 40 0 2 ∷ e 31 5 0 ∷ e 44 5 0 ∷ e 40 0 1 ∷ e 40 0 3 ∷ e 28 0 0 ∷ e 44 5 0 ∷ e 40 0 7 ∷ []) 9
    ≡ 1 ∷ 2 ∷ 7 ∷ 1 ∷ 3 ∷ 7 ∷ 0 ∷ [])
unfolding cases_compute
in_start = (refl, refl)

-- the layout: its b is 0, its statement is no label; three cells a loop, so that eleven are too many for a body
unfoldable loops : ℕ → List Entry
loops zero = []
loops (suc n) = e 31 5 0 ∷ e 40 0 1 ∷ e 40 0 1 ∷ e 40 0 3 ∷ e 1 0 0 ∷ loops n

laid_out : (verdict (e 1 0 1 ∷ e 31 5 1 ∷ e 40 0 1 ∷ e 40 0 1 ∷ e 40 0 3 ∷ e 1 0 0 ∷ []) ≡ 2 ∷ 1 ∷ [])
    × (verdict (e 1 0 1 ∷ e 31 5 0 ∷ e 40 0 1 ∷ e 40 0 1 ∷ e 40 0 3 ∷ e 20 6 0 ∷ []) ≡ 2 ∷ 5 ∷ [])
    × (verdict (e 1 0 10 ∷ loops 10) ≡ [])
    × (verdict (e 1 0 11 ∷ loops 11) ≡ 6 ∷ 0 ∷ [])
unfolding cases_compute loops
laid_out = (refl, refl, refl, refl)
