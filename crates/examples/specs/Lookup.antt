-- Request 6 of paper 02: names looked up by the steps of section 3 of 000. First on chains of blocks, where loops can be told already, then on tables.
use Rattle.std.specs.Prelude.{◌≡◌, refl, Bool, true, false, List, [], ◌∷◌, ℕ}
use Rattle.values.specs.Types.{integer, logical, bits}
use Rattle.language.specs.Names.{is_variable, is_label, Definition, define, found, nowhere, Heading, no_heading, parameters, control, Block, identify}
use Rattle.examples.specs.Cases.{cases_compute}
use Rattle.examples.specs.Notation.{e, verdict}

abbrev block : List Definition → Heading → Block
block ds h = record { names = ds; closed = false; heading = h }

abbrev expression : List Definition → Heading → Block
expression ds h = record { names = ds; closed = true; heading = h }

-- X is 5, I is 6. (a) P(X), whose body block declares X logical
by-step1 : identify 5 (block (define 5 (is_variable logical) ∷ []) (parameters (define 5 (is_variable bits) ∷ [])) ∷ []) ≡ found (is_variable logical) false
unfolding cases_compute
by-step1 = refl

-- (b) P(X) of bits, FOR X := X UNTIL 3 DO S: around the loop the parameter, in S the control identifier
abbrev body : Block
body = block [] (parameters (define 5 (is_variable bits) ∷ []))

by-step3 : (identify 5 (body ∷ []) ≡ found (is_variable bits) false)
    × (identify 5 (block [] (control (define 5 (is_variable integer))) ∷ body ∷ []) ≡ found (is_variable integer) false)
unfolding cases_compute
by-step3 = (refl, refl)

-- (c) FOR I … DO BEGIN I: GOTO I END: the label
label-first : identify 6 (block (define 6 is_label ∷ []) (control (define 6 (is_variable integer))) ∷ []) ≡ found is_label false
unfolding cases_compute
label-first = refl

-- (d) P(X) with the body X := 1, which is no block: the parameter, not the root's X
by-step2 : identify 5 (body ∷ block (define 5 (is_variable logical) ∷ []) no_heading ∷ []) ≡ found (is_variable bits) false
unfolding cases_compute
by-step2 = refl

-- a label beyond a procedure, or beyond a block expression, is found and is out of a goto's reach; beyond a loop it is not
abbrev root : Block
root = block (define 7 is_label ∷ []) no_heading

beyond : (identify 7 (body ∷ root ∷ []) ≡ found is_label true) × (identify 7 (expression [] no_heading ∷ root ∷ []) ≡ found is_label true)
    × (identify 7 (block [] (control (define 6 (is_variable integer))) ∷ root ∷ []) ≡ found is_label false) × (identify 8 (body ∷ root ∷ []) ≡ nowhere)
unfolding cases_compute
beyond = (refl, refl, refl, refl)

-- ── tables ──
-- (a) the body block's X is assigned true, and then 1
declared-again : (verdict (e 1 1 0 ∷ e 12 9 256 ∷ e 10 5 1 ∷ e 1 1 1 ∷ e 10 5 2 ∷ e 21 0 0 ∷ e 44 5 0 ∷ e 41 0 1 ∷ []) ≡ [])
    × (verdict (e 1 1 0 ∷ e 12 9 256 ∷ e 10 5 1 ∷ e 1 1 1 ∷ e 10 5 2 ∷ e 21 0 0 ∷ e 44 5 0 ∷ e 40 0 1 ∷ []) ≡ 4 ∷ 5 ∷ [])
unfolding cases_compute
declared-again = (refl, refl)

-- (d) the parameter is assigned 1, and then true, which the root's X could be
no_block : (verdict (e 1 2 0 ∷ e 10 5 2 ∷ e 12 9 256 ∷ e 10 5 1 ∷ e 21 0 0 ∷ e 44 5 0 ∷ e 40 0 1 ∷ []) ≡ [])
    × (verdict (e 1 2 0 ∷ e 10 5 2 ∷ e 12 9 256 ∷ e 10 5 1 ∷ e 21 0 0 ∷ e 44 5 0 ∷ e 41 0 1 ∷ []) ≡ 4 ∷ 4 ∷ [])
unfolding cases_compute
no_block = (refl, refl)

-- a block in a body that is none: IF TRUE THEN BEGIN LOGICAL Y; X := 1 END finds the parameter
within-if : verdict (e 1 2 0 ∷ e 10 5 2 ∷ e 12 9 256 ∷ e 10 5 1 ∷ e 22 0 0 ∷ e 41 0 1 ∷ e 1 1 1 ∷ e 10 6 2 ∷ e 21 0 0 ∷ e 44 5 0 ∷ e 40 0 1 ∷ []) ≡ []
unfolding cases_compute
within-if = refl

-- a parameter's type is looked up from step 2 on: REFERENCE(C) beside a parameter C is no class (4), beside the body block's C it is one
types-by-step2 : (verdict (e 1 2 0 ∷ e 11 5 1 ∷ e 10 6 1 ∷ e 12 9 512 ∷ e 10 5 1 ∷ e 10 7 65541 ∷ e 1 0 0 ∷ []) ≡ 4 ∷ 5 ∷ [])
    × (verdict (e 1 2 0 ∷ e 11 5 1 ∷ e 10 6 1 ∷ e 12 9 256 ∷ e 10 7 65541 ∷ e 1 1 0 ∷ e 10 5 1 ∷ []) ≡ [])
unfolding cases_compute
types-by-step2 = (refl, refl)
