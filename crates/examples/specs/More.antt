-- Further examples, each of which some wrong definition would miss.
use Rattle.std.specs.Prelude.{◌≡◌, refl, List, [], ◌∷◌, ℕ, replicate}
use Rattle.language.specs.Table.{Entry}
use Rattle.bytecode.specs.Runs.{Feed}
use Rattle.examples.specs.Cases.{cases_compute}
use Rattle.examples.specs.Notation.{e, executed, verdict, hd, bd, op, sh, joined, loading, feed, answers}
use Rattle.examples.specs.Listing as Listing

-- a goto out of two blocks, with holds in each: all are released, last first
leaves-two : executed
    (e 1 0 2 ∷ e 1 2 1 ∷ e 14 1 0 ∷ e 14 2 0 ∷ e 1 1 2 ∷ e 14 3 0 ∷ e 25 5 0 ∷ e 28 0 0 ∷ e 40 0 1 ∷ e 40 0 1 ∷ e 20 5 0 ∷ []) 3
    ≡ 2 ∷ 1 ∷ 0 ∷ 2 ∷ 2 ∷ 0 ∷ 2 ∷ 3 ∷ 0 ∷ 3 ∷ 3 ∷ 0 ∷ 3 ∷ 2 ∷ 0 ∷ 3 ∷ 1 ∷ 0 ∷ 0 ∷ []
unfolding cases_compute
leaves-two = refl

-- a backward goto inside a block keeps its variables: x counts to 3, then set 3 3; at too little fuel it goes on
unfoldable counting : List Entry
counting =
    e 1 0 1 ∷ e 1 1 4 ∷ e 10 8 1 ∷ e 20 5 0 ∷ e 21 0 0 ∷ e 44 8 0 ∷ e 49 1 0 ∷ e 44 8 0 ∷ e 40 0 1
    ∷ e 22 0 0 ∷ e 49 6 0 ∷ e 44 8 0 ∷ e 40 0 3 ∷ e 25 5 0 ∷ e 28 0 0 ∷ e 44 8 0 ∷ e 44 8 0 ∷ []

keeps-variables : (executed counting 9 ≡ 1 ∷ 3 ∷ 3 ∷ 0 ∷ []) × (executed counting 1 ≡ 999 ∷ [])
unfolding cases_compute counting
keeps-variables = (refl, refl)

-- and a block that is entered again has new ones: two rounds of a loop, each sets channel 1 to 0 + 5
enters-anew : executed
    (e 1 1 1 ∷ e 10 7 1 ∷ e 24 0 0 ∷ e 49 6 0 ∷ e 44 7 0 ∷ e 40 0 2
    ∷ e 1 1 3 ∷ e 10 8 1
    ∷ e 21 0 0 ∷ e 44 8 0 ∷ e 49 1 0 ∷ e 44 8 0 ∷ e 40 0 5
    ∷ e 28 0 0 ∷ e 40 0 1 ∷ e 44 8 0
    ∷ e 21 0 0 ∷ e 44 7 0 ∷ e 49 1 0 ∷ e 44 7 0 ∷ e 40 0 1 ∷ []) 9
    ≡ 1 ∷ 1 ∷ 5 ∷ 1 ∷ 1 ∷ 5 ∷ 0 ∷ []
unfolding cases_compute
enters-anew = refl

-- a condition inside a called procedure, with holds open in it and in its caller
stops-inside : executed
    (e 1 2 1 ∷ e 12 9 0 ∷ e 1 1 1 ∷ e 14 4 0 ∷ e 26 0 0 ∷ e 41 0 0 ∷ e 14 1 0 ∷ e 1 1 1 ∷ e 14 2 0 ∷ e 27 9 0 ∷ []) 9
    ≡ 2 ∷ 1 ∷ 0 ∷ 2 ∷ 2 ∷ 0 ∷ 2 ∷ 4 ∷ 0 ∷ 3 ∷ 4 ∷ 0 ∷ 3 ∷ 2 ∷ 0 ∷ 3 ∷ 1 ∷ 0 ∷ 23 ∷ []
unfolding cases_compute
stops-inside = refl

-- a block expression's value is handed over after its holds are let go: hold 6, release 6, and then set 1 9
hands-over : executed (e 1 0 1 ∷ e 28 0 0 ∷ e 40 0 1 ∷ e 53 1 0 ∷ e 14 6 0 ∷ e 40 0 9 ∷ []) 0
    ≡ 2 ∷ 6 ∷ 0 ∷ 3 ∷ 6 ∷ 0 ∷ 1 ∷ 1 ∷ 9 ∷ 0 ∷ []
unfolding cases_compute
hands-over = refl

-- bits `and` evaluates both operands, so that the second's condition comes: #0 and (bits of a block with an assertion)
and-on-bits : executed (e 1 0 1 ∷ e 26 0 0 ∷ e 49 10 0 ∷ e 49 12 0 ∷ e 42 0 0 ∷ e 53 0 1 ∷ e 26 0 0 ∷ e 41 0 0 ∷ e 42 0 1 ∷ e 42 0 0 ∷ []) 0
    ≡ 23 ∷ []
unfolding cases_compute
and-on-bits = refl

-- an inner label hides an outer variable (4), at the use
hides : verdict (e 1 1 1 ∷ e 10 5 1 ∷ e 1 0 2 ∷ e 28 0 0 ∷ e 44 5 0 ∷ e 40 0 1 ∷ e 20 5 0 ∷ []) ≡ 4 ∷ 4 ∷ []
unfolding cases_compute
hides = refl

-- a sibling block's label is not visible (3); a root label from a procedure (5), or from a block expression, is out of reach
reaches : (verdict (e 1 0 2 ∷ e 1 0 1 ∷ e 20 5 0 ∷ e 1 0 1 ∷ e 25 5 0 ∷ []) ≡ 3 ∷ 4 ∷ [])
    × (verdict (e 1 1 1 ∷ e 12 9 0 ∷ e 1 0 1 ∷ e 25 5 0 ∷ e 20 5 0 ∷ []) ≡ 5 ∷ 3 ∷ [])
    × (verdict (e 1 0 2 ∷ e 28 0 0 ∷ e 40 0 1 ∷ e 53 0 1 ∷ e 25 5 0 ∷ e 40 0 1 ∷ e 20 5 0 ∷ []) ≡ 5 ∷ 4 ∷ [])
    × (verdict (e 1 0 1 ∷ e 28 0 0 ∷ e 40 0 1 ∷ e 53 0 2 ∷ e 25 5 0 ∷ e 20 5 0 ∷ e 40 0 1 ∷ []) ≡ [])
unfolding cases_compute
reaches = (refl, refl, refl, refl)

-- two faults: the inner entry is judged before the outer, though it stands later: set(true, nine) is 4 at entry 1, nine is 3 at entry 3
postorder : (verdict (e 1 0 1 ∷ e 28 0 0 ∷ e 41 0 1 ∷ e 44 9 0 ∷ []) ≡ 3 ∷ 3 ∷ [])
    × (verdict (e 1 0 2 ∷ e 28 0 0 ∷ e 41 0 1 ∷ e 40 0 9 ∷ e 25 5 0 ∷ []) ≡ 4 ∷ 1 ∷ [])
unfolding cases_compute
postorder = (refl, refl)

-- ── macros ──
-- dead code behind an SH is judged: op 18 without a hold at address 1; with a hold in the SH it passes
dead-code : (loading (joined (hd 0 1 3 1 ∷ bd 0 0 0 [] ∷ op 0 0 0 ∷ op 18 0 0 ∷ op 0 0 0 ∷ sh 1 0 [] ∷ [])) ≡ 9 ∷ 1 ∷ [])
    × (loading (joined (hd 0 1 3 1 ∷ bd 0 0 0 [] ∷ op 0 0 0 ∷ op 18 0 0 ∷ op 0 0 0 ∷ sh 1 1 [] ∷ [])) ≡ [])
    × (loading (joined (hd 0 1 3 0 ∷ bd 0 0 0 [] ∷ op 0 0 0 ∷ op 18 0 0 ∷ op 0 0 0 ∷ [])) ≡ 9 ∷ 0 ∷ [])
unfolding cases_compute joined
dead-code = (refl, refl, refl)

-- a jump without an SH at its target, with a different one, with an equal one; hold counts differ at an SH
jumps : (loading (joined (hd 0 1 2 0 ∷ bd 0 0 0 [] ∷ op 8 0 1 ∷ op 0 0 0 ∷ [])) ≡ 9 ∷ 0 ∷ [])
    × (loading (joined (hd 0 1 2 1 ∷ bd 0 0 0 [] ∷ op 8 0 1 ∷ op 0 0 0 ∷ sh 1 0 (1 ∷ []) ∷ [])) ≡ 9 ∷ 0 ∷ [])
    × (loading (joined (hd 0 1 2 1 ∷ bd 0 0 0 [] ∷ op 8 0 1 ∷ op 0 0 0 ∷ sh 1 0 [] ∷ [])) ≡ [])
    × (loading (joined (hd 0 1 3 1 ∷ bd 0 0 0 [] ∷ op 17 0 3 ∷ op 18 0 0 ∷ op 0 0 0 ∷ sh 1 0 [] ∷ [])) ≡ 9 ∷ 1 ∷ [])
unfolding cases_compute joined
jumps = (refl, refl, refl, refl)

-- a run with allowance 0; one that is too short for an event; a bank of 63 bytes, which leaves the state as it is; an ended state, whose end
-- comes again with 0 steps, also at allowance 0
unfoldable short : Feed
short = record { readings = replicate 63 0; allowance = 9 }

runs-on : answers Listing.code (feed 0 ∷ feed 9 ∷ feed 1 ∷ short ∷ feed 9 ∷ feed 9 ∷ feed 9 ∷ feed 9 ∷ feed 0 ∷ [])
    ≡ 2 ∷ 0 ∷ 0 ∷ 0 ∷ 0 ∷ 5 ∷ 1 ∷ 7 ∷ 0 ∷ 0 ∷ 2 ∷ 1 ∷ 0 ∷ 0 ∷ 0 ∷ 0 ∷ 0 ∷ 11 ∷ 0 ∷ 0 ∷ 4 ∷ 2 ∷ 3 ∷ 200 ∷ 0 ∷ 6 ∷ 1 ∷ 7 ∷ 0 ∷ 0 ∷ 3 ∷ 2 ∷ 0 ∷ 0 ∷ 0 ∷ 3 ∷ 0 ∷ 0 ∷ 0 ∷ 0 ∷ 3 ∷ 0 ∷ 0 ∷ 0 ∷ 0 ∷ []
unfolding cases_compute joined Listing.code short
runs-on = refl

-- a condition on the machine: its own step gives no event, then a release a step, then one step that ends
unfoldable failing : List ℕ
failing = joined (hd 0 1 5 0 ∷ bd 0 0 0 [] ∷ op 17 0 3 ∷ op 17 0 4 ∷ op 2 0 0 ∷ op 19 0 0 ∷ op 20 24 0 ∷ [])

releases-last-first : (loading failing ≡ [])
    × (answers failing (feed 9 ∷ feed 9 ∷ feed 9 ∷ feed 9 ∷ feed 9 ∷ [])
    ≡ 5 ∷ 1 ∷ 3 ∷ 0 ∷ 0 ∷ 5 ∷ 1 ∷ 4 ∷ 0 ∷ 0 ∷ 6 ∷ 3 ∷ 4 ∷ 0 ∷ 0 ∷ 6 ∷ 1 ∷ 3 ∷ 0 ∷ 0 ∷ 3 ∷ 1 ∷ 23 ∷ 0 ∷ 0 ∷ [])
unfolding cases_compute joined failing
releases-last-first = (refl, refl)

-- op 20 stops by its a: 28 after its own step and that of the end; with a 0, as it was written before request 1, 25 or a b it is refused (9)
unfoldable stopping : ℕ → ℕ → List ℕ
stopping a b = joined (hd 0 1 1 0 ∷ bd 0 0 0 [] ∷ op 20 a b ∷ [])

stops-by-a : (loading (stopping 28 0) ≡ []) × (answers (stopping 28 0) (feed 9 ∷ []) ≡ 3 ∷ 2 ∷ 28 ∷ 0 ∷ 0 ∷ [])
    × (answers (stopping 24 0) (feed 9 ∷ []) ≡ 3 ∷ 2 ∷ 24 ∷ 0 ∷ 0 ∷ [])
    × (loading (stopping 0 0) ≡ 9 ∷ 0 ∷ []) × (loading (stopping 25 0) ≡ 9 ∷ 0 ∷ []) × (loading (stopping 28 1) ≡ 9 ∷ 0 ∷ [])
unfolding cases_compute joined stopping
stops-by-a = (refl, refl, refl, refl, refl, refl)

-- and inside a called procedure, with holds 3, 4 open in it and 1, 2 in the root: all are released, the procedure's last first, then the root's
unfoldable failing_inside : List ℕ
failing_inside = joined
    (hd 0 2 13 0 ∷ bd 0 0 0 [] ∷ bd 6 0 0 []
    ∷ op 17 0 1 ∷ op 17 0 2 ∷ op 10 0 1 ∷ op 18 0 0 ∷ op 18 0 0 ∷ op 0 0 0
    ∷ op 17 0 3 ∷ op 17 0 4 ∷ op 2 0 0 ∷ op 19 0 0 ∷ op 18 0 0 ∷ op 18 0 0 ∷ op 11 0 0 ∷ [])

releases-of-all : (loading failing_inside ≡ [])
    × (answers failing_inside (feed 9 ∷ feed 9 ∷ feed 9 ∷ feed 9 ∷ feed 9 ∷ feed 9 ∷ feed 9 ∷ feed 9 ∷ feed 9 ∷ [])
    ≡ 5 ∷ 1 ∷ 1 ∷ 0 ∷ 0 ∷ 5 ∷ 1 ∷ 2 ∷ 0 ∷ 0 ∷ 5 ∷ 2 ∷ 3 ∷ 0 ∷ 0 ∷ 5 ∷ 1 ∷ 4 ∷ 0 ∷ 0
    ∷ 6 ∷ 3 ∷ 4 ∷ 0 ∷ 0 ∷ 6 ∷ 1 ∷ 3 ∷ 0 ∷ 0 ∷ 6 ∷ 1 ∷ 2 ∷ 0 ∷ 0 ∷ 6 ∷ 1 ∷ 1 ∷ 0 ∷ 0 ∷ 3 ∷ 1 ∷ 23 ∷ 0 ∷ 0 ∷ [])
unfolding cases_compute joined failing_inside
releases-of-all = (refl, refl)
