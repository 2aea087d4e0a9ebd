-- The listing of a table, byte for byte. (paper 01, Marked with *)
-- "A listing program reads a table from standard input, all readings 0, and prints each event (word, then group, or channel and level) and
-- `end` with 0 or the condition, or `open 0` after 65,535 steps. It lends 65,536 bytes for the macro; a refusal prints as `refused`, number
-- and place." "The listing program prints these four totals in that order, one line each, that word and the number, before `end` or `open`."
-- (paper 02, ticket 4)
use Rattle.std.specs.Prelude.{List, [], ◌∷◌, ◌++◌, ℕ, zero, suc, ◌+◌, ◌-◌, ◌/◌, ◌%◌, ltb, take, replicate}
use Rattle.logic.specs.Choice.{If◌then◌else◌}
use Rattle.values.specs.Ends.{Refusal, Judged, accepted, refused}
use Rattle.values.specs.Trace.{Event, set, hold, release}
use Rattle.language.specs.Judge.{compile_on}
use Rattle.compile_code.specs.Encode.{macro_of}
use Rattle.bytecode.specs.Runs.{Answer, happens, spends, finishes, refuses, halts}
use Rattle.bytecode.specs.State.{state_length}
use Rattle.bytecode.specs.Lent.{RanOn, start_on, run_on}
use Rattle.listing_text.specs.Sheet.{Totals, none, count_run}

-- ── lines, in ASCII ──
abbrev pub digit : ℕ → ℕ
digit n = 48 + n

-- a number in at most suc d decimal digits
unfoldable pub digits : ℕ → ℕ → List ℕ
digits zero n = digit n ∷ []
digits (suc d) n = If ltb n 10 then digit n ∷ [] else digits d (n / 10) ++ (digit (n % 10) ∷ [])

-- it has no more digits than itself says
unfoldable pub decimal : ℕ → List ℕ
decimal n = digits n n

-- each number after a space, and then the line's end
unfoldable pub numbers : List ℕ → List ℕ
numbers [] = 10 ∷ []
numbers (n ∷ ns) = 32 ∷ (decimal n ++ numbers ns)

abbrev pub line : List ℕ → List ℕ → List ℕ
line word ns = word ++ numbers ns

-- "each event (word, then group, or channel and level)"
abbrev pub event_line : Event → List ℕ
event_line (set channel level) = line (115 ∷ 101 ∷ 116 ∷ []) (channel ∷ level ∷ [])  -- set
event_line (hold group) = line (104 ∷ 111 ∷ 108 ∷ 100 ∷ []) (group ∷ [])  -- hold
event_line (release group) = line (114 ∷ 101 ∷ 108 ∷ 101 ∷ 97 ∷ 115 ∷ 101 ∷ []) (group ∷ [])  -- release

-- "and `end` with 0 or the condition"
abbrev pub end_line : ℕ → List ℕ
end_line c = line (101 ∷ 110 ∷ 100 ∷ []) (c ∷ [])

-- "or `open 0` after 65,535 steps"
abbrev pub open_line : List ℕ
open_line = line (111 ∷ 112 ∷ 101 ∷ 110 ∷ []) (0 ∷ [])

-- "a refusal prints as `refused`, number and place"
abbrev pub refused_line : Refusal → List ℕ
refused_line r = line (114 ∷ 101 ∷ 102 ∷ 117 ∷ 115 ∷ 101 ∷ 100 ∷ []) (r.number ∷ r.place ∷ [])

-- "these four totals in that order, one line each, that word and the number"
abbrev pub sets_line : ℕ → List ℕ
sets_line n = line (115 ∷ 101 ∷ 116 ∷ 115 ∷ []) (n ∷ [])  -- sets

abbrev pub holds_line : ℕ → List ℕ
holds_line n = line (104 ∷ 111 ∷ 108 ∷ 100 ∷ 115 ∷ []) (n ∷ [])  -- holds

abbrev pub releases_line : ℕ → List ℕ
releases_line n = line (114 ∷ 101 ∷ 108 ∷ 101 ∷ 97 ∷ 115 ∷ 101 ∷ 115 ∷ []) (n ∷ [])  -- releases

abbrev pub readings_line : ℕ → List ℕ
readings_line n = line (114 ∷ 101 ∷ 97 ∷ 100 ∷ 105 ∷ 110 ∷ 103 ∷ 115 ∷ []) (n ∷ [])  -- readings

unfoldable pub sheet_text : Totals → List ℕ
sheet_text t = sets_line t.sets ++ (holds_line t.holds ++ (releases_line t.releases ++ readings_line t.readings))

-- what a run's answer prints, with the totals after it; a macro that passes never halts, so that nothing is said of it
abbrev pub answer_text : Answer → Totals → List ℕ
answer_text (happens e n) t = event_line e
answer_text (spends n) t = sheet_text t ++ open_line
answer_text (finishes c n) t = sheet_text t ++ end_line c
answer_text (refuses r) t = refused_line r
answer_text (halts why) t = []

-- ── runs ──
-- after an event there is another run, with the steps that are left (S14); after any other answer there is none
abbrev pub after_event : {A : Type 0} → Answer → (ℕ → List A) → List A
after_event (happens e n) more = more n
after_event (spends n) more = []
after_event (finishes c n) more = []
after_event (refuses r) more = []
after_event (halts why) more = []

-- "all readings 0"
abbrev pub zeros : List ℕ
zeros = replicate 64 0

-- at most k runs, with so many steps left
unfoldable pub runs_from : ℕ → List ℕ → List ℕ → ℕ → List RanOn
runs_from zero code state left = []
runs_from (suc k) code state left =
    let r = run_on code state zeros left in r ∷ after_event r.answer (λ n. runs_from k code r.bytes (left - n))

-- every run that gives an event takes a step (Steps), so that there is one run more at most than there are steps
abbrev pub runs_of : List ℕ → List ℕ → ℕ → List RanOn
runs_of code state left = runs_from (suc left) code state left

-- what runs print, with these totals before them
unfoldable pub text_of : Totals → List RanOn → List ℕ
text_of t [] = []
text_of t (r ∷ rs) = let u = count_run r t in answer_text r.answer u ++ text_of u rs

unfoldable pub lines_of : List ℕ → List ℕ → ℕ → List ℕ
lines_of code state left = text_of none (runs_of code state left)

-- ── a macro and a table ──
-- "after 65,535 steps"
abbrev pub started_text : List ℕ → Judged (Unit {0}) → List ℕ → List ℕ
started_text code (refused r) state = refused_line r
started_text code (accepted _) state = lines_of code state 65535

-- a macro, and the bytes lent for its state
unfoldable pub macro_text : List ℕ → List ℕ → List ℕ
macro_text code lent = let s = start_on code lent in started_text code s.verdict s.bytes

-- "It lends 65,536 bytes for the macro"
abbrev pub macro_room : ℕ
macro_room = 65536

-- of what is lent only the macro counts
abbrev pub compiled_text : Judged ℕ → List ℕ → List ℕ → List ℕ
compiled_text (refused r) code lent = refused_line r
compiled_text (accepted n) code lent = macro_text (take n code) lent

-- the listing on lent bytes, for the macro and for the state
unfoldable pub listing_on : List ℕ → List ℕ → List ℕ → List ℕ
listing_on table room lent = let c = compile_on macro_of table room in compiled_text c.verdict c.bytes lent

unfoldable pub listing_of : List ℕ → List ℕ
listing_of table = listing_on table (replicate macro_room 0) (replicate state_length 0)
