-- The totals of an end sheet. (paper 02, ticket 4)
-- "Stage managers file a sheet per macro: sets, holds, releases and readings, then the end."
use Rattle.std.specs.Prelude.{List, [], ◌∷◌, ℕ, ◌+◌}
use Rattle.values.specs.Trace.{Event, set, hold, release, Item, event, reading}
use Rattle.bytecode.specs.Runs.{Answer, happens, spends, finishes, refuses, halts}
use Rattle.bytecode.specs.Lent.{RanOn}

pub record Totals : Type 0 where
  pub sets : ℕ
  pub holds : ℕ
  pub releases : ℕ
  pub readings : ℕ

abbrev pub sheet : ℕ → ℕ → ℕ → ℕ → Totals
sheet a b c d = record { sets = a; holds = b; releases = c; readings = d }

abbrev pub none : Totals
none = sheet 0 0 0 0

-- an event more
abbrev pub count : Event → Totals → Totals
count (set c l) t = sheet (t.sets + 1) t.holds t.releases t.readings
count (hold g) t = sheet t.sets (t.holds + 1) t.releases t.readings
count (release g) t = sheet t.sets t.holds (t.releases + 1) t.readings

-- so many readings more
abbrev pub read : ℕ → Totals → Totals
read n t = sheet t.sets t.holds t.releases (t.readings + n)

-- ── of runs ──
abbrev pub count_answer : Answer → Totals → Totals
count_answer (happens e n) t = count e t
count_answer (spends n) t = t
count_answer (finishes c n) t = t
count_answer (refuses r) t = t
count_answer (halts why) t = t

-- the event that a run answered, and the readings that it took
abbrev pub count_run : RanOn → Totals → Totals
count_run r t = read r.readings (count_answer r.answer t)

unfoldable pub totals : Totals → List RanOn → Totals
totals t [] = t
totals t (r ∷ rs) = totals (count_run r t) rs

-- ── of a trace: an execution's, or of a part of it ──
abbrev pub count_item : Item → Totals → Totals
count_item (event e) t = count e t
count_item (reading f v) t = read 1 t

unfoldable pub traced : Totals → List Item → Totals
traced t [] = t
traced t (i ∷ is) = traced (count_item i t) is
