-- Answers as numbers, and how they are packed into one. (design, interface: "packed = tag + 2^8 × steps + 2^24 × first + 2^40 × second")
use Rattle.std.specs.Prelude.{ℕ, ◌+◌, ◌*◌, ◌^◌}
use Rattle.values.specs.Ends.{Refusal, Judged, accepted, refused}
use Rattle.values.specs.Trace.{Event, set, hold, release}
use Rattle.bytecode.specs.Runs.{Answer, happens, spends, finishes, refuses, halts}

pub record Numbers : Type 0 where
  pub tag : ℕ
  pub steps : ℕ
  pub first : ℕ
  pub second : ℕ

abbrev pub numbers : ℕ → ℕ → ℕ → ℕ → Numbers
numbers t n x y = record { tag = t; steps = n; first = x; second = y }

-- refusal: its number and its place; "Refusals report 0 steps"
abbrev pub refusal_numbers : Refusal → Numbers
refusal_numbers r = numbers 0 0 r.number r.place

-- done: of a compilation with the macro's length, else 0
abbrev pub done_numbers : ℕ → Numbers
done_numbers n = numbers 1 0 0 n

abbrev pub verdict_numbers : {A : Type 0} → Judged A → Numbers
verdict_numbers (accepted x) = done_numbers 0
verdict_numbers (refused r) = refusal_numbers r

abbrev pub event_numbers : Event → ℕ → Numbers
event_numbers (set c l) n = numbers 4 n c l
event_numbers (hold g) n = numbers 5 n g 0
event_numbers (release g) n = numbers 6 n g 0

-- a machine with no next step has no number of its own: no run of a sound state answers so
abbrev pub answer_numbers : Answer → Numbers
answer_numbers (happens e n) = event_numbers e n
answer_numbers (spends n) = numbers 2 n 0 0
answer_numbers (finishes c n) = numbers 3 n c 0
answer_numbers (refuses r) = refusal_numbers r
answer_numbers (halts w) = numbers 7 0 0 0

abbrev pub packed : Numbers → ℕ
packed x = x.tag + x.steps * 2 ^ 8 + x.first * 2 ^ 24 + x.second * 2 ^ 40
