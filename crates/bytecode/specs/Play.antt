-- A play: as many runs as fit into one call. (issue 13: "what a list of runs with the same readings gives, the first with the allowance, each later one with
-- what the steps before it left, as long as a run answers an event, allowance is left and `answers` has room for another 8 bytes")
use Rattle.std.specs.Prelude.{List, ◌++◌, ℕ, zero, suc, ◌+◌, ◌*◌, ◌-◌, ◌/◌, ◌%◌, length}
use Rattle.std.proofs.lemmas.List.Edits.{sets}
use Rattle.words.specs.Numbers.{word}
use Rattle.bytecode.specs.Runs.{Answer, happens, spends, finishes, refuses, halts}
use Rattle.bytecode.specs.Lent.{run_on}
use Rattle.bytecode.specs.Answers.{Numbers, numbers, refusal_numbers, event_numbers, answer_numbers, packed}

-- what is answered, what the lent bytes hold after, those of the state and those for the events' answers, and how many readings the runs took
pub record Played : Type 0 where
  pub answer : Numbers
  pub state : List ℕ
  pub answers : List ℕ
  pub readings : ℕ

abbrev pub played : Numbers → List ℕ → List ℕ → Played
played a state answers = record { answer = a; state = state; answers = answers; readings = 0 }

-- a run's readings beside those of the runs behind it
abbrev pub taking : ℕ → Played → Played
taking n p = record { answer = p.answer; state = p.state; answers = p.answers; readings = n + p.readings }

-- a packed answer takes eight bytes, "little-endian"
abbrev pub long : ℕ → List ℕ
long n = word (n % 4294967296) ++ word (n / 4294967296)

-- "the i-th event's packed answer, as cue_run gives it, is written at 8·i"
abbrev pub put_answer : List ℕ → ℕ → Numbers → List ℕ
put_answer answers i a = sets answers (8 * i) (long (packed a))

-- What follows a run, with the steps and the events before it: after an event the next run; else the play is over, with its last run's answer, "with all
-- steps taken, and in second the number of events written".
abbrev pub after_run : Answer → ℕ → ℕ → List ℕ → List ℕ → (ℕ → List ℕ → Played) → Played
after_run (happens e n) taken events state answers next = next (taken + n) (put_answer answers events (event_numbers e n))
after_run (spends n) taken events state answers next = played (numbers 2 (taken + n) 0 events) state answers
after_run (finishes c n) taken events state answers next = played (numbers 3 (taken + n) c events) state answers
after_run (refuses r) taken events state answers next = played (refusal_numbers r) state answers
after_run (halts w) taken events state answers next = played (answer_numbers (halts w)) state answers

-- with room for so many events more: "8 (no room for another event)", or a run with what is left; with nothing left a run takes no step
module _ (code readings : List ℕ) (allowance : ℕ) where
  unfoldable pub play_from : ℕ → ℕ → ℕ → List ℕ → List ℕ → Played
  play_from zero taken events state answers = played (numbers 8 taken 0 events) state answers
  play_from (suc room) taken events state answers =
      let r = run_on code state readings (allowance - taken) in
      taking r.readings (after_run r.answer taken events r.bytes answers (λ n a. play_from room n (suc events) r.bytes a))

-- "a refusal as cue_run (8, 9, 10, 11 in order), and then nothing is written"
abbrev pub unless_refused : Answer → List ℕ → List ℕ → Played → Played
unless_refused (refuses r) state answers p = played (refusal_numbers r) state answers
unless_refused (happens e n) state answers p = p
unless_refused (spends n) state answers p = p
unless_refused (finishes c n) state answers p = p
unless_refused (halts w) state answers p = p

-- a run without allowance makes the tests and nothing else
unfoldable pub play_on : List ℕ → List ℕ → List ℕ → ℕ → List ℕ → Played
play_on code state readings allowance answers =
    unless_refused (run_on code state readings 0).answer state answers (play_from code readings allowance (length answers / 8) 0 0 state answers)
