-- The first run of a call alone, or as many as fit: what each gives, in the words of the code that makes both.
use Rattle.std.specs.Prelude.{◌≡◌, Bool, true, false, List, ℕ, ◌/◌, ◌≤◌, length, Result, Ok, Err}
use Rattle.values.specs.declared.Refusal.{Refusal}
use Rattle.bytecode.specs.Lent.{run_on}
use Rattle.bytecode.specs.Play.{play_from, play_on}
use Rattle.machine_run.specs.declared.Answer.{Answer}
use Rattle.machine_run.specs.declared.Answer.TheVariants as runs
use Rattle.run.specs.declared.Played.{Played}
use Rattle.run.specs.declared.Played.TheVariants as plays
use Rattle.run.specs.declared.plays.Outcome.{Outcome}
use Rattle.run.specs.declared.plays.Outcome.TheVariants.{Happens, Plays}
use Rattle.run.specs.declared.plays.Gone.{Gone}
use Rattle.run.specs.Answers.{answer_of, play_numbers}

-- a run that gave no event; that there was no room for one is not said of a run
abbrev pub eventless : Played → Answer
eventless (plays.Spends n k) = runs.Spends n
eventless (plays.Finishes c n k) = runs.Finishes c n
eventless (plays.Fills n k) = runs.Spends n

abbrev pub first_of : Outcome → Answer
first_of (Happens e n) = runs.Happens e n
first_of (Plays p) = eventless p

-- a play hands no event back
abbrev pub played_of : Outcome → Played
played_of (Happens e n) = plays.Fills n 0
played_of (Plays p) = p

-- from a state's own bytes l to l', and from the answers' bytes a to a'
abbrev pub Goes : Bool → List ℕ → List ℕ → ℕ → List ℕ → List ℕ → List ℕ → List ℕ → Gone → Type 0
Goes once c readings allowance l a l' a' r =
    (once ≡ true → run_on c l readings allowance ≡ record { answer = answer_of (Ok (first_of r.outcome)); bytes = l'; readings = r.readings })
    × (once ≡ false → play_from c readings allowance (length a / 8) 0 0 l a ≡ record { answer = play_numbers (Ok (played_of r.outcome)); state = l'; answers = a'; readings = r.readings })

-- a refusal comes before any run
abbrev pub run_answer : Result Gone Refusal → Result Answer Refusal
run_answer (Ok g) = Ok (first_of g.outcome)
run_answer (Err r) = Err r

abbrev pub play_answer : Result Gone Refusal → Result Played Refusal
play_answer (Ok g) = Ok (played_of g.outcome)
play_answer (Err r) = Err r

abbrev pub readings_of : Result Gone Refusal → ℕ
readings_of (Ok g) = g.readings
readings_of (Err r) = 0

-- from any bytes
abbrev pub GoesOn : Bool → List ℕ → List ℕ → ℕ → List ℕ → List ℕ → List ℕ → List ℕ → Result Gone Refusal → Type 0
GoesOn once c readings allowance l a l' a' r =
    (once ≡ true → 8 ≤ length a → run_on c l readings allowance ≡ record { answer = answer_of (run_answer r); bytes = l'; readings = readings_of r })
    × (once ≡ false → play_on c l readings allowance a ≡ record { answer = play_numbers (play_answer r); state = l'; answers = a'; readings = readings_of r })
