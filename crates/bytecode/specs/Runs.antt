-- A run, and a list of runs, of the plain machine. (paper 01, Running)
use Rattle.std.specs.Prelude.{List, [], ◌∷◌, ◌++◌, ℕ, zero, suc, ◌-◌, eqb, length, get_or}
use Rattle.logic.specs.Choice.{If◌then◌else◌}
use Rattle.values.specs.Ends.{Refusal, refusal}
use Rattle.values.specs.Trace.{Event, Item, event, reading}
use Rattle.bytecode.specs.Macro.{Macro}
use Rattle.bytecode.specs.Machine.{Machine, running, unwinding, ended, Stuck, Stepped, moved, stuck, step}

-- "It gives one of four things: an event, the allowance used, an end, a refusal."; a machine with no next step says so instead
pub data Answer : Type 0 where
  happens : Event → ℕ → Answer  -- with the steps taken
  spends : ℕ → Answer
  finishes : ℕ → ℕ → Answer  -- 0 or the condition, and the steps
  refuses : Refusal → Answer
  halts : Stuck → Answer

-- an answer, the state after it, and the trace of the run: what its steps gave, in order
pub record Ran : Type 0 where
  pub answer : Answer
  pub state : Machine
  pub trace : List Item

abbrev pub with : Answer → Machine → Ran
with a s = record { answer = a; state = s; trace = [] }

-- what a step gave stands before what the steps behind it give
abbrev pub after : List Item → Ran → Ran
after is r = record { answer = r.answer; state = r.state; trace = is ++ r.trace }

-- "op 16 reads fader n in the n-th of its run's 64 bytes"
abbrev pub bank_of : List ℕ → ℕ → ℕ
bank_of bytes n = get_or bytes (n - 1) 0

-- "A run returns after the step that gives an event or ends, counting it, else with "allowance used" and steps equal to the allowance."
-- n steps are taken; what is to be done with the rest of the allowance follows a step that gives no event and does not end
abbrev pub ends : Machine → ℕ → (Machine → Ran) → Ran
ends (running s f fs) n k = k (running s f fs)
ends (unwinding gs a) n k = k (unwinding gs a)
ends (ended c) n k = with (finishes c n) (ended c)

abbrev pub visible : List Item → Machine → ℕ → (Machine → Ran) → Ran
visible [] s n k = ends s n k
visible (event e ∷ is) s n k = with (happens e n) s
visible (reading f v ∷ is) s n k = ends s n k

abbrev pub after_step : Stepped → Machine → ℕ → (Machine → Ran) → Ran
after_step (moved is t) s n k = after is (visible is t n k)
after_step (stuck why) s n k = with (halts why) s

unfoldable pub steps : Macro → (ℕ → ℕ) → ℕ → ℕ → Machine → Ran
steps m bank zero n s = with (spends n) s
steps m bank (suc left) n s = after_step (step m bank s) s (suc n) (λ t. steps m bank left (suc n) t)

-- 11: "readings not 64 bytes", of an ended state too (S8); "An ended state gives its end again with 0 steps." (S9)
unfoldable pub run : Macro → List ℕ → ℕ → Machine → Ran
run m readings allowance s =
    If eqb (length readings) 64 then ends s 0 (λ t. steps m (bank_of readings) allowance 0 t) else with (refuses (refusal 11 0)) s

-- "The plain machine is fed the macro and each run's readings and allowance, and answers each run as above; one that 11 refuses leaves it
-- as it is."
pub record Feed : Type 0 where
  pub readings : List ℕ
  pub allowance : ℕ

-- the answers, each with the state after it
unfoldable pub runs : Macro → List Feed → Machine → List Ran
runs m [] s = []
runs m (f ∷ fs) s = let r = run m f.readings f.allowance s in r ∷ runs m fs r.state
