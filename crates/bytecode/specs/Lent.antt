-- Start and run on lent bytes: what they answer and what the state's bytes hold after. (paper 01, Running; Refusals and ends)
use Rattle.std.specs.Prelude.{List, ℕ, eqb, length}
use Rattle.std.proofs.Math.Option.{Option, none, some}
use Rattle.logic.specs.Choice.{If◌then◌else◌}
use Rattle.logic.specs.Options.{keep}
use Rattle.values.specs.Ends.{Refusal, refusal, Judged, accepted, refused}
use Rattle.values.specs.Trace.{readings_in}
use Rattle.bytecode.specs.Macro.{Macro}
use Rattle.bytecode.specs.Rules.{judge_macro}
use Rattle.bytecode.specs.Machine.{Machine, fresh_machine}
use Rattle.bytecode.specs.Runs.{Answer, happens, spends, finishes, refuses, halts, run}
use Rattle.bytecode.specs.Sound.{sound}
use Rattle.bytecode.specs.State.{state_length, encode, decode}

-- the sound state that decodes from the bytes; "10 is given for no sound one of right length"
abbrev pub only_sound : Macro → Machine → Option Machine
only_sound m s = If sound m s then some s else none

unfoldable pub sound_state : Macro → List ℕ → Option Machine
sound_state m l = If eqb (length l) state_length then keep (decode m l) (only_sound m) else none

-- "A start takes a macro and these bytes, tests 8, 9 and the length by 10, and writes the fresh state."
pub record Started : Type 0 where
  pub verdict : Judged (Unit {0})
  pub bytes : List ℕ

abbrev pub start_refused : Refusal → List ℕ → Started
start_refused r l = record { verdict = refused r; bytes = l }

abbrev pub start_macro : Judged Macro → List ℕ → Started
start_macro (refused r) l = start_refused r l
start_macro (accepted m) l =
    If eqb (length l) state_length
    then record { verdict = accepted tt; bytes = encode (fresh_machine m) }
    else start_refused (refusal 10 0) l

unfoldable pub start_on : List ℕ → List ℕ → Started
start_on code l = start_macro (judge_macro code) l

-- "A run tests 8, 9, 10, 11 in order."; "lent memory stays" where it refuses
pub record RanOn : Type 0 where
  pub answer : Answer
  pub bytes : List ℕ
  pub readings : ℕ  -- how many the run took (paper 02, ticket 4)

abbrev pub run_refused : Refusal → List ℕ → RanOn
run_refused r l = record { answer = refuses r; bytes = l; readings = 0 }

-- the bytes after a run, by its answer
abbrev pub written : Answer → Machine → List ℕ → List ℕ
written (happens e n) s l = encode s
written (spends n) s l = encode s
written (finishes c n) s l = encode s
written (refuses r) s l = l
written (halts w) s l = l

abbrev pub run_state : Option Machine → Macro → List ℕ → ℕ → List ℕ → RanOn
run_state none m readings allowance l = run_refused (refusal 10 0) l
run_state (some s) m readings allowance l =
    let r = run m readings allowance s in
    record { answer = r.answer; bytes = written r.answer r.state l; readings = readings_in r.trace }

abbrev pub run_macro : Judged Macro → List ℕ → ℕ → List ℕ → RanOn
run_macro (refused r) readings allowance l = run_refused r l
run_macro (accepted m) readings allowance l = run_state (sound_state m l) m readings allowance l

unfoldable pub run_on : List ℕ → List ℕ → List ℕ → ℕ → RanOn
run_on code l readings allowance = run_macro (judge_macro code) readings allowance l
