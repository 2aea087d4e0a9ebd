-- The answers of the code as those of the definitions: different ones stay different, and none is that of a machine with no next step.
use Rattle.std.specs.Prelude.{◌≡◌, refl, Result, Ok, Err}
use Rattle.std.proofs.Common.{sym, ap, ◌∙◌}
use Rattle.values.specs.Ends.{Judged, accepted, refused}
use Rattle.values.specs.Refusals.{in_code, refusal_of}
use Rattle.values.specs.declared.Refusal.{Refusal}
use Rattle.bytecode.specs.Runs.{Answer, happens, spends, finishes, refuses, halts}
use Rattle.bytecode.specs.Answers.{Numbers, numbers, refusal_numbers}
use Rattle.machine_ops.specs.Acts.{event_of}
use Rattle.packing.specs.Events.{event_back, event-back}
use Rattle.machine_run.specs.declared.Answer as machine
use Rattle.machine_run.specs.declared.Answer.TheVariants.{Happens, Spends, Finishes}
use Rattle.run.specs.declared.Played.{Played}
use Rattle.run.specs.declared.Played.TheVariants as plays

-- a start's verdict
abbrev pub verdict_of : Result (Unit {0}) Refusal → Judged (Unit {0})
verdict_of (Ok x) = accepted x
verdict_of (Err r) = refused (refusal_of r)

-- a run's answer
abbrev pub answer_of : Result machine.Answer Refusal → Answer
answer_of (Ok (Happens e n)) = happens (event_back e) n
answer_of (Ok (Spends n)) = spends n
answer_of (Ok (Finishes c n)) = finishes c n
answer_of (Err r) = refuses (refusal_of r)

-- a play's
abbrev pub play_numbers : Result Played Refusal → Numbers
play_numbers (Ok (plays.Spends n k)) = numbers 2 n 0 k
play_numbers (Ok (plays.Finishes c n k)) = numbers 3 n c k
play_numbers (Ok (plays.Fills n k)) = numbers 8 n 0 k
play_numbers (Err r) = refusal_numbers (refusal_of r)

-- ── and back ──
abbrev started_back : Judged (Unit {0}) → Result (Unit {0}) Refusal
started_back (accepted x) = Ok x
started_back (refused r) = Err (in_code r)

started-back : (a : Result (Unit {0}) Refusal) → started_back (verdict_of a) ≡ a
started-back (Ok x) = refl
started-back (Err r) = refl

pub verdict-injective : (a b : Result (Unit {0}) Refusal) → verdict_of a ≡ verdict_of b → a ≡ b
verdict-injective a b e = sym (started-back a) ∙ ap started_back e ∙ started-back b

-- no run answers a halt, so any answer serves for it
abbrev ran_back : Answer → Result machine.Answer Refusal
ran_back (happens e n) = Ok (Happens (event_of e) n)
ran_back (spends n) = Ok (Spends n)
ran_back (finishes c n) = Ok (Finishes c n)
ran_back (refuses r) = Err (in_code r)
ran_back (halts why) = Ok (Spends 0)

ran-back : (a : Result machine.Answer Refusal) → ran_back (answer_of a) ≡ a
ran-back (Ok (Happens e n)) = rw event-back
ran-back (Ok (Spends n)) = refl
ran-back (Ok (Finishes c n)) = refl
ran-back (Err r) = refl

pub answer-injective : (a b : Result machine.Answer Refusal) → answer_of a ≡ answer_of b → a ≡ b
answer-injective a b e = sym (ran-back a) ∙ ap ran_back e ∙ ran-back b
