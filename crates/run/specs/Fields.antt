-- The numbers of every answer are in range, so that they fit the fields that answers are packed into.
use Rattle.std.proofs.Math.Path.{◌≡◌, refl}
use Rattle.std.proofs.Common.{sym, ap, subst}
use Rattle.std.specs.Prelude.{Bool, List, ◌⊎◌, ℕ, ◌≤◌, ◌<◌, eqb, length}
use Rattle.std.proofs.Math.Bool.{true, false}
use Rattle.std.proofs.Math.Option.{Option, none, some}
use native.Mathlib.Omega.{arith}
use Rattle.logic.specs.Options.{keep}
use Rattle.words.specs.Laws.{Bytes}
use Rattle.logic.specs.Choice.{If◌then◌else◌}
use Rattle.values.specs.Ends.{Refusal, refusal, Judged, accepted, refused, is_condition}
use Rattle.bytecode.specs.Macro.{Macro}
use Rattle.bytecode.specs.Rules.{judge_macro}
use Rattle.bytecode.specs.Machine.{Machine, fresh_machine}
use Rattle.bytecode.specs.Runs.{Answer, happens, spends, finishes, refuses, halts, run}
use Rattle.bytecode.specs.Sound.{sound}
use Rattle.bytecode.specs.State.{state_length, encode, decode}
use Rattle.bytecode.specs.Lent.{only_sound, sound_state, start_refused, start_macro, start_on, run_state, run_macro, run_on}
use Rattle.bytecode_laws.specs.Promises.{passed}
use Rattle.logic.specs.OptionLaws.{chosen, kept, same_some}
use Rattle.bytecode_safety.specs.Terms.{InRange, steps_of, Answers}
use Rattle.bytecode_safety.specs.Safety.{run-safe}
use Rattle.values.specs.Refusals.{in_code}
use Rattle.load_check.specs.Loaded.{loaded_of}
use Rattle.load_check.proofs.LoadedLaws.{fields}

pub state-sound : (m : Macro) (l : List ℕ) (s : Machine) → sound_state m l ≡ some s → sound m s ≡ true
unfolding sound_state
state-sound m l s e =
    let a = chosen (eqb (length l) state_length) (keep (decode m l) (only_sound m)) s e in
    let d = kept (decode m l) (only_sound m) s a.1 in
    let t = chosen (sound m d.0) (some d.0) s d.2 in
    rw (← same_some t.1) t.0

abbrev pub Small : Refusal → Type 0
Small r = (r.number < 256) × (r.place < 16777216)

-- an answer of a run with this allowance, its numbers in range
abbrev pub Ranged : ℕ → Answer → Type 0
Ranged allowance (happens e n) = (n ≤ allowance) × InRange e
Ranged allowance (spends n) = n ≤ allowance
Ranged allowance (finishes c n) = (n ≤ allowance) × ((c ≡ 0) ⊎ (is_condition c ≡ true))
Ranged allowance (refuses r) = Small r
Ranged allowance (halts why) = ⊥

-- the only other refusals have no place
small-10 : (r : Refusal) → refusal 10 0 ≡ r → Small r
small-10 r e = rw (← e) (omega arith, omega arith)

small-11 : (r : Refusal) → r ≡ refusal 11 0 → Small r
small-11 r e = rw e (omega arith, omega arith)

module _ (c : List ℕ) (B : Bytes c) where
  pub judged-small : (r : Refusal) → judge_macro c ≡ refused r → Small r
  judged-small r e = fields c B (in_code r) (sym (ap loaded_of e))

  pub start_small : (l : List ℕ) (r : Refusal) → (start_on c l).verdict ≡ refused r → Small r
  unfolding start_on
  start_small l r e = go (judge_macro c) refl e
    where
      long : (m : Macro) (b : Bool) → (If b then record { verdict = accepted tt; bytes = encode (fresh_machine m) } else start_refused (refusal 10 0) l).verdict ≡ refused r → Small r
      long m true e = let z : ◌≡◌ {A = ℕ} 0 1 = cc in absurd (omega arith)
      long m false e = small-10 r (cc)

      go : (j : Judged Macro) → judge_macro c ≡ j → (start_macro j l).verdict ≡ refused r → Small r
      go (refused q) d e = let z : q ≡ r = cc in rw (← z) (judged-small q d)
      go (accepted m) d e = long m (eqb (length l) state_length) e

  pub run-ranged : (l readings : List ℕ) (allowance : ℕ) → Bytes readings → Ranged allowance (run_on c l readings allowance).answer
  unfolding run_on
  run-ranged l readings allowance R = go (judge_macro c) refl
    where
      told : (s t : Machine) (a : Answer) → Answers (record { readings = readings; allowance = allowance }) s a t → Ranged allowance a
      told s t (happens v n) A = (A.1, A.2)
      told s t (spends n) A = omega (arith, A.1)
      told s t (finishes d n) A = (A.1, A.3)
      told s t (refuses q) A = small-11 q A.1
      told s t (halts why) A = absurd A

      state : (m : Macro) → judge_macro c ≡ accepted m → (o : Option Machine) → sound_state m l ≡ o → Ranged allowance (run_state o m readings allowance l).answer
      state m d none q = small-10 (refusal 10 0) refl
      state m d (some s) q =
          let r = run m readings allowance s in
          let w = run-safe m (passed c m B d) (record { readings = readings; allowance = allowance }) R s (state-sound m l s q) in
          told s r.state r.answer w.answers

      go : (j : Judged Macro) → judge_macro c ≡ j → Ranged allowance (run_macro j readings allowance l).answer
      go (refused q) d = judged-small q d
      go (accepted m) d = state m d (sound_state m l) refl

  pub run_small : (l readings : List ℕ) (allowance : ℕ) → Bytes readings → (r : Refusal) → (run_on c l readings allowance).answer ≡ refuses r → Small r
  run_small l readings allowance R r e = subst (λ a. Ranged allowance a) e (run-ranged l readings allowance R)

  -- no run takes more readings than steps
  pub run-read : (l readings : List ℕ) (allowance : ℕ) → Bytes readings → let r = run_on c l readings allowance in r.readings ≤ steps_of r.answer
  unfolding run_on
  run-read l readings allowance R = go (judge_macro c) refl
    where
      state : (m : Macro) → judge_macro c ≡ accepted m → (o : Option Machine) → sound_state m l ≡ o → let r = run_state o m readings allowance l in r.readings ≤ steps_of r.answer
      state m d none q = omega arith
      state m d (some s) q = (run-safe m (passed c m B d) (record { readings = readings; allowance = allowance }) R s (state-sound m l s q)).traced.1

      go : (j : Judged Macro) → judge_macro c ≡ j → let r = run_macro j readings allowance l in r.readings ≤ steps_of r.answer
      go (refused q) d = omega arith
      go (accepted m) d = state m d (sound_state m l) refl
