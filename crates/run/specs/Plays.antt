-- The numbers of a play's answer fit the fields that they are packed into, and none is that of a machine with no next step.
use Rattle.std.specs.Prelude.{◌≡◌, Bool, true, false, List, [], ◌∷◌, ◌⊎◌, eqb, length}
use Rattle.std.proofs.Common.{inl, inr, arith}
use Rattle.std.proofs.Math.Option.{Option, none, some}
use Prim.Native.Nat.{ℕ, zero, suc, ◌+◌, ◌-◌, ◌/◌, ◌≤◌, ◌<◌}
use Rattle.logic.specs.Choice.{If◌then◌else◌}
use Rattle.words.specs.Laws.{Bytes}
use Rattle.values.specs.Ends.{refusal, Judged, accepted, refused, is_condition}
use Rattle.values.specs.Conditions.{condition-byte}
use Rattle.values.specs.Trace.{event, reading}
use Rattle.bytecode.specs.Macro.{Macro}
use Rattle.bytecode.specs.Rules.{judge_macro}
use Rattle.bytecode.specs.Machine.{Machine, running, unwinding, ended, Stepped, moved, stuck, step}
use Rattle.bytecode.specs.Runs.{Answer, happens, spends, finishes, refuses, halts, Ran, with, bank_of, ends, after_step, steps, run}
use Rattle.bytecode.specs.Lent.{sound_state, run_state, run_macro, run_on}
use Rattle.bytecode.specs.Answers.{Numbers, numbers}
use Rattle.bytecode.specs.Play.{Played, after_run, play_from, unless_refused, play_on}
use Rattle.packing.specs.Packing.{Fits}
use Rattle.run.specs.Fields.{Ranged, run-ranged}

-- ── an event takes a step ──
abbrev pub Later : ℕ → Answer → Type 0
Later n (happens e k) = n < k
Later n (spends k) = Unit {0}
Later n (finishes c k) = Unit {0}
Later n (refuses r) = Unit {0}
Later n (halts why) = Unit {0}

later-from : (n : ℕ) (a : Answer) → Later (suc n) a → Later n a
later-from n (happens e k) h = omega arith
later-from n (spends k) h = tt
later-from n (finishes c k) h = tt
later-from n (refuses r) h = tt
later-from n (halts why) h = tt

-- after a step, where what follows it takes more
module _ (s : Machine) (n : ℕ) (k : Machine → Ran) (later : (t : Machine) → Later (suc n) (k t).answer) where
  unless-ended : (t : Machine) → Later n (ends t (suc n) k).answer
  unless-ended (running h f fs) = later-from n (k (running h f fs)).answer (later (running h f fs))
  unless-ended (unwinding gs a) = later-from n (k (unwinding gs a)).answer (later (unwinding gs a))
  unless-ended (ended c) = tt

  step-later : (x : Stepped) → Later n (after_step x s (suc n) k).answer
  step-later (moved [] t) = unless-ended t
  step-later (moved (event e ∷ is) t) = omega arith
  step-later (moved (reading f v ∷ is) t) = unless-ended t
  step-later (stuck why) = tt

event-steps : (m : Macro) (bank : ℕ → ℕ) (left n : ℕ) (s : Machine) → Later n (steps m bank left n s).answer
unfolding steps
event-steps m bank zero n s = tt
event-steps m bank (suc left) n s = step-later s n (λ t. steps m bank left (suc n) t) (event-steps m bank left (suc n)) (step m bank s)

pub run-later : (m : Macro) (readings : List ℕ) (allowance : ℕ) (s : Machine) → Later 0 (run m readings allowance s).answer
unfolding run
run-later m readings allowance s = by (eqb (length readings) 64)
  where
    on : (s : Machine) → Later 0 (ends s 0 (λ t. steps m (bank_of readings) allowance 0 t)).answer
    on (running h f fs) = event-steps m (bank_of readings) allowance 0 (running h f fs)
    on (unwinding gs a) = event-steps m (bank_of readings) allowance 0 (unwinding gs a)
    on (ended c) = tt

    by : (b : Bool) → Later 0 (If b then ends s 0 (λ t. steps m (bank_of readings) allowance 0 t) else with (refuses (refusal 11 0)) s).answer
    by true = on s
    by false = tt

pub on-bytes-later : (c l readings : List ℕ) (allowance : ℕ) → Later 0 (run_on c l readings allowance).answer
unfolding run_on
on-bytes-later c l readings allowance = judged (judge_macro c)
  where
    from : (m : Macro) (o : Option Machine) → Later 0 (run_state o m readings allowance l).answer
    from m none = tt
    from m (some s) = run-later m readings allowance s

    judged : (j : Judged Macro) → Later 0 (run_macro j readings allowance l).answer
    judged (refused r) = tt
    judged (accepted m) = from m (sound_state m l)

-- ── the fields ──
low_end : (c : ℕ) → (c ≡ 0) ⊎ (is_condition c ≡ true) → c < 65536
low_end c (inl e) = omega arith
low_end c (inr h) = omega (arith, condition-byte c h)

-- numbers that fit, and are not those of a machine with no next step
pub record Fine (x : Numbers) : Type 0 where
  pub fits : Fits x
  pub goes-on : x.tag ≡ 7 → ⊥

fine : (t n x y : ℕ) → t < 256 → (t ≡ 7 → ⊥) → n < 65536 → x < 65536 → y < 16777216 → Fine (numbers t n x y)
fine t n x y ht h hn hx hy = record { fits = record { tag_fits = ht; steps-fit = hn; first_fits = hx; second_fits = hy }; goes-on = h }

module _ (c readings : List ℕ) (B : Bytes c) (R : Bytes readings) (allowance : ℕ) (h : allowance < 65536) where
  -- after a run, where what follows it fits: as many steps are taken as there are events, or more
  after-fine : (a : Answer) (taken events : ℕ) → taken ≤ allowance → events ≤ taken → Ranged (allowance - taken) a → Later 0 a
      → (state answers : List ℕ) (next : ℕ → List ℕ → Played) → ((n : ℕ) (b : List ℕ) → n ≤ allowance → suc events ≤ n → Fine (next n b).answer)
      → Fine (after_run a taken events state answers next).answer
  after-fine (happens e n) taken events up few r l state answers next later = later (taken + n) _ (omega (arith, r.0)) (omega arith)
  after-fine (spends n) taken events up few r l state answers next later =
      fine _ _ _ _ (omega arith) (λ k. omega arith) (omega arith) (omega arith) (omega arith)
  after-fine (finishes d n) taken events up few r l state answers next later =
      fine _ _ _ _ (omega arith) (λ k. omega arith) (omega (arith, r.0)) (low_end d r.1) (omega arith)
  after-fine (refuses q) taken events up few r l state answers next later =
      fine _ _ _ _ (omega arith) (λ k. omega arith) (omega arith) (omega (arith, r.0)) r.1
  after-fine (halts why) taken events up few r l state answers next later = absurd r

  from-fine : (room taken events : ℕ) → taken ≤ allowance → events ≤ taken → (l a : List ℕ) → Fine (play_from c readings allowance room taken events l a).answer
  unfolding play_from
  from-fine zero taken events up few l a = fine _ _ _ _ (omega arith) (λ k. omega arith) (omega arith) (omega arith) (omega arith)
  from-fine (suc room) taken events up few l a =
      let r = run_on c l readings (allowance - taken) in
      after-fine r.answer taken events up few (run-ranged c B l readings (allowance - taken) R) (on-bytes-later c l readings (allowance - taken)) r.bytes a
      (λ n b. play_from c readings allowance room n (suc events) r.bytes b) (λ n b u f. from-fine room n (suc events) u f r.bytes b)

  pub play-fine : (l answers : List ℕ) → Fine (play_on c l readings allowance answers).answer
  unfolding play_on
  play-fine l answers = by (run_on c l readings 0).answer (run-ranged c B l readings 0 R)
    where
      p : Fine (play_from c readings allowance (length answers / 8) 0 0 l answers).answer
      p = from-fine (length answers / 8) 0 0 (omega arith) (omega arith) l answers

      by : (a : Answer) → Ranged 0 a → Fine (unless_refused a l answers (play_from c readings allowance (length answers / 8) 0 0 l answers)).answer
      by (refuses q) r = fine _ _ _ _ (omega arith) (λ k. omega arith) (omega arith) (omega (arith, r.0)) r.1
      by (happens e n) r = p
      by (spends n) r = p
      by (finishes d n) r = p
      by (halts why) r = p
