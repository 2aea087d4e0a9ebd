-- Lists of runs that are not refused and may take a step each: so many runs take so many steps, or come to an end; and after an end nothing happens.
use Rattle.std.specs.Prelude.{Bool, ◌≡◌, ◌⊎◌, eqb, length, take, drop}
use Rattle.std.proofs.Math.Bool.{true, false}
use Rattle.std.proofs.Math.Path.{refl, ap, subst}
use Rattle.std.proofs.Common.{sym, ◌∙◌, inr, eq-eqb}
use mathlib.Core.List.{List, [], ◌∷◌, ◌++◌}
use Rattle.std.proofs.Math.Logic.{inl}
use Prim.Native.Nat.{ℕ, zero, suc, ◌+◌, ◌-◌, ◌≤◌, ◌<◌}
use native.Mathlib.Omega.{arith}
use Rattle.logic.specs.Choice.{If◌then◌else◌}
use Rattle.words.specs.Laws.{Bytes}
use Rattle.values.specs.Trace.{Item, event, reading}
use Rattle.bytecode.specs.Macro.{Macro}
use Rattle.bytecode.specs.Machine.{Machine, running, unwinding, ended, moved}
use Rattle.values.specs.Ends.{refusal}
use Rattle.bytecode.specs.Runs.{with}
use Rattle.bytecode.specs.Runs.{finishes, refuses, Ran, Feed, bank_of, after_step, steps, run, runs}
use Rattle.bytecode.specs.Sound.{sound}
use Rattle.logic.specs.Lists.{Each}
use Rattle.bytecode_laws.specs.Terms.{Passed}
use Rattle.bytecode_safety.specs.Safety.{step-safe, run-safe}
use Rattle.bytecode_safety.specs.Terms.{steps_of, state_after, Answers}
use Rattle.compile_runs.specs.Readings.{takes_in, Follows}
use Rattle.compile_runs.specs.Traces.{trace_of}
use Rattle.compile_runs.specs.Oracle.{total_steps}

abbrev pub FedBytes : List Feed → Type 0
FedBytes fs = Each (λ (f : Feed). Bytes f.readings) fs

-- not refused, and with an allowance of 1 or more
abbrev pub Stepping : List Feed → Type 0
Stepping fs = Each (λ (f : Feed). (length f.readings ≡ 64) × (1 ≤ f.allowance)) fs

-- some run answers the end c
unfoldable pub EndAnswered : ℕ → List Ran → Type 0
EndAnswered c [] = ⊥
EndAnswered c (r ∷ rs) = ((n : ℕ) × (r.answer ≡ finishes c n)) ⊎ EndAnswered c rs

-- ── lists of runs in two parts ──
pub runs-split : (m : Macro) (gs hs : List Feed) (s : Machine) → runs m (gs ++ hs) s ≡ runs m gs s ++ runs m hs (state_after s (runs m gs s))
unfolding runs
runs-split m [] hs s = refl
runs-split m (f ∷ gs) hs s = let r = run m f.readings f.allowance s in ap (λ (l : List Ran). r ∷ l) (runs-split m gs hs r.state)

pub each-split : (P : Feed → Type 0) (gs hs : List Feed) → Each P (gs ++ hs) → Each P gs × Each P hs
each-split P [] hs h = (tt, h)
each-split P (f ∷ gs) hs h = let q = each-split P gs hs h.1 in ((h.0, q.0), q.1)

pub follows-left : (m : Macro) (o : ℕ → ℕ → ℕ) (gs hs : List Feed) (k : ℕ) (s : Machine) → Follows m o k (gs ++ hs) s → Follows m o k gs s
follows-left m o [] hs k s h = tt
follows-left m o (f ∷ gs) hs k s h = (h.0, follows-left m o gs hs (k + takes_in m f s) (run m f.readings f.allowance s).state h.1)

pub in_two : (n : ℕ) (fs : List Feed) → n ≤ length fs → (take n fs ++ drop n fs ≡ fs) × (length (take n fs) ≡ n)
in_two zero fs h = (refl, refl)
in_two (suc n) [] h = absurd (omega arith)
in_two (suc n) (f ∷ fs) h = let q = in_two n fs (omega arith) in (ap (λ (l : List Feed). f ∷ l) q.0, ap suc q.1)

pub end-right : (c : ℕ) (rs qs : List Ran) → EndAnswered c qs → EndAnswered c (rs ++ qs)
unfolding EndAnswered
end-right c [] qs h = h
end-right c (r ∷ rs) qs h = inr (end-right c rs qs h)

module _ (m : Macro) (w : Passed m) where
  -- ── after an end ──
  pub end-again : (c : ℕ) (f : Feed) → length f.readings ≡ 64 → run m f.readings f.allowance (ended c) ≡ with (finishes c 0) (ended c)
  unfolding run
  end-again c f n = rw (eq-eqb (length f.readings) 64 n)

  pub after-end : (c : ℕ) (fs : List Feed) → Stepping fs → (state_after (ended c) (runs m fs (ended c)) ≡ ended c) × (trace_of (runs m fs (ended c)) ≡ [])
  unfolding runs
  after-end c [] h = (refl, refl)
  after-end c (f ∷ fs) h = rw (end-again c f h.0.0) (after-end c fs h.1)

  -- one more run says so
  pub says-end : (c : ℕ) (fs : List Feed) → Stepping fs → 1 ≤ length fs → EndAnswered c (runs m fs (ended c))
  unfolding runs EndAnswered
  says-end c [] h l = absurd (omega arith)
  says-end c (f ∷ fs) h l = inl (0, ap (λ (r : Ran). r.answer) (end-again c f h.0.0))

  -- an ended machine stays so, also where a run is refused
  still-ended : (c : ℕ) (f : Feed) → (run m f.readings f.allowance (ended c)).state ≡ ended c
  unfolding run
  still-ended c f = by (eqb (length f.readings) 64)
    where
      by : (b : Bool) → (If b then with (finishes c 0) (ended c) else with (refuses (refusal 11 0)) (ended c)).state ≡ ended c
      by true = refl
      by false = refl

  stays-ended : (c : ℕ) (fs : List Feed) → state_after (ended c) (runs m fs (ended c)) ≡ ended c
  unfolding runs
  stays-ended c [] = refl
  stays-ended c (f ∷ fs) = subst (λ (s : Machine). state_after s (runs m fs s) ≡ ended c) (sym (still-ended c f)) (stays-ended c fs)

  -- what was answered as an end is the state's, whatever runs follow
  pub ended_so : (c : ℕ) (fs : List Feed) → FedBytes fs → (s : Machine) → sound m s ≡ true → EndAnswered c (runs m fs s) → state_after s (runs m fs s) ≡ ended c
  unfolding runs EndAnswered
  ended_so c [] b s h e = absurd e
  ended_so c (f ∷ fs) b s h (inl (n, e)) =
      let r = run m f.readings f.allowance s in
      let q : r.state ≡ ended c = (subst (λ a. Answers f s a r.state) e (run-safe m w f b.0 s h).answers).2 in
      subst (λ (t : Machine). state_after t (runs m fs t) ≡ ended c) (sym q) (stays-ended c fs)
  ended_so c (f ∷ fs) b s h (inr e) = ended_so c fs b.1 (run m f.readings f.allowance s).state (run-safe m w f b.0 s h).still-sound e

  -- ── a run that may take a step takes one, unless it has ended ──
  module _ (bank : ℕ → ℕ) (low : (n : ℕ) → bank n < 256) where
    least : (left n : ℕ) (s : Machine) → sound m s ≡ true → n ≤ steps_of (steps m bank left n s).answer
    unfolding steps
    least zero n s h = omega arith
    least (suc left) n s h =
        let q = step-safe m w bank low s h in
        subst (λ x. n ≤ steps_of (after_step x s (suc n) (λ t. steps m bank left (suc n) t)).answer) (sym q.2)
        (after_one q.0 q.1 (let z = least left (suc n) q.1 q.3.still-sound in omega arith))
      where
        after_one : (is : List Item) (t : Machine) → n ≤ steps_of (steps m bank left (suc n) t).answer → n ≤ steps_of (after_step (moved is t) s (suc n) (λ t. steps m bank left (suc n) t)).answer
        after_one [] (running rs f fs) z = z
        after_one [] (unwinding gs x) z = z
        after_one [] (ended c) z = omega arith
        after_one (event e ∷ is) t z = omega arith
        after_one (reading f v ∷ is) (running rs g fs) z = z
        after_one (reading f v ∷ is) (unwinding gs x) z = z
        after_one (reading f v ∷ is) (ended c) z = omega arith

    takes_one : (left : ℕ) (s : Machine) → sound m s ≡ true → 1 ≤ left → 1 ≤ steps_of (steps m bank left 0 s).answer
    unfolding steps
    takes_one zero s h l = absurd (omega arith)
    takes_one (suc left) s h l =
        let q = step-safe m w bank low s h in
        subst (λ x. 1 ≤ steps_of (after_step x s 1 (λ t. steps m bank left 1 t)).answer) (sym q.2)
        (after_one q.0 q.1 (least left 1 q.1 q.3.still-sound))
      where
        after_one : (is : List Item) (t : Machine) → 1 ≤ steps_of (steps m bank left 1 t).answer → 1 ≤ steps_of (after_step (moved is t) s 1 (λ t. steps m bank left 1 t)).answer
        after_one [] (running rs f fs) z = z
        after_one [] (unwinding gs x) z = z
        after_one [] (ended c) z = omega arith
        after_one (event e ∷ is) t z = omega arith
        after_one (reading f v ∷ is) (running rs g fs) z = z
        after_one (reading f v ∷ is) (unwinding gs x) z = z
        after_one (reading f v ∷ is) (ended c) z = omega arith

  -- a run that is not refused, of a machine that has not ended
  abbrev Going : Machine → Type 0
  Going (running rs f fs) = Unit {0}
  Going (unwinding gs x) = Unit {0}
  Going (ended c) = ⊥

  as-steps : (f : Feed) (s : Machine) → length f.readings ≡ 64 → Going s → run m f.readings f.allowance s ≡ steps m (bank_of f.readings) f.allowance 0 s
  unfolding run
  as-steps f (running rs x fs) n g = rw (eq-eqb (length f.readings) 64 n)
  as-steps f (unwinding gs x) n g = rw (eq-eqb (length f.readings) 64 n)
  as-steps f (ended c) n g = absurd g

  -- so many runs take so many steps, or have come to an end
  pub steps-or-end : (fs : List Feed) → FedBytes fs → Stepping fs → (s : Machine) → sound m s ≡ true
      → (length fs ≤ total_steps (runs m fs s)) ⊎ ((c : ℕ) × (state_after s (runs m fs s) ≡ ended c))
  unfolding runs total_steps
  steps-or-end [] b p s h = inl (omega arith)
  steps-or-end (f ∷ fs) b p s h = by s refl (steps-or-end fs b.1 p.1 (run m f.readings f.allowance s).state (run-safe m w f b.0 s h).still-sound)
    where
      r : Ran
      r = run m f.readings f.allowance s

      bank : ℕ → ℕ
      bank = bank_of f.readings

      Or : Type 0
      Or = (length fs ≤ total_steps (runs m fs r.state)) ⊎ ((c : ℕ) × (state_after r.state (runs m fs r.state) ≡ ended c))

      Sum : Type 0
      Sum = (length (f ∷ fs) ≤ steps_of r.answer + total_steps (runs m fs r.state)) ⊎ ((c : ℕ) × (state_after r.state (runs m fs r.state) ≡ ended c))

      on : 1 ≤ steps_of r.answer → Or → Sum
      on z (inl y) = inl (omega arith)
      on z (inr y) = inr y

      stepping : Going s → 1 ≤ steps_of r.answer
      stepping g = subst (λ (x : Ran). 1 ≤ steps_of x.answer) (sym (as-steps f s p.0.0 g)) (takes_one bank (λ n. b.0 (n - 1)) f.allowance s h p.0.1)

      by : (t : Machine) → s ≡ t → Or → Sum
      by (ended c) e o = inr (c, subst (λ (t : Machine). state_after t (runs m fs t) ≡ ended c) (sym (ap (λ x. (run m f.readings f.allowance x).state) e ∙ still-ended c f)) (stays-ended c fs))
      by (running rs x ys) e o = on (stepping (subst Going (sym e) tt)) o
      by (unwinding gs x) e o = on (stepping (subst Going (sym e) tt)) o
