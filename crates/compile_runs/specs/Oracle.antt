-- The machine with an oracle does what the runs do that follow it.
use Rattle.std.specs.Prelude.{Bool, true, false, ◌≡◌, eqb, leb, length, pos}
use Rattle.std.proofs.Math.Path.{refl, ap, subst}
use Rattle.std.proofs.Common.{sym, ◌∙◌}
use mathlib.Core.List.{List, [], ◌∷◌, ◌++◌, reverse_aux}
use Rattle.std.proofs.Math.Option.{Option, none, some}
use Prim.Native.Nat.{ℕ, zero, suc, ◌+◌, ◌-◌, ◌≤◌, ◌<◌}
use native.Mathlib.Omega.{arith}
use Rattle.logic.specs.Choice.{If◌then◌else◌}
use Rattle.words.specs.Laws.{Bytes}
use Rattle.std.proofs.Math.IntN.{ℤ}
use Rattle.values.specs.Values.{Value, int, as_integer, between, size}
use Rattle.values.specs.Ends.{out_of_range, refusal}
use Rattle.values.specs.Trace.{Event, Item, event, reading, readings_in}
use Rattle.bytecode.specs.Macro.{Macro}
use Rattle.bytecode.specs.Instructions.{Instr, end, push, load, store, operate, go, go_unless, call, return, make, get_field, put_field, set_level, read_fader, take_hold, let_hold, assert, stop}
use Rattle.bytecode.specs.Machine.{Machine, running, unwinding, end_by, ended, Stepped, moved, stuck, step, act, no_step, bad_frame, bad_type, fetch, given, Here, do_fader}
use Rattle.bytecode.specs.Machine.{max_operands, pop, goes_on, condition}
use Rattle.bytecode.specs.Runs.{ends as ends_run}
use Rattle.bytecode.specs.Runs.{Answer, happens, finishes, refuses, Ran, with, after, Feed, bank_of, after_step, steps, run, runs}
use Rattle.bytecode.specs.Sound.{sound}
use Rattle.logic.specs.Lists.{Each}
use Rattle.bytecode_laws.specs.Terms.{Passed}
use Rattle.bytecode_safety.specs.Safety.{step-safe, run-safe}
use Rattle.bytecode_safety.specs.Steps.{size-between}
use Rattle.bytecode_safety.specs.Terms.{events_in, event_of, steps_of, events_of, state_after, Moves}
use Rattle.bytecode_safety.specs.Traces.{readings-append, events-append}
use Rattle.compile_runs.specs.Readings.{takes_in, Reads, Follows}
use Rattle.compile_runs.specs.Traces.{trace_of, turned-append}
use Rattle.compile_simulation.specs.Meets.{Conf, live, counted, stepped, Setting}
use Rattle.compile_simulation.specs.Meets.{run as run_conf, go as go_conf}

-- the steps that a list of runs takes
unfoldable pub total_steps : List Ran → ℕ
total_steps [] = 0
total_steps (r ∷ rs) = steps_of r.answer + total_steps rs

-- ── a step that gives no reading does not ask the bank ──
abbrev Quiet : Stepped → Type 0
Quiet (moved [] t) = Unit {0}
Quiet (moved (event e ∷ is) t) = Unit {0}
Quiet (moved (reading f v ∷ is) t) = ⊥
Quiet (stuck why) = Unit {0}

quiet-fader : (a b : ℕ → ℕ) (h : Here) → Quiet (do_fader b h) → do_fader a h ≡ do_fader b h
unfolding do_fader
quiet-fader a b h q = pick h.top.operands q
  where
    F : (ℕ → ℕ) → List Value → Option ℤ → Stepped
    F bank vs o = given o bad_type (λ x. If between 1 64 x then goes_on (reading (size x) (bank (size x)) ∷ []) (int (pos (bank (size x))) ∷ vs) h else condition out_of_range h)

    far : (x y : Bool) (s u w z : Stepped) → (Quiet s → ⊥) → Quiet (If x then (If y then s else u) else w) → (If x then (If y then z else u) else w) ≡ (If x then (If y then s else u) else w)
    far true true s u w z n q = absurd (n q)
    far true false s u w z n q = refl
    far false y s u w z n q = refl

    number : (o : Option ℤ) (us : List Value) → Quiet (F b us o) → F a us o ≡ F b us o
    number none us q = refl
    number (some x) us q = far (between 1 64 x) (leb (suc (length us)) max_operands) _ (stuck bad_frame) (condition out_of_range h) _ (λ z. z) q

    pick : (vs : List Value) → Quiet (pop vs (λ v us. F b us (as_integer v))) → pop vs (λ v us. F a us (as_integer v)) ≡ pop vs (λ v us. F b us (as_integer v))
    pick [] q = refl
    pick (v ∷ us) q = number (as_integer v) us q

quiet-act : (m : Macro) (a b : ℕ → ℕ) (i : Instr) (h : Here) → Quiet (act m b i h) → act m a i h ≡ act m b i h
unfolding act
quiet-act m a b end h q = refl
quiet-act m a b (push v) h q = refl
quiet-act m a b (load o x) h q = refl
quiet-act m a b (store o x) h q = refl
quiet-act m a b (operate o) h q = refl
quiet-act m a b (go t) h q = refl
quiet-act m a b (go_unless t) h q = refl
quiet-act m a b (call k) h q = refl
quiet-act m a b return h q = refl
quiet-act m a b (make c) h q = refl
quiet-act m a b (get_field c x) h q = refl
quiet-act m a b (put_field c x) h q = refl
quiet-act m a b set_level h q = refl
quiet-act m a b read_fader h q = quiet-fader a b h q
quiet-act m a b (take_hold g) h q = refl
quiet-act m a b let_hold h q = refl
quiet-act m a b assert h q = refl
quiet-act m a b (stop c) h q = refl

-- ── banks that agree on the faders there are give the same step ──
module _ (a b : ℕ → ℕ) (same : (n : ℕ) → 1 ≤ n → n ≤ 64 → a n ≡ b n) where
  agree-fader : (h : Here) → do_fader a h ≡ do_fader b h
  unfolding do_fader
  agree-fader h = pick h.top.operands
    where
      F : (ℕ → ℕ) → List Value → Option ℤ → Stepped
      F bank vs o = given o bad_type (λ x. If between 1 64 x then goes_on (reading (size x) (bank (size x)) ∷ []) (int (pos (bank (size x))) ∷ vs) h else condition out_of_range h)

      on-x : (x : ℤ) (vs : List Value) (t : Bool) → between 1 64 x ≡ t
          → (If t then goes_on (reading (size x) (a (size x)) ∷ []) (int (pos (a (size x))) ∷ vs) h else condition out_of_range h)
          ≡ (If t then goes_on (reading (size x) (b (size x)) ∷ []) (int (pos (b (size x))) ∷ vs) h else condition out_of_range h)
      on-x x vs true e = let r = size-between 1 64 x e in ap (λ (n : ℕ). goes_on (reading (size x) n ∷ []) (int (pos n) ∷ vs) h) (same (size x) r.0 r.1)
      on-x x vs false e = refl

      number : (o : Option ℤ) (us : List Value) → F a us o ≡ F b us o
      number none us = refl
      number (some x) us = on-x x us (between 1 64 x) refl

      pick : (vs : List Value) → pop vs (λ v us. F a us (as_integer v)) ≡ pop vs (λ v us. F b us (as_integer v))
      pick [] = refl
      pick (v ∷ us) = number (as_integer v) us

  agree-act : (m : Macro) (i : Instr) (h : Here) → act m a i h ≡ act m b i h
  unfolding act
  agree-act m end h = refl
  agree-act m (push v) h = refl
  agree-act m (load o x) h = refl
  agree-act m (store o x) h = refl
  agree-act m (operate o) h = refl
  agree-act m (go t) h = refl
  agree-act m (go_unless t) h = refl
  agree-act m (call k) h = refl
  agree-act m return h = refl
  agree-act m (make c) h = refl
  agree-act m (get_field c x) h = refl
  agree-act m (put_field c x) h = refl
  agree-act m set_level h = refl
  agree-act m read_fader h = agree-fader h
  agree-act m (take_hold g) h = refl
  agree-act m let_hold h = refl
  agree-act m assert h = refl
  agree-act m (stop c) h = refl

  agree : (m : Macro) (s : Machine) → step m a s ≡ step m b s
  unfolding step
  agree m (running s f fs) = pick (fetch m f.body f.address)
    where
      h : Here
      h = record { shared = s; top = f; below = fs }

      pick : (o : Option Instr) → given o no_step (λ i. act m a i h) ≡ given o no_step (λ i. act m b i h)
      pick none = refl
      pick (some i) = agree-act m i h
  agree m (unwinding [] (end_by c)) = refl
  agree m (unwinding (g ∷ gs) x) = refl
  agree m (ended c) = refl

quiet : (m : Macro) (a b : ℕ → ℕ) (s : Machine) → Quiet (step m b s) → step m a s ≡ step m b s
unfolding step
quiet m a b (running s f fs) q = pick (fetch m f.body f.address) q
  where
    pick : (o : Option Instr) → Quiet (given o no_step (λ i. act m b i (record { shared = s; top = f; below = fs })))
        → given o no_step (λ i. act m a i (record { shared = s; top = f; below = fs })) ≡ given o no_step (λ i. act m b i (record { shared = s; top = f; below = fs }))
    pick none q = refl
    pick (some i) q = quiet-act m a b i (record { shared = s; top = f; below = fs }) q
quiet m a b (unwinding [] (end_by c)) q = refl
quiet m a b (unwinding (g ∷ gs) x) q = refl
quiet m a b (ended c) q = refl

-- ── the machine with the oracle does what the runs do ──
module _ (W : Setting) (w : Passed W.macro) where
  abbrev m : Macro
  m = W.macro

  -- after d steps: the state, and these items more
  abbrev Comes : Machine → List Item → ℕ → ℕ → Machine → List Item → Type 0
  Comes s tr k d t is = run_conf W d (live s tr k) ≡ live t (reverse_aux is tr) (k + readings_in is)

  stay : (s : Machine) (tr : List Item) (k : ℕ) → Comes s tr k 0 s []
  unfolding run_conf
  stay s tr k = ap (λ (z : ℕ). live s tr z) (omega arith)

  -- one step, then the rest
  then-on : (s t u : Machine) (tr is : List Item) (k d : ℕ) (js : List Item) → length is ≤ 1 → go_conf W (live s tr k) ≡ live t (is ++ tr) (counted is k)
      → Comes t (is ++ tr) (counted is k) d u js → Comes s tr k (suc d) u (is ++ js)
  unfolding run_conf
  then-on s t u tr [] k d js one e y = ap (run_conf W d) e ∙ y
  then-on s t u tr (event x ∷ []) k d js one e y = ap (run_conf W d) e ∙ y
  then-on s t u tr (reading x v ∷ []) k d js one e y = ap (run_conf W d) e ∙ y ∙ ap (λ (z : ℕ). live u (reverse_aux js (reading x v ∷ tr)) z) (omega arith)
  then-on s t u tr (i ∷ (j ∷ is)) k d js one e y = absurd (omega arith)

  module _ (bank : ℕ → ℕ) (low : (n : ℕ) → bank n < 256) where
    abbrev Ask : ℕ → ℕ → Type 0
    Ask k c = (j : ℕ) → j < c → (n : ℕ) → 1 ≤ n → n ≤ 64 → W.oracle (k + j) n ≡ bank n

    -- the same step with the oracle's bank
    same : (s : Machine) (k : ℕ) (is js : List Item) (t : Machine) → step m bank s ≡ moved is t → Ask k (readings_in (is ++ js)) → step m (W.oracle k) s ≡ moved is t
    same s k [] js t e a = quiet m (W.oracle k) bank s (subst Quiet (sym e) tt) ∙ e
    same s k (event x ∷ is) js t e a = quiet m (W.oracle k) bank s (subst Quiet (sym e) tt) ∙ e
    same s k (reading x v ∷ is) js t e a =
        let z : k + 0 ≡ k = omega arith in
        agree (W.oracle k) bank (λ n lo hi. ap (λ (i : ℕ). W.oracle i n) (sym z) ∙ a 0 (omega arith) n lo hi) m s ∙ e

    -- of what is asked, what is asked after these items
    rest-asked : (k : ℕ) (is js : List Item) → length is ≤ 1 → Ask k (readings_in (is ++ js)) → Ask (counted is k) (readings_in js)
    rest-asked k [] js one a = a
    rest-asked k (event x ∷ []) js one a = a
    rest-asked k (reading x v ∷ []) js one a = λ j l n lo hi. ap (λ (i : ℕ). W.oracle i n) (omega arith) ∙ a (suc j) (omega arith) n lo hi
    rest-asked k (i ∷ (j ∷ is)) js one a = absurd (omega arith)

    abbrev Gives : ℕ → Machine → List Item → ℕ → Ran → Type 0
    Gives n s tr k r = (d : ℕ) × (d + n ≡ steps_of r.answer) × Comes s tr k d r.state r.trace

    steps-as : (left n : ℕ) (s : Machine) (tr : List Item) (k : ℕ) → sound m s ≡ true → Ask k (readings_in (steps m bank left n s).trace) → Gives n s tr k (steps m bank left n s)
    unfolding steps go_conf
    steps-as zero n s tr k h a = (0, omega arith, stay s tr k)
    steps-as (suc left) n s tr k h a =
        let q = step-safe m w bank low s h in
        subst (λ x. Gives n s tr k (after_step x s (suc n) (λ t. steps m bank left (suc n) t))) (sym q.2)
        (go q.0 q.1 q.3 q.2 (subst (λ x. Ask k (readings_in (after_step x s (suc n) (λ t. steps m bank left (suc n) t)).trace)) q.2 a)
        (λ tr k. steps-as left (suc n) q.1 tr k q.3.still-sound))
      where
        -- the rest of the steps, from any trace
        Rest : Machine → Type 0
        Rest t = (tr : List Item) (k : ℕ) → Ask k (readings_in (steps m bank left (suc n) t).trace) → Gives (suc n) t tr k (steps m bank left (suc n) t)

        -- the step, and what follows it
        on : (is : List Item) (t : Machine) (r : Ran) → Moves m s is t → step m bank s ≡ moved is t → Ask k (readings_in (is ++ r.trace))
            → (Ask (counted is k) (readings_in r.trace) → Gives (suc n) t (is ++ tr) (counted is k) r) → Gives n s tr k (after is r)
        on is t r v e a f =
            let g = f (rest-asked k is r.trace v.one-item a) in
            (suc g.0, (let z = g.1 in omega arith), then-on s t r.state tr is k g.0 r.trace v.one-item (ap (λ x. stepped x tr k) (same s k is r.trace t e a)) g.2)

        further : (is : List Item) (t : Machine) → Moves m s is t → step m bank s ≡ moved is t → Ask k (readings_in (is ++ (steps m bank left (suc n) t).trace)) → Rest t
            → Gives n s tr k (after is (steps m bank left (suc n) t))
        further is t v e a f = on is t (steps m bank left (suc n) t) v e a (f (is ++ tr) (counted is k))

        last : (is : List Item) (t : Machine) (x : Answer) → steps_of x ≡ suc n → Moves m s is t → step m bank s ≡ moved is t → Ask k (readings_in (is ++ []))
            → Gives n s tr k (after is (with x t))
        last is t x z v e a = on is t (with x t) v e a (λ b. (0, omega arith, stay t (is ++ tr) (counted is k)))

        go : (is : List Item) (t : Machine) → Moves m s is t → step m bank s ≡ moved is t
            → Ask k (readings_in (after_step (moved is t) s (suc n) (λ t. steps m bank left (suc n) t)).trace) → Rest t
            → Gives n s tr k (after_step (moved is t) s (suc n) (λ t. steps m bank left (suc n) t))
        go [] (ended c) v e a f = last [] (ended c) (finishes c (suc n)) refl v e a
        go [] (running rs x fs) v e a f = further [] (running rs x fs) v e a f
        go [] (unwinding gs x) v e a f = further [] (unwinding gs x) v e a f
        go (event x ∷ is) t v e a f = last (event x ∷ is) t (happens x (suc n)) refl v e a
        go (reading x y ∷ is) (ended c) v e a f = last (reading x y ∷ is) (ended c) (finishes c (suc n)) refl v e a
        go (reading x y ∷ is) (running rs z fs) v e a f = further (reading x y ∷ is) (running rs z fs) v e a f
        go (reading x y ∷ is) (unwinding gs z) v e a f = further (reading x y ∷ is) (unwinding gs z) v e a f

  -- a run
  run-as : (f : Feed) → Bytes f.readings → (s : Machine) (tr : List Item) (k : ℕ) → sound m s ≡ true → ((j : ℕ) → j < takes_in m f s → Reads W.oracle (k + j) f.readings)
      → let r = run m f.readings f.allowance s in (d : ℕ) × (d ≡ steps_of r.answer) × Comes s tr k d r.state r.trace
  unfolding run
  run-as f b s tr k h a = go (eqb (length f.readings) 64) a
    where
      whole : Machine → Ran
      whole s = steps m (bank_of f.readings) f.allowance 0 s

      on : (s : Machine) → sound m s ≡ true → ((j : ℕ) → j < readings_in (whole s).trace → Reads W.oracle (k + j) f.readings)
          → let r = whole s in (d : ℕ) × (d ≡ steps_of r.answer) × Comes s tr k d r.state r.trace
      on s h a = let q = steps-as (bank_of f.readings) (λ n. b (n - 1)) f.allowance 0 s tr k h a in (q.0, (let z = q.1 in omega arith), q.2)

      by : (s : Machine) → sound m s ≡ true → ((j : ℕ) → j < readings_in (ends_run s 0 whole).trace → Reads W.oracle (k + j) f.readings)
          → let r = ends_run s 0 whole in (d : ℕ) × (d ≡ steps_of r.answer) × Comes s tr k d r.state r.trace
      by (ended c) h a = (0, refl, stay (ended c) tr k)
      by (running rs x fs) h a = on (running rs x fs) h a
      by (unwinding gs x) h a = on (unwinding gs x) h a

      go : (t : Bool) → ((j : ℕ) → j < readings_in (If t then ends_run s 0 whole else with (refuses (refusal 11 0)) s).trace → Reads W.oracle (k + j) f.readings)
          → let r = If t then ends_run s 0 whole else with (refuses (refusal 11 0)) s in (d : ℕ) × (d ≡ steps_of r.answer) × Comes s tr k d r.state r.trace
      go true a = by s h a
      go false a = (0, refl, stay s tr k)

  pub run-sum : (d e : ℕ) (x : Conf) → run_conf W (d + e) x ≡ run_conf W e (run_conf W d x)
  unfolding run_conf
  run-sum zero e x = let z : 0 + e ≡ e = omega arith in ap (λ n. run_conf W n x) z
  run-sum (suc d) e x = let z : suc d + e ≡ suc (d + e) = omega arith in ap (λ n. run_conf W n x) z ∙ run-sum d e (go_conf W x)

  -- a list of runs
  pub runs_as : (fs : List Feed) → Each (λ (f : Feed). Bytes f.readings) fs → (s : Machine) (tr : List Item) (k : ℕ) → sound m s ≡ true → Follows m W.oracle k fs s
      → let rs = runs m fs s in Comes s tr k (total_steps rs) (state_after s rs) (trace_of rs)
  unfolding runs total_steps run_conf
  runs_as [] b s tr k h a = stay s tr k
  runs_as (f ∷ fs) b s tr k h a =
      let r = run m f.readings f.allowance s in
      let rs = runs m fs r.state in
      let q = run-as f b.0 s tr k h a.0 in
      let g = runs_as fs b.1 r.state (reverse_aux r.trace tr) (k + takes_in m f s) (run-safe m w f b.0 s h).still-sound a.1 in
      let z : k + takes_in m f s + readings_in (trace_of rs) ≡ k + readings_in (r.trace ++ trace_of rs) = omega (arith, readings-append r.trace (trace_of rs)) in
      ap (λ n. run_conf W (n + total_steps rs) (live s tr k)) (sym q.1)
      ∙ run-sum q.0 (total_steps rs) (live s tr k)
      ∙ ap (run_conf W (total_steps rs)) q.2
      ∙ g
      ∙ ap (λ (l : List Item). live (state_after r.state rs) l (k + takes_in m f s + readings_in (trace_of rs))) (sym (turned-append r.trace (trace_of rs) tr))
      ∙ ap (λ (n : ℕ). live (state_after r.state rs) (reverse_aux (r.trace ++ trace_of rs) tr) n) z

  -- the events of the trace are those answered
  pub trace-told : (fs : List Feed) → Each (λ (f : Feed). Bytes f.readings) fs → (s : Machine) → sound m s ≡ true → let rs = runs m fs s in events_in (trace_of rs) ≡ events_of rs
  unfolding runs
  trace-told [] b s h = refl
  trace-told (f ∷ fs) b s h =
      let r = run m f.readings f.allowance s in
      let rs = runs m fs r.state in
      let q = run-safe m w f b.0 s h in
      events-append r.trace (trace_of rs)
      ∙ ap (λ (es : List Event). es ++ events_in (trace_of rs)) q.traced.0
      ∙ ap (λ (es : List Event). event_of r.answer ++ es) (trace-told fs b.1 r.state q.still-sound)
