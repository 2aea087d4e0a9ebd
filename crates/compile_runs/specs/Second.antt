-- The second demand over lists of runs: what the runs of a compiled macro answer, beside the tree's execution.
use Rattle.std.specs.Prelude.{true, ◌≡◌, List, [], ◌++◌, reverse, ◌⊎◌, length, take, drop}
use Rattle.std.proofs.Math.Path.{refl, ap, sym}
use Rattle.std.proofs.Common.{◌∙◌, subst, append_assoc, arith, inl, inr, length-drop}
use Prim.Native.Nat.{ℕ, zero, suc, ◌+◌, ◌≤◌, ◌<◌}
use Rattle.std.proofs.Math.Decide.{dec_le}
use Rattle.bytecode.specs.Sound.{sound}
use Rattle.words.specs.Laws.{Bytes}
use Rattle.values.specs.Trace.{Item, readings_in}
use Rattle.language.specs.Tree.{Tree}
use Rattle.language.specs.Execute.{Ran, finished, going, ill_formed, execute}
use Rattle.bytecode.specs.Machine.{Machine, running, unwinding, fresh_machine, Stepped, moved, stuck, step}
use Rattle.bytecode.specs.Machine.{ended as stopped}
use Rattle.bytecode.specs.Runs.{Feed, runs}
use Rattle.bytecode.specs.Runs.{Ran as RunAnswer}
use Rattle.logic.specs.ListLaws.{app_nil}
use Rattle.bytecode_safety.specs.Safety.{fresh-safe}
use Rattle.bytecode_safety.specs.Terms.{events_in, events_of, state_after}
use Rattle.compile_code.specs.Encode.{compiled}
use Rattle.compile_simulation.specs.Meets.{Conf, live, dead, stepped, Setting, Reach}
use Rattle.compile_simulation.specs.Meets.{run as run_conf, go as go_conf}
use Rattle.compile_simulation.specs.Top.{start, Running, EndedAs}
use Rattle.compile_simulation.specs.Top.{GoesOn as GoesOnSo}
use Rattle.language_laws.specs.Endings.{ByteReadings, EndsBy, GoesOn, Prefix, Continues}
use Rattle.language_laws.specs.Fuel.{stays-finished, prefix-so-far, ends-one-way, not-both}
use Rattle.compile_macro.specs.Second.{sound-tree, ends-alike, goes-alike, ended-alike}
use Rattle.compile_macro.specs.Built.{InOrder, setting_of, built, passed-macro}
use Rattle.compile_runs.specs.Readings.{Follows}
use Rattle.compile_runs.specs.Enough.{FedBytes, Stepping, EndAnswered, runs-split, each-split, follows-left, in_two, end-right, after-end, says-end, ended_so, steps-or-end}
use Rattle.compile_runs.specs.Traces.{trace_of, trace-split, reverse-append, reverse_twice}
use Rattle.compile_runs.specs.Oracle.{total_steps, run-sum, runs_as, trace-told}

abbrev pub items_of : Ran → List Item
items_of (finished is c) = is
items_of (going is) = is
items_of ill_formed = []

-- the answers of a list of runs, the machine being fresh, and the state after them
abbrev pub answers : Tree → List Feed → List RunAnswer
answers t fs = runs (compiled t) fs (fresh_machine (compiled t))

abbrev pub after-all : Tree → List Feed → Machine
after-all t fs = state_after (fresh_machine (compiled t)) (answers t fs)

-- each reading that the runs take is the oracle's: the k-th is taken from the 64 bytes of the run in which it falls
abbrev pub Agrees : Tree → (ℕ → ℕ → ℕ) → List Feed → Type 0
Agrees t o fs = Follows (compiled t) o 0 fs (fresh_machine (compiled t))

-- what the runs gave, in order: events and readings
abbrev pub trace : Tree → List Feed → List Item
trace t fs = trace_of (answers t fs)

-- of a tree and an oracle
pub record AsTree (t : Tree) (o : ℕ → ℕ → ℕ) : Type 0 where
  -- the execution is never ill-formed
  pub formed : (n : ℕ) → execute o t n ≡ ill_formed → ⊥
  -- what the runs gave is the beginning of what the tree gives
  pub prefix : (fs : List Feed) → FedBytes fs → Agrees t o fs → (n : ℕ) × Prefix (trace t fs) (items_of (execute o t n))
  -- the runs come to an end: the tree ends so, with exactly these items
  pub ends : (fs : List Feed) → FedBytes fs → Agrees t o fs → (c : ℕ) → EndAnswered c (answers t fs) → EndsBy o t (trace t fs) c
  -- the tree ends: so does every list of enough runs, with exactly its items
  pub enough : (is : List Item) (c : ℕ) → EndsBy o t is c
      → (N : ℕ) × ((fs : List Feed) → FedBytes fs → Agrees t o fs → Stepping fs → N ≤ length fs → EndAnswered c (answers t fs) × (trace t fs ≡ is))
  -- the tree goes on for ever: no runs end
  pub for-ever : GoesOn o t → (fs : List Feed) → FedBytes fs → Agrees t o fs → (c : ℕ) → EndAnswered c (answers t fs) → ⊥
  -- everything that the tree comes to is given by every list of enough runs
  pub comes : (n : ℕ) → (N : ℕ) × ((fs : List Feed) → FedBytes fs → Agrees t o fs → Stepping fs → N ≤ length fs → Prefix (items_of (execute o t n)) (trace t fs))
  -- and the events among it are those answered
  pub told : (fs : List Feed) → FedBytes fs → events_in (trace t fs) ≡ events_of (answers t fs)

-- ── traces only grow, and an end stays ──
abbrev Later : List Item → Conf → Type 0
Later tr (live s tr' k) = (u : List Item) × (tr' ≡ u ++ tr)
Later tr dead = Unit {0}

module _ (W : Setting) where
  grown-go : (tr : List Item) (x : Conf) → Later tr x → Later tr (go_conf W x)
  unfolding go_conf
  grown-go tr dead h = tt
  grown-go tr (live s tr' k) h = pick (step W.macro (W.oracle k) s)
    where
      pick : (z : Stepped) → Later tr (stepped z tr' k)
      pick (moved is u) = (is ++ h.0, ap (λ l. is ++ l) h.1 ∙ sym (append_assoc is h.0 tr))
      pick (stuck why) = tt

  grown : (j : ℕ) (tr : List Item) (x : Conf) → Later tr x → Later tr (run_conf W j x)
  unfolding run_conf
  grown zero tr x h = h
  grown (suc j) tr x h = grown j tr (go_conf W x) (grown-go tr x h)

  stays : (k c : ℕ) (tr : List Item) (j : ℕ) → run_conf W k (live (stopped c) tr j) ≡ live (stopped c) tr j
  unfolding run_conf go_conf step
  stays zero c tr j = refl
  stays (suc k) c tr j = stays k c tr j

by-sum : (x y : ℕ) → x ≤ y → (n : ℕ) × (y ≡ x + n)
by-sum zero y h = (y, omega arith)
by-sum (suc x) zero h = absurd (omega arith)
by-sum (suc x) (suc y) h = let q = by-sum x y (omega arith) in (q.0, let z = q.1 in omega arith)

abbrev state_of : Conf → Machine → Machine
state_of (live s tr k) d = s
state_of dead d = d

abbrev conf_trace : Conf → List Item
conf_trace (live s tr k) = tr
conf_trace dead = []

module _ (t : Tree) (O : InOrder t) (o : ℕ → ℕ → ℕ) (low : (k n : ℕ) → o k n < 256) (fs : List Feed) (fed : FedBytes fs) (agrees : Agrees t o fs) where
  abbrev total : ℕ
  total = total_steps (answers t fs)

  -- after as many steps, the machine with the oracle is where the runs are
  abbrev reached : Conf
  reached = live (after-all t fs) (reverse (trace t fs)) (0 + readings_in (trace t fs))

  there : run_conf (setting_of t o) total (live (fresh_machine (compiled t)) [] 0) ≡ reached
  there = runs_as (setting_of t o) (passed-macro t O) fs fed (fresh_machine (compiled t)) [] 0 (fresh-safe (compiled t) (passed-macro t O)) agrees

  abbrev go_on : ℕ → Conf
  go_on j = run_conf (setting_of t o) j (live (fresh_machine (compiled t)) [] 0)

  -- a trace after more steps begins with what the runs gave
  beyond : (j : ℕ) → total ≤ j → (s : Machine) (tr : List Item) (k : ℕ) → go_on j ≡ live s tr k → Prefix (trace t fs) (reverse tr)
  beyond j h s tr k e =
      let x = by-sum total j h in
      let world = setting_of t o in
      let f : go_on j ≡ run_conf world x.0 reached = ap go_on x.1
      ∙ run-sum world (passed-macro t O) total x.0 (live (fresh_machine (compiled t)) [] 0) ∙ ap (run_conf world x.0) there in
      let g : Later (reverse (trace t fs)) (live s tr k) = subst (Later (reverse (trace t fs))) (sym f ∙ e) (grown world x.0 (reverse (trace t fs)) reached ([], refl)) in
      (reverse g.0, ap reverse g.1 ∙ reverse-append g.0 (reverse (trace t fs)) ∙ ap (λ l. l ++ reverse g.0) (reverse_twice (trace t fs)))

  -- a trace after fewer steps is the beginning of what they gave
  before : (j : ℕ) → j ≤ total → (s : Machine) (tr : List Item) (k : ℕ) → go_on j ≡ live s tr k → Prefix (reverse tr) (trace t fs)
  before j h s tr k e =
      let x = by-sum j total h in
      let world = setting_of t o in
      let f : go_on total ≡ run_conf world x.0 (live s tr k) = ap go_on x.1
      ∙ run-sum world (passed-macro t O) j x.0 (live (fresh_machine (compiled t)) [] 0) ∙ ap (run_conf world x.0) e in
      let g : Later tr reached = subst (Later tr) (sym f ∙ there) (grown world x.0 tr (live s tr k) ([], refl)) in
      (reverse g.0, sym (reverse_twice (trace t fs)) ∙ ap reverse g.1 ∙ reverse-append g.0 tr)

  -- an end reached in fewer steps is the runs' end
  stopped-there : (j : ℕ) → j ≤ total → (c : ℕ) (tr : List Item) (k : ℕ) → go_on j ≡ live (stopped c) tr k → (after-all t fs ≡ stopped c) × (trace t fs ≡ reverse tr)
  stopped-there j h c tr k e =
      let x = by-sum j total h in
      let world = setting_of t o in
      let f : reached ≡ live (stopped c) tr k = sym there ∙ ap go_on x.1
      ∙ run-sum world (passed-macro t O) j x.0 (live (fresh_machine (compiled t)) [] 0) ∙ ap (run_conf world x.0) e ∙ stays world x.0 c tr k in
      (ap (λ y. state_of y (stopped c)) f, sym (reverse_twice (trace t fs)) ∙ ap reverse (ap conf_trace f))

  its-end : (c : ℕ) → after-all t fs ≡ stopped c → execute o t total ≡ finished (trace t fs) c
  its-end c e =
      ended-alike (setting_of t o) (passed-macro t O) low t (built t O o) total c (reverse (trace t fs)) (0 + readings_in (trace t fs))
      (there ∙ ap (λ s. live s (reverse (trace t fs)) (0 + readings_in (trace t fs))) e)
      ∙ ap (λ (is : List Item). finished is c) (reverse_twice (trace t fs))

  its-prefix : (r : Ran) → execute o t total ≡ r → Prefix (trace t fs) (items_of r)
  its-prefix (finished is c) e = pick (ends-alike (setting_of t o) (passed-macro t O) low t (built t O o) total c is e)
    where
      pick : Reach (setting_of t o) (start (setting_of t o) t) (EndedAs (setting_of t o) t is c) → Prefix (trace t fs) is
      pick h = side (dec_le h.steps total)
        where
          side : Dec (h.steps ≤ total) → Prefix (trace t fs) is
          side (yes l) = let q = stopped-there h.steps l c h.there.0 h.there.1 h.there.2 in ([], sym h.there.3 ∙ sym q.1 ∙ sym (app_nil (trace t fs)))
          side (no l) = let q = beyond h.steps (omega arith) (stopped c) h.there.0 h.there.1 h.there.2 in (q.0, sym h.there.3 ∙ q.1)
  its-prefix (going is) e = pick (goes-alike (setting_of t o) (passed-macro t O) low t (built t O o) total is e)
    where
      pick : GoesOnSo (setting_of t o) t (suc total) is → Prefix (trace t fs) is
      pick h = at-conf (go_on h.steps) refl h.alive
        where
          at-conf : (y : Conf) → go_on h.steps ≡ y → Running (setting_of t o) t is y → Prefix (trace t fs) is
          at-conf (live (running rs f gs) tr k) e a = let q = beyond h.steps (let z = h.many in omega arith) (running rs f gs) tr k e in (q.0, sym a ∙ q.1)
          at-conf (live (unwinding gs x) tr k) e a = absurd a
          at-conf (live (stopped c) tr k) e a = absurd a
          at-conf dead e a = absurd a
  its-prefix ill_formed e = absurd (sound-tree (setting_of t o) (passed-macro t O) low t (built t O o) total e)

-- the runs that take as many steps as the machine took, or more
come-by : (t : Tree) (O : InOrder t) (o : ℕ → ℕ → ℕ) (low : (k n : ℕ) → o k n < 256) (n : ℕ) (is : List Item) (h : GoesOnSo (setting_of t o) t n is)
    (fs : List Feed) (fed : FedBytes fs) (agrees : Agrees t o fs)
    → h.steps ≤ total_steps (answers t fs) → Prefix is (trace t fs)
come-by t O o low n is h fs fed agrees l = at-conf (run_conf (setting_of t o) h.steps (live (fresh_machine (compiled t)) [] 0)) refl h.alive
  where
    at-conf : (y : Conf) → run_conf (setting_of t o) h.steps (live (fresh_machine (compiled t)) [] 0) ≡ y → Running (setting_of t o) t is y → Prefix is (trace t fs)
    at-conf (live (running rs f gs) tr k) e a = let q = before t O o low fs fed agrees h.steps l (running rs f gs) tr k e in (q.0, q.1 ∙ ap (λ x. x ++ q.0) a)
    at-conf (live (unwinding gs x) tr k) e a = absurd a
    at-conf (live (stopped c) tr k) e a = absurd a
    at-conf dead e a = absurd a

apart : (is js : List Item) (c : ℕ) → finished is c ≡ going js → ⊥
apart is js c h = let z : ◌≡◌ {A = ℕ} 0 1 = cc h in omega arith

-- ── by the number of runs ──
module _ (t : Tree) (O : InOrder t) (o : ℕ → ℕ → ℕ) (low : (k n : ℕ) → o k n < 256) where
  fresh : sound (compiled t) (fresh_machine (compiled t)) ≡ true
  fresh = fresh-safe (compiled t) (passed-macro t O)

  -- so many runs come to the end that so many steps come to
  settles : (n c : ℕ) (is : List Item) → execute o t n ≡ finished is c
      → (N : ℕ) × ((fs : List Feed) → FedBytes fs → Agrees t o fs → Stepping fs → N ≤ length fs → (after-all t fs ≡ stopped c) × (trace t fs ≡ is))
  settles n c is e =
      let h = ends-alike (setting_of t o) (passed-macro t O) low t (built t O o) n c is e in
      (h.steps, λ fs fed a st l. by h fs fed a st l (steps-or-end (compiled t) (passed-macro t O) fs fed st (fresh_machine (compiled t)) fresh))
    where
      by : (h : Reach (setting_of t o) (start (setting_of t o) t) (EndedAs (setting_of t o) t is c)) (fs : List Feed) (fed : FedBytes fs) (a : Agrees t o fs) → Stepping fs → h.steps ≤ length fs
          → (length fs ≤ total_steps (answers t fs)) ⊎ ((d : ℕ) × (after-all t fs ≡ stopped d)) → (after-all t fs ≡ stopped c) × (trace t fs ≡ is)
      by h fs fed a st l (inl k) =
          let q = stopped-there t O o low fs fed a h.steps (omega arith) c h.there.0 h.there.1 h.there.2 in
          (q.0, q.1 ∙ h.there.3)
      by h fs fed a st l (inr (d, k)) =
          let one = ends-one-way o t (n, e) (total_steps (answers t fs), its-end t O o low fs fed a d k) in
          (k ∙ ap stopped (sym one.1), sym one.0)

  -- and one run more answers it
  answers-end : (n c : ℕ) (is : List Item) → execute o t n ≡ finished is c
      → (N : ℕ) × ((fs : List Feed) → FedBytes fs → Agrees t o fs → Stepping fs → N ≤ length fs → EndAnswered c (answers t fs) × (trace t fs ≡ is))
  answers-end n c is e = let z = settles n c is e in (suc z.0, λ fs fed a st l. by z fs fed a st l (in_two z.0 fs (omega arith)))
    where
      by : (z : (N : ℕ) × ((fs : List Feed) → FedBytes fs → Agrees t o fs → Stepping fs → N ≤ length fs → (after-all t fs ≡ stopped c) × (trace t fs ≡ is)))
          (fs : List Feed) → FedBytes fs → Agrees t o fs → Stepping fs → suc z.0 ≤ length fs → (take z.0 fs ++ drop z.0 fs ≡ fs) × (length (take z.0 fs) ≡ z.0)
          → EndAnswered c (answers t fs) × (trace t fs ≡ is)
      by z fs fed a st l two =
          let gs = take z.0 fs in let hs = drop z.0 fs in let m = compiled t in
          let bs = each-split (λ (f : Feed). Bytes f.readings) gs hs (subst FedBytes (sym two.0) fed) in
          let ss = each-split (λ (f : Feed). (length f.readings ≡ 64) × (1 ≤ f.allowance)) gs hs (subst Stepping (sym two.0) st) in
          let q = z.1 gs bs.0 (follows-left m o gs hs 0 (fresh_machine m) (subst (Agrees t o) (sym two.0) a)) ss.0 (omega (arith, two.1)) in
          let late : 1 ≤ length hs = omega (arith, length-drop z.0 fs) in
          let parts : answers t fs ≡ answers t gs ++ runs m hs (stopped c) =
          ap (answers t) (sym two.0) ∙ runs-split m gs hs (fresh_machine m) ∙ ap (λ (s : Machine). answers t gs ++ runs m hs s) q.0 in (
            subst (EndAnswered c) (sym parts) (end-right c (answers t gs) (runs m hs (stopped c)) (says-end m (passed-macro t O) c hs ss.1 late)),
            ap trace_of parts ∙ trace-split (answers t gs) (runs m hs (stopped c))
                ∙ ap (λ (is : List Item). trace t gs ++ is) (after-end m (passed-macro t O) c hs ss.1).1 ∙ app_nil (trace t gs) ∙ q.1,
          )

  ended-runs : (fs : List Feed) → FedBytes fs → Agrees t o fs → (c : ℕ) → EndAnswered c (answers t fs) → EndsBy o t (trace t fs) c
  ended-runs fs fed a c e =
      (total_steps (answers t fs), its-end t O o low fs fed a c (ended_so (compiled t) (passed-macro t O) c fs fed (fresh_machine (compiled t)) fresh e))

  -- ── the items of an execution with fuel n come ──
  -- what was going on with fuel n, and came to an end
  before-end : (n k c : ℕ) (is js : List Item) → execute o t n ≡ going is → execute o t k ≡ finished js c → Dec (n ≤ k) → Prefix is js
  before-end n k c is js e f (yes l) = subst (Continues is) f (prefix-so-far o t e l)
  before-end n k c is js e f (no l) = absurd (apart js is c (sym (stays-finished o t f (omega arith)) ∙ e))

  come : (n : ℕ) (r : Ran) → execute o t n ≡ r → (N : ℕ) × ((fs : List Feed) → FedBytes fs → Agrees t o fs → Stepping fs → N ≤ length fs → Prefix (items_of r) (trace t fs))
  come n (finished is c) e = let z = settles n c is e in (z.0, λ fs fed a st l. ([], (z.1 fs fed a st l).1 ∙ sym (app_nil is)))
  come n ill_formed e = absurd (sound-tree (setting_of t o) (passed-macro t O) low t (built t O o) n e)
  come n (going is) e =
      let h = goes-alike (setting_of t o) (passed-macro t O) low t (built t O o) n is e in
      (h.steps, λ fs fed a st l. by h fs fed a l (steps-or-end (compiled t) (passed-macro t O) fs fed st (fresh_machine (compiled t)) fresh))
    where
      by : (h : GoesOnSo (setting_of t o) t (suc n) is) (fs : List Feed) → FedBytes fs → Agrees t o fs → h.steps ≤ length fs
          → (length fs ≤ total_steps (answers t fs)) ⊎ ((d : ℕ) × (after-all t fs ≡ stopped d)) → Prefix is (trace t fs)
      by h fs fed a l (inl k) = come-by t O o low (suc n) is h fs fed a (omega arith)
      by h fs fed a l (inr (d, k)) =
          before-end n (total_steps (answers t fs)) d is (trace t fs) e (its-end t O o low fs fed a d k) (dec_le n (total_steps (answers t fs)))

pub as-tree : (t : Tree) → InOrder t → (o : ℕ → ℕ → ℕ) → ByteReadings o → AsTree t o
as-tree t O o low = record {
  formed = sound-tree (setting_of t o) (passed-macro t O) low t (built t O o);
  prefix = λ fs fed a. (total_steps (answers t fs), its-prefix t O o low fs fed a (execute o t (total_steps (answers t fs))) refl);
  ends = λ fs fed a c e. ended-runs t O o low fs fed a c e;
  enough = λ is c e. answers-end t O o low e.0 c is e.1;
  for-ever = λ g fs fed a c e. not-both o t (ended-runs t O o low fs fed a c e) g;
  comes = λ n. come t O o low n (execute o t n) refl;
  told = λ fs fed. trace-told (setting_of t o) (passed-macro t O) fs fed (fresh_machine (compiled t)) (fresh t O o low);
}
