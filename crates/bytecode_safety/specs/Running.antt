-- Runs of a sound state: each step is safe, so each run is, and a list of runs keeps account of holds.
use Rattle.std.specs.Prelude.{◌≡◌, Bool, ◌&&◌, ◌||◌, ◌⊎◌, leb, length}
use Rattle.std.proofs.Math.Path.{refl, ap}
use Rattle.std.proofs.Common.{◌∙◌, subst, inl, inr}
use Rattle.std.proofs.Math.Bool.{true, false}
use mathlib.Core.List.{List, [], ◌∷◌, ◌++◌}
use Rattle.std.proofs.Math.Option.{some}
use Prim.Native.Nat.{ℕ, zero, suc, ◌+◌, ◌-◌, ◌≤◌, ◌<◌}
use native.Mathlib.Omega.{arith}
use Rattle.std.proofs.Math.Dec.{eqb}
use Rattle.std.proofs.Math.ListN.{get_elem?, take}
use borrow.Author.Tests.{eqb-true, eqb-false, leb-true, le-leb}
use Rattle.bytecode.specs.Instructions.{cells_of}
use Rattle.logic.specs.Lists.{all, Each}
use Rattle.logic.specs.Choice.{If◌then◌else◌}
use Rattle.words.specs.Laws.{Bytes}
use Rattle.values.specs.Ends.{refusal, is_condition}
use Rattle.values.specs.Values.{tys_of, fresh_all}
use Rattle.values.specs.Trace.{Event, Item, event, reading, readings_in}
use Rattle.bytecode.specs.Macro.{Body, shape, Macro}
use Rattle.bytecode.specs.Machine.{Activation, Shared, After, Machine, running, unwinding, ended, end_by, Stepped, moved, stuck, root_cells, fresh_machine, step}
use Rattle.bytecode.specs.Runs.{Answer, happens, spends, finishes, refuses, halts, Ran, with, after, bank_of, visible, after_step, steps, run, Feed, runs}
use Rattle.bytecode.specs.Runs.{ends as ends_or}
use Rattle.bytecode.specs.Sound.{sound_group, sound}
use Rattle.logic.specs.Tests.{both, halves, or_right}
use Rattle.bytecode_laws.specs.Terms.{Passed, Allowed}
use Rattle.bytecode_laws.specs.Promises.{entry}
use Rattle.bytecode_safety.specs.Terms.{counted, occurs, is_hold, is_release, holds_of, releases_of, open_holds, InRange}
use Rattle.bytecode_safety.specs.Terms.{events_in, Moves, Steps, event_of, steps_of, events_of, state_after, Answers, SafeRun, EachSafe}
use Rattle.bytecode_safety.specs.Lists.{all_first, all_none, fresh-types, fresh-values}
use Rattle.bytecode_safety.specs.States.{running-sound, running-back}
use Rattle.bytecode_safety.specs.Steps.{safe-running}

-- ── one step of any state ──
ends-by : (c : ℕ) → (eqb c 0 || is_condition c) ≡ true → (c ≡ 0) ⊎ (is_condition c ≡ true)
ends-by c h = go (eqb c 0) refl h
  where
    go : (b : Bool) → eqb c 0 ≡ b → (b || is_condition c) ≡ true → (c ≡ 0) ⊎ (is_condition c ≡ true)
    go true e h = inl (eqb-true c 0 e)
    go false e h = inr h

less_one : (b : Bool) (n : ℕ) → 0 + counted b n ≡ counted b 0 + n
less_one true n = omega arith
less_one false n = refl

module _ (m : Macro) (w : Passed m) where
  pub safe-any : (bank : ℕ → ℕ) → ((n : ℕ) → bank n < 256) → (s : Machine) → sound m s ≡ true → Steps m s (step m bank s)
  unfolding step sound holds_of releases_of occurs
  safe-any bank low (running s f fs) h = let q = running-sound m s f fs h in safe-running m w bank low s f fs q.0 q.1
  safe-any bank low (unwinding (g ∷ gs) (end_by c)) h =
      let a = halves (is_condition c) (leb (length (g ∷ gs)) 512 && all sound_group (g ∷ gs)) h in
      let b = halves (leb (length (g ∷ gs)) 512) (all sound_group (g ∷ gs)) a.1 in
      record {
        still-sound = both a.0
            (both (le-leb (length gs) 512 (omega (arith, leb-true (length (g ∷ gs)) 512 b.0))) (all_first sound_group g gs b.1).1);
        one-item = omega arith;
        in-range = (leb-true g 63 (all_first sound_group g gs b.1).0, tt);
        reads_on = refl;
        account = λ x. less_one (eqb g x) (occurs x gs);
      }
  safe-any bank low (unwinding [] (end_by c)) h =
      record {
        still-sound = or_right (eqb c 0) (is_condition c)
            (halves (is_condition c) (leb 0 512 && all sound_group []) h).0;
        one-item = omega arith;
        in-range = tt;
        reads_on = refl;
        account = λ g. refl;
      }
  safe-any bank low (ended c) h = record { still-sound = h; one-item = omega arith; in-range = tt; reads_on = refl; account = λ g. refl }

  -- ── the fresh machine ──
  first_body : (bs : List Body) → 1 ≤ length bs → (b : Body) × (get_elem? bs 0 ≡ some b)
  first_body [] h = absurd (omega arith)
  first_body (b ∷ bs) h = (b, refl)

  root-cells : (bs : List Body) → root_cells bs ≡ cells_of (get_elem? bs 0)
  root-cells [] = refl
  root-cells (b ∷ bs) = refl

  pub fresh-sound : sound m (fresh_machine m) ≡ true
  unfolding fresh_machine tys_of
  fresh-sound =
      let b = first_body m.bodies w.well-formed.some-body in
      running-back m w (record { records = [] }) (record { body = 0; address = 0; cells = fresh_all (root_cells m.bodies); operands = []; holds = [] }) []
      (record {
        few = omega arith;
        few-records = omega arith;
        made = all_none _;
        frame = record {
          groups = all_none sound_group;
          types = fresh-types (root_cells m.bodies)
              ∙ root-cells m.bodies;
          values = fresh-values [] (root_cells m.bodies);
        };
        below-waits = refl;
      })
      (subst (λ i. Allowed m 0 i (shape 0 [])) (w.well-formed.root-first b.0 b.1) (entry m w 0 b.0 b.1))
      (all_none _)

  -- ── a run ──
  -- what n steps, and at most `left` more, from state s may answer
  abbrev Goes : ℕ → ℕ → Answer → Machine → Type 0
  Goes n left (happens e k) t = (k ≤ n + left) × InRange e
  Goes n left (spends k) t = k ≡ n + left
  Goes n left (finishes c k) t = (k ≤ n + left) × (t ≡ ended c) × ((c ≡ 0) ⊎ (is_condition c ≡ true))
  Goes n left (refuses r) t = ⊥
  Goes n left (halts why) t = ⊥

  abbrev Account : Machine → Ran → Type 0
  Account s x = (g : ℕ) → holds_of g (event_of x.answer) + open_holds g s ≡ releases_of g (event_of x.answer) + open_holds g x.state

  record Went (n left : ℕ) (s : Machine) (x : Ran) : Type 0 where
    sounds : sound m x.state ≡ true
    goes : Goes n left x.answer x.state
    account : Account s x
    told : events_in x.trace ≡ event_of x.answer
    few : n + readings_in x.trace ≤ steps_of x.answer

  later : (n left : ℕ) (a : Answer) (t : Machine) → Goes (suc n) left a t → Goes n (suc left) a t
  later n left (happens e k) t h = (omega (arith, h.0), h.1)
  later n left (spends k) t h = omega arith
  later n left (finishes c k) t h = (omega (arith, h.0), h.1, h.2)
  later n left (refuses r) t h = h
  later n left (halts why) t h = h

  module _ (bank : ℕ → ℕ) (low : (n : ℕ) → bank n < 256) where
    -- after a step that gives no event: the step may have taken a reading
    silent : (n left : ℕ) (s t : Machine) → sound m t ≡ true → ((g : ℕ) → open_holds g s ≡ open_holds g t)
        → ((t : Machine) → sound m t ≡ true → Went (suc n) left t (steps m bank left (suc n) t))
        → (let x = ends_or t (suc n) (λ t. steps m bank left (suc n) t) in Went n (suc left) s x × (suc (n + readings_in x.trace) ≤ steps_of x.answer))
    silent n left s t h e ih = by t h e
      where
        on : (t : Machine) → sound m t ≡ true → ((g : ℕ) → open_holds g s ≡ open_holds g t)
            → (let y = steps m bank left (suc n) t in Went n (suc left) s y × (suc (n + readings_in y.trace) ≤ steps_of y.answer))
        on t h e =
            let x = ih t h in let y = steps m bank left (suc n) t in (
              record {
                sounds = x.sounds;
                goes = later n left y.answer y.state x.goes;
                account = λ g. ap (λ z. holds_of g (event_of y.answer) + z) (e g) ∙ x.account g;
                told = x.told;
                few = omega (arith, x.few);
              },
              omega (arith, x.few),
            )

        by : (t : Machine) → sound m t ≡ true → ((g : ℕ) → open_holds g s ≡ open_holds g t)
            → (let x = ends_or t (suc n) (λ t. steps m bank left (suc n) t) in Went n (suc left) s x × (suc (n + readings_in x.trace) ≤ steps_of x.answer))
        by (running rs f fs) h e = on (running rs f fs) h e
        by (unwinding gs a) h e = on (unwinding gs a) h e
        by (ended c) h e = (
          record {
            sounds = h;
            goes = (omega arith, refl, ends-by c (unfold sound in h));
            account = λ g. unfold holds_of releases_of in ap (λ z. 0 + z) (e g);
            told = refl;
            few = omega arith;
          },
          omega arith,
        )

    shown : (n left : ℕ) (s : Machine) (is : List Item) (t : Machine) → Moves m s is t
        → ((t : Machine) → sound m t ≡ true → Went (suc n) left t (steps m bank left (suc n) t))
        → Went n (suc left) s (after is (visible is t (suc n) (λ t. steps m bank left (suc n) t)))
    unfolding holds_of releases_of
    shown n left s [] t v ih = (silent n left s t v.still-sound (λ g. omega (arith, v.account g)) ih).0
    shown n left s (event e ∷ []) t v ih =
        record { sounds = v.still-sound; goes = (omega arith, v.in-range.0); account = v.account; told = refl; few = omega arith }
    shown n left s (event e ∷ (i ∷ is)) t v ih = absurd (omega (arith, v.one-item))
    shown n left s (reading x y ∷ []) t v ih =
        let q = silent n left s t v.still-sound (λ g. omega (arith, v.account g)) ih in
        record { sounds = q.0.sounds; goes = q.0.goes; account = q.0.account; told = q.0.told; few = omega (arith, q.1) }
    shown n left s (reading x y ∷ (i ∷ is)) t v ih = absurd (omega (arith, v.one-item))

    stepped : (n left : ℕ) (s : Machine) (x : Stepped) → Steps m s x
        → ((t : Machine) → sound m t ≡ true → Went (suc n) left t (steps m bank left (suc n) t))
        → Went n (suc left) s (after_step x s (suc n) (λ t. steps m bank left (suc n) t))
    stepped n left s (moved is t) v ih = shown n left s is t v ih
    stepped n left s (stuck why) v ih = absurd v

    went : (left n : ℕ) (s : Machine) → sound m s ≡ true → Went n left s (steps m bank left n s)
    unfolding steps holds_of releases_of
    went zero n s h = record { sounds = h; goes = omega arith; account = λ g. refl; told = refl; few = omega arith }
    went (suc left) n s h = stepped n left s (step m bank s) (safe-any bank low s h) (λ t q. went left (suc n) t q)

  -- from 0 steps of a run of 64 readings
  answers-of : (f : Feed) (s : Machine) (a : Answer) (t : Machine) → length f.readings ≡ 64 → Goes 0 f.allowance a t → Answers f s a t
  answers-of f s (happens e k) t n h = (n, omega (arith, h.0), h.1)
  answers-of f s (spends k) t n h = (n, omega arith)
  answers-of f s (finishes c k) t n h = (n, omega (arith, h.0), h.1, h.2)
  answers-of f s (refuses r) t n h = absurd h
  answers-of f s (halts why) t n h = absurd h

  running-not : (s : Shared) (f : Activation) (fs : List Activation) (c : ℕ) → running s f fs ≡ ended c → ⊥
  running-not s f fs c e = let z : ◌≡◌ {A = ℕ} 0 1 = cc e in omega arith

  unwinding-not : (gs : List ℕ) (a : After) (c : ℕ) → unwinding gs a ≡ ended c → ⊥
  unwinding-not gs a c e = let z : ◌≡◌ {A = ℕ} 0 1 = cc e in omega arith

  read-runs : (f : Feed) → Bytes f.readings → (s : Machine) → sound m s ≡ true → length f.readings ≡ 64
      → let x = ends_or s 0 (λ t. steps m (bank_of f.readings) f.allowance 0 t) in SafeRun m f s x × Account s x
  unfolding holds_of releases_of
  read-runs f b (running rs g gs) h n =
      let x = went (bank_of f.readings) (λ k. b (k - 1)) f.allowance 0 (running rs g gs) h in
      let y = steps m (bank_of f.readings) f.allowance 0 (running rs g gs) in (
        record {
          still-sound = x.sounds;
          answers = answers-of f (running rs g gs) y.answer y.state n x.goes;
          traced = (x.told, omega (arith, x.few));
          ends-again = λ c e. absurd
              (running-not rs g gs c e);
        },
        x.account,
      )
  read-runs f b (unwinding gs a) h n =
      let x = went (bank_of f.readings) (λ k. b (k - 1)) f.allowance 0 (unwinding gs a) h in
      let y = steps m (bank_of f.readings) f.allowance 0 (unwinding gs a) in (
        record {
          still-sound = x.sounds;
          answers = answers-of f (unwinding gs a) y.answer y.state n x.goes;
          traced = (x.told, omega (arith, x.few));
          ends-again = λ c e. absurd
              (unwinding-not gs a c e);
        },
        x.account,
      )
  read-runs f b (ended d) h n = (
    record {
      still-sound = h;
      answers = (n, omega arith, refl, ends-by d (unfold sound in h));
      traced = (refl, omega arith);
      ends-again = λ c e p. let q : d ≡ c = cc in
          (ap (λ x. finishes x 0) q, ap ended q);
    },
    λ g. refl,
  )

  pub safe-run : (f : Feed) → Bytes f.readings → (s : Machine) → sound m s ≡ true
      → SafeRun m f s (run m f.readings f.allowance s) × Account s (run m f.readings f.allowance s)
  unfolding run holds_of releases_of
  safe-run f b s h = go (eqb (length f.readings) 64) refl
    where
      go : (t : Bool) → eqb (length f.readings) 64 ≡ t
          → let x = (If t then ends_or s 0 (λ t. steps m (bank_of f.readings) f.allowance 0 t) else with
          (refuses (refusal 11 0)) s) in SafeRun m f s x × Account s x
      go true e = read-runs f b s h (eqb-true (length f.readings) 64 e)
      go false e =
          let n = eqb-false (length f.readings) 64 e in
          (record { still-sound = h; answers = (n, refl, refl); traced = (refl, omega arith); ends-again = λ c q p. absurd (n p) }, λ g. refl)

  -- ── a list of runs ──
  pub each-safe : (fs : List Feed) → Each (λ f. Bytes f.readings) fs → (s : Machine) → sound m s ≡ true → EachSafe m fs s (runs m fs s)
  unfolding runs
  each-safe [] b s h = tt
  each-safe (f ∷ fs) b s h = let q = safe-run f b.0 s h in
      (q.0, each-safe fs b.1 (run m f.readings f.allowance s).state q.0.still-sound)

  holds-append : (g : ℕ) (xs ys : List Event) → holds_of g (xs ++ ys) ≡ holds_of g xs + holds_of g ys
  unfolding holds_of
  holds-append g [] ys = omega arith
  holds-append g (x ∷ xs) ys = more (is_hold g x) (holds-append g xs ys)
    where
      more : (b : Bool) → holds_of g (xs ++ ys) ≡ holds_of g xs + holds_of g ys
          → counted b (holds_of g (xs ++ ys)) ≡ counted b (holds_of g xs) + holds_of g ys
      more true e = omega arith
      more false e = e

  releases-append : (g : ℕ) (xs ys : List Event) → releases_of g (xs ++ ys) ≡ releases_of g xs + releases_of g ys
  unfolding releases_of
  releases-append g [] ys = omega arith
  releases-append g (x ∷ xs) ys = more (is_release g x) (releases-append g xs ys)
    where
      more : (b : Bool) → releases_of g (xs ++ ys) ≡ releases_of g xs + releases_of g ys
          → counted b (releases_of g (xs ++ ys)) ≡ counted b (releases_of g xs) + releases_of g ys
      more true e = omega arith
      more false e = e

  pub balanced : (fs : List Feed) → Each (λ f. Bytes f.readings) fs → (s : Machine) → sound m s ≡ true → (n g : ℕ)
      → let rs = take n (runs m fs s) in holds_of g (events_of rs) + open_holds g s ≡ releases_of g (events_of rs) + open_holds g (state_after s rs)
  unfolding runs holds_of releases_of
  balanced fs b s h zero g = refl
  balanced [] b s h (suc n) g = refl
  balanced (f ∷ fs) b s h (suc n) g =
      let x = run m f.readings f.allowance s in
      let q = safe-run f b.0 s h in
      let rs = take n (runs m fs x.state) in
      let es = events_of rs in
      omega (
        arith,
        holds-append g (event_of x.answer) es,
        releases-append g (event_of x.answer) es,
        q.1 g,
        balanced fs b.1 x.state
            q.0.still-sound n g,
      )
