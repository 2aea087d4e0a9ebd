-- Plays on the bytes of a sound state are runs of the plain machine: what a list of calls, of runs and of plays, answers and writes is what one list of
-- runs of the plain machine gives.
use Rattle.std.specs.Prelude.{◌≡◌, Bool, true, false, eqb, length}
use Rattle.std.proofs.Math.Path.{refl, ap}
use Rattle.std.proofs.Common.{sym, ◌∙◌, eqb-true}
use mathlib.Core.List.{List, [], ◌∷◌, ◌++◌}
use Prim.Native.Nat.{ℕ, zero, suc, ◌+◌, ◌-◌, ◌/◌}
use native.Mathlib.Omega.{arith}
use Rattle.logic.specs.Choice.{If◌then◌else◌}
use Rattle.logic.specs.Lists.{Each}
use Rattle.words.specs.Laws.{Bytes}
use Rattle.values.specs.Ends.{accepted}
use Rattle.values.specs.Trace.{readings_in}
use Rattle.bytecode.specs.Macro.{Macro}
use Rattle.bytecode.specs.Rules.{judge_macro}
use Rattle.bytecode.specs.Machine.{Machine}
use Rattle.bytecode.specs.Runs.{Answer, happens, spends, finishes, refuses, halts, Ran, run, Feed, runs}
use Rattle.bytecode.specs.Sound.{sound}
use Rattle.bytecode.specs.State.{encode}
use Rattle.bytecode.specs.Lent.{RanOn, run_on}
use Rattle.bytecode.specs.Answers.{numbers, answer_numbers}
use Rattle.bytecode.specs.Play.{Played, played, taking, after_run, play_from, unless_refused, play_on}
use Rattle.bytecode_laws.specs.Terms.{Passed}
use Rattle.bytecode_safety.specs.Safety.{run-safe}
use Rattle.bytecode_safety.specs.Terms.{Answers, state_after}
use Rattle.bytecode_runs.specs.Terms.{Fed, on_bytes}
use Rattle.bytecode_runs.specs.Bytes.{run_is}

-- ── calls ──
-- a run, or a play with these bytes lent for the events' answers
pub data Call : Type 0 where
  one : Feed → Call
  many : Feed → List ℕ → Call

abbrev pub feed_of : Call → Feed
feed_of (one f) = f
feed_of (many f answers) = f

-- what is answered and written; a run is lent no bytes for answers
abbrev pub call_on : List ℕ → List ℕ → Call → Played
call_on code state (one f) = let r = run_on code state f.readings f.allowance in taking r.readings (played (answer_numbers r.answer) r.bytes [])
call_on code state (many f answers) = play_on code state f.readings f.allowance answers

-- calls on lent bytes, each on what the one before it left there
unfoldable pub calls_on : List ℕ → List Call → List ℕ → List Played
calls_on code [] state = []
calls_on code (c ∷ cs) state = let p = call_on code state c in p ∷ calls_on code cs p.state

-- ── the plain machine's runs ──
abbrev pub further : Answer → (ℕ → List Feed) → List Feed
further (happens e n) more = more n
further (spends n) more = []
further (finishes c n) more = []
further (refuses r) more = []
further (halts why) more = []

-- the runs of a play: with room for so many events, and so much left of the allowance
unfoldable pub play_feeds : Macro → List ℕ → ℕ → ℕ → Machine → List Feed
play_feeds m readings zero left s = []
play_feeds m readings (suc room) left s =
    let r = run m readings left s in
    record { readings = readings; allowance = left } ∷ further r.answer (λ n. play_feeds m readings room (left - n) r.state)

-- the runs of a call: a play's readings of wrong length are refused in one
abbrev pub call_feeds : Macro → Call → Machine → List Feed
call_feeds m (one f) s = f ∷ []
call_feeds m (many f answers) s = If eqb (length f.readings) 64 then play_feeds m f.readings (length answers / 8) f.allowance s else f ∷ []

-- what runs of the plain machine show as a play, after so many steps and events
unfoldable pub shown_play : List Ran → ℕ → ℕ → Machine → List ℕ → Played
shown_play [] taken events s answers = played (numbers 8 taken 0 events) (encode s) answers
shown_play (r ∷ rs) taken events s answers =
    taking (readings_in r.trace) (after_run r.answer taken events (encode r.state) answers (λ n b. shown_play rs n (suc events) r.state b))

abbrev pub shown_run : List Ran → Machine → Played
shown_run [] s = played (numbers 8 0 0 0) (encode s) []
shown_run (r ∷ rs) s = taking (readings_in r.trace) (played (answer_numbers r.answer) (encode r.state) [])

abbrev pub shown_call : Call → List Ran → Machine → Played
shown_call (one f) rs s = shown_run rs s
shown_call (many f answers) rs s = shown_play rs 0 0 s answers

-- the runs of all calls, one after the other, and what each call shows of its own
unfoldable pub calls_feeds : Macro → List Call → Machine → List Feed
calls_feeds m [] s = []
calls_feeds m (c ∷ cs) s = let fs = call_feeds m c s in fs ++ calls_feeds m cs (state_after s (runs m fs s))

unfoldable pub calls_runs : Macro → List Call → Machine → List Ran
calls_runs m [] s = []
calls_runs m (c ∷ cs) s = let rs = runs m (call_feeds m c s) s in rs ++ calls_runs m cs (state_after s rs)

unfoldable pub plain_calls : Macro → List Call → Machine → List Played
plain_calls m [] s = []
plain_calls m (c ∷ cs) s = let rs = runs m (call_feeds m c s) s in shown_call c rs s ∷ plain_calls m cs (state_after s rs)

-- ── they are one list of runs ──
runs_append : (m : Macro) (fs gs : List Feed) (s : Machine) → runs m (fs ++ gs) s ≡ runs m fs s ++ runs m gs (state_after s (runs m fs s))
unfolding runs
runs_append m [] gs s = refl
runs_append m (f ∷ fs) gs s = let r = run m f.readings f.allowance s in ap (λ x. r ∷ x) (runs_append m fs gs r.state)

pub one_list : (m : Macro) (cs : List Call) (s : Machine) → calls_runs m cs s ≡ runs m (calls_feeds m cs s) s
unfolding calls_runs calls_feeds runs
one_list m [] s = refl
one_list m (c ∷ cs) s =
    let fs = call_feeds m c s in
    let t = state_after s (runs m fs s) in
    ap (λ x. runs m fs s ++ x) (one_list m cs t) ∙ sym (runs_append m fs (calls_feeds m cs t) s)

module _ (code : List ℕ) (m : Macro) (h : judge_macro code ≡ accepted m) (w : Passed m) where
  -- ── a play ──
  module _ (readings : List ℕ) (b : Bytes readings) where
    module _ (allowance : ℕ) where
      -- after a run, where the rest shows the same
      after_same : (a : Answer) (taken events : ℕ) (t : Machine) (answers : List ℕ) (next : ℕ → List ℕ → Played) (more : ℕ → List Feed)
          → ((n : ℕ) (c : List ℕ) → next (taken + n) c ≡ shown_play (runs m (more n) t) (taken + n) (suc events) t c)
          → after_run a taken events (encode t) answers next
          ≡ after_run a taken events (encode t) answers (λ n c. shown_play (runs m (further a more) t) n (suc events) t c)
      after_same (happens e n) taken events t answers next more same = same n _
      after_same (spends n) taken events t answers next more same = refl
      after_same (finishes c n) taken events t answers next more same = refl
      after_same (refuses r) taken events t answers next more same = refl
      after_same (halts why) taken events t answers next more same = refl

      pub play-runs : (room taken events : ℕ) (s : Machine) → sound m s ≡ true → (answers : List ℕ)
          → play_from code readings allowance room taken events (encode s) answers
          ≡ shown_play (runs m (play_feeds m readings room (allowance - taken) s) s) taken events s answers
      unfolding play_from play_feeds shown_play runs
      play-runs zero taken events s q answers = refl
      play-runs (suc room) taken events s q answers =
          let f : Feed = record { readings = readings; allowance = allowance - taken } in
          let r = run m readings (allowance - taken) s in
          let left : (n : ℕ) → allowance - (taken + n) ≡ allowance - taken - n = λ n. omega arith in
          ap (λ (x : RanOn). taking x.readings (after_run x.answer taken events x.bytes answers (λ n c. play_from code readings allowance room n (suc events) x.bytes c)))
          (run_is code m h w f b s q)
          ∙ ap (taking (readings_in r.trace)) (after_same r.answer taken events r.state answers _ (λ n. play_feeds m readings room (allowance - taken - n) r.state)
          (λ n c. play-runs room (taken + n) (suc events) r.state (run-safe m w f b s q).still-sound c
          ∙ ap (λ k. shown_play (runs m (play_feeds m readings room k r.state) r.state) (taken + n) (suc events) r.state c) (left n)))

      -- the state's bytes after it are those of the plain machine's state after its runs
      after-state : (a : Answer) (taken events : ℕ) (t : Machine) (answers : List ℕ) (more : ℕ → List Feed)
          → ((n taken events : ℕ) (c : List ℕ) → let rs = runs m (more n) t in (shown_play rs taken events t c).state ≡ encode (state_after t rs))
          → let rs = runs m (further a more) t in (after_run a taken events (encode t) answers (λ n c. shown_play rs n (suc events) t c)).state ≡ encode (state_after t rs)
      unfolding runs
      after-state (happens e n) taken events t answers more same = same n (taken + n) (suc events) _
      after-state (spends n) taken events t answers more same = refl
      after-state (finishes c n) taken events t answers more same = refl
      after-state (refuses r) taken events t answers more same = refl
      after-state (halts why) taken events t answers more same = refl

      state-after : (room left taken events : ℕ) (s : Machine) (answers : List ℕ)
          → let rs = runs m (play_feeds m readings room left s) s in (shown_play rs taken events s answers).state ≡ encode (state_after s rs)
      unfolding play_feeds shown_play runs
      state-after zero left taken events s answers = refl
      state-after (suc room) left taken events s answers =
          let r = run m readings left s in
          after-state r.answer taken events r.state answers (λ n. play_feeds m readings room (left - n) r.state)
          (λ n taken events c. state-after room (left - n) taken events r.state c)

      feeds-fed : (room left : ℕ) (s : Machine) → Fed (play_feeds m readings room left s)
      unfolding play_feeds
      feeds-fed zero left s = tt
      feeds-fed (suc room) left s =
          let r = run m readings left s in
          (b, rest r.answer (λ n. play_feeds m readings room (left - n) r.state) (λ n. feeds-fed room (left - n) r.state))
        where
          rest : (a : Answer) (more : ℕ → List Feed) → ((n : ℕ) → Fed (more n)) → Fed (further a more)
          rest (happens e n) more k = k n
          rest (spends n) more k = tt
          rest (finishes c n) more k = tt
          rest (refuses r) more k = tt
          rest (halts why) more k = tt

  -- ── a call ──
  call-fed : (c : Call) → Bytes (feed_of c).readings → (s : Machine) → Fed (call_feeds m c s)
  call-fed (one f) b s = (b, tt)
  call-fed (many f answers) b s = by (eqb (length f.readings) 64)
    where
      by : (t : Bool) → Fed (If t then play_feeds m f.readings (length answers / 8) f.allowance s else f ∷ [])
      by true = feeds-fed f.readings b f.allowance (length answers / 8) f.allowance s
      by false = (b, tt)

  -- not refused where the readings are 64 bytes
  goes : (f : Feed) (s t : Machine) (a : Answer) → Answers f s a t → length f.readings ≡ 64 → (l answers : List ℕ) (p : Played) → unless_refused a l answers p ≡ p
  goes f s t (happens e n) g k l answers p = refl
  goes f s t (spends n) g k l answers p = refl
  goes f s t (finishes c n) g k l answers p = refl
  goes f s t (refuses r) g k l answers p = absurd (g.0 k)
  goes f s t (halts why) g k l answers p = absurd g

  call-is : (c : Call) → Bytes (feed_of c).readings → (s : Machine) → sound m s ≡ true
      → let rs = runs m (call_feeds m c s) s in (call_on code (encode s) c ≡ shown_call c rs s) × ((shown_call c rs s).state ≡ encode (state_after s rs))
  unfolding play_on shown_play runs run
  call-is (one f) b s q = (ap (λ (x : RanOn). taking x.readings (played (answer_numbers x.answer) x.bytes [])) (run_is code m h w f b s q), refl)
  call-is (many f answers) b s q = by (eqb (length f.readings) 64) refl
    where
      tested : run_on code (encode s) f.readings 0 ≡ on_bytes (run m f.readings 0 s)
      tested = run_is code m h w (record { readings = f.readings; allowance = 0 }) b s q

      by : (t : Bool) → eqb (length f.readings) 64 ≡ t
          → let rs = runs m (If t then play_feeds m f.readings (length answers / 8) f.allowance s else f ∷ []) s in
          (play_on code (encode s) f.readings f.allowance answers ≡ shown_play rs 0 0 s answers) × ((shown_play rs 0 0 s answers).state ≡ encode (state_after s rs))
      by true e =
          let r = run m f.readings 0 s in
          let z : f.allowance ≡ f.allowance - 0 = omega arith in
          let none : Feed = record { readings = f.readings; allowance = 0 } in (
            ap (λ (x : RanOn). unless_refused x.answer (encode s) answers (play_from code f.readings f.allowance (length answers / 8) 0 0 (encode s) answers)) tested
                ∙ goes none s r.state r.answer (run-safe m w none b s q).answers (eqb-true _ _ e) (encode s) answers _
                ∙ play-runs f.readings b f.allowance (length answers / 8) 0 0 s q answers
                ∙ ap (λ k. shown_play (runs m (play_feeds m f.readings (length answers / 8) k s) s) 0 0 s answers) (sym z),
            state-after f.readings b f.allowance (length answers / 8) f.allowance 0 0 s answers,
          )
      by false e = (
        ap (λ (x : RanOn). unless_refused x.answer (encode s) answers (play_from code f.readings f.allowance (length answers / 8) 0 0 (encode s) answers)) tested ∙ rw e,
        rw e,
      )

  -- ── calls ──
  after-sound : (fs : List Feed) → Fed fs → (s : Machine) → sound m s ≡ true → sound m (state_after s (runs m fs s)) ≡ true
  unfolding runs
  after-sound [] fed s q = q
  after-sound (f ∷ fs) fed s q = after-sound fs fed.1 (run m f.readings f.allowance s).state (run-safe m w f fed.0 s q).still-sound

  pub calls_are : (cs : List Call) → Each (λ c. Bytes (feed_of c).readings) cs → (s : Machine) → sound m s ≡ true → calls_on code cs (encode s) ≡ plain_calls m cs s
  unfolding calls_on plain_calls
  calls_are [] b s q = refl
  calls_are (c ∷ cs) b s q =
      let rs = runs m (call_feeds m c s) s in
      let x = call-is c b.0 s q in
      ap (λ (p : Played). p ∷ calls_on code cs p.state) x.0
      ∙ ap (λ (l : List ℕ). shown_call c rs s ∷ calls_on code cs l) x.1
      ∙ ap (λ ps. shown_call c rs s ∷ ps) (calls_are cs b.1 (state_after s rs) (after-sound (call_feeds m c s) (call-fed c b.0 s) s q))
