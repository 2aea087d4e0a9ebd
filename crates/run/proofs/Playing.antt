-- What a play gives: its runs one after the other, and before them what the tests told.
use mathlib.Core.Path.{◌≡◌, refl, sym, ap, ◌∙◌}
use mathlib.Core.List.{List}
use Prim.Native.Nat.{ℕ, suc, ◌+◌, ◌*◌, ◌-◌, ◌/◌, ◌≤◌, ◌<◌}
use native.Mathlib.Omega.{arith}
use Rattle.std.specs.Prelude.{Ok}
use lib.ListN.{length}
use lib.Seq.{sets}
use Rattle.words.specs.Laws.{Bytes}
use Rattle.values.specs.Ends.{refusal}
use Rattle.values.specs.Trace.{readings_in}
use Rattle.bytecode.specs.Machine.{Machine}
use Rattle.bytecode.specs.Runs.{Answer, happens, spends, finishes, refuses, halts, Feed, run}
use Rattle.bytecode.specs.State.{encode}
use Rattle.bytecode.specs.Lent.{RanOn, written, run_on}
use Rattle.bytecode.specs.Answers.{Numbers, numbers, refusal_numbers, event_numbers, packed}
use Rattle.bytecode.specs.Play.{Played, played, taking, long as eight_bytes, after_run, play_from, unless_refused, play_on}
use Rattle.bytecode_laws.specs.Promises.{passed}
use Rattle.bytecode_layout.specs.Layout.{sound_state-encode}
use Rattle.bytecode_layout.specs.Passing.{sized}
use Rattle.bytecode_safety.specs.Safety.{run-safe}
use Rattle.bytecode_safety.specs.Terms as safe
use Rattle.bytecode_runs.specs.Bytes.{run_is}
use Rattle.load_check.specs.Views.{passing}
use Rattle.state_check.specs.Inspecting.{Held}
use Rattle.state_write.specs.Clearing.{Encodes}
use Rattle.packing.specs.Events.{event_back, back-event}
use Rattle.machine_run.specs.Held.{Answers, Runs}
use Rattle.machine_run.specs.Held as machine
use Rattle.machine_ops.specs.declared.Event as machine-event
use Rattle.machine_run.specs.declared.Answer as machine-answer
use Rattle.machine_run.specs.declared.Run as machine-run
use Rattle.machine_run.specs.declared.Answer.TheVariants.{Happens, Spends, Finishes}
use Rattle.run.specs.Answers.{answer_of}
use Rattle.run.specs.Fields.{state-sound}
use Rattle.run.specs.Plays.{Later, run-later}
use Rattle.run.specs.Order.{Standing}
use Rattle.run.proofs.Told.{run-held}

-- ── a run from a state's own bytes ──
-- the steps of an answer: an event takes one, none takes more than are left, and each takes a reading at most
abbrev pub Within : ℕ → ℕ → machine-answer.Answer → Type 0
Within left c (Happens e n) = (1 ≤ n) × (n ≤ left) × (c ≤ n)
Within left c (Spends n) = (n ≤ left) × (c ≤ n)
Within left c (Finishes v n) = (n ≤ left) × (c ≤ n)

pub record Ran-on (c readings l : List ℕ) (left : ℕ) (k : List ℕ) (o : machine-run.Run) : Type 0 where
  pub is : run_on c l readings left ≡ record { answer = answer_of (Ok o.answer); bytes = k; readings = o.readings }
  pub standing : Standing c k
  pub within : Within left o.readings o.answer

module _ {c readings l : List ℕ} {left : ℕ} {k : List ℕ} {o : machine-run.Run} (X : Ran-on c readings l left k o) where
  pub taken-upto : (e : machine-event.Event) (n : ℕ) → o.answer ≡ Happens e n → (1 ≤ n) × (n ≤ left) × (o.readings ≤ n)
  taken-upto e n d = rw d at X.within

  pub spent-upto : (n : ℕ) → o.answer ≡ Spends n → n ≤ left
  spent-upto n d = (rw d at X.within).0

  pub ended-upto : (v n : ℕ) → o.answer ≡ Finishes v n → n ≤ left
  ended-upto v n d = (rw d at X.within).0

  pub read-upto : o.readings ≤ left
  read-upto = by o.answer X.within
    where
      by : (a : machine-answer.Answer) → Within left o.readings a → o.readings ≤ left
      by (Happens e n) w = omega (arith, w.1, w.2)
      by (Spends n) w = omega (arith, w.0, w.1)
      by (Finishes v n) w = omega (arith, w.0, w.1)

-- where no run was made yet of a call that began with the state's bytes l₀
pub record First (l₀ l : List ℕ) (taken events read : ℕ) : Type 0 where
  pub same : l ≡ l₀
  pub no-step : taken ≡ 0
  pub no-event : events ≡ 0
  pub none_read : read ≡ 0

module _ (allowance : ℕ) {c readings l : List ℕ} {taken : ℕ} {k : List ℕ} {o : machine-run.Run} (X : Ran-on c readings l (allowance - taken) k o) {l₀ : List ℕ} {events read : ℕ}
    (F : First l₀ l taken events read) where
  first-told : run_on c l₀ readings allowance ≡ record { answer = answer_of (Ok o.answer); bytes = k; readings = read + o.readings }
  first-told =
      let z : allowance ≡ allowance - taken = omega (arith, F.no-step) in
      let y : o.readings ≡ read + o.readings = omega (arith, F.none_read) in
      ap (λ (x : ℕ). run_on c l₀ readings x) z
      ∙ ap (λ (x : List ℕ). run_on c x readings (allowance - taken)) (sym F.same)
      ∙ X.is
      ∙ ap (λ (x : ℕ). record { answer = answer_of (Ok o.answer); bytes = k; readings = x }) y

  pub first-happens : (e : machine-event.Event) (n : ℕ) → o.answer ≡ Happens e n
      → run_on c l₀ readings allowance ≡ record { answer = answer_of (Ok (Happens e n)); bytes = k; readings = read + o.readings }
  first-happens e n d = first-told ∙ rw d

  pub first-spends : (n : ℕ) → o.answer ≡ Spends n → run_on c l₀ readings allowance ≡ record { answer = answer_of (Ok (Spends (taken + n))); bytes = k; readings = read + o.readings }
  first-spends n d = let z : taken + n ≡ n = omega (arith, F.no-step) in first-told ∙ rw (d, z)

  pub first-finishes : (v n : ℕ) → o.answer ≡ Finishes v n
      → run_on c l₀ readings allowance ≡ record { answer = answer_of (Ok (Finishes v (taken + n))); bytes = k; readings = read + o.readings }
  first-finishes v n d = let z : taken + n ≡ n = omega (arith, F.no-step) in first-told ∙ rw (d, z)

pub held : (c l : List ℕ) → Bytes c → Standing c l → machine.Held c l
held c l B S = record {
  macro = S.macro;
  reads = (passing c S.macro S.passes).0;
  passed = passed c S.macro B S.passes;
  state = S.state;
  sounds = S.sounds;
  bytes = S.bytes;
}

module _ (c readings : List ℕ) (B : Bytes c) (R : Bytes readings) (full : length readings ≡ 64) where
  pub ran_on : (l : List ℕ) → Standing c l → (left : ℕ) (k : List ℕ) (o : machine-run.Run) → Runs c readings left l k o → Ran-on c readings l left k o
  unfolding held
  ran_on l S left k o X =
      let h = held c l B S in
      let m = S.macro in
      let r = run m readings left S.state in
      let x = X m h.reads h.passed S.state S.sounds S.bytes in
      let f : Feed = record { readings = readings; allowance = left } in
      let w = run-safe m h.passed f R S.state S.sounds in
      let e : run_on c l readings left ≡ record { answer = r.answer; bytes = encode r.state; readings = readings_in r.trace } =
      rw S.bytes (run_is c m S.passes h.passed f R S.state S.sounds) in
      let z : readings_in r.trace ≤ safe.steps_of r.answer = w.traced.1 in
      record {
        is = e ∙ named r.answer r.state (readings_in r.trace) o x.answer x.bytes x.readings;
        standing = record { macro = m; passes = S.passes; state = r.state; sounds = w.still-sound; bytes = x.bytes };
        within = within r.answer r.state o.answer o.readings x.answer w.answers (run-later m readings left S.state) (omega (arith, x.readings));
      }
    where
      named : (a : Answer) (t : Machine) (i : ℕ) (o : machine-run.Run) → Answers a o.answer → k ≡ encode t → o.readings ≡ i
          → ◌≡◌ {A = RanOn} (record { answer = a; bytes = encode t; readings = i }) (record { answer = answer_of (Ok o.answer); bytes = k; readings = o.readings })
      named (happens v n) t i o h b q = rw (h, b, back-event v, q)
      named (spends n) t i o h b q = rw (h, b, q)
      named (finishes d n) t i o h b q = rw (h, b, q)
      named (refuses r) t i o h b q = absurd h
      named (halts why) t i o h b q = absurd h

      within : (a : Answer) (t : Machine) (o : machine-answer.Answer) (i : ℕ) → Answers a o → safe.Answers (record { readings = readings; allowance = left }) S.state a t → Later 0 a
          → i ≤ safe.steps_of a → Within left i o
      within (happens v n) t o i h w p q = rw h (omega arith, w.1, q)
      within (spends n) t o i h w p q = rw h (omega (arith, w.1), q)
      within (finishes d n) t o i h w p q = rw h (w.1, q)
      within (refuses r) t o i h w p q = absurd h
      within (halts why) t o i h w p q = absurd h

-- ── the runs, one after the other ──
-- what a play gives, with so many readings taken before
taking-twice : (m n : ℕ) (p : Played) → taking m (taking n p) ≡ taking (m + n) p
taking-twice m n p =
    let z : m + (n + p.readings) ≡ m + n + p.readings = omega arith in
    ap (λ (x : ℕ). record { answer = p.answer; state = p.state; answers = p.answers; readings = x }) z

module _ (c readings : List ℕ) (allowance : ℕ) where
  play-step : (room taken events : ℕ) (l a k : List ℕ) (x : Answer) (i : ℕ) → run_on c l readings (allowance - taken) ≡ record { answer = x; bytes = k; readings = i }
      → play_from c readings allowance (suc room) taken events l a ≡ taking i (after_run x taken events k a (λ n b. play_from c readings allowance room n (suc events) k b))
  unfolding play_from
  play-step room taken events l a k x i e =
      ap (λ (r : RanOn). taking r.readings (after_run r.answer taken events r.bytes a (λ n b. play_from c readings allowance room n (suc events) r.bytes b))) e

  -- where a play that began with the state's bytes l₀ and the answers' a₀ stands: what it gives is what is still to come gives
  pub record Plays (room : ℕ) (l₀ a₀ : List ℕ) (l a : List ℕ) (taken events read : ℕ) : Type 0 where
    pub standing : Standing c l
    pub long : length a ≡ length a₀
    pub state-long : length l ≡ length l₀
    pub upto : taken ≤ allowance
    pub few : events ≤ taken
    pub few-read : read ≤ taken
    pub fits : events ≤ room
    pub same : play_from c readings allowance room 0 0 l₀ a₀ ≡ taking read (play_from c readings allowance (room - events) taken events l a)

  pub plays-first : (room : ℕ) (l a : List ℕ) → Standing c l → Plays room l a l a 0 0 0
  plays-first room l a S =
      record { standing = S; long = refl; state-long = refl; upto = omega arith; few = omega arith; few-read = omega arith; fits = omega arith; same = all }
    where
      none : (p : Played) → p ≡ taking 0 p
      none p = let z : p.readings ≡ 0 + p.readings = omega arith in ap (λ (x : ℕ). record { answer = p.answer; state = p.state; answers = p.answers; readings = x }) z

      all : play_from c readings allowance room 0 0 l a ≡ taking 0 (play_from c readings allowance (room - 0) 0 0 l a)
      all = let z : room ≡ room - 0 = omega arith in none _ ∙ ap (λ r. taking 0 (play_from c readings allowance r 0 0 l a)) z

  module _ {room : ℕ} {l₀ a₀ l a : List ℕ} {taken events read : ℕ} (P : Plays room l₀ a₀ l a taken events read) where
    pub plays-full : room ≤ events → play_from c readings allowance room 0 0 l₀ a₀ ≡ record { answer = numbers 8 taken 0 events; state = l; answers = a; readings = read }
    unfolding play_from
    plays-full h =
        let z : room - events ≡ 0 = omega (arith, P.fits) in
        P.same ∙ ap (λ r. taking read (play_from c readings allowance r taken events l a)) z ∙ over (numbers 8 taken 0 events) l a
      where
        over : (x : Numbers) (l a : List ℕ) → taking read (played x l a) ≡ record { answer = x; state = l; answers = a; readings = read }
        over x l a = let z : read + 0 ≡ read = omega arith in ap (λ (n : ℕ). record { answer = x; state = l; answers = a; readings = n }) z

    module _ (more : events < room) (k : List ℕ) (o : machine-run.Run) (X : Ran-on c readings l (allowance - taken) k o) where
      run-next : play_from c readings allowance room 0 0 l₀ a₀
          ≡ taking (read + o.readings) (after_run (answer_of (Ok o.answer)) taken events k a (λ n b. play_from c readings allowance (room - suc events) n (suc events) k b))
      run-next =
          let z : room - events ≡ suc (room - suc events) = omega arith in
          P.same
          ∙ ap (λ r. taking read (play_from c readings allowance r taken events l a)) z
          ∙ ap (taking read) (play-step (room - suc events) taken events l a k _ _ X.is)
          ∙ taking-twice read o.readings _

      pub plays-on : (e : machine-event.Event) (n : ℕ) → o.answer ≡ Happens e n → (v : ℕ) → v ≡ packed (event_numbers (event_back e) n)
          → (b : List ℕ) → b ≡ sets a (8 * events) (eight_bytes v) → length b ≡ length a → length k ≡ length l
          → Plays room l₀ a₀ k b (taken + n) (events + 1) (read + o.readings)
      plays-on e n d v is b put long state-long =
          let w = taken-upto X e n d in
          let z : events + 1 ≡ suc events = omega arith in
          record {
            standing = X.standing;
            long = long ∙ P.long;
            state-long = state-long ∙ P.state-long;
            upto = omega (arith, w.0, w.1, P.upto);
            few = omega (arith, w.0, P.few);
            few-read = omega (arith, w.2, P.few-read);
            fits = omega arith;
            same = run-next ∙ rw (d, put, is, z);
          }

      no_more : (x : Numbers) → taking (read + o.readings) (played x k a) ≡ record { answer = x; state = k; answers = a; readings = read + o.readings }
      no_more x =
          let z : read + o.readings + 0 ≡ read + o.readings = omega arith in
          ap (λ (n : ℕ). record { answer = x; state = k; answers = a; readings = n }) z

      pub plays-spent : (n : ℕ) → o.answer ≡ Spends n
          → play_from c readings allowance room 0 0 l₀ a₀ ≡ record { answer = numbers 2 (taken + n) 0 events; state = k; answers = a; readings = read + o.readings }
      plays-spent n d = run-next ∙ rw d (no_more (numbers 2 (taken + n) 0 events))

      pub plays-ended : (v n : ℕ) → o.answer ≡ Finishes v n
          → play_from c readings allowance room 0 0 l₀ a₀ ≡ record { answer = numbers 3 (taken + n) v events; state = k; answers = a; readings = read + o.readings }
      plays-ended v n d = run-next ∙ rw d (no_more (numbers 3 (taken + n) v events))

-- ── before the first run ──
module _ (c l readings : List ℕ) (allowance : ℕ) (answers : List ℕ) where
  pub play-refused : (n p : ℕ) → run_on c l readings 0 ≡ record { answer = refuses (refusal n p); bytes = l; readings = 0 }
      → play_on c l readings allowance answers ≡ played (refusal_numbers (refusal n p)) l answers
  unfolding play_on
  play-refused n p e = rw e

  module _ (B : Bytes c) (R : Bytes readings) (H : Held c l) (full : length readings ≡ 64) where
    -- the bytes of the state alone
    abbrev own : List ℕ
    own = encode H.state

    own_held : Held c own
    own_held = record {
      macro = H.macro;
      passes = H.passes;
      state = H.state;
      sound = sound_state-encode H.macro (sized H.macro (passed c H.macro B H.passes)) H.state (state-sound H.macro l H.state H.sound);
    }

    -- no refusal: what a run answers and leaves, the bytes hold the state with anything beside it or alone
    not-refused : (n : ℕ) → (run_on c l readings n ≡ run_on c own readings n) × ((p : Played) → unless_refused (run_on c l readings n).answer l answers p ≡ p)
    unfolding own_held
    not-refused n =
        let m = H.macro in
        let r = run m readings n H.state in
        let f : Feed = record { readings = readings; allowance = n } in
        let w = run-safe m (passed c m B H.passes) f R H.state (state-sound m l H.state H.sound) in
        let e = run-held c l readings n H in (
          e ∙ ap (λ (b : List ℕ). record { answer = r.answer; bytes = b; readings = readings_in r.trace }) (same r.answer r.state w.answers)
              ∙ sym (run-held c own readings n own_held),
          λ p. rw e (goes p r.answer r.state w.answers),
        )
      where
        same : (a : Answer) (t : Machine) → safe.Answers (record { readings = readings; allowance = n }) H.state a t → written a t l ≡ written a t own
        same (happens v k) t h = refl
        same (spends k) t h = refl
        same (finishes d k) t h = refl
        same (refuses r) t h = absurd (h.0 full)
        same (halts why) t h = absurd h

        goes : (p : Played) (a : Answer) (t : Machine) → safe.Answers (record { readings = readings; allowance = n }) H.state a t → unless_refused a l answers p ≡ p
        goes p (happens v k) t h = refl
        goes p (spends k) t h = refl
        goes p (finishes d k) t h = refl
        goes p (refuses r) t h = absurd (h.0 full)
        goes p (halts why) t h = absurd h

    tested : play_on c l readings allowance answers ≡ play_from c readings allowance (length answers / 8) 0 0 l answers
    unfolding play_on
    tested = (not-refused 0).1 _

    pub play-none : length answers < 8 → play_on c l readings allowance answers ≡ played (numbers 8 0 0 0) l answers
    unfolding play_from
    play-none h =
        let z : length answers / 8 ≡ 0 = omega arith in
        tested ∙ ap (λ r. play_from c readings allowance r 0 0 l answers) z

    -- with room for an event a run is made, and what is beside the state makes no difference to it
    from-own : (room : ℕ) → play_from c readings allowance (suc room) 0 0 l answers ≡ play_from c readings allowance (suc room) 0 0 own answers
    unfolding play_from
    from-own room =
        ap (λ (r : RanOn). taking r.readings (after_run r.answer 0 0 r.bytes answers (λ n b. play_from c readings allowance room n 1 r.bytes b))) (not-refused (allowance - 0)).0

    module _ (e : List ℕ) (C : Encodes c l e) where
      cleared : e ≡ own
      cleared = C H.macro H.passes H.state H.sound

      pub standing : Standing c e
      standing = record { macro = H.macro; passes = H.passes; state = H.state; sounds = state-sound H.macro l H.state H.sound; bytes = cleared }

      pub run-own : run_on c l readings allowance ≡ run_on c e readings allowance
      run-own = rw cleared (not-refused allowance).0

      pub play-runs : 8 ≤ length answers → play_on c l readings allowance answers ≡ play_from c readings allowance (length answers / 8) 0 0 e answers
      play-runs h =
          let z : length answers / 8 ≡ suc (length answers / 8 - 1) = omega arith in
          tested ∙ rw (z, cleared) (from-own (length answers / 8 - 1))
