-- What a play comes to: the lines of its events, read back from its bytes, its totals and its end are those of its runs; where it stopped for want of room,
-- the lines of the runs that are left follow.
use Rattle.std.specs.Prelude.{◌≡◌, Bool, true, ltb, length}
use Rattle.std.proofs.Math.Path.{refl, sym, ap, subst}
use Rattle.std.proofs.Common.{◌∙◌, inr, add-zero, lt-ltb}
use mathlib.Core.List.{List, ◌++◌, append_assoc}
use Rattle.std.proofs.Math.Option.{Option, none, some}
use Prim.Native.Nat.{ℕ, zero, suc, ◌+◌, ◌-◌, ◌*◌, ◌/◌, ◌≤◌, ◌<◌}
use native.Mathlib.Omega.{arith}
use Rattle.std.proofs.Math.ListN.{get_or}
use Rattle.std.proofs.lemmas.List.Edits.{sets}
use Rattle.std.proofs.Math.Seq.{length-sets}
use Rattle.words.specs.Numbers.{byte_at}
use Rattle.words.specs.Laws.{Bytes, in-sets, out-sets}
use Rattle.values.specs.Ends.{Refusal, refusal, Judged, accepted, refused}
use Rattle.values.specs.Trace.{Event, set, hold, release, readings_in}
use Rattle.bytecode.specs.Macro.{Macro}
use Rattle.bytecode.specs.Rules.{judge_macro}
use Rattle.bytecode.specs.Machine.{Machine}
use Rattle.bytecode.specs.Runs.{Answer, happens, spends, finishes, refuses, halts, Feed, run}
use Rattle.bytecode.specs.State.{encode}
use Rattle.bytecode.specs.Lent.{sound_state, written, run_on}
use Rattle.bytecode.specs.Answers.{Numbers, numbers, refusal_numbers, event_numbers, packed}
use Rattle.bytecode.specs.Play.{Played, played, taking, long, put_answer, after_run, play_from, unless_refused, play_on}
use Rattle.bytecode_laws.specs.Promises.{passed}
use Rattle.bytecode_layout.specs.Layout.{sound_state-encode}
use Rattle.bytecode_layout.specs.Passing.{sized}
use Rattle.bytecode_safety.specs.Terms.{InRange, steps_of, Answers}
use Rattle.bytecode_safety.specs.Safety.{run-safe}
use Rattle.run.specs.Fields.{state-sound}
use Rattle.run.specs.Plays.{Later, run-later}
use Rattle.listing_text.specs.Sheet.{Totals, sheet, count, read, count_answer, count_run}
use Rattle.listing_text.specs.Text.{zeros, event_line, answer_text, after_event, runs_of, text_of}
use Rattle.listing_text.specs.Steps.{zeros-bytes, lines_step, lines_left}
use Rattle.listing_text.specs.Told.{told_line, line_at, event_lines, events_of, full_steps, last_text, play_text, count_tag, count_tags, tags-read, play_totals}

-- ── an event, read back ──
-- the bytes of its packed answer
record Bytes_of (bytes : List ℕ) (tag first second : ℕ) : Type 0 where
  pub at-0 : get_or bytes 0 0 ≡ tag
  pub at-3 : get_or bytes 3 0 + get_or bytes 4 0 * 256 ≡ first
  pub at_5 : get_or bytes 5 0 ≡ second

bytes_of : (tag steps first second : ℕ) → tag < 256 → steps < 65536 → first < 65536 → second < 256 → Bytes_of (long (packed (numbers tag steps first second))) tag first second
bytes_of tag steps first second t s f h = record { at-0 = omega arith; at-3 = omega arith; at_5 = omega arith }

-- eight bytes among others
module _ (answers bytes : List ℕ) (p : ℕ) (same : (k : ℕ) → k < 8 → byte_at answers (p + k) ≡ get_or bytes k 0) where
  line_of : (tag first second : ℕ) → Bytes_of bytes tag first second → line_at answers p ≡ told_line tag first second
  line_of tag first second b =
      let i = ap (byte_at answers) (sym (add-zero p)) ∙ same 0 (omega arith) ∙ b.at-0 in
      let q : p + 3 + 1 ≡ p + 4 = omega arith in
      let x = same 3 (omega arith) in
      let y = ap (byte_at answers) q ∙ same 4 (omega arith) in
      let j = ap (λ n. n + byte_at answers (p + 3 + 1) * 256) x ∙ ap (λ n. get_or bytes 3 0 + n * 256) y ∙ b.at-3 in
      let k = same 5 (omega arith) ∙ b.at_5 in
      ap (λ n. told_line n (byte_at answers (p + 3) + byte_at answers (p + 3 + 1) * 256) (byte_at answers (p + 5))) i
      ∙ ap (λ n. told_line tag n (byte_at answers (p + 5))) j
      ∙ ap (λ n. told_line tag first n) k

  event-line : (e : Event) (n : ℕ) → bytes ≡ long (packed (event_numbers e n)) → n < 65536 → InRange e → line_at answers p ≡ event_line e
  event-line (set c v) n d h r = line_of 4 c v (rw d (bytes_of 4 n c v (omega arith) h (omega (arith, r.1)) (omega (arith, r.2))))
  event-line (hold g) n d h r = line_of 5 g 0 (rw d (bytes_of 5 n g 0 (omega arith) h (omega arith) (omega arith)))
  event-line (release g) n d h r = line_of 6 g 0 (rw d (bytes_of 6 n g 0 (omega arith) h (omega arith) (omega arith)))

  tag_of : (tag first second : ℕ) → Bytes_of bytes tag first second → byte_at answers p ≡ tag
  tag_of tag first second b = ap (byte_at answers) (sym (add-zero p)) ∙ same 0 (omega arith) ∙ b.at-0

  event-tag : (e : Event) (n : ℕ) → bytes ≡ long (packed (event_numbers e n)) → n < 65536 → InRange e → (t : Totals) → count_tag (byte_at answers p) t ≡ count e t
  event-tag (set c v) n d h r t = rw (tag_of 4 c v (rw d (bytes_of 4 n c v (omega arith) h (omega (arith, r.1)) (omega (arith, r.2)))))
  event-tag (hold g) n d h r t = rw (tag_of 5 g 0 (rw d (bytes_of 5 n g 0 (omega arith) h (omega arith) (omega arith))))
  event-tag (release g) n d h r t = rw (tag_of 6 g 0 (rw d (bytes_of 6 n g 0 (omega arith) h (omega arith) (omega arith))))

-- ── totals ──
read_none : (t : Totals) → read 0 t ≡ t
read_none t = let z : t.readings + 0 ≡ t.readings = omega arith in ap (sheet t.sets t.holds t.releases) z

read_twice : (m n : ℕ) (t : Totals) → read n (read m t) ≡ read (m + n) t
read_twice m n t = let z : t.readings + m + n ≡ t.readings + (m + n) = omega arith in ap (sheet t.sets t.holds t.releases) z

-- of an event whose run took i readings, and k events behind it with j
totals-on : (answers : List ℕ) (at i k j : ℕ) (e : Event) (t : Totals) → count_tag (byte_at answers (8 * at)) t ≡ count e t
    → read j (count_tags answers (suc at) k (read i (count e t))) ≡ read (i + j) (count_tags answers at (suc k) t)
unfolding count_tags
totals-on answers at i k j e t h =
    ap (read j) (tags-read answers i (suc at) k (count e t))
    ∙ read_twice i j (count_tags answers (suc at) k (count e t))
    ∙ ap (λ x. read (i + j) (count_tags answers (suc at) k x)) (sym h)

-- ── a run of a macro that passes, from a sound state ──
-- it is not refused, and after an event the state is sound again
module _ (m : Macro) where
  abbrev Holds : List ℕ → Type 0
  Holds l = (s : Machine) × (sound_state m l ≡ some s)

  abbrev Goes : ℕ → ℕ → Answer → List ℕ → Type 0
  Goes left i (happens e n) k = (0 < n) × (n ≤ left) × InRange e × Holds k × (i ≤ n)
  Goes left i (spends n) k = n ≤ left
  Goes left i (finishes c n) k = n ≤ left
  Goes left i (refuses r) k = ⊥
  Goes left i (halts why) k = ⊥

  runs : (code : List ℕ) → Bytes code → judge_macro code ≡ accepted m → (l : List ℕ) → Holds l → (left : ℕ)
      → (let r = run_on code l zeros left in Goes left r.readings r.answer r.bytes)
  unfolding run_on
  runs code B passes l (s, h) left =
      let p = passed code m B passes in
      let r = run m zeros left s in
      let f : Feed = record { readings = zeros; allowance = left } in
      let w = run-safe m p f zeros-bytes s (state-sound m l s h) in
      rw (passes, h)
      (told r.answer r.state (readings_in r.trace) w.answers (run-later m zeros left s) (sound_state-encode m (sized m p) r.state w.still-sound) w.traced.1)
    where
      told : (a : Answer) (t : Machine) (i : ℕ) → Answers (record { readings = zeros; allowance = left }) s a t → Later 0 a → sound_state m (encode t) ≡ some t → i ≤ steps_of a
          → Goes left i a (written a t l)
      told (happens e n) t i a j d z = (j, a.1, a.2, (t, d), z)
      told (spends n) t i a j d z = omega (arith, a.1)
      told (finishes c n) t i a j d z = a.1
      told (refuses q) t i a j d z = absurd (a.0 refl)
      told (halts why) t i a j d z = absurd a

-- ── a play, from its i-th event on ──
module _ (code : List ℕ) (allowance : ℕ) where
  -- what follows the lines of a play's events, with the totals after it
  abbrev follows : Played → Totals → List ℕ
  follows p t = last_text p.answer t ++ lines_left (ltb 0 (full_steps p.answer)) t code p.state (allowance - full_steps p.answer)

  -- with this room, these steps taken, these events written and these totals it goes on from l and answers: it writes so many events more, and none of
  -- those before; there are no more of them, and no more readings, than steps
  pub record Comes (room taken events : ℕ) (t : Totals) (l answers : List ℕ) (p : Played) : Type 0 where
    pub more : ℕ
    pub counted : events_of p.answer ≡ events + more
    pub few : more ≤ room
    pub most : full_steps p.answer ≤ allowance
    pub paced : 0 < full_steps p.answer → (taken + more ≤ full_steps p.answer) × (taken + p.readings ≤ full_steps p.answer)
    pub keeps : (j : ℕ) → j < 8 * events → byte_at p.answers j ≡ byte_at answers j
    pub text : text_of t (runs_of code l (allowance - taken)) ≡ event_lines p.answers events more ++ follows p (read p.readings (count_tags p.answers events more t))

  -- no event more
  over : (room taken events : ℕ) (t : Totals) (l answers k : List ℕ) (x : Numbers) (i : ℕ) → events_of x ≡ events → full_steps x ≤ allowance
      → (0 < full_steps x → (taken ≡ full_steps x) × (i ≡ 0))
      → text_of t (runs_of code l (allowance - taken)) ≡ follows (played x k answers) (read i t) → Comes room taken events t l answers (taking i (played x k answers))
  unfolding event_lines count_tags
  over room taken events t l answers k x i e h paced lines =
      let z : i ≡ i + 0 = omega arith in
      record {
        more = 0;
        counted = omega arith;
        few = omega arith;
        most = h;
        paced = λ q. let w = paced q in (omega (arith, w.0), omega (arith, w.0, w.1));
        keeps = λ j i. refl;
        text = lines ∙ ap (λ n. follows (played x k answers) (read n t)) z;
      }

  -- an event more than what follows it has
  one-more : (room taken events : ℕ) (t : Totals) (l k answers : List ℕ) (e : Event) (n i : ℕ) (p : Played) → InRange e → n < 65536 → 0 < n → i ≤ n → 8 * (events + suc room) ≤ length answers
      → text_of t (runs_of code l (allowance - taken)) ≡ event_line e ++ text_of (read i (count e t)) (runs_of code k (allowance - taken - n))
      → Comes room (taken + n) (suc events) (read i (count e t)) k (put_answer answers events (event_numbers e n)) p → Comes (suc room) taken events t l answers (taking i p)
  unfolding event_lines
  one-more room taken events t l k answers e n i p r small step upto fits lines c =
      let bytes = long (packed (event_numbers e n)) in
      let place = 8 * events in
      let same : (j : ℕ) → j < 8 → byte_at p.answers (place + j) ≡ get_or bytes j 0 =
      λ j h. c.keeps (place + j) (omega arith) ∙ in-sets bytes answers place (omega arith) j h in
      let outside : (j : ℕ) → j < place → byte_at (sets answers place bytes) (j + 0) ≡ byte_at answers (j + 0) =
      λ j h. out-sets bytes answers place j 1 (inr (omega arith)) 0 (omega arith) in
      let before : (j : ℕ) → j < place → byte_at p.answers j ≡ byte_at answers j =
      λ j h. c.keeps j (omega arith) ∙ ap (byte_at (sets answers place bytes)) (sym (add-zero j)) ∙ outside j h ∙ ap (byte_at answers) (add-zero j) in
      let z : allowance - taken - n ≡ allowance - (taken + n) = omega arith in
      let u = read i (count e t) in
      let rest = event_lines p.answers (suc events) c.more in
      let after = read p.readings (count_tags p.answers (suc events) c.more u) in
      record {
        more = suc c.more;
        counted = omega (arith, c.counted);
        few = omega (arith, c.few);
        most = c.most;
        paced = λ q. let w = c.paced q in (omega (arith, w.0), omega (arith, w.1));
        keeps = before;
        text =
            lines
            ∙ ap (λ i. event_line e ++ text_of u (runs_of code k i)) z
            ∙ ap (λ x. event_line e ++ x) c.text
            ∙ sym (append_assoc (event_line e) rest (follows p after))
            ∙ ap (λ x. (x ++ rest) ++ follows p after) (sym (event-line p.answers bytes place same e n refl small r))
            ∙ ap (λ x. (line_at p.answers place ++ rest) ++ follows p x)
            (totals-on p.answers events i c.more p.readings e t (event-tag p.answers bytes place same e n refl small r t));
      }

module _ (code : List ℕ) (B : Bytes code) (allowance : ℕ) where
  module _ (small : allowance < 65536) (m : Macro) (passes : judge_macro code ≡ accepted m) where
    -- after a run, where what follows it comes to its lines
    after-run : (a : Answer) (i room taken events : ℕ) (t : Totals) (l k answers : List ℕ) → taken ≤ allowance → 8 * (events + suc room) ≤ length answers
        → Goes m (allowance - taken) i a k
        → text_of t (runs_of code l (allowance - taken))
        ≡ (let u = read i (count_answer a t) in answer_text a u ++ after_event a (λ n. text_of u (runs_of code k (allowance - taken - n))))
        → (next : ℕ → List ℕ → Played)
        → ((n : ℕ) (b : List ℕ) (u : Totals) → 0 < n → n ≤ allowance - taken → Holds m k → length b ≡ length answers
        → Comes code allowance room (taken + n) (suc events) u k b (next (taken + n) b))
        → Comes code allowance (suc room) taken events t l answers (taking i (after_run a taken events k answers next))
    after-run (happens e n) i room taken events t l k answers up fits g lines next later =
        one-more code allowance room taken events t l k answers e n i _ g.2 (omega (arith, g.1)) g.0 g.4 fits lines
        (later n _ _ g.0 g.1 g.3 (length-sets answers (8 * events) (long (packed (event_numbers e n)))))
    after-run (spends n) i room taken events t l k answers up fits g lines next later =
        over code allowance (suc room) taken events t l answers k _ i refl (omega arith) (λ q. absurd (omega arith)) lines
    after-run (finishes d n) i room taken events t l k answers up fits g lines next later =
        over code allowance (suc room) taken events t l answers k _ i refl (omega arith) (λ q. absurd (omega arith)) lines
    after-run (refuses q) i room taken events t l k answers up fits g lines next later = absurd g
    after-run (halts why) i room taken events t l k answers up fits g lines next later = absurd g

    -- there is room for an event, or there was one
    from : (room taken events : ℕ) (t : Totals) (l answers : List ℕ) → Holds m l → taken ≤ allowance → (room ≡ 0 → 0 < taken) → 8 * (events + room) ≤ length answers
        → Comes code allowance room taken events t l answers (play_from code zeros allowance room taken events l answers)
    unfolding play_from
    from zero taken events t l answers h up begun fits =
        over code allowance 0 taken events t l answers l (numbers 8 taken 0 events) 0 refl up (λ q. (refl, refl))
        (rw (lt-ltb 0 taken (begun refl)) (ap (λ x. text_of x (runs_of code l (allowance - taken))) (sym (read_none t))))
    from (suc room) taken events t l answers h up begun fits =
        let r = run_on code l zeros (allowance - taken) in
        after-run r.answer r.readings room taken events t l r.bytes answers up fits (runs m code B passes l h (allowance - taken)) (lines_step code B t l (allowance - taken))
        (λ n b. play_from code zeros allowance room n (suc events) r.bytes b)
        (λ n b u p q k e. from room (taken + n) (suc events) u r.bytes b k (omega arith) (λ z. omega arith) (omega arith))

  -- ── a whole play ──
  -- one that is refused has the line of a run that is
  refusing : (t : Totals) (l answers : List ℕ) (r : Refusal) → ((n : ℕ) → run_on code l zeros n ≡ record { answer = refuses r; bytes = l; readings = 0 })
      → Comes code allowance (length answers / 8) 0 0 t l answers (play_on code l zeros allowance answers)
  unfolding play_on
  refusing t l answers r e =
      rw (e 0)
      (over code allowance (length answers / 8) 0 0 t l answers l (refusal_numbers r) 0 refl (omega arith) (λ q. absurd (omega arith))
      (lines_step code B t l (allowance - 0)
      ∙ ap (λ x. let u = count_run x t in answer_text x.answer u ++ after_event x.answer (λ n. text_of u (runs_of code x.bytes (allowance - 0 - n)))) (e (allowance - 0))))

  pub comes : allowance < 65536 → (t : Totals) (l answers : List ℕ) → 8 ≤ length answers → (p : Played) → play_on code l zeros allowance answers ≡ p
      → Comes code allowance (length answers / 8) 0 0 t l answers p
  unfolding run_on play_on
  comes small t l answers room p e = subst (Comes code allowance (length answers / 8) 0 0 t l answers) e (judged (judge_macro code) refl)
    where
      state : (m : Macro) → judge_macro code ≡ accepted m → (o : Option Machine) → sound_state m l ≡ o
          → Comes code allowance (length answers / 8) 0 0 t l answers (play_on code l zeros allowance answers)
      state m d none h = refusing t l answers (refusal 10 0) (λ n. rw (d, h))
      state m d (some s) h =
          goes (run_on code l zeros 0).answer (run_on code l zeros 0).readings (run_on code l zeros 0).bytes (runs m code B d l (s, h) 0)
          (from small m d (length answers / 8) 0 0 t l answers (s, h) (omega arith) (λ z. omega arith) (omega arith))
        where
          goes : (a : Answer) (i : ℕ) (k : List ℕ) → Goes m 0 i a k → {p : Played} → Comes code allowance (length answers / 8) 0 0 t l answers p
              → Comes code allowance (length answers / 8) 0 0 t l answers (unless_refused a l answers p)
          goes (happens e n) i k g c = c
          goes (spends n) i k g c = c
          goes (finishes v n) i k g c = c
          goes (refuses q) i k g c = absurd g
          goes (halts why) i k g c = absurd g

      judged : (j : Judged Macro) → judge_macro code ≡ j → Comes code allowance (length answers / 8) 0 0 t l answers (play_on code l zeros allowance answers)
      judged (refused r) d = refusing t l answers r (λ n. rw d)
      judged (accepted m) d = state m d (sound_state m l) refl

-- ── what the code takes of it ──
module _ {code : List ℕ} {left : ℕ} {t : Totals} {l answers : List ℕ} {p : Played} (C : Comes code left (length answers / 8) 0 0 t l answers p) where
  -- no more events are written than there is room for
  pub events-fit : 8 * events_of p.answer ≤ length answers
  events-fit = omega (arith, C.counted, C.few)

  -- the lines of the play, and those that are left after it, with the steps as the code has them
  pub next-left : (goes : Bool) (n : ℕ) → goes ≡ true → n ≡ full_steps p.answer
      → let u = play_totals p.answers p.answer p.readings t in
      lines_left goes t code l left ≡ play_text p.answers p.answer u ++ lines_left (ltb 0 n) u code p.state (left - n)
  next-left goes n g h =
      let z : left ≡ left - 0 = omega arith in
      let m : C.more ≡ events_of p.answer = omega (arith, C.counted) in
      let after : ℕ → Totals = λ k. read p.readings (count_tags p.answers 0 k t) in
      let rest : Totals → List ℕ = λ u. lines_left (ltb 0 (full_steps p.answer)) u code p.state (left - full_steps p.answer) in
      ap (λ b. lines_left b t code l left) g
      ∙ ap (λ k. text_of t (runs_of code l k)) z
      ∙ C.text
      ∙ sym (append_assoc (event_lines p.answers 0 C.more) (last_text p.answer (after C.more)) (rest (after C.more)))
      ∙ ap (λ k. (event_lines p.answers 0 k ++ last_text p.answer (after k)) ++ rest (after k)) m
      ∙ ap (λ k. play_text p.answers p.answer (after (events_of p.answer)) ++ lines_left (ltb 0 k) (after (events_of p.answer)) code p.state (left - k)) (sym h)
