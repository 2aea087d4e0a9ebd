-- A list of calls in the numbers that C sees: cue_start, and then a cue_run for each feed, on the bytes that the call before it left.
-- cue_start, cue_run and cue_play are what the contracts of cue_start, cue_run and cue_play say (src/lent.rt).
use Rattle.std.specs.Prelude.{◌≡◌, refl, List, [], ◌∷◌, map, ℕ, ◌%◌, ◌<◌, length}
use Rattle.std.proofs.Common.{ap, ◌∙◌, arith}
use Rattle.words.specs.Laws.{Bytes}
use Rattle.values.specs.Ends.{accepted}
use Rattle.values.specs.Trace.{set, hold, release}
use Rattle.bytecode.specs.Macro.{Macro}
use Rattle.bytecode.specs.Rules.{judge_macro}
use Rattle.bytecode.specs.Machine.{fresh_machine}
use Rattle.bytecode.specs.Runs.{Answer, happens, spends, finishes, refuses, halts, Ran, Feed, runs}
use Rattle.bytecode.specs.State.{state_length, encode}
use Rattle.bytecode.specs.Lent.{RanOn, start_on, run_on}
use Rattle.bytecode.specs.Play.{Played, play_on}
use Rattle.bytecode.specs.Answers.{verdict_numbers, answer_numbers, packed}
use Rattle.logic.specs.Lists.{Each}
use Rattle.bytecode_laws.specs.Promises.{passed}
use Rattle.bytecode_safety.specs.Safety.{fresh-safe}
use Rattle.bytecode_runs.specs.Terms.{Fed, runs_on, on_bytes}
use Rattle.bytecode_runs.specs.Bytes.{started, runs-are}
use Rattle.bytecode_runs.specs.Plays.{Call, one, many, feed_of, call_on, calls_on, plain_calls, calls_are}
use Rattle.run.specs.Fields.{Ranged, run-ranged}
use Rattle.run.specs.Plays.{play-fine}

-- what C sees of a call: the number answered, and the state's bytes after it
pub record Seen : Type 0 where
  pub answer : ℕ
  pub state : List ℕ

abbrev pub cue_start : List ℕ → List ℕ → Seen
cue_start code state = let r = start_on code state in record { answer = packed (verdict_numbers r.verdict); state = r.bytes }

abbrev pub feed : List ℕ → ℕ → Feed
feed readings allowance = record { readings = readings; allowance = allowance }

abbrev pub cue_run : List ℕ → List ℕ → Feed → Seen
cue_run code state f = let r = run_on code state f.readings f.allowance in record { answer = packed (answer_numbers r.answer); state = r.bytes }

-- of a play also the bytes lent for the events' answers
pub record SeenPlay : Type 0 where
  pub answer : ℕ
  pub state : List ℕ
  pub answers : List ℕ

abbrev pub seen_play : Played → SeenPlay
seen_play p = record { answer = packed p.answer; state = p.state; answers = p.answers }

abbrev pub cue_play : List ℕ → List ℕ → Feed → List ℕ → SeenPlay
cue_play code state f answers = seen_play (play_on code state f.readings f.allowance answers)

-- a call of cue_run or of cue_play, and a list of them in any order
abbrev pub cue_call : List ℕ → List ℕ → Call → SeenPlay
cue_call code state (one f) = let r = cue_run code state f in record { answer = r.answer; state = r.state; answers = [] }
cue_call code state (many f answers) = cue_play code state f answers

unfoldable pub cue_calls : List ℕ → List ℕ → List Call → List SeenPlay
cue_calls code state [] = []
cue_calls code state (c ∷ cs) = let r = cue_call code state c in r ∷ cue_calls code r.state cs

unfoldable pub cue_runs : List ℕ → List ℕ → List Feed → List Seen
cue_runs code state [] = []
cue_runs code state (f ∷ fs) = let r = cue_run code state f in r ∷ cue_runs code r.state fs

-- the plain machine's answer as that number, and its state as those bytes
abbrev pub shown : Ran → Seen
shown r = record { answer = packed (answer_numbers r.answer); state = encode r.state }

-- the header's CUE_TAG; 7 is the number of a machine with no next step (`answer_numbers`)
abbrev pub tag_of : Seen → ℕ
tag_of s = s.answer % 256

abbrev pub NotStuck : Seen → Type 0
NotStuck s = tag_of s ≡ 7 → ⊥

pub record Called (code : List ℕ) (m : Macro) (state : List ℕ) (fs : List Feed) : Type 0 where
  -- the start is done (tag 1 and nothing else) and leaves the bytes of the fresh state
  pub starts : cue_start code state ≡ record { answer = 1; state = encode (fresh_machine m) }
  -- every run answers the plain machine's number and leaves the bytes of its state
  pub equals : cue_runs code (cue_start code state).state fs ≡ map shown (runs m fs (fresh_machine m))
  -- and is not stuck
  pub not_stuck : Each NotStuck (cue_runs code (cue_start code state).state fs)

-- ── proofs ──
no_seven : (n : ℕ) (a : Answer) (l : List ℕ) → Ranged n a → NotStuck (record { answer = packed (answer_numbers a); state = l })
no_seven n (happens (set c v) k) l r e = omega arith
no_seven n (happens (hold g) k) l r e = omega arith
no_seven n (happens (release g) k) l r e = omega arith
no_seven n (spends k) l r e = omega arith
no_seven n (finishes c k) l r e = omega arith
no_seven n (refuses q) l r e = omega arith
no_seven n (halts why) l r e = absurd r

abbrev seen : RanOn → Seen
seen r = record { answer = packed (answer_numbers r.answer); state = r.bytes }

runs_seen : (code : List ℕ) (fs : List Feed) (state : List ℕ) → cue_runs code state fs ≡ map seen (runs_on code fs state)
unfolding cue_runs runs_on
runs_seen code [] state = refl
runs_seen code (f ∷ fs) state = ap (λ x. cue_run code state f ∷ x) (runs_seen code fs (cue_run code state f).state)

seen-shown : (rs : List Ran) → map seen (map on_bytes rs) ≡ map shown rs
seen-shown [] = refl
seen-shown (r ∷ rs) = ap (λ x. shown r ∷ x) (seen-shown rs)

call-seen : (code state : List ℕ) (c : Call) → cue_call code state c ≡ seen_play (call_on code state c)
call-seen code state (one f) = refl
call-seen code state (many f answers) = refl

calls_seen : (code : List ℕ) (cs : List Call) (state : List ℕ) → cue_calls code state cs ≡ map seen_play (calls_on code cs state)
unfolding cue_calls calls_on
calls_seen code [] state = refl
calls_seen code (c ∷ cs) state =
    ap (λ (r : SeenPlay). r ∷ cue_calls code r.state cs) (call-seen code state c)
    ∙ ap (λ x. seen_play (call_on code state c) ∷ x) (calls_seen code cs (call_on code state c).state)

-- ── the statements ──
-- any bytes as code, as state and as readings: cue_run never answers tag 7
pub never_stuck : (code state : List ℕ) (f : Feed) → Bytes code → Bytes f.readings → NotStuck (cue_run code state f)
never_stuck code state f b c =
    let r = run_on code state f.readings f.allowance in
    no_seven f.allowance r.answer r.bytes (run-ranged code b state f.readings f.allowance c)

-- nor does cue_play
pub never-stuck-playing : (code state : List ℕ) (f : Feed) (answers : List ℕ) → Bytes code → Bytes f.readings → f.allowance < 65536
    → (cue_play code state f answers).answer % 256 ≡ 7 → ⊥
never-stuck-playing code state f answers b c n e =
    let x = (play_on code state f.readings f.allowance answers).answer in
    let h = play-fine code f.readings b c f.allowance n state answers in
    h.goes-on (omega (arith, h.fits.tag_fits, e))

never-stuck-each : (code : List ℕ) → Bytes code → (fs : List Feed) → Fed fs → (state : List ℕ) → Each NotStuck (cue_runs code state fs)
unfolding cue_runs
never-stuck-each code b [] fed state = tt
never-stuck-each code b (f ∷ fs) fed state = (never_stuck code state f b fed.0, never-stuck-each code b fs fed.1 (cue_run code state f).state)

-- a macro that passes, any bytes of a state's length, any list of runs
pub calls : (code : List ℕ) (m : Macro) → Bytes code → judge_macro code ≡ accepted m
    → (state : List ℕ) → length state ≡ state_length → (fs : List Feed) → Fed fs → Called code m state fs
calls code m b h state n fs fed =
    let w = passed code m b h in
    let s = started code m h state n in
    record {
      starts = rw (s.0, s.1) refl;
      equals =
          rw s.1 (runs_seen code fs (encode (fresh_machine m))
          ∙ ap (map seen) (runs-are code m h w fs fed (fresh_machine m) (fresh-safe m w))
          ∙ seen-shown (runs m fs (fresh_machine m)));
      not_stuck = never-stuck-each code b fs fed (cue_start code state).state;
    }

-- the same for any list of runs and plays: each answers and writes what the plain machine shows of its runs (shown_call), which are one list of runs
-- (one-list, bytecode_runs/specs/Plays)
pub both : (code : List ℕ) (m : Macro) → Bytes code → judge_macro code ≡ accepted m
    → (state : List ℕ) → length state ≡ state_length → (cs : List Call) → Each (λ c. Bytes (feed_of c).readings) cs
    → cue_calls code (cue_start code state).state cs ≡ map seen_play (plain_calls m cs (fresh_machine m))
both code m b h state n cs fed =
    let w = passed code m b h in
    rw (started code m h state n).1 (calls_seen code cs (encode (fresh_machine m)) ∙ ap (map seen_play) (calls_are code m h w cs fed (fresh_machine m) (fresh-safe m w)))
