-- The demands are not empty: the listing example's macro passes, and what is demanded of it comes to its four lines.
use Rattle.std.specs.Prelude.{◌≡◌, refl, true, List, [], ◌∷◌, ◌++◌, map, ℕ, zero, suc, ◌≤◌, ltb, length, replicate}
use Rattle.std.proofs.Common.{ap, ◌∙◌, subst, arith, ltb-true}
use Rattle.language.specs.Program.{table_bytes, Program}
use Rattle.logic.specs.Lists.{all}
use Rattle.words.specs.Laws.{Bytes}
use Rattle.values.specs.Ends.{Judged, accepted, refused}
use Rattle.values.specs.Trace.{set, hold, release, Item, event}
use Rattle.language_laws.specs.Endings.{ByteReadings, EndsBy}
use Rattle.bytecode.specs.Macro.{Macro}
use Rattle.bytecode.specs.Rules.{judge_macro}
use Rattle.bytecode.specs.Machine.{fresh_machine}
use Rattle.bytecode.specs.Runs.{Answer, happens, finishes, Ran, Feed, runs}
use Rattle.bytecode.specs.Sound.{sound}
use Rattle.bytecode.specs.State.{state_length}
use Rattle.bytecode.specs.Lent.{RanOn, start_on}
use Rattle.bytecode.specs.Answers.{Numbers, numbers, event_numbers, packed}
use Rattle.bytecode.specs.Play.{Played, long, play_on}
use Rattle.examples.specs.Cases.{cases_compute}
use Rattle.examples.specs.Notation.{refusal_of, joined, feed}
use Rattle.examples.specs.Listing.{table, code, passes}
use Rattle.examples.specs.Formed.{listing_tree, listing-formed, listing-within}
use Rattle.logic.specs.Tests.{halves}
use Rattle.bytecode_laws.specs.Promises.{passed}
use Rattle.bytecode_safety.specs.Safety.{fresh-safe}
use Rattle.bytecode_runs.specs.Terms.{Fed, runs_on, on_bytes}
use Rattle.bytecode_runs.specs.Plays.{Call, many, calls_on, play_feeds, shown_play, plain_calls}
use Rattle.demands.specs.Terms.{Demanded}
use Rattle.demands.specs.Third.{third, plays}
use Rattle.demands.specs.Second.{SameReadings, answered, events, EndsOn, second}
use Rattle.compile_code.specs.Encode.{macro_of}
use Rattle.compile_runs.specs.Enough.{Stepping}

judged : (j : Judged Macro) → refusal_of j ≡ [] → (m : Macro) × (j ≡ accepted m)
judged (accepted m) h = (m, refl)
judged (refused r) h = let z : ◌≡◌ {A = ℕ} 2 0 = ap length h in absurd (omega arith)

-- numbers that are bytes, by a test of each
all-bytes : (l : List ℕ) → all (λ x. ltb x 256) l ≡ true → Bytes l
unfolding all
all-bytes [] h k = omega arith
all-bytes (x ∷ l) h zero = ltb-true x 256 (halves (ltb x 256) (all (λ x. ltb x 256) l) h).0
all-bytes (x ∷ l) h (suc k) = all-bytes l (halves (ltb x 256) (all (λ x. ltb x 256) l) h).1 k

bytes : Bytes code
bytes = all-bytes code (unfold cases_compute joined code in refl)

-- ── its four runs, each with all the allowance that there is ──
abbrev pub feeds : List Feed
feeds = feed 65535 ∷ feed 65535 ∷ feed 65535 ∷ feed 65535 ∷ []

fed : Fed feeds
fed =
    let b : Bytes (feed 65535).readings = all-bytes (feed 65535).readings (unfold all in refl) in
    (b, (b, (b, (b, tt))))

abbrev answers_in : List Ran → List Answer
answers_in [] = []
answers_in (r ∷ rs) = r.answer ∷ answers_in rs

-- the answers of runs on lent bytes
abbrev pub answers_on : List RanOn → List Answer
answers_on [] = []
answers_on (r ∷ rs) = r.answer ∷ answers_on rs

answers-on : (rs : List Ran) → answers_on (map on_bytes rs) ≡ answers_in rs
answers-on [] = refl
answers-on (r ∷ rs) = ap (λ x. r.answer ∷ x) (answers-on rs)

abbrev plain_answers : Judged Macro → List Answer
plain_answers (accepted m) = answers_in (runs m feeds (fresh_machine m))
plain_answers (refused r) = []

-- "hold 7, set 3 200, release 7, end 0"
abbrev pub lines : List Answer
lines = happens (hold 7) 1 ∷ happens (set 3 200) 3 ∷ happens (release 7) 1 ∷ finishes 0 2 ∷ []

plain : plain_answers (judge_macro code) ≡ lines
unfolding cases_compute joined code
plain = refl

pub listing : (m : Macro) × (judge_macro code ≡ accepted m) × (sound m (fresh_machine m) ≡ true)
    × ((l : List ℕ) → length l ≡ state_length → Demanded code m l feeds × (answers_on (runs_on code feeds (start_on code l).bytes) ≡ lines))
listing =
    let j = judged (judge_macro code) passes in
    let m = j.0 in
    let h = j.1 in
    let told : answers_in (runs m feeds (fresh_machine m)) ≡ lines = subst (λ x. plain_answers x ≡ lines) h plain in (
      m,
      h,
      fresh-safe m (passed code m bytes h),
      λ l n. let d = third code m bytes h l n feeds fed in (d, ap answers_on d.equals ∙ (answers-on (runs m feeds (fresh_machine m)) ∙ told)),
    )

-- ── the same in one play, with room for four events in bytes that hold something ──
abbrev pub call : Call
call = many (feed 65535) (replicate 32 9)

-- what the first call of a list answered, and the bytes of its events' answers
abbrev told : List Played → Numbers × List ℕ
told [] = (numbers 0 0 0 0, [])
told (p ∷ ps) = (p.answer, p.answers)

abbrev plain_play : Judged Macro → Numbers × List ℕ
plain_play (accepted m) = told (plain_calls m (call ∷ []) (fresh_machine m))
plain_play (refused r) = told []

-- the end by 0 after 7 steps, and three events: "hold 7, set 3 200, release 7", each with the steps of its own run; the bytes behind them stay
abbrev pub sheet : Numbers × List ℕ
sheet = (numbers 3 7 0 3, long (packed (event_numbers (hold 7) 1)) ++ long (packed (event_numbers (set 3 200) 3)) ++ long (packed (event_numbers (release 7) 1)) ++ replicate 8 9)

plain-play : plain_play (judge_macro code) ≡ sheet
unfolding cases_compute joined code play_feeds shown_play plain_calls
plain-play = refl

pub listing-play : (l : List ℕ) → length l ≡ state_length
    → let p = play_on code (start_on code l).bytes (feed 65535).readings 65535 (replicate 32 9) in (p.answer, p.answers) ≡ sheet
unfolding calls_on
listing-play l n =
    let j = judged (judge_macro code) passes in
    ap told (plays code j.0 bytes j.1 l n (call ∷ []) (fed.0, tt)).0 ∙ subst (λ x. plain_play x ≡ sheet) j.1 plain-play

-- ── the second demand ──
-- the listing example is a program
pub listing-program : Program (table_bytes table)
unfolding cases_compute
listing-program = record {
  tree = listing_tree;
  written = refl;
  fields = refl;
  layout = refl;
  entries = omega arith;
  depth = omega arith;
  classes = omega arith;
  procedures = omega arith;
  well-formed = listing-formed;
  keeps-limits = listing-within;
}

abbrev pub listing_items : List Item
listing_items = event (hold 7) ∷ event (set 3 200) ∷ event (release 7) ∷ []

tree-ends : (oracle : ℕ → ℕ → ℕ) → EndsBy oracle listing_tree listing_items 0
unfolding cases_compute
tree-ends oracle = (1, refl)

-- what compiling writes of it, started on any lent bytes: whatever the faders read, every list of enough runs answers exactly its three events and ends by 0
pub listing-second : (oracle : ℕ → ℕ → ℕ) → ByteReadings oracle → (state : List ℕ) → length state ≡ state_length
    → (N : ℕ) × ((fs : List Feed) → Fed fs → SameReadings listing_tree oracle fs → Stepping fs → N ≤ length fs
    → let answers = answered (macro_of listing_tree) state fs in EndsOn 0 answers × (events answers ≡ hold 7 ∷ set 3 200 ∷ release 7 ∷ []))
unfolding listing-program
listing-second oracle low state n = ((second (table_bytes table) listing-program).produces oracle low state n).enough listing_items 0 (tree-ends oracle)
