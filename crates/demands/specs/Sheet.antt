-- The end sheet (paper 02, ticket 4): "Each total equals the number of such lines printed, or of readings taken in the tree's execution, before `open` as far
-- as the steps taken carry it." The totals of a list of runs of a compiled table are `totals` (listing_text/specs/Sheet), counted from what each run answers
-- and from the number of readings that it hands over; the listing prints those of its runs.
use Rattle.std.specs.Prelude.{◌≡◌, refl, List, [], ◌∷◌, ◌++◌, map, ℕ, zero, suc, ◌+◌, ◌-◌, ◌≤◌, length, get_or, replicate}
use Rattle.std.proofs.Common.{ap, sym, ◌∙◌, subst, arith}
use Rattle.values.specs.Trace.{Event, set, hold, release, Item, event, reading, readings_in}
use Rattle.language.specs.Program.{Program}
use Rattle.language.specs.Tree.{Tree}
use Rattle.language.specs.Execute.{execute}
use Rattle.language_laws.specs.Endings.{ByteReadings, EndsBy, Prefix}
use Rattle.bytecode.specs.Macro.{Macro}
use Rattle.bytecode.specs.Machine.{Machine, fresh_machine}
use Rattle.bytecode.specs.Runs.{Answer, happens, spends, finishes, refuses, halts, Feed, Ran, run}
use Rattle.bytecode.specs.State.{state_length}
use Rattle.bytecode.specs.Lent.{start_on, run_on}
use Rattle.bytecode_safety.specs.Terms.{events_in, event_of, EachSafe}
use Rattle.bytecode_runs.specs.Terms.{Fed, runs_on, on_bytes}
use Rattle.compile_code.specs.Encode.{compiled, macro_of}
use Rattle.compile_order.specs.Order.{in_order, passes, fits}
use Rattle.compile_runs.specs.Readings.{takes_in, Follows}
use Rattle.compile_runs.specs.Traces.{trace_of}
use Rattle.compile_runs.specs.Second.{items_of, answers, trace, as-tree}
use Rattle.listing_text.specs.Sheet.{Totals, sheet, none, count, read, count_answer, count_run, totals, count_item, traced}
use Rattle.listing_text.specs.Text.{after_event, zeros, runs_from, text_of, lines_of, started_text, macro_text, compiled_text, listing_on, listing_of}
use Rattle.listing_text.specs.Steps.{zeros-bytes}
use Rattle.demands.specs.Third.{third, front_of}
use Rattle.demands.specs.Second.{SameReadings, answered, events, EndsOn, same_ends, heard, second}

-- ── what the statement speaks of ──
abbrev pub sets_in : List Event → ℕ
sets_in [] = 0
sets_in (set c l ∷ es) = suc (sets_in es)
sets_in (hold g ∷ es) = sets_in es
sets_in (release g ∷ es) = sets_in es

abbrev pub holds_in : List Event → ℕ
holds_in [] = 0
holds_in (set c l ∷ es) = holds_in es
holds_in (hold g ∷ es) = suc (holds_in es)
holds_in (release g ∷ es) = holds_in es

abbrev pub releases_in : List Event → ℕ
releases_in [] = 0
releases_in (set c l ∷ es) = releases_in es
releases_in (hold g ∷ es) = releases_in es
releases_in (release g ∷ es) = suc (releases_in es)

-- the totals of the runs of fs, begun on lent bytes, beside the tree's execution with the same readings
pub record Filed (t : Tree) (oracle : ℕ → ℕ → ℕ) (state : List ℕ) (fs : List Feed) : Type 0 where
  -- sets, holds and releases are the numbers of such events answered
  pub told : let rs = answered (macro_of t) state fs in let all = totals none rs in
      (all.sets ≡ sets_in (events rs)) × (all.holds ≡ holds_in (events rs)) × (all.releases ≡ releases_in (events rs))
  -- readings and all are those of the part of the tree's execution that the steps reach: what the plain machine gives in these runs,
  pub reached : totals none (answered (macro_of t) state fs) ≡ traced none (trace t fs)
  -- which is the first of what the tree gives,
  pub first : (n : ℕ) × Prefix (trace t fs) (items_of (execute oracle t n))
  -- and all of it where the runs end
  pub ended : (c : ℕ) → EndsOn c (answered (macro_of t) state fs) → EndsBy oracle t (trace t fs) c

-- ── totals of traces ──
unfoldable count_events : Totals → List Event → Totals
count_events t [] = t
count_events t (e ∷ es) = count_events (count e t) es

events-read : (n : ℕ) (es : List Event) (t : Totals) → count_events (read n t) es ≡ read n (count_events t es)
unfolding count_events
events-read n [] t = refl
events-read n (set c l ∷ es) t = events-read n es (count (set c l) t)
events-read n (hold g ∷ es) t = events-read n es (count (hold g) t)
events-read n (release g ∷ es) t = events-read n es (count (release g) t)

-- events and readings apart
trace-counts : (is : List Item) (t : Totals) → traced t is ≡ read (readings_in is) (count_events t (events_in is))
unfolding traced count_events
trace-counts [] t = let z : t.readings ≡ t.readings + 0 = omega arith in ap (sheet t.sets t.holds t.releases) z
trace-counts (event e ∷ is) t = trace-counts is (count e t)
trace-counts (reading f v ∷ is) t =
    let u = count_events t (events_in is) in
    let z : u.readings + 1 + readings_in is ≡ u.readings + suc (readings_in is) = omega arith in
    trace-counts is (read 1 t) ∙ ap (read (readings_in is)) (events-read 1 (events_in is) t) ∙ ap (sheet u.sets u.holds u.releases) z

traced-append : (xs ys : List Item) (t : Totals) → traced t (xs ++ ys) ≡ traced (traced t xs) ys
unfolding traced
traced-append [] ys t = refl
traced-append (x ∷ xs) ys t = traced-append xs ys (count_item x t)

answer-counts : (a : Answer) (t : Totals) → count_events t (event_of a) ≡ count_answer a t
unfolding count_events
answer-counts (happens e n) t = refl
answer-counts (spends n) t = refl
answer-counts (finishes c n) t = refl
answer-counts (refuses r) t = refl
answer-counts (halts why) t = refl

-- what the runs count is in their traces
runs-count : (m : Macro) (fs : List Feed) (s : Machine) (rs : List Ran) → EachSafe m fs s rs → (t : Totals) → totals t (map on_bytes rs) ≡ traced t (trace_of rs)
unfolding totals traced
runs-count m [] s [] h t = refl
runs-count m [] s (r ∷ rs) h t = absurd h
runs-count m (f ∷ fs) s [] h t = absurd h
runs-count m (f ∷ fs) s (r ∷ rs) h t =
    let one : count_run (on_bytes r) t ≡ traced t r.trace =
    ap (read (readings_in r.trace)) (sym (answer-counts r.answer t))
    ∙ ap (λ es. read (readings_in r.trace) (count_events t es)) (sym h.0.traced.0)
    ∙ sym (trace-counts r.trace t) in
    runs-count m fs r.state rs h.1 (count_run (on_bytes r) t) ∙ ap (λ u. traced u (trace_of rs)) one ∙ sym (traced-append r.trace (trace_of rs) t)

record Counts (t : Totals) (es : List Event) (u : Totals) : Type 0 where
  sets : u.sets ≡ t.sets + sets_in es
  holds : u.holds ≡ t.holds + holds_in es
  releases : u.releases ≡ t.releases + releases_in es

counts : (es : List Event) (t : Totals) → Counts t es (count_events t es)
unfolding count_events
counts [] t = record { sets = omega arith; holds = omega arith; releases = omega arith }
counts (set c l ∷ es) t =
    let k = counts es (count (set c l) t) in record { sets = omega (arith, k.sets); holds = k.holds; releases = k.releases }
counts (hold g ∷ es) t =
    let k = counts es (count (hold g) t) in record { sets = k.sets; holds = omega (arith, k.holds); releases = k.releases }
counts (release g ∷ es) t =
    let k = counts es (count (release g) t) in record { sets = k.sets; holds = k.holds; releases = omega (arith, k.releases) }

-- ── the theorem: every program, whatever the faders read, on any lent bytes, every list of runs ──
module _ (l : List ℕ) (P : Program l) (oracle : ℕ → ℕ → ℕ) (low : ByteReadings oracle) (state : List ℕ) (n : length state ≡ state_length) where
  abbrev t : Tree
  t = P.tree

  abbrev code : List ℕ
  code = macro_of t

  pub filed : (fs : List Feed) → Fed fs → SameReadings t oracle fs → Filed t oracle state fs
  filed fs fed same =
      let m = compiled t in
      let d = third code m (fits l P).1 (passes l P) state n fs fed in
      let plain = as-tree t (in_order l P) oracle low in
      let is = trace t fs in
      let all : totals none (answered code state fs) ≡ traced none is =
      ap (totals none) d.equals ∙ runs-count m fs (fresh_machine m) (answers t fs) d.each-run none in
      let hear = heard l P oracle low state n fs fed in
      let k = counts (events_in is) none in
      let u = count_events none (events_in is) in
      let split : totals none (answered code state fs) ≡ read (readings_in is) u = all ∙ trace-counts is none in
      record {
        told = (
          omega (arith, ap (λ t. t.sets) split, k.sets, ap sets_in hear),
          omega (arith, ap (λ t. t.holds) split, k.holds, ap holds_in hear),
          omega (arith, ap (λ t. t.releases) split, k.releases, ap releases_in hear),
        );
        reached = all;
        first = plain.prefix fs fed same;
        ended = λ c e. plain.ends fs fed same c (same_ends c (answers t fs) (subst (EndsOn c) d.equals e));
      }

-- ── the listing ──
-- the feeds of its runs: all readings 0, and so many steps left
unfoldable feeds_from : ℕ → List ℕ → List ℕ → ℕ → List Feed
feeds_from zero code state left = []
feeds_from (suc k) code state left =
    let r = run_on code state zeros left in
    record { readings = zeros; allowance = left } ∷ after_event r.answer (λ n. feeds_from k code r.bytes (left - n))

-- a claim of a run's further feeds, by whether there are any
further : (P : List Feed → Type 0) (a : Answer) (f : ℕ → List Feed) → P [] → ((n : ℕ) → P (f n)) → P (after_event a f)
further P (happens e n) f none some = some n
further P (spends n) f none some = none
further P (finishes c n) f none some = none
further P (refuses r) f none some = none
further P (halts why) f none some = none

runs-fed : (k : ℕ) (code state : List ℕ) (left : ℕ) → runs_from k code state left ≡ runs_on code (feeds_from k code state left) state
unfolding runs_from feeds_from runs_on
runs-fed zero code state left = refl
runs-fed (suc k) code state left = let r = run_on code state zeros left in ap (λ rs. r ∷ rs) (by r.answer r.bytes (λ n. runs-fed k code r.bytes (left - n)))
  where
    by : (a : Answer) (b : List ℕ) → ((n : ℕ) → runs_from k code b (left - n) ≡ runs_on code (feeds_from k code b (left - n)) b)
        → after_event a (λ n. runs_from k code b (left - n)) ≡ runs_on code (after_event a (λ n. feeds_from k code b (left - n))) b
    by (happens e n) b h = h n
    by (spends n) b h = refl
    by (finishes c n) b h = refl
    by (refuses r) b h = refl
    by (halts why) b h = refl

feeds-fed : (k : ℕ) (code state : List ℕ) (left : ℕ) → Fed (feeds_from k code state left)
unfolding feeds_from
feeds-fed zero code state left = tt
feeds-fed (suc k) code state left =
    let r = run_on code state zeros left in
    (zeros-bytes, further Fed r.answer (λ n. feeds_from k code r.bytes (left - n)) tt (λ n. feeds-fed k code r.bytes (left - n)))

-- the oracle that they follow: every reading is 0
abbrev pub all_zero : ℕ → ℕ → ℕ
all_zero k n = 0

zero-at : (n k : ℕ) → get_or {A = ℕ} (replicate n 0) k 0 ≡ 0
zero-at zero k = refl
zero-at (suc n) zero = refl
zero-at (suc n) (suc k) = zero-at n k

feeds-follow : (m : Macro) (i k : ℕ) (code state : List ℕ) (left : ℕ) (s : Machine) → Follows m all_zero i (feeds_from k code state left) s
unfolding feeds_from
feeds-follow m i zero code state left s = tt
feeds-follow m i (suc k) code state left s =
    let r = run_on code state zeros left in
    let f : Feed = record { readings = zeros; allowance = left } in
    let u = (run m zeros left s).state in (
      λ j h n lo hi. sym (zero-at 64 (n - 1)),
      further (λ fs. Follows m all_zero (i + takes_in m f s) fs u) r.answer (λ n. feeds_from k code r.bytes (left - n)) tt
          (λ n. feeds-follow m (i + takes_in m f s) k code r.bytes (left - n) u),
    )

-- the bytes lent for the state
abbrev pub blank : List ℕ
blank = replicate state_length 0

-- a program's listing, where its macro has room: the text of a list of runs, whose totals it prints; they are those of the execution with all readings 0
pub listed : (l : List ℕ) (P : Program l) → length (macro_of P.tree) ≤ 65536
    → (fs : List Feed) × (listing_of l ≡ text_of none (answered (macro_of P.tree) blank fs)) × Filed P.tree all_zero blank fs
unfolding listing_of listing_on macro_text lines_of
listed l P room =
    let t = P.tree in
    let code = macro_of t in
    let out : List ℕ = replicate 65536 0 in
    let started = (start_on code blank).bytes in
    let fs = feeds_from 65536 code started 65535 in
    let fed = feeds-fed 65536 code started 65535 in
    let long : length blank ≡ state_length = refl in
    let out-long : length out ≡ 65536 = refl in
    let c = (second l P).compiles out (omega arith) in
    let d = third code (compiled t) (fits l P).1 (passes l P) blank long fs fed in (
      fs,
      ap (λ x. compiled_text x.verdict x.bytes blank) c
          ∙ ap (λ x. macro_text x blank) (front_of code out (omega arith))
          ∙ ap (λ v. started_text code v started) d.starts.0
          ∙ ap (text_of none) (runs-fed 65536 code started 65535),
      filed l P all_zero (λ k n. omega arith) blank long fs fed (feeds-follow (compiled t) 0 65536 code started 65535 (fresh_machine (compiled t))),
    )
