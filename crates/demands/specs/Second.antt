-- The second demand: "The compiled macro, given the same readings in the same order, produces the same events in the same order as the tree executed by the ALGOL W text, ends as it
-- ends, goes on if it goes on." Each statement is read without its proof; the tree's execution is language/specs/Execute, how it ends language_laws/specs/Endings.
use Rattle.std.specs.Prelude.{◌≡◌, refl, List, [], ◌∷◌, ◌++◌, map, ◌⊎◌, ℕ, ◌+◌, ◌≤◌, ◌<◌, length}
use Rattle.std.proofs.Common.{ap, sym, ◌∙◌, subst, inl, inr, arith, le-leb}
use Rattle.std.proofs.lemmas.List.Edits.{sets}
use Rattle.std.proofs.lemmas.Bool.{lt-leb}
use Rattle.language.specs.Program.{Program}
use Rattle.values.specs.Ends.{refusal, accepted}
use Rattle.values.specs.Trace.{Event, Item}
use Rattle.language.specs.Tree.{Tree}
use Rattle.language.specs.Judge.{compile_on, compile_refused}
use Rattle.language.specs.Execute.{ill_formed, execute}
use Rattle.language_laws.specs.Endings.{ByteReadings, EndsBy, GoesOn, Prefix}
use Rattle.language_laws.proofs.Programs.{program-accepted}
use Rattle.bytecode.specs.Machine.{fresh_machine}
use Rattle.bytecode.specs.Runs.{Feed, finishes}
use Rattle.bytecode.specs.Runs.{Ran as PlainRan}
use Rattle.bytecode.specs.State.{state_length}
use Rattle.bytecode.specs.Lent.{RanOn, start_on}
use Rattle.bytecode_safety.specs.Terms.{event_of, events_in, events_of}
use Rattle.bytecode_safety.specs.Traces.{events-append}
use Rattle.bytecode_safety.specs.Safety.{fresh-safe}
use Rattle.compile_code.specs.Encode.{compiled, macro_of}
use Rattle.compile_macro.specs.Built.{passed-macro}
use Rattle.compile_order.specs.Order.{in_order, passes, fits}
use Rattle.compile_runs.specs.Readings.{Follows, oracle_of, follows, oracle-bytes}
use Rattle.compile_runs.specs.Enough.{Stepping, EndAnswered}
use Rattle.compile_runs.specs.Singles.{singles, singles-length, singles-fed, singles-step, singles-follow}
use Rattle.compile_runs.specs.Second.{items_of, answers, trace, AsTree, as-tree}
use Rattle.bytecode_runs.specs.Terms.{Fed, runs_on, on_bytes}
use Rattle.demands.specs.Third.{third}

-- ── what the statement speaks of ──
-- a list of feeds (readings of any length, allowances of any size), whose runs take the oracle's readings in its order: each from the bytes of the run in which it falls (T13)
abbrev pub SameReadings : Tree → (ℕ → ℕ → ℕ) → List Feed → Type 0
SameReadings t oracle fs = Follows (compiled t) oracle 0 fs (fresh_machine (compiled t))

-- start on lent bytes, and then a run for each feed: what they answer
abbrev pub answered : List ℕ → List ℕ → List Feed → List RanOn
answered code state fs = runs_on code fs (start_on code state).bytes

-- the events among the answers
abbrev pub events : List RanOn → List Event
events [] = []
events (r ∷ rs) = event_of r.answer ++ events rs

-- some run answers the end c
unfoldable pub EndsOn : ℕ → List RanOn → Type 0
EndsOn c [] = ⊥
EndsOn c (r ∷ rs) = ((n : ℕ) × (r.answer ≡ finishes c n)) ⊎ EndsOn c rs

-- the events of the tree's execution, as far as fuel n goes
abbrev pub tree_events : (ℕ → ℕ → ℕ) → Tree → ℕ → List Event
tree_events oracle t n = events_in (items_of (execute oracle t n))

abbrev pub Begins : List Event → List Event → Type 0
Begins es fs = (rest : List Event) × (fs ≡ es ++ rest)

-- ── a macro on lent bytes beside a tree, for an oracle; N is named before the runs ──
pub record Produces (code : List ℕ) (t : Tree) (oracle : ℕ → ℕ → ℕ) (state : List ℕ) : Type 0 where
  -- start is done
  pub starts : (start_on code state).verdict ≡ accepted tt
  -- the events answered are the first of the tree's, in its order
  pub prefix : (fs : List Feed) → Fed fs → SameReadings t oracle fs → (n : ℕ) × Begins (events (answered code state fs)) (tree_events oracle t n)
  -- if the runs end by c, the tree ends by c with these events
  pub ends : (fs : List Feed) → Fed fs → SameReadings t oracle fs → (c : ℕ) → EndsOn c (answered code state fs)
      → (is : List Item) × EndsBy oracle t is c × (events_in is ≡ events (answered code state fs))
  -- if the tree ends by c, every list of N runs or more, none refused and each with an allowance of 1 or more, answers exactly its events and ends by c
  pub enough : (is : List Item) (c : ℕ) → EndsBy oracle t is c
      → (N : ℕ) × ((fs : List Feed) → Fed fs → SameReadings t oracle fs → Stepping fs → N ≤ length fs
      → EndsOn c (answered code state fs) × (events (answered code state fs) ≡ events_in is))
  -- if the tree goes on for ever, no runs end
  pub for-ever : GoesOn oracle t → (fs : List Feed) → Fed fs → SameReadings t oracle fs → (c : ℕ) → EndsOn c (answered code state fs) → ⊥
  -- every event that the tree comes to is answered by every list of enough runs
  pub comes : (n : ℕ)
      → (N : ℕ) × ((fs : List Feed) → Fed fs → SameReadings t oracle fs → Stepping fs → N ≤ length fs → Begins (tree_events oracle t n) (events (answered code state fs)))

-- ── the demand, of a table that is a program ──
pub record Second (l : List ℕ) (t : Tree) (code : List ℕ) : Type 0 where
  -- given room, compiling answers the macro's length and writes the macro at the front of the output; the rest of it stays
  pub compiles : (out : List ℕ) → length code ≤ length out → compile_on macro_of l out ≡ record { verdict = accepted (length code); bytes = sets out 0 code }
  -- without it, compiling refuses by 7 and writes nothing
  pub refuses : (out : List ℕ) → length out < length code → compile_on macro_of l out ≡ compile_refused (refusal 7 0) out
  -- whatever the faders read: the macro does what the tree does, which is never ill-formed
  pub formed : (oracle : ℕ → ℕ → ℕ) → ByteReadings oracle → (n : ℕ) → execute oracle t n ≡ ill_formed → ⊥
  pub produces : (oracle : ℕ → ℕ → ℕ) → ByteReadings oracle → (state : List ℕ) → length state ≡ state_length → Produces code t oracle state
  -- every list of runs follows some oracle of bytes, and every oracle of bytes is followed by lists of runs that each may take a step, as long as one likes
  pub some-oracle : (fs : List Feed) → Fed fs → (oracle : ℕ → ℕ → ℕ) × ByteReadings oracle × SameReadings t oracle fs
  pub some_runs : (oracle : ℕ → ℕ → ℕ) → ByteReadings oracle → (n : ℕ) → (fs : List Feed) × (length fs ≡ n) × Fed fs × SameReadings t oracle fs × Stepping fs

-- ── from the plain machine to the bytes ──
events-same : (rs : List PlainRan) → events (map on_bytes rs) ≡ events_of rs
events-same [] = refl
events-same (r ∷ rs) = ap (λ es. event_of r.answer ++ es) (events-same rs)

ends_same : (c : ℕ) (rs : List PlainRan) → EndAnswered c rs → EndsOn c (map on_bytes rs)
unfolding EndAnswered EndsOn
ends_same c [] h = h
ends_same c (r ∷ rs) (inl h) = inl h
ends_same c (r ∷ rs) (inr h) = inr (ends_same c rs h)

pub same_ends : (c : ℕ) (rs : List PlainRan) → EndsOn c (map on_bytes rs) → EndAnswered c rs
unfolding EndAnswered EndsOn
same_ends c [] h = h
same_ends c (r ∷ rs) (inl h) = inl h
same_ends c (r ∷ rs) (inr h) = inr (same_ends c rs h)

module _ (l : List ℕ) (P : Program l) (oracle : ℕ → ℕ → ℕ) (low : ByteReadings oracle) (state : List ℕ) (n : length state ≡ state_length) where
  abbrev t : Tree
  t = P.tree

  abbrev plain : AsTree t oracle
  plain = as-tree t (in_order l P) oracle low

  on-bytes : (fs : List Feed) → Fed fs → answered (macro_of t) state fs ≡ map on_bytes (answers t fs)
  on-bytes fs fed = (third (macro_of t) (compiled t) (fits l P).1 (passes l P) state n fs fed).equals

  -- the events answered are those of what the runs gave
  pub heard : (fs : List Feed) → Fed fs → events (answered (macro_of t) state fs) ≡ events_in (trace t fs)
  heard fs fed = ap events (on-bytes fs fed) ∙ events-same (answers t fs) ∙ sym (plain.told fs fed)

  begun : (is js : List Item) → Prefix is js → Begins (events_in is) (events_in js)
  begun is js q = (events_in q.0, ap events_in q.1 ∙ events-append is q.0)

  produced : Produces (macro_of t) t oracle state
  produced = record {
    starts = (third (macro_of t) (compiled t) (fits l P).1 (passes l P) state n [] tt).starts.0;
    prefix = λ fs fed same. let q = plain.prefix fs fed same in
        (q.0, subst (λ es. Begins es (tree_events oracle t q.0)) (sym (heard fs fed)) (begun (trace t fs) (items_of (execute oracle t q.0)) q.1));
    ends = λ fs fed same c e. (
      trace t fs,
      plain.ends fs fed same c (same_ends c (answers t fs) (subst (EndsOn c) (on-bytes fs fed) e)),
      sym (heard fs fed),
    );
    enough = λ is c e. let q = plain.enough is c e in (
      q.0,
      λ fs fed same st more. let r = q.1 fs fed same st more in
          (subst (EndsOn c) (sym (on-bytes fs fed)) (ends_same c (answers t fs) r.0), heard fs fed ∙ ap events_in r.1),
    );
    for-ever = λ g fs fed same c e. plain.for-ever g fs fed same c (same_ends c (answers t fs) (subst (EndsOn c) (on-bytes fs fed) e));
    comes = λ k. let q = plain.comes k in (
      q.0,
      λ fs fed same st more. subst (Begins (tree_events oracle t k)) (sym (heard fs fed)) (begun (items_of (execute oracle t k)) (trace t fs) (q.1 fs fed same st more)),
    );
  }

-- Every list of bytes that is a program, and nothing else asked.
pub second : (l : List ℕ) (P : Program l) → Second l P.tree (macro_of P.tree)
unfolding compile_on
second l P =
    let t = P.tree in let m = compiled t in
    record {
      compiles = λ out room. rw (program-accepted l P, le-leb (length (macro_of t)) (length out) room) refl;
      refuses = λ out room. rw (program-accepted l P, lt-leb (length (macro_of t)) (length out) room) refl;
      formed = λ oracle low. (as-tree t (in_order l P) oracle low).formed;
      produces = λ oracle low state n. produced l P oracle low state n;
      some-oracle = λ fs fed. let o = oracle_of m fs (fresh_machine m) in
          (o, oracle-bytes m fs fed (fresh_machine m), follows m o fs (fresh_machine m) 0 (λ j. let z : 0 + j ≡ j = omega arith in ap o z));
      some_runs = λ oracle low k. (
        singles m oracle k 0 (fresh_machine m),
        singles-length m oracle low k 0 (fresh_machine m),
        singles-fed m oracle low k 0 (fresh_machine m),
        singles-follow m oracle low (passed-macro t (in_order l P)) k 0 (fresh_machine m) (fresh-safe m (passed-macro t (in_order l P))),
        singles-step m oracle low k 0 (fresh_machine m),
      );
    }
