-- The third demand, whole in `Third` at the end: what the loading check gives for every macro that passes it, and that every compiled macro does. Each
-- statement is read without its proof; the terms are in Terms.antt, in bytecode_safety/specs/Terms.antt (SafeRun, Reaches) and in bytecode_runs/specs/Terms.antt (runs_on).
use Rattle.std.specs.Prelude.{◌≡◌, refl, Bool, true, false, List, ◌↔◌, ℕ, ◌+◌, ◌≤◌, ◌<◌, leb, length, take, drop}
use Rattle.std.proofs.Common.{ap, sym, ◌∙◌, arith, leb-true}
use Rattle.std.proofs.Math.Option.{some}
use Rattle.std.proofs.lemmas.List.Edits.{sets, sets-eq}
use Rattle.std.proofs.Math.Seq.{take-append_seam}
use Rattle.words.specs.Laws.{Bytes}
use Rattle.values.specs.Ends.{Refusal, refusal, Judged, accepted, refused}
use Rattle.bytecode.specs.Macro.{Macro, read_macro}
use Rattle.bytecode.specs.Rules.{fault_at, judge_macro}
use Rattle.bytecode.specs.Machine.{Machine, fresh_machine}
use Rattle.bytecode.specs.Runs.{Feed, refuses, runs}
use Rattle.bytecode.specs.Sound.{sound}
use Rattle.bytecode.specs.State.{state_length, encode, decode}
use Rattle.bytecode.specs.Lent.{run_refused, start_on, run_on}
use Rattle.bytecode_laws.specs.Promises.{passed}
use Rattle.bytecode_layout.specs.Layout
use Rattle.bytecode_layout.specs.Passing.{sized}
use Rattle.bytecode_safety.specs.Safety.{step-safe, fresh-safe, reached-safe, runs-safe}
use Rattle.logic.specs.Choice.{If◌then◌else◌}
use Rattle.logic.specs.Lists.{Each}
use Rattle.language.specs.Tree.{Tree}
use Rattle.language.specs.Judge.{Compiled, judge_table, compile_tree, compile_refused, write_macro, compile_on}
use Rattle.bytecode_laws.specs.Promises.{passes-exactly}
use Rattle.compile_code.specs.Encode.{macro_of, compiled}
use Rattle.compile_order.specs.Order.{accepted-passes}
use Rattle.bytecode_runs.specs.Terms.{Fed, NoneSound}
use Rattle.bytecode_runs.specs.Bytes.{runs-are, started, not_stuck, ten-if, ten-only}
use Rattle.bytecode_runs.specs.Plays.{Call, feed_of, calls_on, plain_calls, calls_runs, calls_feeds, calls_are, one_list}
use Rattle.demands.specs.Terms.{Demanded}

-- A macro that passes, any lent bytes of the right length, and any list of runs.
pub third : (code : List ℕ) (m : Macro) → Bytes code → judge_macro code ≡ accepted m
    → (l : List ℕ) → length l ≡ state_length → (fs : List Feed) → Fed fs → Demanded code m l fs
third code m b h l n fs fed =
    let w = passed code m b h in
    let safe = runs-safe m w fs fed in
    record {
      starts = started code m h l n;
      equals = rw (started code m h l n).1 (runs-are code m h w fs fed (fresh_machine m) (fresh-safe m w));
      each-run = safe.each-run;
      each_step = λ p. (reached-safe m w p, λ bank low why e. not_stuck m bank _ (step-safe m w bank low _ (reached-safe m w p)) why e);
      released = safe.released;
    }

-- The same macro, and any list of runs and plays (bytecode_runs/specs/Plays): each call answers and writes what the plain machine shows of the runs
-- that it comes to, and these are one list of runs of the plain machine, so that its events are theirs.
pub plays : (code : List ℕ) (m : Macro) → Bytes code → judge_macro code ≡ accepted m
    → (l : List ℕ) → length l ≡ state_length → (cs : List Call) → Each (λ c. Bytes (feed_of c).readings) cs
    → (calls_on code cs (start_on code l).bytes ≡ plain_calls m cs (fresh_machine m))
    × (calls_runs m cs (fresh_machine m) ≡ runs m (calls_feeds m cs (fresh_machine m)) (fresh_machine m))
plays code m b h l n cs fed =
    let w = passed code m b h in
    (rw (started code m h l n).1 (calls_are code m h w cs fed (fresh_machine m) (fresh-safe m w)), one_list m cs (fresh_machine m))

module _ (code : List ℕ) (m : Macro) (b : Bytes code) (h : judge_macro code ≡ accepted m) where
  -- A state of right length gets 10 exactly if no sound state decodes from it.
  pub ten : (l : List ℕ) → length l ≡ state_length → (f : Feed) → Bytes f.readings
      → (NoneSound m l → run_on code l f.readings f.allowance ≡ run_refused (refusal 10 0) l)
      × ((run_on code l f.readings f.allowance).answer ≡ refuses (refusal 10 0) → NoneSound m l)
  ten l n f c = let w = passed code m b h in (ten-if code m h w l n f, ten-only code m h w l n f c)

  -- A sound state is read back from its bytes.
  pub read_back : (s : Machine) → sound m s ≡ true → decode m (encode s) ≡ some s
  read_back = Layout.decode-encode m (sized m (passed code m b h))

-- ── the compiler ──
same_number : {m n : ℕ} → ◌≡◌ {A = Judged ℕ} (accepted m) (accepted n) → m ≡ n
same_number h = cc h

never-accepted : {r : Refusal} {n : ℕ} → ◌≡◌ {A = Judged ℕ} (refused r) (accepted n) → ⊥
never-accepted h = let z : ◌≡◌ {A = ℕ} 0 1 = cc h in omega arith

-- what stands at the front of an output is what was written there
pub front_of : (code out : List ℕ) → length code ≤ length out → take (length code) (sets out 0 code) ≡ code
front_of code out h = ap (take (length code)) (sets-eq code out 0 (omega arith)) ∙ take-append_seam code (drop (0 + length code) out)

abbrev Written : Compiled → List ℕ → Type 0
Written r code = (n : ℕ) (b : List ℕ) → r ≡ record { verdict = accepted n; bytes = b } → (length code ≡ n) × (take n b ≡ code)

written : (code out : List ℕ) → Written (write_macro code out) code
written code out = by (leb (length code) (length out)) refl
  where
    by : (t : Bool) → leb (length code) (length out) ≡ t → Written (If t then record { verdict = accepted (length code); bytes = sets out 0 code } else compile_refused (refusal 7 0) out) code
    by true h n b e =
        let k : length code ≡ n = same_number (ap (λ (r : Compiled). r.verdict) e) in
        let l : sets out 0 code ≡ b = ap (λ (r : Compiled). r.bytes) e in
        (k, ap (λ (i : ℕ). take i b) (sym k) ∙ ap (take (length code)) (sym l) ∙ front_of code out (leb-true (length code) (length out) h))
    by false h n b e = absurd (never-accepted (ap (λ (r : Compiled). r.verdict) e))

judged-so : (l out : List ℕ) → Bytes l → (j : Judged Tree) → judge_table l ≡ j → (n : ℕ) (b : List ℕ)
    → compile_tree macro_of j out ≡ record { verdict = accepted n; bytes = b } → (m : Macro) × (judge_macro (take n b) ≡ accepted m)
judged-so l out bytes (accepted t) h n b e = (compiled t, ap judge_macro (written (macro_of t) out n b e).1 ∙ accepted-passes l bytes t h)
judged-so l out bytes (refused r) h n b e = absurd (never-accepted (ap (λ (x : Compiled). x.verdict) e))

-- "Equal tables then compile to equal bytes." (M25): whatever room is lent, and whatever stands in it
same-front : (j : Judged Tree) (out out' : List ℕ) (n n' : ℕ) (b b' : List ℕ) → compile_tree macro_of j out ≡ record { verdict = accepted n; bytes = b }
    → compile_tree macro_of j out' ≡ record { verdict = accepted n'; bytes = b' } → (n ≡ n') × (take n b ≡ take n' b')
same-front (accepted t) out out' n n' b b' e e' =
    let w = written (macro_of t) out n b e in
    let w' = written (macro_of t) out' n' b' e' in
    (sym w.0 ∙ w'.0, w.1 ∙ sym w'.1)
same-front (refused r) out out' n n' b b' e e' = absurd (never-accepted (ap (λ (x : Compiled). x.verdict) e))

pub equal-bytes : (table out out' : List ℕ) (n n' : ℕ) (b b' : List ℕ) → compile_on macro_of table out ≡ record { verdict = accepted n; bytes = b }
    → compile_on macro_of table out' ≡ record { verdict = accepted n'; bytes = b' } → (n ≡ n') × (take n b ≡ take n' b')
unfolding compile_on
equal-bytes table out out' n n' b b' e e' = same-front (judge_table table) out out' n n' b b' e e'

-- ── the whole ──
pub record Third : Type 0 where
  -- "The loading check passes exactly the macros to which paper 01 gives neither 8 nor 9": those that read, and have a fault at no address
  pub exactly : (code : List ℕ) (m : Macro) → judge_macro code ≡ accepted m ↔ ((read_macro code ≡ accepted m) × ((i : ℕ) → i < length m.code → fault_at m i ≡ false))
  -- each that passes, over every list of runs from its fresh state
  pub each-passed : (code : List ℕ) (m : Macro) → Bytes code → judge_macro code ≡ accepted m
      → (l : List ℕ) → length l ≡ state_length → (fs : List Feed) → Fed fs → Demanded code m l fs
  -- "No accepted table compiles to a macro that the check turns down."
  pub each-compiled : (table out : List ℕ) → Bytes table → (n : ℕ) (b : List ℕ) → compile_on macro_of table out ≡ record { verdict = accepted n; bytes = b }
      → (m : Macro) × (judge_macro (take n b) ≡ accepted m)

pub third-demand : Third
unfolding compile_on
third-demand = record { exactly = passes-exactly; each-passed = third; each-compiled = λ table out bytes n b e. judged-so table out bytes (judge_table table) refl n b e }
