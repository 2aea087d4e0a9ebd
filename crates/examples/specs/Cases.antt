-- Cases for the definitions, with the answers that a second evaluator expects, and what each claims. `tests/cases` makes lists of them from
-- a seed and has the prover compute that none fails.
use Rattle.std.specs.Prelude.{Bool, true, false, ◌&&◌, List, [], ◌∷◌, ◌++◌, ℕ, zero, suc, ◌+◌, ◌*◌, ◌-◌, ◌/◌, ◌%◌, eqb, replicate}
use Rattle.std.proofs.Math.Option.{Option, none, some}
use Rattle.logic.specs.Options.{is_some}
use Rattle.logic.specs.Choice.{If◌then◌else◌}
use Rattle.values.specs.Ends.{Judged, accepted, refused}
use Rattle.values.specs.Trace.{set, hold, release, Item, event, reading, readings_in}
use Rattle.values.specs.Computes.{values_compute}
use Rattle.language.specs.Tree.{Tree}
use Rattle.language.specs.Judge.{judge_table}
use Rattle.language.specs.Execute.{Ran, finished, going, ill_formed, execute}
use Rattle.language.specs.Computes.{language_computes}
use Rattle.bytecode.specs.Macro.{Macro}
use Rattle.bytecode.specs.Rules.{judge_macro}
use Rattle.bytecode.specs.Machine.{Machine, fresh_machine}
use Rattle.bytecode.specs.Runs.{Feed, runs}
use Rattle.bytecode.specs.Runs as Runs
use Rattle.bytecode.specs.State.{encode}
use Rattle.bytecode.specs.Lent.{sound_state}
use Rattle.bytecode.specs.Answers.{answer_numbers}
use Rattle.bytecode.specs.Computes.{bytecode_computes}

-- n bytes as one number, the first byte lowest
unfoldable pub bytes : ℕ → ℕ → List ℕ
bytes zero x = []
bytes (suc n) x = x % 256 ∷ bytes n (x / 256)

unfoldable pub equal_lists : List ℕ → List ℕ → Bool
equal_lists [] [] = true
equal_lists [] (y ∷ ys) = false
equal_lists (x ∷ xs) [] = false
equal_lists (x ∷ xs) (y ∷ ys) = eqb x y && equal_lists xs ys

unfoldable pub prefix_of : List ℕ → List ℕ → Bool
prefix_of [] ys = true
prefix_of (x ∷ xs) [] = false
prefix_of (x ∷ xs) (y ∷ ys) = eqb x y && prefix_of xs ys

-- the places of the cases that fail
unfoldable pub failing : {A : Type 0} → (A → Bool) → ℕ → List A → List ℕ
failing f i [] = []
failing f i (x ∷ xs) = let r = failing f (suc i) xs in If f x then r else i ∷ r

-- ── verdicts: a number and a place, 0 and 0 where it is accepted ──
abbrev pub verdict_is : {A : Type 0} → ℕ → ℕ → Judged A → Bool
verdict_is n p (accepted x) = eqb n 0 && eqb p 0
verdict_is n p (refused r) = eqb r.number n && eqb r.place p

pub data TableCase : Type 0 where
  judged : List ℕ → ℕ → ℕ → TableCase

unfoldable pub table_holds : TableCase → Bool
table_holds (judged l n p) = verdict_is n p (judge_table l)

pub data MacroCase : Type 0 where
  loaded : List ℕ → ℕ → ℕ → MacroCase

unfoldable pub macro_holds : MacroCase → Bool
macro_holds (loaded l n p) = verdict_is n p (judge_macro l)

-- ── executions of a tree: three numbers an item; end 999 where it goes on ──
unfoldable pub item_numbers : List Item → List ℕ
item_numbers [] = []
item_numbers (event (set c l) ∷ is) = 1 ∷ c ∷ l ∷ item_numbers is
item_numbers (event (hold g) ∷ is) = 2 ∷ g ∷ 0 ∷ item_numbers is
item_numbers (event (release g) ∷ is) = 3 ∷ g ∷ 0 ∷ item_numbers is
item_numbers (reading f v ∷ is) = 4 ∷ f ∷ v ∷ item_numbers is

pub data ExecutionCase : Type 0 where
  executed : List ℕ → ℕ → ℕ → ℕ → List ℕ → ExecutionCase  -- table, seed of the readings, fuel, end, items

-- the k-th reading, of fader n
abbrev pub oracle : ℕ → ℕ → ℕ → ℕ
oracle seed k n = (seed + 31 * k + 7 * n) % 256

unfoldable pub ran_as : Ran → ℕ → List ℕ → Bool
ran_as (finished is c) e ns = eqb c e && equal_lists (item_numbers is) ns
ran_as (going is) e ns = eqb e 999 && prefix_of (item_numbers is) ns
ran_as ill_formed e ns = false

abbrev pub executed_as : Judged Tree → ℕ → ℕ → ℕ → List ℕ → Bool
executed_as (accepted t) seed fuel e ns = ran_as (execute (oracle seed) t fuel) e ns
executed_as (refused r) seed fuel e ns = false

unfoldable pub execution_holds : ExecutionCase → Bool
execution_holds (executed l seed fuel e ns) = executed_as (judge_table l) seed fuel e ns

-- ── lists of runs: three numbers a run; of its answer four, and how many readings it took ──
pub data RunsCase : Type 0 where
  ran : List ℕ → List ℕ → List ℕ → RunsCase  -- macro, runs, answers

-- a bank of n bytes, the i-th of which is seed + 11 × i
unfoldable pub bank : ℕ → ℕ → List ℕ
bank zero seed = []
bank (suc n) seed = seed % 256 ∷ bank n (seed + 11)

unfoldable pub feeds : List ℕ → List Feed
feeds [] = []
feeds (n ∷ []) = []
feeds (n ∷ (s ∷ [])) = []
feeds (n ∷ (s ∷ (a ∷ ns))) = record { readings = bank n s; allowance = a } ∷ feeds ns

unfoldable pub answers_of : List Runs.Ran → List ℕ
answers_of [] = []
answers_of (r ∷ rs) = let x = answer_numbers r.answer in x.tag ∷ x.steps ∷ x.first ∷ x.second ∷ readings_in r.trace ∷ answers_of rs

-- the last state is sound as its bytes are, and these read back to bytes that are the same
abbrev pub reads_back : Macro → Option Machine → List ℕ → Bool
reads_back m none l = false
reads_back m (some s) l = equal_lists (encode s) l

unfoldable pub last_sound : Macro → List Runs.Ran → Bool
last_sound m [] = true
last_sound m (r ∷ []) = let l = encode r.state in reads_back m (sound_state m l) l
last_sound m (r ∷ (q ∷ rs)) = last_sound m (q ∷ rs)

abbrev pub ran_like : Judged Macro → List ℕ → List ℕ → Bool
ran_like (accepted m) ns xs = let rs = runs m (feeds ns) (fresh_machine m) in equal_lists (answers_of rs) xs && last_sound m rs
ran_like (refused r) ns xs = false

unfoldable pub runs_hold : RunsCase → Bool
runs_hold (ran l ns xs) = ran_like (judge_macro l) ns xs

-- ── states: bytes with zeros between them; whether a sound state decodes from them ──
pub data Segment : Type 0 where
  segment : ℕ → ℕ → ℕ → Segment  -- zeros, and then so many bytes

pub data StateCase : Type 0 where
  held : List ℕ → List Segment → ℕ → StateCase

unfoldable pub spread : ℕ → List Segment → List ℕ
spread room [] = replicate room 0
spread room (segment gap n x ∷ ss) = replicate gap 0 ++ (bytes n x ++ spread (room - gap - n) ss)

abbrev pub flag_of : Bool → ℕ
flag_of true = 1
flag_of false = 0

abbrev pub held_as : Judged Macro → List Segment → ℕ → Bool
held_as (accepted m) ss flag = eqb (flag_of (is_some (sound_state m (spread 24576 ss)))) flag
held_as (refused r) ss flag = false

unfoldable pub state_holds : StateCase → Bool
state_holds (held l ss flag) = held_as (judge_macro l) ss flag

-- opens all of this, and the definitions
unfoldable pub cases_compute : Unit {0}
unfolding values_compute language_computes bytecode_computes bytes equal_lists prefix_of failing table_holds macro_holds item_numbers ran_as execution_holds
    bank feeds answers_of last_sound runs_hold spread state_holds
cases_compute = tt
