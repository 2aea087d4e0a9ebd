-- What a random program of the second evaluator claims of the compiler: compiled by macro_of it passes judge_macro, and the plain machine, with the readings
-- that the tree was given, gives the tree's items and its end. `tests/definitions` makes lists of such cases from a seed.
use Rattle.std.specs.Prelude.{Bool, false, ◌&&◌, ◌||◌, List, [], ◌∷◌, ◌++◌, reverse, ℕ, zero, suc, eqb}
use Rattle.logic.specs.Choice.{If◌then◌else◌}
use Rattle.values.specs.Ends.{Judged, accepted, refused}
use Rattle.values.specs.Trace.{Item, event, reading}
use Rattle.language.specs.Tree.{Tree}
use Rattle.language.specs.Judge.{judge_table}
use Rattle.bytecode.specs.Macro.{Macro}
use Rattle.bytecode.specs.Rules.{judge_macro}
use Rattle.bytecode.specs.Machine.{Machine, running, unwinding, ended, Stepped, moved, stuck, fresh_machine, step}
use Rattle.compile_code.specs.Encode.{macro_of}
use Rattle.compile_code.specs.Computes.{compiling_computes}
use Rattle.examples.specs.Cases.{cases_compute, ExecutionCase, executed, oracle, equal_lists, prefix_of, item_numbers}

-- the items of a walk, the latest first, and its end: 999 where it goes on, as in a case; 555, which is no end, where it is stuck
pub record Walked : Type 0 where
  pub items : List Item
  pub end : ℕ

abbrev pub walked : List Item → ℕ → Walked
walked is c = record { items = is; end = c }

-- readings taken, after these items of a step
abbrev pub counting : List Item → ℕ → ℕ
counting [] k = k
counting (event e ∷ is) k = k
counting (reading f v ∷ is) k = suc k

abbrev pub unless_ended : Machine → (ℕ → Walked) → (Machine → Walked) → Walked
unless_ended (running rs f fs) k g = g (running rs f fs)
unless_ended (unwinding gs a) k g = g (unwinding gs a)
unless_ended (ended c) k g = k c

abbrev pub on_step : Stepped → (List Item → Machine → Walked) → Walked → Walked
on_step (moved is t) f g = f is t
on_step (stuck why) f g = g

-- so many steps at most, the k-th reading being the oracle's
unfoldable pub walk : ℕ → (ℕ → ℕ → ℕ) → Macro → Machine → List Item → ℕ → Walked
walk zero orc m s tr k = walked tr 999
walk (suc n) orc m s tr k = on_step (step m (orc k) s)
    (λ is t. unless_ended t (λ c. walked (is ++ tr) c) (λ u. walk n orc m u (is ++ tr) (counting is k))) (walked tr 555)

-- where the tree goes on, the machine is not stuck, and of the two traces one is the beginning of the other
abbrev pub same_as : Walked → ℕ → List ℕ → Bool
same_as w e ns =
    let xs = item_numbers (reverse w.items) in
    If eqb w.end 555 then false else If eqb e 999 then prefix_of xs ns || prefix_of ns xs else eqb w.end e && equal_lists xs ns

-- a program of a case ends within some hundred steps
abbrev pub macro_does : Judged Macro → ℕ → ℕ → List ℕ → Bool
macro_does (accepted m) seed e ns = same_as (walk 3000 (oracle seed) m (fresh_machine m) [] 0) e ns
macro_does (refused r) seed e ns = false

abbrev pub tree_does : Judged Tree → ℕ → ℕ → List ℕ → Bool
tree_does (accepted t) seed e ns = macro_does (judge_macro (macro_of t)) seed e ns
tree_does (refused r) seed e ns = false

unfoldable pub compiled_holds : ExecutionCase → Bool
compiled_holds (executed l seed fuel e ns) = tree_does (judge_table l) seed e ns

-- opens all of this, and the definitions
unfoldable pub compiled_computes : Unit {0}
unfolding cases_compute compiling_computes walk compiled_holds
compiled_computes = tt
