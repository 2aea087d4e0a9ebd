-- Short forms for tables, macros and what is said of them, for the examples.
use Rattle.std.specs.Prelude.{List, [], ◌∷◌, ◌++◌, ℕ, pos, length, replicate}
use Rattle.language.specs.Program.{table_bytes}
use Rattle.words.specs.Numbers.{half, word}
use Rattle.values.specs.Ends.{Judged, accepted, refused}
use Rattle.language.specs.Tree.{Tree}
use Rattle.language.specs.Table.{Entry, entry}
use Rattle.language.specs.Judge.{judge_table}
use Rattle.language.specs.Execute.{Ran, finished, going, ill_formed, execute}
use Rattle.bytecode.specs.Macro.{Macro}
use Rattle.bytecode.specs.Rules.{judge_macro}
use Rattle.bytecode.specs.Machine.{fresh_machine}
use Rattle.bytecode.specs.Runs.{Feed, runs}
use Rattle.examples.specs.Cases.{item_numbers, answers_of}

-- an entry: kind, a and b as paper 01 writes them
abbrev pub e : ℕ → ℕ → ℕ → Entry
e k a b = entry k a (pos b)

-- the refusal's number and place, or nothing
abbrev pub refusal_of : {A : Type 0} → Judged A → List ℕ
refusal_of (accepted x) = []
refusal_of (refused r) = r.number ∷ r.place ∷ []

abbrev pub verdict : List Entry → List ℕ
verdict es = refusal_of (judge_table (table_bytes es))

-- the trace, three numbers an item (1 set, 2 hold, 3 release, 4 reading), and then the end; 999 where it goes on
abbrev pub lines : Ran → List ℕ
lines (finished is c) = item_numbers is ++ (c ∷ [])
lines (going is) = item_numbers is ++ (999 ∷ [])
lines ill_formed = 888 ∷ []

abbrev pub execute_tree : Judged Tree → ℕ → List ℕ
execute_tree (accepted t) fuel = lines (execute (λ k n. 0) t fuel)
execute_tree (refused r) fuel = 777 ∷ r.number ∷ r.place ∷ []

-- a table executed with all readings 0
abbrev pub executed : List Entry → ℕ → List ℕ
executed es fuel = execute_tree (judge_table (table_bytes es)) fuel

-- the records of a macro
abbrev pub hd : ℕ → ℕ → ℕ → ℕ → List ℕ
hd classes bodies instructions shapes = 72 ∷ 68 ∷ classes ∷ bodies ∷ (half instructions ++ half shapes)

abbrev pub cl : List ℕ → List ℕ
cl types = 67 ∷ 76 ∷ length types ∷ types

abbrev pub bd : ℕ → ℕ → ℕ → List ℕ → List ℕ
bd first parameters result cells = 66 ∷ 68 ∷ (half first ++ (parameters ∷ result ∷ length cells ∷ cells))

abbrev pub op : ℕ → ℕ → ℕ → List ℕ
op k a b = 73 ∷ 78 ∷ k ∷ a ∷ word b

abbrev pub sh : ℕ → ℕ → List ℕ → List ℕ
sh address holds types = 83 ∷ 72 ∷ (half address ++ (holds ∷ length types ∷ types))

abbrev pub zz : List ℕ
zz = 90 ∷ 90 ∷ []

unfoldable pub joined : List (List ℕ) → List ℕ
joined [] = zz
joined (r ∷ rs) = r ++ joined rs

abbrev pub loading : List ℕ → List ℕ
loading l = refusal_of (judge_macro l)

-- a bank of 64 zeros, with an allowance
abbrev pub feed : ℕ → Feed
feed n = record { readings = replicate 64 0; allowance = n }

-- the answers to a list of runs from the fresh state, five numbers each: tag, steps, first, second, readings
abbrev pub run_macro : Judged Macro → List Feed → List ℕ
run_macro (accepted m) fs = answers_of (runs m fs (fresh_machine m))
run_macro (refused r) fs = 777 ∷ r.number ∷ r.place ∷ []

abbrev pub answers : List ℕ → List Feed → List ℕ
answers l fs = run_macro (judge_macro l) fs
