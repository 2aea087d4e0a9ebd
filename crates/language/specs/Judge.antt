-- The verdict on a table (refusals 1 to 6), and compiling into lent bytes (7).
use Rattle.std.specs.Prelude.{List, [], ◌∷◌, ◌++◌, ℕ, leb, length}
use Rattle.std.proofs.lemmas.List.Edits.{sets}
use Rattle.logic.specs.Choice.{If◌then◌else◌}
use Rattle.values.specs.Ends.{Refusal, refusal, Judged, accepted, refused}
use Rattle.language.specs.Tree.{Tree}
use Rattle.language.specs.Table.{read_table}
use Rattle.language.specs.Faults.{faults}
use Rattle.language.specs.Limits.{limits}

-- ── the check ──
abbrev pub first_fault : Tree → List Refusal → Judged Tree
first_fault t [] = accepted t
first_fault t (r ∷ rs) = refused r

-- "after 1 and 2; at one entry 3, 4, 5 in that order; then 6"
abbrev pub judge_tree : Judged Tree → Judged Tree
judge_tree (accepted t) = first_fault t (faults t ++ limits t)
judge_tree (refused r) = refused r

unfoldable pub judge_table : List ℕ → Judged Tree
judge_table l = judge_tree (read_table l)

-- ── compiling into lent bytes ──
-- what it answers (the macro's length, or the refusal) and what the output then holds
pub record Compiled : Type 0 where
  pub verdict : Judged ℕ
  pub bytes : List ℕ

abbrev pub compile_refused : Refusal → List ℕ → Compiled
compile_refused r out = record { verdict = refused r; bytes = out }

-- 7: "output shorter than the macro" (L10), after all others; "Output bytes past a compiled macro stay too."
abbrev pub write_macro : List ℕ → List ℕ → Compiled
write_macro code out =
    If leb (length code) (length out)
    then record { verdict = accepted (length code); bytes = sets out 0 code }
    else compile_refused (refusal 7 0) out

abbrev pub compile_tree : (Tree → List ℕ) → Judged Tree → List ℕ → Compiled
compile_tree macro_of (accepted t) out = write_macro (macro_of t) out
compile_tree macro_of (refused r) out = compile_refused r out

-- "Free are the compiled code and SH order" (the order no longer: M24): the code of a tree is whatever a compiler makes of it
unfoldable pub compile_on : (Tree → List ℕ) → List ℕ → List ℕ → Compiled
compile_on macro_of l out = compile_tree macro_of (judge_table l) out
