-- What the code answers, in the terms of the definition.
use Rattle.std.specs.Prelude.{◌≡◌, refl, List, ℕ, ◌/◌, ◌≤◌, length, Result, Ok, Err}
use Rattle.values.specs.Ends.{Judged, accepted, refused}
use Rattle.values.specs.Refusals.{in_code, refusal_of}
use Rattle.values.specs.declared.Refusal.{Refusal}
use Rattle.language.specs.Tree.{Tree}
use Rattle.language.specs.Judge.{judge_table, compile_on}
use Rattle.logic.specs.Tests.{clash}
use Rattle.table_check.specs.Checked.{checked_of}
use Rattle.compile_code.specs.Encode.{macro_of}

-- the macro's length, or the refusal
abbrev pub verdict_of : Result ℕ Refusal → Judged ℕ
verdict_of (Ok n) = accepted n
verdict_of (Err r) = refused (refusal_of r)

-- room for a number for each entry that a table can have
abbrev pub Room : List ℕ → List ℕ → Type 0
Room l xs = length l ≤ 16384 → length l / 8 ≤ length xs

-- a table that the check accepts
abbrev pub Accepts : List ℕ → Type 0
Accepts l = (t : Tree) × (judge_table l ≡ accepted t)

-- ── by the check's answer ──
pub compile-accepted : (l : List ℕ) → Ok tt ≡ checked_of (judge_table l) → Accepts l
compile-accepted l e = go (judge_table l) refl e
  where
    go : (j : Judged Tree) → judge_table l ≡ j → Ok tt ≡ checked_of j → Accepts l
    go (accepted t) h k = (t, h)
    go (refused r) h k = clash (cc)

pub compile-refused : (l out : List ℕ) (r : Refusal) → Err r ≡ checked_of (judge_table l) → compile_on macro_of l out ≡ record { verdict = verdict_of (Err r); bytes = out }
unfolding compile_on
compile-refused l out r e = go (judge_table l) refl e
  where
    go : (j : Judged Tree) → judge_table l ≡ j → Err r ≡ checked_of j → compile_on macro_of l out ≡ record { verdict = refused (refusal_of r); bytes = out }
    go (accepted t) h k = clash (cc)
    go (refused q) h k = let z : r ≡ in_code q = cc in rw (h, z)
