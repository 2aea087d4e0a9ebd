-- The numbers of a compilation's verdict: done with the macro's length, or the refusal; and that they fit their fields.
use Rattle.std.specs.Prelude.{◌≡◌, refl, Bool, true, false, List, ℕ, ◌<◌, leb, length}
use Rattle.std.proofs.Common.{subst, arith}
use Rattle.std.proofs.lemmas.List.Edits.{sets}
use Rattle.logic.specs.Choice.{If◌then◌else◌}
use Rattle.words.specs.Laws.{Bytes}
use Rattle.values.specs.Ends.{refusal, Judged, accepted, refused}
use Rattle.language.specs.Tree.{Tree}
use Rattle.language.specs.Judge.{judge_table, compile_tree, write_macro, compile_refused, compile_on}
use Rattle.bytecode.specs.Answers.{Numbers, done_numbers, refusal_numbers}
use Rattle.language_laws.proofs.Programs.{accepted-program}
use Rattle.compile_code.specs.Encode.{macro_of}
use Rattle.compile_macro.specs.Built.{writable, few-instructions}
use Rattle.compile_order.specs.Order.{in_order}
use Rattle.compile_bytes.specs.Room.{macro-most}
use Rattle.table_check.specs.Small.{Narrow, narrow}

abbrev pub compiled_numbers : Judged ℕ → Numbers
compiled_numbers (accepted n) = done_numbers n
compiled_numbers (refused r) = refusal_numbers r

-- a macro's length and a refusal's place are below 2^24, a refusal's number below 256
abbrev pub Short : Judged ℕ → Type 0
Short (accepted n) = n < 16777216
Short (refused r) = (r.number < 256) × (r.place < 16777216)

short-macro : (l out : List ℕ) → Bytes l → (t : Tree) → judge_table l ≡ accepted t → Short (write_macro (macro_of t) out).verdict
short-macro l out b t e = by (leb (length (macro_of t)) (length out))
  where
    few : length (macro_of t) < 16777216
    few =
        let q = accepted-program l b t e in
        let o = in_order l q.0 in
        let small : length (macro_of q.0.tree) < 16777216 =
        let m = macro-most q.0.tree (writable q.0.tree o) in let k = few-instructions q.0.tree o in omega arith in
        subst (λ (u : Tree). length (macro_of u) < 16777216) q.1 small

    by : (c : Bool) → Short (If c then record { verdict = accepted (length (macro_of t)); bytes = sets out 0 (macro_of t) } else compile_refused (refusal 7 0) out).verdict
    by true = few
    by false = (omega arith, omega arith)

pub short : (l out : List ℕ) → Bytes l → Short (compile_on macro_of l out).verdict
unfolding compile_on
short l out b = by (judge_table l) refl (narrow l)
  where
    by : (j : Judged Tree) → judge_table l ≡ j → Narrow j → Short (compile_tree macro_of j out).verdict
    by (accepted t) e n = short-macro l out b t e
    by (refused r) e n = (omega (arith, n.0), omega (arith, n.1))
