-- The listing of a macro and of a table, as their parts are known one after the other.
use Rattle.std.specs.Prelude.{Bool, true, false, ◌≡◌, refl, List, ℕ, ◌≤◌, leb, length, replicate}
use Rattle.std.proofs.Common.{ap, arith, leb-true}
use Rattle.std.proofs.lemmas.List.Edits.{sets}
use Rattle.std.proofs.Math.Seq.{length-sets}
use Rattle.logic.specs.Choice.{If◌then◌else◌}
use Rattle.values.specs.Ends.{refusal, Judged, accepted, refused}
use Rattle.language.specs.Tree.{Tree}
use Rattle.language.specs.Judge.{Compiled, judge_table, compile_refused, compile_tree, compile_on}
use Rattle.compile_code.specs.Encode.{macro_of}
use Rattle.bytecode.specs.State.{state_length}
use Rattle.bytecode.specs.Lent.{start_on}
use Rattle.listing_text.specs.Text.{started_text, macro_text, macro_room, compiled_text, listing_on, listing_of}

-- what a start answers decides the text of a macro
pub macro-text : (code lent : List ℕ) (v : Judged (Unit {0})) (after : List ℕ)
    → start_on code lent ≡ record { verdict = v; bytes = after } → macro_text code lent ≡ started_text code v after
unfolding macro_text
macro-text code lent v after e = ap (λ s. started_text code s.verdict s.bytes) e

-- and what the compiler answers that of a table
pub table-text : (table room lent : List ℕ) (v : Judged ℕ) (after : List ℕ)
    → compile_on macro_of table room ≡ record { verdict = v; bytes = after } → listing_on table room lent ≡ compiled_text v after lent
unfolding listing_on
table-text table room lent v after e = ap (λ c. compiled_text c.verdict c.bytes lent) e

-- the macro stands within the bytes that were lent for it
pub within : (table room after : List ℕ) (n : ℕ) → compile_on macro_of table room ≡ record { verdict = accepted n; bytes = after } → n ≤ length after
unfolding compile_on
within table room after n e = go (judge_table table) e
  where
    placed : (code : List ℕ) (b : Bool) → leb (length code) (length room) ≡ b
        → (If b then record { verdict = accepted (length code); bytes = sets room 0 code } else compile_refused (refusal 7 0) room) ≡ record { verdict = accepted n; bytes = after } → n ≤ length after
    placed code true h d =
        let q : ◌≡◌ {A = Judged ℕ} (accepted (length code)) (accepted n) = ap (λ (c : Compiled). c.verdict) d in
        let i : length code ≡ n = cc in
        let j : sets room 0 code ≡ after = ap (λ (c : Compiled). c.bytes) d in
        let k = leb-true (length code) (length room) h in
        let l = length-sets room 0 code in
        let m = ap length j in
        omega arith
    placed code false h d =
        let q : ◌≡◌ {A = Judged ℕ} (refused (refusal 7 0)) (accepted n) = ap (λ (c : Compiled). c.verdict) d in
        let z : ◌≡◌ {A = ℕ} 0 1 = cc in
        absurd (omega arith)

    go : (j : Judged Tree) → compile_tree macro_of j room ≡ record { verdict = accepted n; bytes = after } → n ≤ length after
    go (refused r) d =
        let q : ◌≡◌ {A = Judged ℕ} (refused r) (accepted n) = ap (λ (c : Compiled). c.verdict) d in
        let z : ◌≡◌ {A = ℕ} 0 1 = cc in
        absurd (omega arith)
    go (accepted t) d = placed (macro_of t) (leb (length (macro_of t)) (length room)) refl d

-- all bytes that are lent are 0
pub listing-is : (table : List ℕ) → listing_of table ≡ listing_on table (replicate macro_room 0) (replicate state_length 0)
unfolding listing_of
listing-is table = refl
