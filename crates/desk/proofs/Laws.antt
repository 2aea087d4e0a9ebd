-- What the wrappers pack are the numbers of what the definitions answer.
use mathlib.Core.Path.{◌≡◌, refl}
use mathlib.Core.List.{List}
use Prim.Native.Nat.{ℕ, ◌<◌}
use native.Mathlib.Omega.{arith}
use Rattle.std.specs.Prelude.{Result, Ok, Err}
use Rattle.words.specs.Laws.{Bytes}
use Rattle.values.specs.Ends.{Judged, accepted, refused}
use Rattle.values.specs.Refusals.{refusal_of}
use Rattle.values.specs.declared.Refusal.{Refusal}
use Rattle.language.specs.Tree.{Tree}
use Rattle.language.specs.Judge.{judge_table, compile_on}
use Rattle.bytecode.specs.Macro.{Macro}
use Rattle.bytecode.specs.Rules.{judge_macro}
use Rattle.bytecode.specs.Lent.{start_on, run_on}
use Rattle.bytecode.specs.Play.{play_on}
use Rattle.bytecode.specs.Answers.{Numbers, done_numbers, refusal_numbers, verdict_numbers, answer_numbers, packed}
use Rattle.compile_code.specs.Encode.{macro_of}
use Rattle.compile.specs.Verdict.{verdict_of as compiled_of}
use Rattle.desk.specs.Compiled.{compiled_numbers, Short, short}
use Rattle.table_check.specs.Checked.{checked_of}
use Rattle.table_check.proofs.Verdicts.{place-small}
use Rattle.load_check.specs.Loaded.{loaded_of}
use Rattle.load_check.proofs.LoadedLaws.{fields}
use Rattle.run.specs.Answers.{verdict_of, answer_of, play_numbers}
use Rattle.run.specs.Fields.{start_small, run_small}
use Rattle.run.specs.Plays.{Fine, play-fine}
use Rattle.machine_run.specs.declared.Answer.{Answer}
use Rattle.run.specs.declared.Played.{Played}

-- ── the table check ──
abbrev checked_numbers : Result (Unit {0}) Refusal → Numbers
checked_numbers (Ok u) = done_numbers 0
checked_numbers (Err r) = refusal_numbers (refusal_of r)

checked-numbers : (j : Judged Tree) → checked_numbers (checked_of j) ≡ verdict_numbers j
checked-numbers (accepted t) = refl
checked-numbers (refused r) = refl

module _ (l : List ℕ) (a : Result (Unit {0}) Refusal) (e : a ≡ checked_of (judge_table l)) where
  pub checked : (v : Result (Unit {0}) Refusal) → a ≡ v → packed (checked_numbers v) ≡ packed (verdict_numbers (judge_table l))
  checked v d = rw (← d, e, checked-numbers (judge_table l))

  pub checked-small : (r : Refusal) → a ≡ Err r → r.place < 16777216
  checked-small r d = let h = place-small l r (rw d at e) in omega arith

-- ── the loading check ──
abbrev loaded_numbers : Result (Unit {0}) Refusal → Numbers
loaded_numbers (Ok x) = done_numbers 0
loaded_numbers (Err r) = refusal_numbers (refusal_of r)

loaded-numbers : (j : Judged Macro) → loaded_numbers (loaded_of j) ≡ verdict_numbers j
loaded-numbers (accepted m) = refl
loaded-numbers (refused r) = refl

module _ (c : List ℕ) (a : Result (Unit {0}) Refusal) (e : a ≡ loaded_of (judge_macro c)) where
  pub loaded : (v : Result (Unit {0}) Refusal) → a ≡ v → packed (loaded_numbers v) ≡ packed (verdict_numbers (judge_macro c))
  loaded v d = rw (← d, e, loaded-numbers (judge_macro c))

  pub loaded-small : Bytes c → (r : Refusal) → a ≡ Err r → r.place < 16777216
  loaded-small B r d = (fields c B r (rw d at e)).1

-- ── the start ──
module _ (c l k : List ℕ) (a : Result (Unit {0}) Refusal) (e : start_on c l ≡ record { verdict = verdict_of a; bytes = k }) where
  pub started : (v : Result (Unit {0}) Refusal) → a ≡ v → (r : ℕ) → r ≡ packed (verdict_numbers (verdict_of v)) → (r ≡ packed (verdict_numbers (start_on c l).verdict)) × (k ≡ (start_on c l).bytes)
  started v d r h = rw (e, d) (h, refl)

  pub started-small : Bytes c → (r : Refusal) → a ≡ Err r → r.place < 16777216
  started-small B r d = (start_small c B l (refusal_of r) (rw (e, d))).1

-- ── the run ──
module _ (c l readings : List ℕ) (allowance : ℕ) (k : List ℕ) (a : Result Answer Refusal) (i : ℕ) (e : run_on c l readings allowance ≡ record { answer = answer_of a; bytes = k; readings = i }) where
  pub ran : (v : Result Answer Refusal) → a ≡ v → (r : ℕ) → r ≡ packed (answer_numbers (answer_of v))
      → (r ≡ packed (answer_numbers (run_on c l readings allowance).answer)) × (k ≡ (run_on c l readings allowance).bytes)
  ran v d r h = rw (e, d) (h, refl)

  pub ran-small : Bytes c → Bytes readings → (r : Refusal) → a ≡ Err r → r.place < 16777216
  ran-small B R r d = (run_small c B l readings allowance R (refusal_of r) (rw (e, d))).1

-- ── the play ──
module _ (c l readings : List ℕ) (allowance : ℕ) (answers k b : List ℕ) (a : Result Played Refusal) (i : ℕ)
    (e : play_on c l readings allowance answers ≡ record { answer = play_numbers a; state = k; answers = b; readings = i }) where
  pub plays : (v : Result Played Refusal) → a ≡ v → (r : ℕ) → r ≡ packed (play_numbers v)
      → let p = play_on c l readings allowance answers in (r ≡ packed p.answer) × (k ≡ p.state) × (b ≡ p.answers)
  plays v d r h = rw (e, d) (h, refl, refl)

  pub play-small : Bytes c → Bytes readings → allowance < 65536 → (r : Refusal) → a ≡ Err r → r.place < 16777216
  play-small B R w r d =
      let f : Fine (play_numbers (Err r)) = rw (e, d) at (play-fine c readings B R allowance w l answers) in
      f.fits.second_fits

-- ── the compiler ──
module _ (l out k : List ℕ) (a : Result ℕ Refusal) (e : compile_on macro_of l out ≡ record { verdict = compiled_of a; bytes = k }) where
  pub compiled : (v : Result ℕ Refusal) → a ≡ v → (r : ℕ) → r ≡ packed (compiled_numbers (compiled_of v))
      → (r ≡ packed (compiled_numbers (compile_on macro_of l out).verdict)) × (k ≡ (compile_on macro_of l out).bytes)
  compiled v d r h = rw (e, d) (h, refl)

  in-short : Bytes l → Short (compiled_of a)
  in-short B = rw e at (short l out B)

  pub macro-short : Bytes l → (n : ℕ) → a ≡ Ok n → n < 16777216
  macro-short B n d = rw d at (in-short B)

  pub compiled-small : Bytes l → (r : Refusal) → a ≡ Err r → r.place < 16777216
  compiled-small B r d = let h : Short (compiled_of (Err r)) = rw d at (in-short B) in h.1
