-- No two answers of the exported functions pack to one number: their numbers fit the fields, and the packing loses nothing.
use Rattle.std.specs.Prelude.{◌≡◌, refl, true, List, ◌⊎◌, ℕ, ◌<◌, eqb}
use Rattle.std.proofs.Common.{sym, ap, ◌∙◌, subst, inl, inr, arith}
use Rattle.words.specs.Laws.{Bytes}
use Rattle.values.specs.Ends.{Refusal, refusal, Judged, accepted, refused, is_condition}
use Rattle.values.specs.Conditions.{condition-byte}
use Rattle.values.specs.Trace.{set, hold, release}
use Rattle.language.specs.Judge.{judge_table, compile_on}
use Rattle.bytecode.specs.Rules.{judge_macro}
use Rattle.bytecode.specs.Runs.{Answer, happens, spends, finishes, refuses, halts}
use Rattle.bytecode.specs.Lent.{start_on, run_on}
use Rattle.bytecode.specs.Play.{play_on}
use Rattle.bytecode.specs.Answers.{Numbers, verdict_numbers, answer_numbers, packed}
use Rattle.table_check.specs.Small.{Narrow, narrow}
use Rattle.run.specs.Fields.{Small, Ranged, judged-small, start_small, run-ranged}
use Rattle.run.specs.Plays.{play-fine}
use Rattle.logic.specs.Choice.{If◌then◌else◌}
use Rattle.compile_code.specs.Encode.{macro_of}
use Rattle.desk.specs.Compiled.{compiled_numbers, Short, short}
use Rattle.packing.specs.Packing.{Fits, packed-injective, bare, verdicts-differ, Told, answers-differ}

-- ── runs ──
low_end : (c : ℕ) → (c ≡ 0) ⊎ (is_condition c ≡ true) → c < 65536
low_end c (inl e) = omega arith
low_end c (inr h) = omega (arith, condition-byte c h)

answer-fits : (n : ℕ) → n < 65536 → (a : Answer) → Ranged n a → Told a × Fits (answer_numbers a)
answer-fits n h (happens (set c l) k) r = (tt, record { tag_fits = omega arith; steps-fit = omega (arith, r.0); first_fits = omega (arith, r.1.1); second_fits = omega (arith, r.1.2) })
answer-fits n h (happens (hold g) k) r = (tt, record { tag_fits = omega arith; steps-fit = omega (arith, r.0); first_fits = omega (arith, r.1); second_fits = omega arith })
answer-fits n h (happens (release g) k) r = (tt, record { tag_fits = omega arith; steps-fit = omega (arith, r.0); first_fits = omega (arith, r.1); second_fits = omega arith })
answer-fits n h (spends k) r = (tt, record { tag_fits = omega arith; steps-fit = omega arith; first_fits = omega arith; second_fits = omega arith })
answer-fits n h (finishes c k) r = (tt, record { tag_fits = omega arith; steps-fit = omega (arith, r.0); first_fits = low_end c r.1; second_fits = omega arith })
answer-fits n h (refuses q) r = (tt, record { tag_fits = omega arith; steps-fit = omega arith; first_fits = omega (arith, r.0); second_fits = r.1 })
answer-fits n h (halts why) r = absurd r

-- a call of cue_run: what is lent, and the allowance of 16 bits
pub record Call : Type 0 where
  pub code : List ℕ
  pub state : List ℕ
  pub readings : List ℕ
  pub allowance : ℕ
  pub code-bytes : Bytes code
  pub reading-bytes : Bytes readings
  pub allowance-fits : allowance < 65536

abbrev pub answer_of : Call → Answer
answer_of x = (run_on x.code x.state x.readings x.allowance).answer

pub run-told : (x y : Call) → packed (answer_numbers (answer_of x)) ≡ packed (answer_numbers (answer_of y)) → answer_of x ≡ answer_of y
run-told x y e =
    let f = fit x in
    let g = fit y in
    answers-differ (answer_of x) (answer_of y) f.0 g.0 f.1 g.1 e
  where
    fit : (x : Call) → Told (answer_of x) × Fits (answer_numbers (answer_of x))
    fit x = answer-fits x.allowance x.allowance-fits (answer_of x) (run-ranged x.code x.code-bytes x.state x.readings x.allowance x.reading-bytes)

-- a call of cue_play: the same, and the bytes lent for the events' answers
pub record Play : Type 0 where
  pub call : Call
  pub answers : List ℕ

abbrev pub numbers_of : Play → Numbers
numbers_of x = let c = x.call in (play_on c.code c.state c.readings c.allowance x.answers).answer

pub play-told : (x y : Play) → packed (numbers_of x) ≡ packed (numbers_of y) → numbers_of x ≡ numbers_of y
play-told x y e = packed-injective (numbers_of x) (numbers_of y) (fit x) (fit y) e
  where
    fit : (x : Play) → Fits (numbers_of x)
    fit x = let c = x.call in (play-fine c.code c.readings c.code-bytes c.reading-bytes c.allowance c.allowance-fits c.state x.answers).fits

-- ── verdicts: of what was accepted it is told that it was ──
verdict-fits : {A : Type 0} (v : Judged A) → ((r : Refusal) → v ≡ refused r → Small r) → Fits (verdict_numbers v)
verdict-fits (accepted x) h = record { tag_fits = omega arith; steps-fit = omega arith; first_fits = omega arith; second_fits = omega arith }
verdict-fits (refused r) h =
    let s = h r refl in
    record { tag_fits = omega arith; steps-fit = omega arith; first_fits = omega (arith, s.0); second_fits = s.1 }

pub load_told : (c d : List ℕ) → Bytes c → Bytes d → packed (verdict_numbers (judge_macro c)) ≡ packed (verdict_numbers (judge_macro d)) → bare (judge_macro c) ≡ bare (judge_macro d)
load_told c d b p e = verdicts-differ (judge_macro c) (judge_macro d) (verdict-fits (judge_macro c) (judged-small c b)) (verdict-fits (judge_macro d) (judged-small d p)) e

pub start-told : (c l d k : List ℕ) → Bytes c → Bytes d → packed (verdict_numbers (start_on c l).verdict) ≡ packed (verdict_numbers (start_on d k).verdict)
    → (start_on c l).verdict ≡ (start_on d k).verdict
start-told c l d k b p e =
    sym (same (start_on c l).verdict)
    ∙ (verdicts-differ (start_on c l).verdict (start_on d k).verdict (verdict-fits (start_on c l).verdict (start_small c b l)) (verdict-fits (start_on d k).verdict (start_small d p k)) e
    ∙ same (start_on d k).verdict)
  where
    same : (v : Judged (Unit {0})) → bare v ≡ v
    same (accepted tt) = refl
    same (refused r) = refl

table-small : (l : List ℕ) (r : Refusal) → judge_table l ≡ refused r → Small r
table-small l r e = let h : Narrow (refused r) = subst Narrow e (narrow l) in (omega (arith, h.0), omega (arith, h.1))

pub check-told : (l k : List ℕ) → packed (verdict_numbers (judge_table l)) ≡ packed (verdict_numbers (judge_table k)) → bare (judge_table l) ≡ bare (judge_table k)
check-told l k e = verdicts-differ (judge_table l) (judge_table k) (verdict-fits (judge_table l) (table-small l)) (verdict-fits (judge_table k) (table-small k)) e

-- ── compilations: the macro's length is told ──
abbrev compiled_from : Numbers → Judged ℕ
compiled_from x = If eqb x.tag 0 then refused (refusal x.first x.second) else accepted x.second

compiled-from : (v : Judged ℕ) → compiled_from (compiled_numbers v) ≡ v
compiled-from (accepted n) = refl
compiled-from (refused r) = refl

compiled-fits : (v : Judged ℕ) → Short v → Fits (compiled_numbers v)
compiled-fits (accepted n) h = record { tag_fits = omega arith; steps-fit = omega arith; first_fits = omega arith; second_fits = h }
compiled-fits (refused r) h = record { tag_fits = omega arith; steps-fit = omega arith; first_fits = omega (arith, h.0); second_fits = h.1 }

pub compile-told : (l out k room : List ℕ) → Bytes l → Bytes k
    → packed (compiled_numbers (compile_on macro_of l out).verdict) ≡ packed (compiled_numbers (compile_on macro_of k room).verdict)
    → (compile_on macro_of l out).verdict ≡ (compile_on macro_of k room).verdict
compile-told l out k room b d e =
    let v = (compile_on macro_of l out).verdict in let w = (compile_on macro_of k room).verdict in
    sym (compiled-from v) ∙ ap compiled_from (packed-injective (compiled_numbers v) (compiled_numbers w) (compiled-fits v (short l out b)) (compiled-fits w (short k room d)) e) ∙ compiled-from w
