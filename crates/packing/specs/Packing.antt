-- The packing of answers loses nothing: no two answers pack to one number.
use Rattle.std.specs.Prelude.{◌≡◌, refl, ◌<◌, eqb}
use Rattle.std.proofs.Common.{sym, ap, ◌∙◌, arith}
use Rattle.logic.specs.Choice.{If◌then◌else◌}
use Rattle.values.specs.Ends.{refusal, Judged, accepted, refused}
use Rattle.values.specs.Trace.{set, hold, release}
use Rattle.bytecode.specs.Answers.{Numbers, numbers, verdict_numbers, answer_numbers, packed}
use Rattle.bytecode.specs.Runs.{Answer, happens, spends, finishes, refuses, halts}

-- numbers that fit their fields
pub record Fits (x : Numbers) : Type 0 where
  pub tag_fits : x.tag < 256
  pub steps-fit : x.steps < 65536
  pub first_fits : x.first < 65536
  pub second_fits : x.second < 16777216

-- packing loses nothing
fields-same : (x y : Numbers) → Fits x → Fits y → packed x ≡ packed y
    → (x.tag ≡ y.tag) × (x.steps ≡ y.steps) × (x.first ≡ y.first) × (x.second ≡ y.second)
fields-same x y f g e = (omega arith, omega arith, omega arith, omega arith)

pub packed-injective : (x y : Numbers) → Fits x → Fits y → packed x ≡ packed y → x ≡ y
packed-injective x y f g e =
    let s = fields-same x y f g e in
    let h : numbers x.tag x.steps x.first x.second ≡ numbers y.tag y.steps y.first y.second = rw (s.0, s.1, s.2, s.3) in
    h

-- ── verdicts: what was accepted is not told ──
abbrev pub bare : {A : Type 0} → Judged A → Judged (Unit {0})
bare (accepted x) = accepted tt
bare (refused r) = refused r

abbrev verdict_from : Numbers → Judged (Unit {0})
verdict_from x = If eqb x.tag 0 then refused (refusal x.first x.second) else accepted tt

verdict-from : {A : Type 0} (v : Judged A) → verdict_from (verdict_numbers v) ≡ bare v
verdict-from (accepted x) = refl
verdict-from (refused r) = refl

pub verdicts-differ : {A : Type 0} (v w : Judged A) → Fits (verdict_numbers v) → Fits (verdict_numbers w) → packed (verdict_numbers v) ≡ packed (verdict_numbers w) → bare v ≡ bare w
verdicts-differ v w f g e = sym (verdict-from v) ∙ ap verdict_from (packed-injective _ _ f g e) ∙ verdict-from w

-- ── answers of runs ──
abbrev answer_from : Numbers → Answer
answer_from x =
    If eqb x.tag 0 then refuses (refusal x.first x.second) else
    If eqb x.tag 2 then spends x.steps else
    If eqb x.tag 3 then finishes x.first x.steps else
    If eqb x.tag 4 then happens (set x.first x.second) x.steps else
    If eqb x.tag 5 then happens (hold x.first) x.steps else happens (release x.first) x.steps

-- all but a machine with no next step, which no run answers
abbrev pub Told : Answer → Type 0
Told (happens v n) = Unit {0}
Told (spends n) = Unit {0}
Told (finishes c n) = Unit {0}
Told (refuses r) = Unit {0}
Told (halts why) = ⊥

answer-from : (a : Answer) → Told a → answer_from (answer_numbers a) ≡ a
answer-from (happens (set c l) n) t = refl
answer-from (happens (hold g) n) t = refl
answer-from (happens (release g) n) t = refl
answer-from (spends n) t = refl
answer-from (finishes c n) t = refl
answer-from (refuses r) t = refl
answer-from (halts why) t = absurd t

pub answers-differ : (a b : Answer) → Told a → Told b → Fits (answer_numbers a) → Fits (answer_numbers b) → packed (answer_numbers a) ≡ packed (answer_numbers b) → a ≡ b
answers-differ a b t u f g e = sym (answer-from a t) ∙ ap answer_from (packed-injective _ _ f g e) ∙ answer-from b u
