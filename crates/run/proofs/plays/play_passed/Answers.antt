-- `run::plays::play_passed` meets its contract.
use mathlib.Core.Path.{◌∙◌}
use native.Mathlib.Omega.{arith}
use Prim.Native.Nat.{ℕ}
use Rattle.run.proofs.Told as law
use Rattle.run.proofs.Playing as play
use Rattle.run.proofs.plays.play_passed.Goals as goal

pub returns-in_default : goal.returns-in_default
returns-in_default c =
    let H = law.unseen _ _ _ _ _ c.requires c.in_default.is in
    (λ t h. law.run-unsound _ _ _ _ H, λ f. play.play-refused _ _ _ _ _ _ _ (law.run-unsound _ _ _ _ H))

pub returns-then-readings-ne-FADERS : goal.returns-then-readings-ne-FADERS
returns-then-readings-ne-FADERS c =
    let H = law.seen _ _ _ _ _ c.requires _ c.in-Some.is in
    let n = c.if-readings-ne-FADERS.true in
    (λ t h. law.run-unread _ _ _ _ H.0 n, λ f. play.play-refused _ _ _ _ _ _ _ (law.run-unread _ _ _ _ H.0 n))

pub returns-then-answers-lt-ANSWER_BYTES : goal.returns-then-answers-lt-ANSWER_BYTES
returns-then-answers-lt-ANSWER_BYTES c =
    let H = law.seen _ _ _ _ _ c.requires _ c.in-Some.is in
    let few = c.if-answers-lt-ANSWER_BYTES.true in (
      λ t h. absurd (omega (arith, few)),
      λ f. play.play-none _ _ _ _ _ (λ k. (c.type_inv.code k).fits) (λ k. (c.type_inv.readings k).fits) H.0 c.if-readings-ne-FADERS.false few,
    )

pub play_sound-requires : goal.play_sound-requires
play_sound-requires c =
    let H = law.seen _ _ _ _ _ c.requires _ c.in-Some.is in
    let code = λ (k : ℕ). (c.type_inv.code k).fits in (
      law.found _ _ _ _ code H.1,
      play.standing _ _ c.args.readings.now c.args.allowance c.args.answers.now code (λ k. (c.type_inv.readings k).fits) H.0 c.if-readings-ne-FADERS.false _ c.clear.ensures,
      c.if-readings-ne-FADERS.false,
      c.if-answers-lt-ANSWER_BYTES.false,
    )

pub returns : goal.returns
returns c =
    let H = law.seen _ _ _ _ _ c.requires _ c.in-Some.is in
    let code = λ (k : ℕ). (c.type_inv.code k).fits in
    let readings = λ (k : ℕ). (c.type_inv.readings k).fits in
    let full = c.if-readings-ne-FADERS.false in (
      λ once h. play.run-own _ _ c.args.readings.now c.args.allowance c.args.answers.now code readings H.0 full _ c.clear.ensures ∙ c.play_sound.ensures.0 once,
      λ f. play.play-runs _ _ _ _ _ code readings H.0 full _ c.clear.ensures c.if-answers-lt-ANSWER_BYTES.false ∙ c.play_sound.ensures.1 f,
    )
