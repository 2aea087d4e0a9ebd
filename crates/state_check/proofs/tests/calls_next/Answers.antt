-- `state_check::tests::calls_next` meets its contract.
use mathlib.Core.Path.{sym, ◌∙◌}
use Prim.Native.Nat.{ℕ, ◌+◌}
use Rattle.words.specs.Numbers.{byte_at}
use Rattle.load_places.specs.Records.{code_place}
use Rattle.state_check.proofs.TestExits as law
use Rattle.words.specs.Numbers.{word_at}
use Rattle.state_check.proofs.tests.calls_next.Goals as goal

pub returns-then-of-j : goal.returns-then-of-j
returns-then-of-j c = law.calls-top _ _ _ _ c.if-of-j.true

pub returns-then-x-ne-OP_CALL : goal.returns-then-x-ne-OP_CALL
returns-then-x-ne-OP_CALL c =
    law.calls-other _ _ _ _ c.if-of-j.false (λ z. c.if-x-ne-OP_CALL.true (law.at_address
    (λ (i : ℕ). byte_at c.args.at.now.code.now (code_place c.args.at.now.code.now i + 2)) c.half_at-i.ensures.0
    c.instruction_at-x.ensures.0 ∙ z))

pub returns-then-x-ne0 : goal.returns-then-x-ne0
returns-then-x-ne0 c =
    law.calls-used _ _ _ _ c.if-of-j.false (sym (law.at_address (λ (i : ℕ).
    byte_at c.args.at.now.code.now (code_place c.args.at.now.code.now i + 2)) c.half_at-i.ensures.0
    c.instruction_at-x.ensures.0) ∙ c.if-x-ne-OP_CALL.false)
    (λ z. c.if-x-ne0.true (law.at_address (λ (i : ℕ). byte_at c.args.at.now.code.now (code_place c.args.at.now.code.now i + 3))
    c.half_at-i.ensures.0 c.instruction_at-x.ensures.1 ∙ z))

pub returns : goal.returns
returns c =
    rw (
      law.at_address (λ (i : ℕ). word_at c.args.at.now.code.now (code_place c.args.at.now.code.now i + 4)) c.half_at-i.ensures.0
          c.instruction_at-x.ensures.2,
      c.byte_at.ensures.0,
    )
    (law.calls-body _ _ _ _ c.if-of-j.false (sym (law.at_address
    (λ (i : ℕ). byte_at c.args.at.now.code.now (code_place c.args.at.now.code.now i + 2)) c.half_at-i.ensures.0
    c.instruction_at-x.ensures.0) ∙ c.if-x-ne-OP_CALL.false)
    (sym (law.at_address (λ (i : ℕ). byte_at c.args.at.now.code.now (code_place c.args.at.now.code.now i + 3)) c.half_at-i.ensures.0
    c.instruction_at-x.ensures.1) ∙ c.if-x-ne0.false))
