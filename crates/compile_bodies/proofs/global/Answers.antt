-- `global`: a procedure, or nothing (crates/compile_whole/specs/Loop).
use native.Mathlib.Omega.{arith}
use mathlib.Core.Path.{sym, ◌∙◌}
use Rattle.compile_whole.specs.Loop.{global-long, global-asks, global-done, global-none}
use Rattle.compile_bodies.proofs.global.Goals as goal

pub kind_at-requires : goal.kind_at-requires
kind_at-requires c =
    omega (arith, global-long c.requires)

pub procedure-requires : goal.procedure-requires
procedure-requires c =
    global-asks c.requires (sym c.kind_at.ensures ∙ c.if-kind_at-eq-KIND_PROCEDURE.true)

pub returns-then-kind_at-eq-KIND_PROCEDURE-clause-answers : goal.returns-then-kind_at-eq-KIND_PROCEDURE-clause-answers
returns-then-kind_at-eq-KIND_PROCEDURE-clause-answers c =
    global-done (sym c.kind_at.ensures ∙ c.if-kind_at-eq-KIND_PROCEDURE.true) c.procedure.ensures.answers

pub returns-clause-answers : goal.returns-clause-answers
returns-clause-answers c = global-none (λ e. c.if-kind_at-eq-KIND_PROCEDURE.false (c.kind_at.ensures ∙ e))
