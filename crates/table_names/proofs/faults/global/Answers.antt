-- `table_names::faults::global` meets its contract.
use native.Mathlib.Omega.{arith}
use mathlib.Core.Path.{sym, ◌∙◌}
use Rattle.table_forms.specs.Root.{global-asks, class-asks, procedure-asks, class-answer, procedure-answer, local-answer}
use Rattle.table_names.proofs.faults.global.Goals as goal

pub kind_at-kind-requires : goal.kind_at-kind-requires
kind_at-kind-requires c =
    omega (arith, (global-asks c.requires).0)

pub class-requires : goal.class-requires
class-requires c =
    class-asks c.requires (sym c.kind_at-kind.ensures ∙ c.in-11.is)

pub procedure-requires : goal.procedure-requires
procedure-requires c =
    procedure-asks c.requires (sym c.kind_at-kind.ensures ∙ c.in-12.is)

pub head-requires : goal.head-requires
head-requires c =
    ((global-asks c.requires).1, (global-asks c.requires).2)

pub returns-in-11 : goal.returns-in-11
returns-in-11 c = class-answer (sym c.kind_at-kind.ensures ∙ c.in-11.is) c.class.ensures

pub returns-in-12 : goal.returns-in-12
returns-in-12 c =
    procedure-answer (sym c.kind_at-kind.ensures ∙ c.in-12.is) c.procedure.ensures

pub returns-in_default : goal.returns-in_default
returns-in_default c =
    local-answer (λ z. c.in_default.in_default-own.rest.0.1 (c.kind_at-kind.ensures ∙ z)) (λ z. c.in_default.in_default-own.rest.1 (c.kind_at-kind.ensures ∙ z)) c.head.ensures
