-- `compile_emit::declare_one` meets its contract.
use borrow.Author.Tests.{ne_eqb}
use mathlib.Core.Path.{refl, sym, ◌∙◌}
use lib.ListN.{length}
use Rattle.compile_emit.specs.EmitEntryLaws.{fits-op, declared-10, declared-14, initial-length}
use Rattle.compile_emit.specs.EmitEntry.{cursor_declared, emit_declared}
use Rattle.compile_emit.proofs.declare_one.Goals as goal

pub initial-q-requires : goal.initial-q-requires
initial-q-requires c =
    let a = c.args in let n = length a.out.now in let f = rw
    (declared-10 _ a.p (sym c.kind_at-kind.ensures ∙ c.in-10.is)) at c.requires.1 in fits-op n f

pub emit-requires : goal.emit-requires
emit-requires c =
    let a = c.args in let n = length a.out.now in let f = rw
    (declared-10 _ a.p (sym c.kind_at-kind.ensures ∙ c.in-10.is)) at c.requires.1 in
    rw (c.initial-q.ensures.0, initial-length c.type_in.result a.p a.out.now c.initial-q.ensures.1) f

pub emit-requires-in-14 : goal.emit-requires-in-14
emit-requires-in-14 c =
    let a = c.args in let n = length a.out.now in rw (declared-14 _ a.p (sym c.kind_at-kind.ensures ∙ c.in-14.is)) at c.requires.1

pub returns-in-10 : goal.returns-in-10
unfolding cursor_declared emit_declared
returns-in-10 c =
    rw (
      sym c.kind_at-kind.ensures ∙ c.in-10.is,
      c.emit.ensures.0,
      c.emit.ensures.1,
      c.initial-q.ensures.0,
      c.initial-q.ensures.1,
      c.type_in.ensures,
      c.second_in.ensures,
    ) (refl, refl)

pub returns-in-14 : goal.returns-in-14
unfolding cursor_declared emit_declared
returns-in-14 c =
    rw (sym c.kind_at-kind.ensures ∙ c.in-14.is, sym c.a_at.ensures) c.emit-in-14.ensures

pub returns-in_default : goal.returns-in_default
unfolding cursor_declared emit_declared
returns-in_default c = let r = c.in_default.in_default-own.rest in rw (sym c.kind_at-kind.ensures, ne_eqb _ _ r.0.1, ne_eqb _ _ r.1) (refl, refl)
