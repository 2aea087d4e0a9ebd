-- `table_read::kinds::sort_of` meets its contract: each arm is a place in a run of one sort.
use borrow.Author.Tests.{eq-eqb, ne_eqb}
use mathlib.Core.Path.{sym, ◌∙◌}
use mathlib.Core.List.{[], ◌∷◌}
use Prim.Native.Nat.{◌/◌, ◌%◌}
use lib.ListN.{replicate, get_or-replicate, length-replicate}
use Rattle.table_read.specs.declared.kinds.Sort.TheVariants.{Typed, Decl, Part, Expr}
use Rattle.table_read.specs.Operands.{sorts, body_sort}
use Rattle.table_read.proofs.Sorts.{run-first, run-last, run-second, run_end, run-both, guards, counts, later-one, others}
use Rattle.table_read.proofs.kinds.sort_of.Goals as goal

pub returns-then-i-head : goal.returns-then-i-head
unfolding sorts
returns-then-i-head c = rw c.in-1.is (sym (run-first Decl Expr (replicate c.args.n Part) c.args.a c.args.i c.if-i-head.true))

pub returns-else-i-head : goal.returns-else-i-head
unfolding sorts
returns-else-i-head c = rw c.in-1.is (sym (run-both Decl Part Expr c.args.a c.args.n
    c.args.i c.if-i-head.false (rw c.in-1.is at c.requires)))

pub returns-in-11 : goal.returns-in-11
unfolding sorts
returns-in-11 c = rw c.in-11.is (sym (get_or-replicate c.args.n c.args.i Typed Expr (rw (c.in-11.is, length-replicate) at c.requires)))

pub returns-then-i-n : goal.returns-then-i-n
unfolding sorts
returns-then-i-n c = rw c.in-12.is (sym (run-first Typed Expr (body_sort (c.args.n % 256) ∷ [])
    (c.args.n / 256) c.args.i c.if-i-n.true))

pub returns-then-n-eq0 : goal.returns-then-n-eq0
unfolding sorts
returns-then-n-eq0 c = rw c.in-12.is (sym (run-last Typed (body_sort (c.args.n % 256)) Expr
    (c.args.n / 256) c.args.i c.if-i-n.false
    (rw c.in-12.is at c.requires) ∙ rw (eq-eqb _ _ c.if-n-eq0.true)))

pub returns-else-n-eq0 : goal.returns-else-n-eq0
unfolding sorts
returns-else-n-eq0 c = rw c.in-12.is (sym (run-last Typed (body_sort (c.args.n % 256)) Expr
    (c.args.n / 256) c.args.i c.if-i-n.false
    (rw c.in-12.is at c.requires) ∙ rw (ne_eqb _ _ c.if-n-eq0.false)))

pub returns-then-i-eq0 : goal.returns-then-i-eq0
unfolding sorts
returns-then-i-eq0 c = rw (c.in-21.is, c.if-i-eq0.true)

pub returns-else-i-eq0 : goal.returns-else-i-eq0
unfolding sorts
returns-else-i-eq0 c = rw c.in-21.is (sym (later-one c.args.i c.if-i-eq0.false))

pub returns-in-22 : goal.returns-in-22
unfolding sorts
returns-in-22 c = rw c.in-22.is (c.guarded.ensures ∙ guards c.args.i 1 (rw c.in-22.is at c.requires))

pub returns-in-23 : goal.returns-in-23
unfolding sorts
returns-in-23 c = rw c.in-23.is (c.guarded-in-23.ensures ∙ guards c.args.i 2 (rw c.in-23.is at c.requires))

pub returns-in-24 : goal.returns-in-24
unfolding sorts
returns-in-24 c = rw c.in-24.is (c.guarded-in-24.ensures ∙ guards c.args.i 1 (rw c.in-24.is at c.requires))

pub returns-in-30 : goal.returns-in-30
unfolding sorts
returns-in-30 c = rw c.in-30.is (c.guarded-in-30.ensures ∙ guards c.args.i c.args.a
    (rw (c.in-30.is, length-replicate) at c.requires))

pub returns-in-31 : goal.returns-in-31
unfolding sorts
returns-in-31 c = rw c.in-31.is (c.counted.ensures ∙ counts c.args.i (rw c.in-31.is at c.requires))

pub returns-then-i-head-2 : goal.returns-then-i-head-2
unfolding sorts
returns-then-i-head-2 c = rw c.in-53.is (sym (run-first Decl Expr _ c.args.a c.args.i c.if-i-head-2.true))

pub returns-then-i-head-3 : goal.returns-then-i-head-3
unfolding sorts
returns-then-i-head-3 c = rw c.in-53.is (sym (run-second Decl Part Expr (Expr ∷ []) c.args.a
    c.args.n c.args.i c.if-i-head-2.false c.if-i-head-3.true))

pub returns-else-i-head-3 : goal.returns-else-i-head-3
unfolding sorts
returns-else-i-head-3 c = rw c.in-53.is (sym (run_end Decl Part Expr Expr c.args.a
    c.args.n c.args.i c.if-i-head-3.false
    (rw c.in-53.is at c.requires)))

pub returns-in_default : goal.returns-in_default
unfolding sorts
returns-in_default c = let r = c.in_default.in_default-own.rest in sym (others c.args.kind c.args.a c.args.n c.args.i
    r.0.0.0.0.0.0.0.0.0.1 r.0.0.0.0.0.0.0.0.1 r.0.0.0.0.0.0.0.1 r.0.0.0.0.0.0.1 r.0.0.0.0.0.1 r.0.0.0.0.1 r.0.0.0.1
    r.0.0.1 r.0.1 r.1)
