-- `procedure`: its heading is entered, and its body is walked (crates/compile_whole/specs/Procs).
use native.Mathlib.Omega.{arith}
use Prim.Native.Nat.{◌+◌, ◌/◌}
use Rattle.compile_whole.specs.Stage.{items-few}
use Rattle.compile_steps.specs.Views.{IsStmt, IsExpr}
use Rattle.compile_whole.specs.Procs.{proc-long, proc-asks, proc-statement, proc-expression, proper-fits, function-fits, proc-proper, proc-function}
use Rattle.compile_bodies.proofs.procedure.Goals as goal

pub b_at-heading-requires : goal.b_at-heading-requires
b_at-heading-requires c =
    omega (arith, proc-long c.requires)

pub overflow_add-at : goal.overflow_add-at
overflow_add-at c =
    omega (arith, (proc-asks c.requires c.b_at-heading.result c.b_at-heading.ensures).small)

pub enter_procedure-up-requires : goal.enter_procedure-up-requires
enter_procedure-up-requires c = (
  (proc-asks c.requires c.b_at-heading.result c.b_at-heading.ensures).within,
  (proc-asks c.requires c.b_at-heading.result c.b_at-heading.ensures).short,
  omega (
    arith,
    (proc-asks c.requires c.b_at-heading.result c.b_at-heading.ensures).room,
    items-few 4 c.args.source.now.table.now (c.args.at + 1) (c.b_at-heading.result / 256),
  ),
)

pub slice_bounds-statement-count : goal.slice_bounds-statement-count
slice_bounds-statement-count c =
    (proc-asks c.requires c.b_at-heading.result c.b_at-heading.ensures).inside

pub slice_bounds-statement-start : goal.slice_bounds-statement-start
slice_bounds-statement-start c =
    (proc-asks c.requires c.b_at-heading.result c.b_at-heading.ensures).inside

pub overflow_add-at-then-heading-eq0 : goal.overflow_add-at-then-heading-eq0
overflow_add-at-then-heading-eq0 c =
    omega (arith, (proc-asks c.requires c.b_at-heading.result c.b_at-heading.ensures).small)

pub overflow_add-at-then-heading-eq0-2 : goal.overflow_add-at-then-heading-eq0-2
overflow_add-at-then-heading-eq0-2 c =
    omega (arith, (proc-asks c.requires c.b_at-heading.result c.b_at-heading.ensures).small)

pub statement-p-requires : goal.statement-p-requires
statement-p-requires c =
    proc-statement c.requires c.b_at-heading.result c.b_at-heading.ensures
    c.enter_procedure-up.ensures IsStmt (λ s. tt) c.if-heading-eq0.true

pub emit-q-requires : goal.emit-q-requires
emit-q-requires c =
    proper-fits c.requires c.b_at-heading.result c.b_at-heading.ensures
    c.enter_procedure-up.ensures IsStmt (λ s. tt) c.if-heading-eq0.true c.statement-p.ensures.answers

pub finish-requires : goal.finish-requires
finish-requires c = (
  omega (
    arith,
    (proc-asks c.requires c.b_at-heading.result c.b_at-heading.ensures).ending,
    c.statement-p.ensures.answers.kept.same_ends,
  ),
  rw c.emit-q.ensures.0
      (proper-fits c.requires c.b_at-heading.result c.b_at-heading.ensures
      c.enter_procedure-up.ensures IsStmt (λ s. tt) c.if-heading-eq0.true c.statement-p.ensures.answers).address-small,
)

pub returns-then-heading-eq0-clause-answers : goal.returns-then-heading-eq0-clause-answers
returns-then-heading-eq0-clause-answers c =
    proc-proper c.requires c.b_at-heading.result c.b_at-heading.ensures
    c.enter_procedure-up.ensures IsStmt (λ s. tt) c.if-heading-eq0.true c.statement-p.ensures.answers c.emit-q.ensures
    c.finish.ensures

pub slice_bounds-expression-count : goal.slice_bounds-expression-count
slice_bounds-expression-count c =
    (proc-asks c.requires c.b_at-heading.result c.b_at-heading.ensures).inside

pub slice_bounds-expression-start : goal.slice_bounds-expression-start
slice_bounds-expression-start c =
    (proc-asks c.requires c.b_at-heading.result c.b_at-heading.ensures).inside

pub overflow_add-at-2 : goal.overflow_add-at-2
overflow_add-at-2 c =
    omega (arith, (proc-asks c.requires c.b_at-heading.result c.b_at-heading.ensures).small)

pub overflow_add-at-3 : goal.overflow_add-at-3
overflow_add-at-3 c =
    omega (arith, (proc-asks c.requires c.b_at-heading.result c.b_at-heading.ensures).small)

pub expression-p-requires : goal.expression-p-requires
expression-p-requires c =
    proc-expression c.requires c.b_at-heading.result c.b_at-heading.ensures
    c.enter_procedure-up.ensures IsExpr (λ e. tt) c.if-heading-eq0.false

pub emit-q-requires-2 : goal.emit-q-requires-2
emit-q-requires-2 c =
    function-fits c.requires c.b_at-heading.result c.b_at-heading.ensures
    c.enter_procedure-up.ensures IsExpr (λ e. tt) c.if-heading-eq0.false c.expression-p.ensures.answers

pub finish-requires-2 : goal.finish-requires-2
finish-requires-2 c = (
  omega (
    arith,
    (proc-asks c.requires c.b_at-heading.result c.b_at-heading.ensures).ending,
    c.expression-p.ensures.answers.kept.same_ends,
  ),
  rw c.emit-q-2.ensures.0
      (function-fits c.requires c.b_at-heading.result c.b_at-heading.ensures
      c.enter_procedure-up.ensures IsExpr (λ e. tt) c.if-heading-eq0.false c.expression-p.ensures.answers).address-small,
)

pub returns-clause-answers : goal.returns-clause-answers
returns-clause-answers c =
    proc-function c.requires c.b_at-heading.result c.b_at-heading.ensures
    c.enter_procedure-up.ensures IsExpr (λ e. tt) c.if-heading-eq0.false c.expression-p.ensures.answers c.emit-q-2.ensures
    c.finish-2.ensures
