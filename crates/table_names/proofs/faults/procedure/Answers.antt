-- `table_names::faults::procedure` meets its contract.
use native.Mathlib.Omega.{arith}
use Rattle.std.proofs.lemmas.Result.{err_from_is_err_and}
use Rattle.table_forms.specs.Root.{global-asks}
use Rattle.table_forms.specs.Procedures.{proc-asks, proc-top, proc-body, proc-stop, proc-stop-2, proc-judged}
use Rattle.table_names.proofs.faults.procedure.Goals as goal

pub b_at-heading-requires : goal.b_at-heading-requires
b_at-heading-requires c =
    omega (arith, (global-asks c.requires).0)

pub a_at-name-requires : goal.a_at-name-requires
a_at-name-requires c =
    omega (arith, (global-asks c.requires).0)

pub overflow_add-at : goal.overflow_add-at
overflow_add-at c =
    omega (arith, (proc-asks c.b_at-heading.result c.b_at-heading.ensures c.requires).small)

pub enter_procedure-up-requires : goal.enter_procedure-up-requires
enter_procedure-up-requires c = (
  (proc-asks c.b_at-heading.result c.b_at-heading.ensures c.requires).within,
  (proc-asks c.b_at-heading.result c.b_at-heading.ensures c.requires).short,
  omega (arith, (proc-asks c.b_at-heading.result c.b_at-heading.ensures c.requires).room),
)

pub overflow_add-at-2 : goal.overflow_add-at-2
overflow_add-at-2 c =
    omega (arith, (proc-asks c.b_at-heading.result c.b_at-heading.ensures c.requires).small)

pub head-requires : goal.head-requires
head-requires c = (
  (proc-asks c.b_at-heading.result c.b_at-heading.ensures c.requires).within,
  proc-top c.b_at-heading.result c.b_at-heading.ensures c.enter_procedure-up.ensures c.requires,
)

pub slice_bounds-body-count : goal.slice_bounds-body-count
slice_bounds-body-count c =
    (proc-asks c.b_at-heading.result c.b_at-heading.ensures c.requires).fits

pub slice_bounds-body-start : goal.slice_bounds-body-start
slice_bounds-body-start c =
    (proc-asks c.b_at-heading.result c.b_at-heading.ensures c.requires).fits

pub overflow_add-at-3 : goal.overflow_add-at-3
overflow_add-at-3 c =
    omega (arith, (proc-asks c.b_at-heading.result c.b_at-heading.ensures c.requires).small)

pub overflow_add-at-4 : goal.overflow_add-at-4
overflow_add-at-4 c =
    omega (arith, (proc-asks c.b_at-heading.result c.b_at-heading.ensures c.requires).small)

pub body-requires : goal.body-requires
body-requires c =
    proc-body c.b_at-heading.result c.b_at-heading.ensures c.enter_procedure-up.ensures c.requires

pub headed-requires : goal.headed-requires
headed-requires c =
    omega (arith, (global-asks c.requires).2, c.body.ensures.same, c.enter_procedure-up.ensures.same)

pub returns : goal.returns
returns c =
    proc-judged c.b_at-heading.result c.b_at-heading.ensures c.enter_procedure-up.ensures c.head.ensures _
    c.in_ok-head.was c.body.ensures _ c.in_ok-t.was (rw c.a_at-name.ensures at c.headed.ensures)

pub returns-in_err-t : goal.returns-in_err-t
returns-in_err-t c =
    let p = err_from_is_err_and c.from_residual-in_err-t.result c.from_residual-in_err-t.ensures.1 in
    rw (p.1, p.2) (proc-stop-2 c.b_at-heading.result c.b_at-heading.ensures c.enter_procedure-up.ensures c.head.ensures _
    c.in_ok-head.was c.body.ensures _ c.in_err-t.was)

pub returns-in_err-head : goal.returns-in_err-head
returns-in_err-head c =
    let p = err_from_is_err_and c.from_residual.result c.from_residual.ensures.1 in
    rw (p.1, p.2) (proc-stop c.b_at-heading.result c.b_at-heading.ensures c.enter_procedure-up.ensures c.head.ensures _ c.in_err-head.was)
