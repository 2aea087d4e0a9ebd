-- `table_names::faults::globals` meets its contract.
use native.Mathlib.Omega.{arith}
use mathlib.Core.Path.{refl}
use Rattle.std.proofs.lemmas.Result.{err_from_is_err_and}
use Rattle.table_forms.specs.Tables.{globals-start, globals-asks, globals-passes, globals-next, globals-stop, globals-end}
use Rattle.table_names.proofs.faults.globals.Goals as goal

pub loop-left-init : goal.loop-left-init
loop-left-init c =
    globals-start c.args.table.now c.args.count c.args.sizes.now c.args.env.now c.args.top

pub overflow_mul-from : goal.overflow_mul-from
overflow_mul-from c = omega (arith, (globals-passes c.loop-left.invariant (omega arith) c.requires _ refl).start)

pub slice_bounds-global-count : goal.slice_bounds-global-count
slice_bounds-global-count c = (globals-passes c.loop-left.invariant (omega arith) c.requires _ refl).start

pub slice_bounds-global-start : goal.slice_bounds-global-start
slice_bounds-global-start c = (globals-passes c.loop-left.invariant (omega arith) c.requires _ refl).start

pub global-requires : goal.global-requires
global-requires c = globals-asks c.loop-left.invariant (omega arith) c.requires

pub size_at-place-requires : goal.size_at-place-requires
size_at-place-requires c =
    (globals-passes c.loop-left.invariant (omega arith)
    c.requires _ refl).known

pub overflow_add-place : goal.overflow_add-place
overflow_add-place c =
    omega (
      arith,
      (globals-passes c.loop-left.invariant (omega arith)
          c.requires c.size_at-place.result c.size_at-place.ensures).small,
    )

pub loop-left-preserved : goal.loop-left-preserved
loop-left-preserved c =
    globals-next c.loop-left.invariant (omega arith) _ c.size_at-place.result
    c.global.ensures c.in_ok-global.was c.size_at-place.ensures

pub returns-in_err-global : goal.returns-in_err-global
returns-in_err-global c =
    let p = err_from_is_err_and c.from_residual.result c.from_residual.ensures.1 in
    rw (p.1, p.2) (globals-stop c.loop-left.invariant (omega arith) _
    c.global.ensures c.in_err-global.was)

pub returns : goal.returns
returns c = globals-end c.loop-left.invariant (omega arith)
