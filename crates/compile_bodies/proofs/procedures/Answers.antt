-- `compile_bodies::procedures` meets its contract.
-- `procedures`: whatever finishes the declarations that are left finishes the whole (crates/compile_whole/specs/Loop).
use native.Mathlib.Omega.{arith}
use Prim.Native.Nat.{◌+◌, ◌-◌}
use Rattle.std.proofs.Common.{rules}
use mathlib.Core.Path.{◌≡◌}
use Rattle.compile_whole.specs.Loop.{procs-start, procs-within, procs-asks, procs-next, procs-end}
use Rattle.compile_bodies.proofs.procedures.Goals as goal

pub loop-i-init : goal.loop-i-init
loop-i-init c =
    let e : c.args.count - 0 ≡ c.args.count = omega arith in
    record { same = search rules; far = rw e (procs-start c.requires) }

pub overflow_mul-from : goal.overflow_mul-from
overflow_mul-from c =
    omega (
      arith,
      (procs-within c.requires c.loop-i.invariant.far
          (omega arith)).within,
      c.requires.stage.prepared.tabled.legible.short,
    )

pub slice_bounds-global-count : goal.slice_bounds-global-count
slice_bounds-global-count c = omega (arith, (procs-within c.requires c.loop-i.invariant.far (omega arith)).within)

pub slice_bounds-global-start : goal.slice_bounds-global-start
slice_bounds-global-start c = omega (arith, (procs-within c.requires c.loop-i.invariant.far (omega arith)).within)

pub global-p-requires : goal.global-p-requires
global-p-requires c =
    procs-asks c.requires
    c.loop-i.invariant.far (omega arith)

pub size_at-place-requires : goal.size_at-place-requires
size_at-place-requires c =
    let w = procs-within c.requires c.loop-i.invariant.far (omega arith) in
    omega (arith, w.some, w.within, w.wide)

pub overflow_add-place : goal.overflow_add-place
overflow_add-place c =
    let w = procs-within c.requires c.loop-i.invariant.far (omega arith) in
    omega (arith, w.within, c.size_at-place.ensures, c.requires.stage.prepared.tabled.legible.short)

pub loop-i-preserved : goal.loop-i-preserved
loop-i-preserved c =
    let e : c.args.count - (c.loop-i.i + 1) ≡ c.args.count - c.loop-i.i - 1 = omega arith in
    record { same = search rules; far = rw e (procs-next c.requires c.loop-i.invariant.far (omega arith) c.size_at-place.result c.global-p.ensures.answers c.size_at-place.ensures) }

pub returns-clause-answers : goal.returns-clause-answers
returns-clause-answers c = procs-end c.requires c.loop-i.invariant.far (omega arith)
