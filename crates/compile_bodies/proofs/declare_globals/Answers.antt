-- `declare_globals`: whatever finishes the declarations that are left finishes the whole (crates/compile_whole/specs/Declares).
use native.Mathlib.Omega.{arith}
use Prim.Native.Nat.{◌+◌, ◌-◌}
use mathlib.Core.Path.{◌≡◌}
use Rattle.compile_whole.specs.Declares.{head-start, head-within, head-part, head-fits, head-again, head-end, same_out}
use Rattle.compile_bodies.proofs.declare_globals.Goals as goal

pub loop-i-init : goal.loop-i-init
loop-i-init c =
    let e : c.args.count - 0 ≡ c.args.count = omega arith in
    rw e (head-start c.args.out.now c.args.cursor c.requires.0 c.requires.1)

pub overflow_mul-from : goal.overflow_mul-from
overflow_mul-from c =
    omega (
      arith,
      (head-within c.requires.0 c.loop-i.invariant (omega arith)).within,
      c.requires.0.tabled.legible.short,
    )

pub slice_bounds-declare_one-count : goal.slice_bounds-declare_one-count
slice_bounds-declare_one-count c = omega (arith, (head-within c.requires.0 c.loop-i.invariant (omega arith)).within)

pub slice_bounds-declare_one-start : goal.slice_bounds-declare_one-start
slice_bounds-declare_one-start c = omega (arith, (head-within c.requires.0 c.loop-i.invariant (omega arith)).within)

pub declare_one-p-requires : goal.declare_one-p-requires
declare_one-p-requires c = (
  head-part c.requires.0 c.loop-i.invariant
      (omega arith),
  head-fits c.requires.0
      c.loop-i.invariant (omega arith) c.requires.2,
)

pub size_at-place-requires : goal.size_at-place-requires
size_at-place-requires c =
    let w = head-within c.requires.0
    c.loop-i.invariant (omega arith) in omega (arith, w.some, w.within, w.wide)

pub overflow_add-place : goal.overflow_add-place
overflow_add-place c =
    let w = head-within c.requires.0
    c.loop-i.invariant (omega arith) in
    omega (arith, w.within, c.size_at-place.ensures, c.requires.0.tabled.legible.short)

pub loop-i-preserved : goal.loop-i-preserved
loop-i-preserved c =
    let e : c.args.count - (c.loop-i.i + 1) ≡ c.args.count - c.loop-i.i - 1 = omega arith in
    rw e (head-again c.requires.0
    c.loop-i.invariant (omega arith)
    c.known_at-k.result c.size_at-place.result _ _
    c.known_at-k.ensures c.size_at-place.ensures c.declare_one-p.ensures)

pub shape_of-out : goal.shape_of-out
shape_of-out c =
    same_out c.requires.0 c.loop-i.invariant

pub returns : goal.returns
returns c = head-end c.requires.0 c.loop-i.invariant (omega arith)
