-- The loop's invariant, ProcsWriting: what is left to write for the procedures, and where the next one begins (specs/Globals).
use mathlib.Core.Path.{◌≡◌}
use native.Mathlib.Nat.{sub-zero}
use Prim.Native.Nat.{◌+◌, ◌-◌}
use Rattle.compile_symbols.specs.Whole.{table-some}
use mathlib.Core.Path.{refl}
use native.Mathlib.Omega.{arith}
use Rattle.compile_front.specs.Globals.{procs-start, procs-within, procs-brief, procs-room, procs-next, procs-end}
use Rattle.compile_symbols.specs.Tabled.{entries-few}
use Rattle.compile_front.proofs.put_procedures.Goals as goal

pub bounds-ends-0 : goal.bounds-ends-0
bounds-ends-0 c =
    omega (arith, table-some c.requires.0, c.requires.2.wide)

pub loop-i-init : goal.loop-i-init
loop-i-init c =
    rw (sub-zero c.args.source.now.count) (procs-start _ _ _ c.requires.0 c.requires.2 refl)

pub put_if_procedure-at-requires : goal.put_if_procedure-at-requires
put_if_procedure-at-requires c =
    let h = c.requires.0.tabled in let w = (procs-within c.requires.0.tabled c.loop-i.invariant (omega arith)) in (
      c.requires.1,
      w,
      procs-brief h c.loop-i.invariant (omega arith),
      procs-room h c.loop-i.invariant c.requires.3 (omega arith),
    )

pub next_first-first-requires : goal.next_first-first-requires
next_first-first-requires c =
    let w = (procs-within c.requires.0.tabled c.loop-i.invariant (omega arith)) in
    (omega (arith, w.some, w.within), omega (arith, w.some, w.within, c.requires.2.wide))

pub size_at-place-requires : goal.size_at-place-requires
size_at-place-requires c =
    let w = (procs-within c.requires.0.tabled c.loop-i.invariant (omega arith)) in omega (arith, w.some, w.within, w.wide)

pub overflow_add-place : goal.overflow_add-place
overflow_add-place c =
    let w = (procs-within c.requires.0.tabled c.loop-i.invariant (omega arith)) in omega (arith, w.within, c.size_at-place.ensures, entries-few c.requires.0.tabled)

pub loop-i-preserved : goal.loop-i-preserved
loop-i-preserved c =
    let fewer : c.args.source.now.count - (c.loop-i.i + 1) ≡ c.args.source.now.count - c.loop-i.i - 1 = omega arith in
    rw fewer (procs-next c.requires.0.tabled c.loop-i.invariant c.put_if_procedure-at.ensures c.next_first-first.ensures c.size_at-place.ensures (omega arith))

pub shape_of-out : goal.shape_of-out
shape_of-out c = c.loop-i.invariant.writing.long

pub returns : goal.returns
returns c = procs-end c.requires.0.tabled c.loop-i.invariant (omega arith)
