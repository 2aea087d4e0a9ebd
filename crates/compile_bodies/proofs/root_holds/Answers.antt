-- `root_holds`: what is counted, with the holds of what is left, are all (crates/compile_whole/specs/Declares).
use native.Mathlib.Omega.{arith}
use Prim.Native.Nat.{◌+◌, ◌-◌}
use mathlib.Core.Path.{◌≡◌, refl, ap, ◌∙◌}
use Rattle.compile_emit.specs.EmitEntry.{holds_by}
use Rattle.compile_whole.specs.Declares.{holds-start, holds-within, holds-few, holds-next, holds-end}
use Rattle.compile_bodies.proofs.root_holds.Goals as goal

pub loop-i-init : goal.loop-i-init
loop-i-init c =
    let e : c.args.count - 0 ≡ c.args.count = omega arith in
    rw e (holds-start c.requires)

pub kind_at-requires : goal.kind_at-requires
kind_at-requires c = let w = holds-within c.requires.tabled c.loop-i.invariant (omega arith) in omega (arith, w.some, w.within)

pub overflow_add-n : goal.overflow_add-n
overflow_add-n c =
    let w = holds-within c.requires.tabled c.loop-i.invariant (omega arith) in
    let h = holds-few c.requires.tabled c.loop-i.invariant _ _ (omega arith)
    (c.holds_by-n.ensures ∙ ap holds_by c.kind_at.ensures) refl in
    omega (arith, w.within, h, c.requires.tabled.legible.short)

pub size_at-place-requires : goal.size_at-place-requires
size_at-place-requires c =
    let w = holds-within c.requires.tabled c.loop-i.invariant (omega arith) in
    omega (arith, w.some, w.within, w.wide)

pub overflow_add-place : goal.overflow_add-place
overflow_add-place c =
    let w = holds-within c.requires.tabled c.loop-i.invariant
    (omega arith) in omega (arith, w.within, c.size_at-place.ensures, c.requires.tabled.legible.short)

pub loop-i-preserved : goal.loop-i-preserved
loop-i-preserved c =
    let e : c.args.count - (c.loop-i.i + 1) ≡ c.args.count - c.loop-i.i - 1 = omega arith in
    rw e (holds-next c.requires.tabled c.loop-i.invariant
    c.holds_by-n.result c.size_at-place.result (omega arith) (c.holds_by-n.ensures ∙ ap holds_by c.kind_at.ensures)
    c.size_at-place.ensures)

pub returns : goal.returns
returns c = holds-end c.requires.tabled c.loop-i.invariant (omega arith)
