-- The loop's invariant, NumbersSoFar: the numbers of the declarations that are left, put after what is written, are all numbers (specs/Whole).
use native.Mathlib.Nat.{sub-zero}
use Prim.Native.Nat.{◌+◌, ◌-◌}
use mathlib.Core.Path.{◌≡◌, sym, ◌∙◌, ap, refl}
use native.Mathlib.Omega.{arith}
use lib.ListN.{length}
use lib.Seq.{length-sets}
use Rattle.compile_symbols.specs.Whole.{numbers-start, numbers-within, numbers-next, numbers-end}
use Rattle.compile_symbols.specs.Tabled.{entries-few, headed, the-tree}
use Rattle.compile_symbols.proofs.number_all.Goals as goal

pub loop-i-init : goal.loop-i-init
loop-i-init c = rw (sub-zero c.args.count) (numbers-start _ _ (headed c.requires.0) refl refl refl)

pub number_global-requires : goal.number_global-requires
number_global-requires c =
    let h = headed c.requires.0 in let s = c.loop-i.invariant in
    let w = numbers-within (headed c.requires.0).tabled c.loop-i.invariant (omega arith) in
    let e = entries-few h.tabled in (
      h,
      w,
      omega (arith, s.long, c.requires.1),
      omega (arith, s.few-cells, w.within),
      omega (arith, s.few-classes, w.within),
      omega (arith, s.few-bodies, w.within),
    )

pub kind_at-requires : goal.kind_at-requires
kind_at-requires c =
    let w = numbers-within (headed c.requires.0).tabled c.loop-i.invariant (omega arith) in omega (arith, w.some, w.within)

pub counted-n-requires : goal.counted-n-requires
counted-n-requires c =
    let h = headed c.requires.0 in let s = c.loop-i.invariant in
    let w = numbers-within (headed c.requires.0).tabled c.loop-i.invariant (omega arith) in
    let e = entries-few h.tabled in (omega (arith, s.few-cells, w.within), omega (arith, s.few-classes, w.within), omega (arith, s.few-bodies, w.within))

pub size_at-place-requires : goal.size_at-place-requires
size_at-place-requires c =
    let w = numbers-within (headed c.requires.0).tabled c.loop-i.invariant (omega arith) in omega (arith, w.some, w.within, w.wide)

pub overflow_add-place : goal.overflow_add-place
overflow_add-place c =
    let w = numbers-within (headed c.requires.0).tabled c.loop-i.invariant (omega arith) in
    omega (arith, w.within, c.size_at-place.ensures, entries-few (headed c.requires.0).tabled)

pub loop-i-preserved : goal.loop-i-preserved
loop-i-preserved c =
    let fewer : c.args.count - (c.loop-i.i + 1) ≡ c.args.count - c.loop-i.i - 1 = omega arith in
    rw fewer (numbers-next (headed c.requires.0).tabled c.loop-i.invariant c.number_global.ensures
    (rw (sym c.kind_at.ensures) c.counted-n.ensures) c.size_at-place.ensures (omega arith))

pub number_cells-requires : goal.number_cells-requires
number_cells-requires c =
    let h = headed c.requires.0 in let s = c.loop-i.invariant in
    (h, s.most, omega arith, omega (arith, s.long, c.requires.1), omega arith, s.few-cells)

pub shape_of-known : goal.shape_of-known
shape_of-known c =
    ap length c.number_cells.ensures ∙ (simp length-sets c.loop-i.invariant.long)

pub returns : goal.returns
returns c =
    λ t q. rw (sym (the-tree t q)) (numbers-end (headed c.requires.0).tabled
    c.loop-i.invariant (omega arith) c.number_cells.ensures)
