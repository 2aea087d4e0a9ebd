-- `load_records::shapes_pass` meets its contract. The loop has come to the k-th shape, at p, met no bad one, and put the places passed into the index, each at its address.
use native.Mathlib.Omega.{arith}
use mathlib.Core.Path.{◌≡◌, refl, sym, ◌∙◌}
use Prim.Native.Nat.{◌≤◌}
use Rattle.load_records.proofs.Known as known
use Rattle.load_records.proofs.Passing as law
use Rattle.load_records.proofs.shapes_pass.Goals as goal

pub loop-k-init : goal.loop-k-init
loop-k-init c = (law.starts _ c.requires.0, omega arith, law.least_first _, refl, c.requires.4)

pub returns-then-not-shape_fits-clause-passes : goal.returns-then-not-shape_fits-clause-passes
returns-then-not-shape_fits-clause-passes c =
    let I = c.loop-k.invariant in
    law.stops I.0 (omega arith) (law.shape-unfit _ _ _ I.0.stands (sym c.shape_fits.ensures ∙ c.if-not-shape_fits.true))

pub half_at-a-requires : goal.half_at-a-requires
half_at-a-requires c = let h = known.shape-known _ _ (sym c.shape_fits.ensures ∙ c.if-not-shape_fits.false) in omega arith

pub returns-then-a-least-clause-passes : goal.returns-then-a-least-clause-passes
returns-then-a-least-clause-passes c =
    let I = c.loop-k.invariant in
    law.stops I.0 (omega arith) (law.shape-late _ _ _ I.0.stands (sym c.shape_fits.ensures ∙ c.if-not-shape_fits.false) _ _ I.2 c.half_at-a.ensures.0 (omega arith))

pub note_shape-requires : goal.note_shape-requires
note_shape-requires c =
    let h = known.shape-known _ _ (sym c.shape_fits.ensures ∙ c.if-not-shape_fits.false) in (omega arith, omega arith, omega arith)

pub byte_at-requires : goal.byte_at-requires
byte_at-requires c = let h = known.shape-known _ _ (sym c.shape_fits.ensures ∙ c.if-not-shape_fits.false) in omega arith

pub loop-k-preserved : goal.loop-k-preserved
loop-k-preserved c =
    let loop = c.loop-k in
    let I = loop.invariant in
    let f = sym c.shape_fits.ensures ∙ c.if-not-shape_fits.false in
    let h = known.shape-known _ _ f in
    let z : loop.least ≤ c.half_at-a.result = omega arith in (
      law.goes-on I.0 _ (omega arith) (law.shape-good _ _ _ I.0.stands f _ _ I.2 c.half_at-a.ensures.0 z)
          (law.next-shape _ _ _ I.0.stands _ c.byte_at.ensures.0),
      omega arith,
      law.next-least _ _ _ I.0.stands _ c.half_at-a.ensures.0,
      c.note_shape.auto.shapes ∙ I.3,
      rw c.note_shape.ensures (law.indexed-more c.args.of.now.code.now loop.k loop.p I.0.stands loop.least c.half_at-a.result
          I.2 c.half_at-a.ensures.0 z loop.shapes c.args.of.now.instructions (omega (arith, I.3)) I.4),
    )

pub returns-clause-passes : goal.returns-clause-passes
returns-clause-passes c = law.finishes c.loop-k.invariant.0 (omega arith)

pub returns-clause-indexed : goal.returns-clause-indexed
returns-clause-indexed c = let e : c.loop-k.k ≡ c.args.total = omega arith in rw (← e) c.loop-k.invariant.4
