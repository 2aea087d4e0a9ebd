-- `load_records::bodies_pass` meets its contract. The loop has come to the k-th body, at p, met no bad one, holds the first address before it, and has put the places passed into the index.
use native.Mathlib.Omega.{arith}
use mathlib.Core.Path.{sym, ◌∙◌}
use lib.ListN.{length-set}
use Rattle.load_places.specs.Records.{body_place}
use Rattle.load_records.proofs.Known as known
use Rattle.load_records.proofs.Passing as law
use Rattle.load_records.proofs.bodies_pass.Goals as goal

pub returns-then-not-body_fits-clause-passes : goal.returns-then-not-body_fits-clause-passes
returns-then-not-body_fits-clause-passes c =
    let I = c.loop-k.invariant in
    law.stops I.0 (omega arith) (law.body-unfit _ _ _ I.0.stands (sym c.body_fits.ensures ∙ c.if-not-body_fits.true))

pub half_at-a-requires : goal.half_at-a-requires
half_at-a-requires c = let h = known.body-known _ _ (sym c.body_fits.ensures ∙ c.if-not-body_fits.false) in omega arith

pub returns-then-not-rises_from-clause-passes : goal.returns-then-not-rises_from-clause-passes
returns-then-not-rises_from-clause-passes c =
    let I = c.loop-k.invariant in
    law.stops I.0 (omega arith) (law.body-bad _ _ _ _ _ I.0.stands I.2 c.half_at-a.ensures.0 (sym c.body_fits.ensures ∙ c.if-not-body_fits.false)
    (sym c.rises_from.ensures ∙ c.if-not-rises_from.true))

pub byte_at-requires : goal.byte_at-requires
byte_at-requires c = let h = known.body-known _ _ (sym c.body_fits.ensures ∙ c.if-not-body_fits.false) in omega arith

pub loop-k-preserved : goal.loop-k-preserved
loop-k-preserved c =
    let loop = c.loop-k in
    let I = loop.invariant in (
      law.goes-on I.0 _ (omega arith) (law.body-good _ _ _ _ _ I.0.stands I.2 c.half_at-a.ensures.0 (sym c.body_fits.ensures ∙ c.if-not-body_fits.false)
          (sym c.rises_from.ensures ∙ c.if-not-rises_from.false)) (law.next-body _ _ _ _ I.0.stands c.byte_at.ensures.0),
      omega arith,
      law.last-first _ _ _ _ I.0.stands c.half_at-a.ensures.0,
      simp length-set I.3,
      law.placed-more (body_place c.args.of.now.code.now) loop.bodies loop.k loop.p I.0.stands (omega arith) I.4,
    )

pub returns-clause-passes : goal.returns-clause-passes
returns-clause-passes c = law.finishes c.loop-k.invariant.0 (omega arith)
