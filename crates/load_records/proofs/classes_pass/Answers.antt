-- `load_records::classes_pass` meets its contract. The loop has come to the k-th class, at p, met no bad one, and put the places passed into the index.
use native.Mathlib.Omega.{arith}
use mathlib.Core.Path.{refl, sym, ◌∙◌}
use lib.ListN.{length-set}
use Rattle.load_places.specs.Records.{class_place}
use Rattle.load_records.proofs.Known as known
use Rattle.load_records.proofs.Passing as law
use Rattle.load_records.proofs.classes_pass.Goals as goal

pub loop-k-init : goal.loop-k-init
loop-k-init c = (law.starts _ (law.class-start _), omega arith, refl, (λ j h. absurd (omega arith)))

pub returns-then-bad_class-clause-passes : goal.returns-then-bad_class-clause-passes
returns-then-bad_class-clause-passes c =
    let I = c.loop-k.invariant in
    law.stops I.0 (omega arith) (sym (c.bad_class.ensures _ I.0.stands) ∙ c.if-bad_class.true)

pub byte_at-requires : goal.byte_at-requires
byte_at-requires c =
    let e = c.loop-k.invariant.0.stands in
    let h = known.class-known _ _ (sym (c.bad_class.ensures _ e) ∙ c.if-bad_class.false) in
    omega arith

pub loop-k-preserved : goal.loop-k-preserved
loop-k-preserved c =
    let loop = c.loop-k in
    let I = loop.invariant in (
      law.goes-on I.0 _ (omega arith) (sym (c.bad_class.ensures _ I.0.stands) ∙ c.if-bad_class.false) (law.next-class _ _ _ _ I.0.stands c.byte_at.ensures.0),
      omega arith,
      simp length-set I.2,
      law.placed-more (class_place c.args.of.now.code.now) loop.classes loop.k loop.p I.0.stands (omega arith) I.3,
    )

pub returns-clause-passes : goal.returns-clause-passes
returns-clause-passes c = law.finishes c.loop-k.invariant.0 (omega arith)
