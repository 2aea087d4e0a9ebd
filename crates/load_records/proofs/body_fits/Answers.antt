-- `load_records::body_fits` meets its contract, a law for each exit.
use native.Mathlib.Omega.{arith}
use mathlib.Core.Path.{sym, ◌∙◌}
use Rattle.load_records.proofs.Tests as law
use Rattle.load_records.proofs.body_fits.Goals as goal

pub returns-then-not-typed_fits : goal.returns-then-not-typed_fits
returns-then-not-typed_fits c = sym (law.body-1 _ _ (sym c.typed_fits.ensures ∙ c.if-not-typed_fits.true))

pub byte_at-requires : goal.byte_at-requires
byte_at-requires c = let h = law.typed-room _ _ _ _ _ _ (sym c.typed_fits.ensures ∙ c.if-not-typed_fits.false) in omega arith

pub returns-then-not-result_fits : goal.returns-then-not-result_fits
returns-then-not-result_fits c =
    sym (law.body-2 _ _ (sym c.typed_fits.ensures ∙ c.if-not-typed_fits.false)
    (rw (c.byte_at.ensures.0, c.args.of.now.of_classes) at (sym c.result_fits.ensures ∙ c.if-not-result_fits.true)))

pub byte_at-cells-requires : goal.byte_at-cells-requires
byte_at-cells-requires c = let h = law.typed-room _ _ _ _ _ _ (sym c.typed_fits.ensures ∙ c.if-not-typed_fits.false) in omega arith

pub byte_at-requires-2 : goal.byte_at-requires-2
byte_at-requires-2 c = let h = law.typed-room _ _ _ _ _ _ (sym c.typed_fits.ensures ∙ c.if-not-typed_fits.false) in omega arith

pub returns-then-cells-byte_at : goal.returns-then-cells-byte_at
returns-then-cells-byte_at c =
    sym (law.body-3 _ _ (sym c.typed_fits.ensures ∙ c.if-not-typed_fits.false)
    (rw (c.byte_at.ensures.0, c.args.of.now.of_classes) at (sym c.result_fits.ensures ∙ c.if-not-result_fits.false)) (omega arith))

pub half_at-requires : goal.half_at-requires
half_at-requires c = let h = law.typed-room _ _ _ _ _ _ (sym c.typed_fits.ensures ∙ c.if-not-typed_fits.false) in omega arith

pub returns : goal.returns
returns c =
    rw (c.half_at.ensures.0, c.args.of.now.of_code) (sym (law.body-4 _ _ (sym c.typed_fits.ensures ∙ c.if-not-typed_fits.false)
    (rw (c.byte_at.ensures.0, c.args.of.now.of_classes) at (sym c.result_fits.ensures ∙ c.if-not-result_fits.false)) (omega arith)))
