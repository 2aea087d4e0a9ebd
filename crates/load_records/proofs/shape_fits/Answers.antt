-- `load_records::shape_fits` meets its contract, a law for each exit.
use native.Mathlib.Omega.{arith}
use mathlib.Core.Path.{sym, ◌∙◌}
use Rattle.load_records.proofs.Tests as law
use Rattle.load_records.proofs.shape_fits.Goals as goal

pub returns-then-not-typed_fits : goal.returns-then-not-typed_fits
returns-then-not-typed_fits c = sym (law.shape-1 _ _ (sym c.typed_fits.ensures ∙ c.if-not-typed_fits.true))

pub half_at-requires : goal.half_at-requires
half_at-requires c = let h = law.typed-room _ _ _ _ _ _ (sym c.typed_fits.ensures ∙ c.if-not-typed_fits.false) in omega arith

pub returns : goal.returns
returns c = rw (c.half_at.ensures.0, c.args.of.now.of_code) (sym (law.shape-2 _ _ (sym c.typed_fits.ensures ∙ c.if-not-typed_fits.false)))
