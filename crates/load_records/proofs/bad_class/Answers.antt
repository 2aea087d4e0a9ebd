-- `load_records::bad_class` meets its contract, a law for each exit.
use native.Mathlib.Omega.{arith}
use mathlib.Core.Path.{sym, ◌∙◌}
use Rattle.load_records.proofs.Tests as law
use Rattle.load_records.proofs.bad_class.Goals as goal

pub returns-then-not-typed_fits : goal.returns-then-not-typed_fits
returns-then-not-typed_fits c = λ k e. sym (law.class-1 _ _ k e (sym c.typed_fits.ensures ∙ c.if-not-typed_fits.true))

pub byte_at-fields-requires : goal.byte_at-fields-requires
byte_at-fields-requires c = let h = law.typed-room _ _ _ _ _ _ (sym c.typed_fits.ensures ∙ c.if-not-typed_fits.false) in omega arith

pub returns-then-fields-lt1 : goal.returns-then-fields-lt1
returns-then-fields-lt1 c = λ k e. sym (law.class-2 _ _ k e (sym c.typed_fits.ensures ∙ c.if-not-typed_fits.false) (omega arith))

pub returns : goal.returns
returns c =
    λ k e. rw c.byte_at-fields.ensures.0 (sym (law.class-3 _ _ k e (sym c.typed_fits.ensures ∙ c.if-not-typed_fits.false) (omega arith)))
