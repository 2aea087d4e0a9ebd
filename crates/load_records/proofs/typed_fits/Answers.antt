-- `load_records::typed_fits` meets its contract, a law for each exit.
use native.Mathlib.Omega.{arith}
use mathlib.Core.Path.{sym, ap, ◌∙◌}
use mathlib.Core.Bool.{not}
use Rattle.load_records.proofs.Tests as law
use Rattle.load_records.proofs.typed_fits.Goals as goal

pub returns-then-no_mark : goal.returns-then-no_mark
returns-then-no_mark c = sym (law.typed-1 _ _ _ _ _ _ (sym c.no_mark.ensures ∙ c.if-no_mark.true))

pub byte_at-types-requires : goal.byte_at-types-requires
byte_at-types-requires c = let h = law.room _ _ _ _ _ (sym c.no_mark.ensures ∙ c.if-no_mark.false) in omega arith

pub returns-then-code-place : goal.returns-then-code-place
returns-then-code-place c =
    sym (law.typed-2 _ _ _ _ _ _ (sym c.no_mark.ensures ∙ c.if-no_mark.false) (omega arith))

pub returns : goal.returns
returns c =
    (rw c.byte_at-types.ensures.0 at (ap not c.bad_types.ensures)) ∙ sym (law.typed-3 _ _ _ _ _ _ (sym c.no_mark.ensures ∙ c.if-no_mark.false) (omega arith))
