-- `load_records::read_end` meets its contract, a law for each exit.
use mathlib.Core.Path.{sym, ◌∙◌}
use Rattle.load_records.proofs.Tests as law
use Rattle.load_records.proofs.read_end.Goals as goal

pub returns-then-no_mark : goal.returns-then-no_mark
returns-then-no_mark c = sym (law.end-1 _ _ _ (sym c.no_mark.ensures ∙ c.if-no_mark.true))

pub returns-then-code-place : goal.returns-then-code-place
returns-then-code-place c = sym (law.end-2 _ _ _ (sym c.no_mark.ensures ∙ c.if-no_mark.false) c.if-code-place.true)

pub returns-else-code-place : goal.returns-else-code-place
returns-else-code-place c = sym (law.end-3 _ _ _ (sym c.no_mark.ensures ∙ c.if-no_mark.false) c.if-code-place.false)
