-- `load_records::no_mark` meets its contract, a law for each exit.
use native.Mathlib.Omega.{arith}
use mathlib.Core.Path.{sym, ◌∙◌}
use Rattle.load_records.proofs.Tests.{cut, whole}
use Rattle.load_records.proofs.no_mark.Goals as goal

pub returns-then-code-place : goal.returns-then-code-place
returns-then-code-place c = sym (cut _ _ _ _ _ (omega arith))

pub returns : goal.returns
returns c = c.unmarked.ensures ∙ sym (whole _ _ _ _ _ (omega arith))
