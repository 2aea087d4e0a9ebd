-- `load_records::rises_from` meets its contract.
use mathlib.Core.Path.{sym}
use Rattle.load_records.proofs.Tests as law
use Rattle.load_records.proofs.rises_from.Goals as goal

pub returns-then-k-eq0 : goal.returns-then-k-eq0
returns-then-k-eq0 c = sym (law.rises-zero _ _ _ c.if-k-eq0.true)

pub returns : goal.returns
returns c = sym (law.rises-more _ _ _ c.if-k-eq0.false)
