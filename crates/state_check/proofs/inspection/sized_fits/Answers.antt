-- `state_check::inspection::sized_fits` meets its contract.
use borrow.Author.Tests.{eq-eqb, ne_eqb}
use Rattle.state_check.proofs.inspection.sized_fits.Goals as goal

pub returns-then-state-ne-STATE_BYTES : goal.returns-then-state-ne-STATE_BYTES
returns-then-state-ne-STATE_BYTES c = rw (ne_eqb _ _ c.if-state-ne-STATE_BYTES.true)

pub returns : goal.returns
returns c = rw (eq-eqb _ _ c.if-state-ne-STATE_BYTES.false) c.plain_fits.ensures
