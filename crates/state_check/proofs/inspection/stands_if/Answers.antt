-- `state_check::inspection::stands_if` meets its contract.
use mathlib.Core.Path.{sym, ◌∙◌}
use Rattle.state_sound.specs.Fits.{address_in}
use borrow.Author.Tests.{eq-eqb, ne_eqb}
use Rattle.state_check.proofs.inspection.stands_if.Goals as goal

pub returns-then-a-address : goal.returns-then-a-address
returns-then-a-address c =
    rw (ne_eqb (address_in c.args.of.now.state.now c.args.k) c.args.address (λ z. c.if-a-address.true (c.half_at-a.ensures.0 ∙ z)))

pub returns : goal.returns
returns c =
    rw (eq-eqb (address_in c.args.of.now.state.now c.args.k) c.args.address (sym c.half_at-a.ensures.0 ∙ c.if-a-address.false)) c.stands_at.ensures
