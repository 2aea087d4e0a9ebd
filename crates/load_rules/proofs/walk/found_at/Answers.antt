-- `load_rules::walk::found_at` meets its contract.
use native.Mathlib.Omega.{arith}
use mathlib.Core.Path.{◌∙◌}
use Rattle.load_rules.proofs.Addresses.{meet-none, found-is}
use Rattle.load_rules.proofs.ShapeSearch.{next_here, next-stands, next-absent}
use Rattle.load_rules.proofs.walk.found_at.Goals as goal

pub returns-then-next-address : goal.returns-then-next-address
returns-then-next-address c = (
  meet-none _ _ ∙ found-is _ _ _ c.requires.1.is _ _ c.open_body-o.ensures.0 0 (next-absent _ c.requires.0.well _ _ c.requires.2 c.if-next-address.true),
  c.open_body-o.ensures.1,
)

pub meet_shape-requires : goal.meet_shape-requires
meet_shape-requires c =
    let w = c.requires.0.well in
    let n = next-stands _ w _ _ c.requires.2 in
    (n, (next_here _ w _ _ c.requires.2 c.if-next-address.false (omega (arith, c.requires.5))).inside n, c.requires.3, c.open_body-o.ensures.1)

pub returns : goal.returns
returns c = (
  c.meet_shape.ensures.0 ∙ found-is _ _ _ c.requires.1.is _ _ c.open_body-o.ensures.0 _
      (next_here _ c.requires.0.well _ _ c.requires.2 c.if-next-address.false (omega (arith, c.requires.5))).is,
  c.meet_shape.ensures.1,
)
