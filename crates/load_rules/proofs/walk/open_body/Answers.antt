-- `load_rules::walk::open_body` meets its contract.
use native.Mathlib.Omega.{arith}
use mathlib.Core.Path.{sym, ◌∙◌}
use Rattle.load_rules.proofs.Addresses.{opens-other, opens-cells, opens_plain, opens-odd}
use Rattle.load_rules.proofs.walk.open_body.Goals as goal

pub returns-then-within-address : goal.returns-then-within-address
returns-then-within-address c =
    (opens-other _ _ _ _ _ c.requires.1.from c.if-within-address.true, c.requires.2)

pub returns-then-c-gt-MAX_CELLS : goal.returns-then-c-gt-MAX_CELLS
returns-then-c-gt-MAX_CELLS c =
    (opens-cells _ _ _ _ _ c.requires.1.from c.if-within-address.false _ c.body_at-q.ensures.is (omega arith), tt)

pub returns-then-is_plain : goal.returns-then-is_plain
returns-then-is_plain c = (
  opens_plain _ _ _ _ _ c.requires.1.from c.if-within-address.false _ c.body_at-q.ensures.is (omega arith) _
      c.byte_at-x.ensures.0 _ c.byte_at-y.ensures.0 (sym c.is_plain.ensures ∙ c.if-is_plain.true) _,
  (omega arith, omega arith),
)

pub returns-else-is_plain : goal.returns-else-is_plain
returns-else-is_plain c = (
  opens-odd _ _ _ _ _ c.requires.1.from c.if-within-address.false _ c.body_at-q.ensures.is (omega arith) _
      c.byte_at-x.ensures.0 _ c.byte_at-y.ensures.0 (sym c.is_plain.ensures ∙ c.if-is_plain.false),
  tt,
)
