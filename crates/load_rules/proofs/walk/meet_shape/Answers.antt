-- `load_rules::walk::meet_shape` meets its contract.
use native.Mathlib.Omega.{arith}
use mathlib.Core.Path.{sym, ap, ◌∙◌}
use Rattle.load_rules.specs.Moves.{flow_of}
use Rattle.load_rules.proofs.Chains.{fit-goes}
use Rattle.load_rules.proofs.Addresses.{meet-holds, meet-depth, meet-same, meet-other, meet-load, meet-bad}
use Rattle.load_rules.proofs.walk.meet_shape.Goals as goal

pub returns-then-h-gt-MAX_HOLDS : goal.returns-then-h-gt-MAX_HOLDS
returns-then-h-gt-MAX_HOLDS c = (meet-holds _ _ _ c.requires.0 (omega arith), tt)

pub returns-then-d-gt-MAX_OPERANDS : goal.returns-then-d-gt-MAX_OPERANDS
returns-then-d-gt-MAX_OPERANDS c = (meet-depth _ _ _ c.requires.0 (omega arith) (omega arith), tt)

pub returns-then-equal_shape : goal.returns-then-equal_shape
returns-then-equal_shape c = (
  meet-same _ _ _ c.requires.0 (omega arith) (omega arith) _ _ (ap (λ x. flow_of x c.args.stack.now) c.in-Goes.is)
      (sym c.equal_shape.ensures ∙ c.if-equal_shape.true),
  fit-goes _ _ _ c.requires.3 c.in-Goes.is,
)

pub returns-else-equal_shape : goal.returns-else-equal_shape
returns-else-equal_shape c = (
  meet-other _ _ _ c.requires.0 (omega arith) (omega arith) _ _ (ap (λ x. flow_of x c.args.stack.now) c.in-Goes.is)
      (sym c.equal_shape.ensures ∙ c.if-equal_shape.false),
  tt,
)

pub returns-in-Ends : goal.returns-in-Ends
returns-in-Ends c = (
  meet-load _ _ _ c.requires.0 (omega arith) (omega arith) (ap (λ x. flow_of x c.args.stack.now) c.in-Ends.is) _ _ _
      c.byte_at-h.ensures.0 c.byte_at-d.ensures.0 c.load_types.ensures,
  (omega arith, omega arith),
)

pub returns-in-Bad : goal.returns-in-Bad
returns-in-Bad c =
    (meet-bad _ _ _ c.requires.0 (omega arith) (omega arith) (ap (λ x. flow_of x c.args.stack.now) c.in-Bad.is), tt)
