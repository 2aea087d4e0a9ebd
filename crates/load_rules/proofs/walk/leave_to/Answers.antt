-- `load_rules::walk::leave_to` meets its contract.
use native.Mathlib.Omega.{arith}
use mathlib.Core.Path.{ap}
use Rattle.load_rules.specs.Moves.{flow_of}
use Rattle.load_rules.proofs.Chains.{fit-goes}
use Rattle.load_rules.proofs.Addresses.{leave-out, leave-on, leave-end, leave-lost, leave-met, leave-bad}
use Rattle.load_rules.proofs.ShapeSearch.{next_here, next-stands, next-absent}
use Rattle.load_rules.proofs.walk.leave_to.Goals as goal

pub returns-then-j-within-2 : goal.returns-then-j-within-2
returns-then-j-within-2 c =
    (leave-end _ _ _ _ _ c.requires.1.upto (ap (λ x. flow_of x c.args.stack.now) c.in-Ends.is) c.if-j-within-2.true, tt)

pub returns-then-j-within : goal.returns-then-j-within
returns-then-j-within c =
    (leave-out _ _ _ _ _ c.requires.1.upto _ _ (ap (λ x. flow_of x c.args.stack.now) c.in-Goes.is) c.if-j-within.true, tt)

pub returns-else-j-within : goal.returns-else-j-within
returns-else-j-within c = (
  leave-on _ _ _ _ _ c.requires.1.upto _ _ (ap (λ x. flow_of x c.args.stack.now) c.in-Goes.is) c.if-j-within.false,
  fit-goes _ _ _ c.requires.4 c.in-Goes.is,
)

pub returns-then-next-j : goal.returns-then-next-j
returns-then-next-j c = (
  leave-met _ _ _ _ _ c.requires.1.upto (ap (λ x. flow_of x c.args.stack.now) c.in-Ends.is) c.if-j-within-2.false _
      (next_here _ c.requires.0 _ _ c.requires.2 c.if-next-j.true (omega (arith, c.requires.3))).is (next-stands _ c.requires.0 _ _ c.requires.2),
  tt,
)

pub returns-else-next-j : goal.returns-else-next-j
returns-else-next-j c = (
  leave-lost _ _ _ _ _ c.requires.1.upto (ap (λ x. flow_of x c.args.stack.now) c.in-Ends.is) c.if-j-within-2.false
      (next-absent _ c.requires.0 _ _ c.requires.2 c.if-next-j.false),
  tt,
)

pub returns-in-Bad : goal.returns-in-Bad
returns-in-Bad c =
    (leave-bad _ _ _ _ _ c.requires.1.upto (ap (λ x. flow_of x c.args.stack.now) c.in-Bad.is), tt)
