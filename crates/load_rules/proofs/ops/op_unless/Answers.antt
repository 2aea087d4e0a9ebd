-- `load_rules::ops::op_unless` meets its contract.
use mathlib.Core.Path.{sym, ◌∙◌}
use borrow.Author.Tests.{ne_eqb}
use Rattle.load_places.specs.Rules.{op_unless}
use Rattle.load_rules.proofs.Chains.{told, fit-goes}
use Rattle.load_rules.proofs.Jumps.{unless-of, unless-lands, unless-lost}
use Rattle.load_rules.proofs.ops.op_unless.Goals as goal

pub returns-then-a-ne0 : goal.returns-then-a-ne0
unfolding op_unless
returns-then-a-ne0 c = (simp (ne_eqb _ _ c.if-a-ne0.true), tt)

pub returns-then-lands_at : goal.returns-then-lands_at
returns-then-lands_at c = (
  unless-lands _ _ _ _ _ _ c.if-a-ne0.false _ _ (told c.args.stack.now c.in-Goes.is c.pop_type.ensures.0)
      (sym c.lands_at.ensures ∙ c.if-lands_at.true),
  fit-goes _ _ _ c.pop_type.ensures.1 c.in-Goes.is,
)

pub returns-else-lands_at : goal.returns-else-lands_at
returns-else-lands_at c = (
  unless-lost _ _ _ _ _ _ c.if-a-ne0.false _ _ (told c.args.stack.now c.in-Goes.is
      c.pop_type.ensures.0) (sym c.lands_at.ensures ∙ c.if-lands_at.false),
  tt,
)

pub returns-in-Ends : goal.returns-in-Ends
returns-in-Ends c =
    (unless-of _ _ _ _ _ _ c.if-a-ne0.false _ (told c.args.stack.now c.in-Ends.is c.pop_type.ensures.0), tt)

pub returns-in-Bad : goal.returns-in-Bad
returns-in-Bad c =
    (unless-of _ _ _ _ _ _ c.if-a-ne0.false _ (told c.args.stack.now c.in-Bad.is c.pop_type.ensures.0), tt)
