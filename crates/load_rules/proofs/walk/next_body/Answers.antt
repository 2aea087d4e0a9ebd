-- `load_rules::walk::next_body` meets its contract.
use native.Mathlib.Omega.{arith}
use mathlib.Core.Path.{refl}
use Rattle.load_rules.proofs.Walking.{within-last, within_same, within-next}
use Rattle.load_rules.proofs.walk.next_body.Goals as goal

pub returns-then-j-within : goal.returns-then-j-within
returns-then-j-within c =
    within_same _ _ _ c.requires.1 c.if-j-within.true

pub returns-then-m-k : goal.returns-then-m-k
returns-then-m-k c = within-last _ _ _ c.requires.1 (omega arith)

pub returns : goal.returns
returns c =
    within-next _ _ _ c.requires.1 (omega arith)
    c.if-j-within.false _ refl refl c.end_of-end.ensures
