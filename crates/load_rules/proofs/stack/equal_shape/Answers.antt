-- `load_rules::stack::equal_shape` meets its contract.
use native.Mathlib.Omega.{arith}
use mathlib.Core.Path.{sym, ◌∙◌}
use Rattle.load_rules.proofs.RecordTypes.{equals-holds, equals-depth, equals-types}
use Rattle.load_rules.proofs.stack.equal_shape.Goals as goal

pub returns-then-holds-g : goal.returns-then-holds-g
returns-then-holds-g c = sym (equals-holds _ _ _ _ _ (λ z. c.if-holds-g.true (omega arith)))

pub returns-then-depth-e : goal.returns-then-depth-e
returns-then-depth-e c = sym (equals-depth _ _ _ _ _ (omega arith) (λ z. c.if-depth-e.true (omega arith)))

pub returns : goal.returns
returns c = c.same_types.ensures ∙ sym (equals-types _ _ _ _ _ (omega arith) (omega arith))
