-- `load_rules::stack::push_type` meets its contract.
use native.Mathlib.Omega.{arith}
use mathlib.Core.Path.{sym}
use Rattle.load_rules.proofs.TypeStack.{push-over, push-fits}
use Rattle.load_rules.proofs.stack.push_type.Goals as goal

pub returns-then-depth-ge-MAX_OPERANDS : goal.returns-then-depth-ge-MAX_OPERANDS
returns-then-depth-ge-MAX_OPERANDS c = (sym (push-over _ _ _ _ (omega arith)), tt)

pub returns : goal.returns
returns c = (push-fits _ _ _ _ (omega arith) (omega arith), (omega arith, omega arith))
