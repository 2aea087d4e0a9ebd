-- `machine_run::aside::follows` meets its contract.
use Rattle.logic.specs.Tests.{never}
use Rattle.machine_run.proofs.aside.follows.Goals as goal

pub returns-then-code-place-ne-OP_OPERATOR : goal.returns-then-code-place-ne-OP_OPERATOR
returns-then-code-place-ne-OP_OPERATOR c = λ h. never h

pub returns-then-code-place-ge-UNARY : goal.returns-then-code-place-ge-UNARY
returns-then-code-place-ge-UNARY c = λ h. never h
