-- `machine_run::dispatch::call` meets its contract.
use Rattle.machine_run.proofs.OpAsks.{asks-call}
use native.Mathlib.Omega.{arith}
use mathlib.Core.Path.{refl}
use Rattle.machine_run.proofs.dispatch.call.Goals as goal

pub body_at-q-requires : goal.body_at-q-requires
body_at-q-requires c =
    (c.requires.1, (asks-call c.requires.2 refl).0)

pub overflow_cast-b-2 : goal.overflow_cast-b-2
overflow_cast-b-2 c =
    omega (arith, (asks-call c.requires.2 refl).1)

pub op_call-requires : goal.op_call-requires
op_call-requires c =
    let A = asks-call c.requires.2 refl in let B = A.2 _ c.body_at-q.ensures in (c.requires.0, c.body_at-q.ensures.is, A.0, B.0, B.1)

pub returns : goal.returns
returns c = c.op_call.ensures
