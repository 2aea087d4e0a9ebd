-- `machine_ops::calls::op_call` meets its contract.
use Rattle.machine_ops.proofs.CallRecordOps.{call_enters, call-full}
use native.Mathlib.Omega.{arith}
use Rattle.machine_ops.proofs.calls.op_call.Goals as goal

pub returns-then-state-lt-FULL : goal.returns-then-state-lt-FULL
returns-then-state-lt-FULL c =
    call_enters c.args.code.now c.args.place c.args.body c.requires.1 c.requires.2 _
    (c.requires.4 (omega arith)) c.enter_body.ensures

pub returns : goal.returns
returns c =
    call-full c.args.code.now c.args.place c.args.body c.requires.1 c.requires.2 _ _ c.requires.3
    (omega arith) c.op_condition.ensures
