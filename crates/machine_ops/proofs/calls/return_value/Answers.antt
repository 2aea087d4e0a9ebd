-- `machine_ops::calls::return_value` meets its contract.
use Rattle.machine_ops.proofs.CallRecordOps.{return-one}
use mathlib.Core.Path.{refl}
use Rattle.machine_ops.proofs.calls.return_value.Goals as goal

pub returns : goal.returns
returns c =
    return-one _ _ c.requires.1 refl c.half_at-a.ensures _ _ _ _ _ _ c.requires.2 c.operand_word-w.ensures
    c.operand_type-t.ensures c.pop.ensures c.leave.ensures (rw c.wide-d.ensures.0 at c.push.ensures)
    c.go_to.ensures
