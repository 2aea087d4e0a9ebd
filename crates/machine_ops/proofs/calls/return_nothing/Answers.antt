-- `machine_ops::calls::return_nothing` meets its contract.
use Rattle.machine_ops.proofs.CallRecordOps.{return-none}
use mathlib.Core.Path.{refl}
use Rattle.machine_ops.proofs.calls.return_nothing.Goals as goal

pub returns : goal.returns
returns c =
    return-none _ _ c.requires.1 refl c.half_at-a.ensures _ _ c.requires.2 c.leave.ensures c.go_to.ensures
