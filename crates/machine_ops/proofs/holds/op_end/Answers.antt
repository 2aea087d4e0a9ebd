-- `machine_ops::holds::op_end` meets its contract.
use Rattle.machine_ops.proofs.JumpEventOps.{end-tells}
use Rattle.machine_ops.proofs.holds.op_end.Goals as goal

pub returns : goal.returns
returns c = end-tells _ c.finish.ensures
