-- `machine_ops::holds::op_hold` meets its contract.
use Rattle.machine_ops.proofs.JumpEventOps.{hold-tells}
use Rattle.machine_ops.proofs.holds.op_hold.Goals as goal

pub returns : goal.returns
returns c =
    hold-tells c.args.g _ _ c.requires.1 c.take_hold.ensures c.go_to.ensures
