-- `machine_ops::jumps::op_go` meets its contract.
use Rattle.machine_ops.proofs.JumpEventOps.{go-tells}
use Rattle.machine_ops.proofs.jumps.op_go.Goals as goal

pub returns : goal.returns
returns c =
    go-tells c.args.b _ c.go_to.ensures
