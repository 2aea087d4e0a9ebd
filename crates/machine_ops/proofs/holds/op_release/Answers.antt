-- `machine_ops::holds::op_release` meets its contract.
use mathlib.Core.Path.{refl}
use native.Mathlib.Omega.{arith}
use Rattle.machine_ops.proofs.JumpEventOps.{release-tells}
use Rattle.machine_ops.proofs.holds.op_release.Goals as goal

pub returns : goal.returns
returns c =
    release-tells _ _ _ _ c.half_at-h.ensures (omega arith) (omega arith) refl c.let_hold.ensures c.go_to.ensures
