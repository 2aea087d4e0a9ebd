-- `state_write::clearing::clear_activation` meets its contract.
use native.Mathlib.Omega.{arith}
use Rattle.state_write.proofs.ClearingLaws as law
use Rattle.state_write.proofs.clearing.clear_activation.Goals as goal

pub returns : goal.returns
returns c =
    law.activation-cleared _ _ _ c.byte_at-k.ensures.0 (omega arith) c.body_at-q.ensures.is
    c.byte_at-cells.ensures.0 c.byte_at-operands.ensures.0 c.wipe_activation.ensures
