-- `state_write::clearing::clear_record` meets its contract.
use native.Mathlib.Omega.{arith}
use Rattle.state_write.proofs.ClearingLaws as law
use Rattle.state_write.proofs.clearing.clear_record.Goals as goal

pub returns : goal.returns
returns c =
    law.record-cleared _ _ _ c.byte_at-a.ensures.0 (omega arith) c.class_at-q.ensures.is c.byte_at-fields.ensures.0 c.wipe_record.ensures
