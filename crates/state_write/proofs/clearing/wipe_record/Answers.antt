-- `state_write::clearing::wipe_record` meets its contract.
use Rattle.state_write.proofs.clearing.wipe_record.Goals as goal

pub returns : goal.returns
returns c =
    rw (c.wipe-3.ensures, c.wipe-2.ensures, c.wipe.ensures)
