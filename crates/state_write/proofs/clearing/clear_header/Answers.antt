-- `state_write::clearing::clear_header` meets its contract.
use Rattle.state_write.proofs.clearing.clear_header.Goals as goal

pub returns : goal.returns
returns c =
    rw (c.wipe-3.ensures, c.wipe-2.ensures, c.wipe.ensures)
