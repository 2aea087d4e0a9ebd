-- `state_write::clearing::clear_room` meets its contract.
use Rattle.state_write.proofs.clearing.clear_room.Goals as goal

pub returns : goal.returns
returns c =
    rw (c.wipe-2.ensures, c.wipe.ensures)
