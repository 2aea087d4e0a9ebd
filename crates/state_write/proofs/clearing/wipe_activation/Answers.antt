-- `state_write::clearing::wipe_activation` meets its contract.
use Rattle.state_write.proofs.clearing.wipe_activation.Goals as goal

pub returns : goal.returns
returns c =
    rw (c.wipe-6.ensures, c.wipe-5.ensures, c.wipe-4.ensures, c.wipe-3.ensures, c.wipe-2.ensures, c.wipe.ensures)
