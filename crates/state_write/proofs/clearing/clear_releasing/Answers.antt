-- `state_write::clearing::clear_releasing` meets its contract.
use Rattle.state_write.proofs.clearing.clear_releasing.Goals as goal

pub returns : goal.returns
returns c =
    rw (c.wipe-3.ensures, c.wipe-2.ensures, c.wipe.ensures, c.half_at-h.ensures.0)
