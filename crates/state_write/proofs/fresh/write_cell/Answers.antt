-- `state_write::fresh::write_cell` meets its contract.
use Rattle.state_write.proofs.fresh.write_cell.Goals as goal

pub returns : goal.returns
returns c = rw c.put_word.ensures
