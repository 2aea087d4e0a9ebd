-- `table_read::name_of` meets its contract.
use Rattle.table_entries.specs.Entries.{entries-some}
use Rattle.table_read.proofs.name_of.Goals as goal

pub returns : goal.returns
returns c = rw (entries-some _ c.requires) c.a_at.ensures
