-- `table_read::kind_of` meets its contract.
use Rattle.table_entries.specs.Entries.{entries-some}
use Rattle.table_read.proofs.kind_of.Goals as goal

pub returns : goal.returns
returns c = rw (entries-some _ c.requires) c.kind_at.ensures
