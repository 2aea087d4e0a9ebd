-- `table_read::size_of` meets its contract.
use mir.Syntax.{w32}
use mir.ValLaws.{to_z-of_z}
use Rattle.table_entries.specs.Entries.{entries-some}
use Rattle.table_read.proofs.size_of.Goals as goal

pub returns : goal.returns
returns c = rw (entries-some _ c.requires) (cc (to_z-of_z w32 _ (record { sfits = c.signed_b_at.type_inv })))
