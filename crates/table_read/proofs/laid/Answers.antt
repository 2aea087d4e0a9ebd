-- `table_read::laid` meets its contract.
use mir.Syntax.{w32}
use mir.ValLaws.{to_z-of_z}
use Rattle.table_entries.specs.Entries.{entries_none, entries-some}
use Rattle.table_read.proofs.laid.Goals as goal

pub returns-then-part-lt-ENTRY_BYTES : goal.returns-then-part-lt-ENTRY_BYTES
returns-then-part-lt-ENTRY_BYTES c = rw (entries_none _ c.if-part-lt-ENTRY_BYTES.true)

pub returns : goal.returns
returns c = rw (entries-some _ c.if-part-lt-ENTRY_BYTES.false) (cc (to_z-of_z w32 _ (record { sfits = c.signed_b_at.type_inv })))
