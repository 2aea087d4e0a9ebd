-- `table_read::stands` meets its contract.
use Rattle.table_read.proofs.Parts.{unlaid}
use Rattle.table_read.proofs.stands.Goals as goal

pub returns-then-part-lt-ENTRY_BYTES : goal.returns-then-part-lt-ENTRY_BYTES
returns-then-part-lt-ENTRY_BYTES c =
    unlaid c.args.part.now c.args.kind c.if-part-lt-ENTRY_BYTES.true
