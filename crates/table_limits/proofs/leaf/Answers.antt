-- `table_limits::leaf` meets its contract.
use Rattle.table_limits.proofs.Steps.{leaf-short}
use Rattle.table_limits.proofs.leaf.Goals as goal

pub returns-then-part-lt-ENTRY_BYTES : goal.returns-then-part-lt-ENTRY_BYTES
returns-then-part-lt-ENTRY_BYTES c = leaf-short c.args.nesting c.args.part.now c.if-part-lt-ENTRY_BYTES.true
