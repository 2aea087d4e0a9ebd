-- `table_types::operand` meets its contract.
use mathlib.Core.Path.{sym}
use Rattle.table_types.specs.Settle.{value-at, value-past}
use Rattle.table_types.proofs.operand.Goals as goal

pub returns-then-i-count : goal.returns-then-i-count
returns-then-i-count c =
    sym (value-at c.args.env.now c.args.top c.args.count c.args.i c.if-i-count.true)

pub returns-else-i-count : goal.returns-else-i-count
returns-else-i-count c = sym (value-past c.args.env.now c.args.top c.args.count c.args.i c.if-i-count.false)
