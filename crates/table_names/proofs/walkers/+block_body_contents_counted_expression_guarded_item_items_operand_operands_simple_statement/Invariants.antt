use Rattle.table_scopes.specs.Environment.{env_of}
use Rattle.table_scopes.specs.Spared.{Spared}
use Rattle.table_forms.specs.OperandList.{EsSoFar}
use Rattle.table_forms.specs.ItemList.{ItemsSoFar}
use Prim.Native.Nat.{◌+◌, ◌*◌}
use Rattle.table_names.proofs.walkers.+block_body_contents_counted_expression_guarded_item_items_operand_operands_simple_statement.Given as goal

abbrev pub decreases-block : goal.decreases-block
decreases-block l = 5 * l.nesting

abbrev pub decreases-body : goal.decreases-body
decreases-body l = 5 * l.nesting

abbrev pub decreases-contents : goal.decreases-contents
decreases-contents l = 5 * l.nesting + 4

abbrev pub decreases-counted : goal.decreases-counted
decreases-counted l = 5 * l.nesting

abbrev pub decreases-expression : goal.decreases-expression
decreases-expression l = 5 * l.nesting + 1

abbrev pub decreases-guarded : goal.decreases-guarded
decreases-guarded l = 5 * l.nesting

abbrev pub decreases-item : goal.decreases-item
decreases-item l = 5 * l.nesting + 2

abbrev pub decreases-items : goal.decreases-items
decreases-items l = 5 * l.nesting + 3

abbrev pub decreases-operand : goal.decreases-operand
decreases-operand l = 5 * l.nesting + 2

abbrev pub decreases-operands : goal.decreases-operands
decreases-operands l = 5 * l.nesting + 3

abbrev pub decreases-simple : goal.decreases-simple
decreases-simple l = 5 * l.nesting

abbrev pub decreases-statement : goal.decreases-statement
decreases-statement l = 5 * l.nesting + 1

abbrev pub invariant-items-loop-left : goal.invariant-items-loop-left
invariant-items-loop-left l =
    ItemsSoFar l.table l.part l.count l.nesting l.at l.sizes l.initial.env l.top l.env l.rest l.place l.left × Spared l.once l.table (env_of l.env l.top) l.place l.left

abbrev pub invariant-operands-loop-i : goal.invariant-operands-loop-i
invariant-operands-loop-i l = EsSoFar l.table l.part l.count l.nesting l.at l.sizes l.initial.env l.top l.env l.rest l.place l.i
