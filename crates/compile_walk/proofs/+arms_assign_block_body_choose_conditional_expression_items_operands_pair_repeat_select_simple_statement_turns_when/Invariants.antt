-- How the walkers' calls of each other fall with the nesting: at one nesting the lists (operands, items, arms) stand above those that
-- pass on by kind (expression, statement), and these above the walkers of single entries. And what holds at each turn of their loops.
use Prim.Native.Nat.{◌*◌, ◌+◌, ◌-◌}
use Rattle.compile_steps.specs.Arms.{ArmsSoFar}
use Rattle.compile_steps.specs.Lists.{EsSoFar, ItemsSoFar}
use Rattle.compile_walk.specs.Given.{Same, arrays}
use Rattle.compile_walk.proofs.+arms_assign_block_body_choose_conditional_expression_items_operands_pair_repeat_select_simple_statement_turns_when.Given as goal

abbrev pub decreases-arms : goal.decreases-arms
decreases-arms l = 4 * l.nesting + 2

abbrev pub decreases-assign : goal.decreases-assign
decreases-assign l = 4 * l.nesting

abbrev pub decreases-block : goal.decreases-block
decreases-block l = 4 * l.nesting

abbrev pub decreases-body : goal.decreases-body
decreases-body l = 4 * l.nesting

abbrev pub decreases-choose : goal.decreases-choose
decreases-choose l = 4 * l.nesting

abbrev pub decreases-conditional : goal.decreases-conditional
decreases-conditional l = 4 * l.nesting

abbrev pub decreases-expression : goal.decreases-expression
decreases-expression l = 4 * l.nesting + 1

abbrev pub decreases-items : goal.decreases-items
decreases-items l = 4 * l.nesting + 2

abbrev pub decreases-operands : goal.decreases-operands
decreases-operands l = 4 * l.nesting + 2

abbrev pub decreases-pair : goal.decreases-pair
decreases-pair l = 4 * l.nesting

abbrev pub decreases-repeat : goal.decreases-repeat
decreases-repeat l = 4 * l.nesting

abbrev pub decreases-select : goal.decreases-select
decreases-select l = 4 * l.nesting

abbrev pub decreases-simple : goal.decreases-simple
decreases-simple l = 4 * l.nesting

abbrev pub decreases-statement : goal.decreases-statement
decreases-statement l = 4 * l.nesting + 1

abbrev pub decreases-turns : goal.decreases-turns
decreases-turns l = 4 * l.nesting

abbrev pub decreases-when : goal.decreases-when
decreases-when l = 4 * l.nesting

abbrev pub invariant-arms-loop-i : goal.invariant-arms-loop-i
invariant-arms-loop-i l = record {
  same : Same l.initial.lent l.lent;
  far : ArmsSoFar l.source.known.now l.source.aims.now l.source.table.now l.part l.owner l.count l.nesting l.at l.source.sizes.now (arrays l.initial.lent l.initial.stack) l.top l.holds l.depth l.initial.p (arrays l.lent l.stack) l.rest l.place l.i l.p;
}

abbrev pub invariant-items-loop-i : goal.invariant-items-loop-i
invariant-items-loop-i l = record {
  same : Same l.initial.lent l.lent;
  far : ItemsSoFar l.source.known.now l.source.aims.now l.source.table.now l.part l.count l.nesting l.at l.source.sizes.now (arrays l.initial.lent l.initial.stack) l.top l.holds l.depth l.initial.p (arrays l.lent l.stack) l.rest l.place (l.count - l.i) l.p;
}

abbrev pub invariant-operands-loop-i : goal.invariant-operands-loop-i
invariant-operands-loop-i l = record {
  same : Same l.initial.lent l.lent;
  far : EsSoFar l.source.known.now l.source.aims.now l.source.table.now l.part l.count l.nesting l.at l.source.sizes.now (arrays l.initial.lent l.initial.stack) l.top l.holds l.depth l.initial.p (arrays l.lent l.stack) l.rest l.place l.i l.p;
}
