-- The walkers meet their contracts: every fact is a law of crates/compile_steps, applied to what is known where it is needed.
use Prim.Native.Nat.{ℕ, ◌+◌, ◌-◌}
use Rattle.compile_steps.specs.Arms.{arms-asks, arms-before, arms-behind, arms-passes, arms_end, arms_next, arms_start}
use Rattle.compile_steps.specs.Assign.{answers-field, answers-variable, asks-assign, asks-field-emit, asks-field-finish, asks-field-first, asks-field-mid, asks-field-nests, asks-field-second, asks-variable-emit, asks-variable-finish, asks-variable-first, asks-variable-second}
use Rattle.compile_steps.specs.BlockAsks.{answers-block, asks-block-few, asks-block-finish, asks-block-items, asks-block-open, asks-block-releases, asks-block-within}
use Rattle.compile_steps.specs.BodyAsks.{answers-body, asks-body-few, asks-body-finish, asks-body-items, asks-body-open, asks-body-passes, asks-body-releases, asks-body-spanned, asks-body-value, asks-body-within}
use Rattle.compile_steps.specs.ChooseAsks.{answers-choose, asks-choose-emit, asks-choose-emit₂, asks-choose-finish, asks-choose-first, asks-choose-passes, asks-choose-passes₂, asks-choose-second, asks-choose-shape, asks-choose-shape₂, asks-choose-third}
use Rattle.compile_steps.specs.ConditionalAsks.{answers-cond, asks-cond-emit, asks-cond-emit₂, asks-cond-finish, asks-cond-first, asks-cond-passes, asks-cond-passes₂, asks-cond-read, asks-cond-second, asks-cond-shape, asks-cond-shape₂, asks-cond-third, asks-cond-write}
use Rattle.compile_steps.specs.Dispatch.{answer-as, answers-anew, answers-goto, answers-label, answers-leaf, answers-simple, ask-as, asks-anew, asks-goto, asks-goto-finish, asks-label-finish, asks-label-shape, asks-leaf, asks-leaf-finish, asks-simple-finish, asks-simple-first, asks-simple-last, asks-simple-read, asks-simple-room}
use Rattle.compile_steps.specs.Lists.{es-asks, es-end, es-next, es-passes, es-start, items-asks, items-end, items-next, items-passes, items-start}
use Rattle.compile_steps.specs.PairAsks.{answers-pair, asks-pair-behind, asks-pair-between, asks-pair-finish, asks-pair-first, asks-pair-passes, asks-pair-read, asks-pair-second, asks-pair-write}
use Rattle.compile_steps.specs.Parts.{asked, second-within, third-within}
use Rattle.compile_steps.specs.Select.{answers_select, asks-select-emit, asks-select-emit₂, asks-select-finish, asks-select-first, asks-select-passes, asks-select-second, asks-select-shape}
use Rattle.compile_steps.specs.Turns.{answers-turn, asks-turn-began, asks-turn-enter, asks-turn-finish, asks-turn-first, asks-turn-leave, asks-turn-room, asks-turn-second, asks-turn-shape, asks-turn-spans, asks-turn-within}
use Rattle.compile_steps.specs.Views.{leaf-of, simple-expr, simple-stmt}
use Rattle.compile_steps.specs.WhenAsks.{answers-when, asks-when-emit, asks-when-finish, asks-when-first, asks-when-passes, asks-when-second, asks-when-shape}
use Rattle.compile_steps.specs.WhileAsks.{answers-while, asks-while-emit, asks-while-emit₂, asks-while-finish, asks-while-first, asks-while-passes, asks-while-second, asks-while-shape, asks-while-shape₂}
use Rattle.compile_symbols.specs.Numbers.{second_in}
use mathlib.Core.Path.{ap, refl, sym, ◌∙◌, ◌≡◌}
use native.Mathlib.Omega.{arith}
use Rattle.std.proofs.Common.{rules}
use Rattle.compile_walk.proofs.+arms_assign_block_body_choose_conditional_expression_items_operands_pair_repeat_select_simple_statement_turns_when.Goals as goal

pub arms-loop-i-init : goal.arms-loop-i-init
arms-loop-i-init t c = record { same = search rules; far = arms_start _ _ _ _ _ _ _ _ _ _ _ _ _ _ }

pub arms-before_arm-q-requires : goal.arms-before_arm-q-requires
arms-before_arm-q-requires t c = let z = arms-before c.requires c.loop-i.invariant.far (omega arith) in (z.0, c.end_of.ensures.1, z.1)

pub arms-statement-r-requires : goal.arms-statement-r-requires
arms-statement-r-requires t c = (
  omega (arith, c.decreases),
  arms-asks c.requires c.loop-i.invariant.far (omega arith)
      (c.second_in-cell.ensures ∙ ap second_in c.known_at.ensures) c.end_of.ensures.0 c.before_arm-q.ensures,
)

pub arms-after_arm-p-requires : goal.arms-after_arm-p-requires
arms-after_arm-p-requires t c = arms-behind c.requires c.loop-i.invariant.far (omega arith) (c.second_in-cell.ensures ∙ ap second_in c.known_at.ensures)
    c.end_of.ensures.0 c.before_arm-q.ensures c.end_of-end.ensures.0 c.statement-r.ensures.answers

pub arms-size_at-n-requires : goal.arms-size_at-n-requires
arms-size_at-n-requires t c = (arms-passes c.requires c.loop-i.invariant.far (omega arith) _ refl).known

pub arms-overflow_mul-from : goal.arms-overflow_mul-from
arms-overflow_mul-from t c = omega (arith, (arms-passes c.requires c.loop-i.invariant.far (omega arith) c.size_at-n.result c.size_at-n.ensures).small)

pub arms-slice_bounds-rest-count : goal.arms-slice_bounds-rest-count
arms-slice_bounds-rest-count t c = (arms-passes c.requires c.loop-i.invariant.far (omega arith) c.size_at-n.result c.size_at-n.ensures).fits

pub arms-slice_bounds-rest-start : goal.arms-slice_bounds-rest-start
arms-slice_bounds-rest-start t c = (arms-passes c.requires c.loop-i.invariant.far (omega arith) c.size_at-n.result c.size_at-n.ensures).fits

pub arms-overflow_add-place : goal.arms-overflow_add-place
arms-overflow_add-place t c = omega (arith, (arms-passes c.requires c.loop-i.invariant.far (omega arith) c.size_at-n.result c.size_at-n.ensures).small)

pub arms-loop-i-preserved : goal.arms-loop-i-preserved
arms-loop-i-preserved t c = record {
  same = search rules;
  far = arms_next c.requires c.loop-i.invariant.far (omega arith) (c.second_in-cell.ensures ∙ ap second_in c.known_at.ensures)
      c.end_of.ensures.0 c.before_arm-q.ensures c.end_of-end.ensures.0 c.statement-r.ensures.answers c.after_arm-p.ensures
      c.size_at-n.result c.size_at-n.ensures;
}

pub arms-shape_of-stack : goal.arms-shape_of-stack
arms-shape_of-stack t c = (arms_end c.loop-i.invariant.far (omega arith)).kept.same-stack

pub arms-returns-clause-answers : goal.arms-returns-clause-answers
arms-returns-clause-answers t c = arms_end c.loop-i.invariant.far (omega arith)

-- what it has done where it returns
pub assign-returns-then-kind_at-eq-KIND_VARIABLE-clause-answers : goal.assign-returns-then-kind_at-eq-KIND_VARIABLE-clause-answers
assign-returns-then-kind_at-eq-KIND_VARIABLE-clause-answers t c =
    answers-variable c.requires c.size_at.result c.size_at.ensures c.meaning-k.result (rw c.a_at.ensures at c.meaning-k.ensures)
    (sym c.kind_at.ensures ∙ c.if-kind_at-eq-KIND_VARIABLE.true) c.finish-p.ensures c.expression-q.ensures.answers
    (rw (c.owner.ensures, c.second_in.ensures) at c.emit-r.ensures) c.finish.ensures

pub assign-returns-clause-answers : goal.assign-returns-clause-answers
assign-returns-clause-answers t c =
    answers-field c.requires c.size_at.result c.size_at.ensures c.meaning-k.result (rw c.a_at.ensures at c.meaning-k.ensures)
    (λ z. c.if-kind_at-eq-KIND_VARIABLE.false (c.kind_at.ensures ∙ z)) c.expression-p.ensures.answers c.finish-q.ensures c.expression-r.ensures.answers
    (rw (c.first_in.ensures, c.second_in-2.ensures) at c.emit-s.ensures) c.finish-2.ensures

pub assign-a_at-requires : goal.assign-a_at-requires
assign-a_at-requires t c = omega (arith, (asks-assign c.requires).long)

pub assign-meaning-k-requires : goal.assign-meaning-k-requires
assign-meaning-k-requires t c = (asks-assign c.requires).room

pub assign-overflow_add-second : goal.assign-overflow_add-second
assign-overflow_add-second t c = omega (arith, (asked c.requires).small)

pub assign-overflow_add-at : goal.assign-overflow_add-at
assign-overflow_add-at t c = omega (arith, (asked c.requires).small)

pub assign-size_at-requires : goal.assign-size_at-requires
assign-size_at-requires t c = ((asks-assign c.requires).passes _ refl).known

pub assign-overflow_add-second-2 : goal.assign-overflow_add-second-2
assign-overflow_add-second-2 t c = omega (arith, ((asks-assign c.requires).passes c.size_at.result c.size_at.ensures).small)

pub assign-overflow_mul-from : goal.assign-overflow_mul-from
assign-overflow_mul-from t c = omega (arith, ((asks-assign c.requires).passes c.size_at.result c.size_at.ensures).small)

pub assign-kind_at-requires : goal.assign-kind_at-requires
assign-kind_at-requires t c = omega (arith, (asks-assign c.requires).long)

pub assign-overflow_add-at-then-kind_at-eq-KIND_VARIABLE : goal.assign-overflow_add-at-then-kind_at-eq-KIND_VARIABLE
assign-overflow_add-at-then-kind_at-eq-KIND_VARIABLE t c = omega (arith, (asked c.requires).small)

pub assign-finish-p-requires : goal.assign-finish-p-requires
assign-finish-p-requires t c = asks-variable-first c.requires c.size_at.result c.size_at.ensures c.meaning-k.result
    (rw c.a_at.ensures at c.meaning-k.ensures) (sym c.kind_at.ensures ∙ c.if-kind_at-eq-KIND_VARIABLE.true)

pub assign-slice_bounds-expression-count : goal.assign-slice_bounds-expression-count
assign-slice_bounds-expression-count t c = second-within c.args.part.now c.args.at c.size_at.result (asked c.requires).long
    ((asks-assign c.requires).passes c.size_at.result c.size_at.ensures)

pub assign-slice_bounds-expression-start : goal.assign-slice_bounds-expression-start
assign-slice_bounds-expression-start t c = second-within c.args.part.now c.args.at c.size_at.result (asked c.requires).long
    ((asks-assign c.requires).passes c.size_at.result c.size_at.ensures)

pub assign-overflow_sub-nesting : goal.assign-overflow_sub-nesting
assign-overflow_sub-nesting t c = omega (arith, (asked c.requires).nested)

pub assign-expression-q-requires : goal.assign-expression-q-requires
assign-expression-q-requires t c = (
  omega (arith, (asked c.requires).nested, c.decreases),
  asks-variable-second c.requires c.size_at.result c.size_at.ensures
      c.meaning-k.result (rw c.a_at.ensures at c.meaning-k.ensures) (sym c.kind_at.ensures ∙ c.if-kind_at-eq-KIND_VARIABLE.true) c.finish-p.ensures,
)

pub assign-emit-r-requires : goal.assign-emit-r-requires
assign-emit-r-requires t c = asks-variable-emit c.requires c.size_at.result c.size_at.ensures c.meaning-k.result
    (rw c.a_at.ensures at c.meaning-k.ensures) (sym c.kind_at.ensures ∙ c.if-kind_at-eq-KIND_VARIABLE.true) c.finish-p.ensures c.expression-q.ensures.answers

pub assign-finish-requires : goal.assign-finish-requires
assign-finish-requires t c = asks-variable-finish c.requires c.size_at.result c.size_at.ensures c.meaning-k.result
    (rw c.a_at.ensures at c.meaning-k.ensures) (sym c.kind_at.ensures ∙ c.if-kind_at-eq-KIND_VARIABLE.true) c.finish-p.ensures
    c.expression-q.ensures.answers (rw (c.owner.ensures, c.second_in.ensures) at c.emit-r.ensures)

pub assign-shape_of-stack-then-kind_at-eq-KIND_VARIABLE : goal.assign-shape_of-stack-then-kind_at-eq-KIND_VARIABLE
assign-shape_of-stack-then-kind_at-eq-KIND_VARIABLE t c = (assign-returns-then-kind_at-eq-KIND_VARIABLE-clause-answers t c).kept.same-stack

pub assign-slice_bounds-expression-count-2 : goal.assign-slice_bounds-expression-count-2
assign-slice_bounds-expression-count-2 t c = omega (arith, (asks-assign c.requires).long)

pub assign-slice_bounds-expression-start-2 : goal.assign-slice_bounds-expression-start-2
assign-slice_bounds-expression-start-2 t c = omega (arith, (asks-assign c.requires).long)

pub assign-overflow_sub-nesting-2 : goal.assign-overflow_sub-nesting-2
assign-overflow_sub-nesting-2 t c = omega (
  arith,
  asks-field-nests c.requires c.size_at.result c.size_at.ensures c.meaning-k.result
      (rw c.a_at.ensures at c.meaning-k.ensures) (λ z. c.if-kind_at-eq-KIND_VARIABLE.false (c.kind_at.ensures ∙ z)),
)

pub assign-overflow_add-at-2 : goal.assign-overflow_add-at-2
assign-overflow_add-at-2 t c = omega (arith, (asked c.requires).small)

pub assign-expression-p-requires : goal.assign-expression-p-requires
assign-expression-p-requires t c = (
  omega (
    arith,
    asks-field-nests c.requires c.size_at.result c.size_at.ensures c.meaning-k.result
        (rw c.a_at.ensures at c.meaning-k.ensures) (λ z. c.if-kind_at-eq-KIND_VARIABLE.false (c.kind_at.ensures ∙ z)),
    c.decreases,
  ),
  asks-field-first c.requires c.size_at.result c.size_at.ensures c.meaning-k.result
      (rw c.a_at.ensures at c.meaning-k.ensures) (λ z. c.if-kind_at-eq-KIND_VARIABLE.false (c.kind_at.ensures ∙ z)),
)

pub assign-overflow_add-at-3 : goal.assign-overflow_add-at-3
assign-overflow_add-at-3 t c = omega (arith, (asked c.requires).small)

pub assign-finish-q-requires : goal.assign-finish-q-requires
assign-finish-q-requires t c = asks-field-mid c.requires c.size_at.result c.size_at.ensures c.meaning-k.result
    (rw c.a_at.ensures at c.meaning-k.ensures) (λ z. c.if-kind_at-eq-KIND_VARIABLE.false (c.kind_at.ensures ∙ z)) c.expression-p.ensures.answers

pub assign-slice_bounds-expression-count-3 : goal.assign-slice_bounds-expression-count-3
assign-slice_bounds-expression-count-3 t c = second-within c.args.part.now c.args.at c.size_at.result (asked c.requires).long
    ((asks-assign c.requires).passes c.size_at.result c.size_at.ensures)

pub assign-slice_bounds-expression-start-3 : goal.assign-slice_bounds-expression-start-3
assign-slice_bounds-expression-start-3 t c = second-within c.args.part.now c.args.at c.size_at.result (asked c.requires).long
    ((asks-assign c.requires).passes c.size_at.result c.size_at.ensures)

pub assign-overflow_sub-nesting-3 : goal.assign-overflow_sub-nesting-3
assign-overflow_sub-nesting-3 t c = omega (arith, (asked c.requires).nested)

pub assign-overflow_add-depth : goal.assign-overflow_add-depth
assign-overflow_add-depth t c = omega (arith, (asked c.requires).deep)

pub assign-expression-r-requires : goal.assign-expression-r-requires
assign-expression-r-requires t c = (
  omega (arith, (asked c.requires).nested, c.decreases),
  asks-field-second c.requires c.size_at.result c.size_at.ensures
      c.meaning-k.result (rw c.a_at.ensures at c.meaning-k.ensures) (λ z. c.if-kind_at-eq-KIND_VARIABLE.false (c.kind_at.ensures ∙ z))
      c.expression-p.ensures.answers c.finish-q.ensures,
)

pub assign-emit-s-requires : goal.assign-emit-s-requires
assign-emit-s-requires t c = asks-field-emit c.requires c.size_at.result c.size_at.ensures c.meaning-k.result
    (rw c.a_at.ensures at c.meaning-k.ensures) (λ z. c.if-kind_at-eq-KIND_VARIABLE.false (c.kind_at.ensures ∙ z)) c.expression-p.ensures.answers
    c.finish-q.ensures c.expression-r.ensures.answers

pub assign-finish-requires-2 : goal.assign-finish-requires-2
assign-finish-requires-2 t c = asks-field-finish c.requires c.size_at.result c.size_at.ensures c.meaning-k.result
    (rw c.a_at.ensures at c.meaning-k.ensures) (λ z. c.if-kind_at-eq-KIND_VARIABLE.false (c.kind_at.ensures ∙ z)) c.expression-p.ensures.answers
    c.finish-q.ensures c.expression-r.ensures.answers (rw (c.first_in.ensures, c.second_in-2.ensures) at c.emit-s.ensures)

pub assign-shape_of-stack : goal.assign-shape_of-stack
assign-shape_of-stack t c = (assign-returns-clause-answers t c).kept.same-stack

-- what it has done where it returns
pub block-returns-clause-answers : goal.block-returns-clause-answers
block-returns-clause-answers t c =
    answers-block c.requires c.a_at-heads.ensures c.b_at-count.ensures c.open_block-o.ensures
    c.items-q.ensures.answers c.releases-done.ensures c.finish.ensures

pub block-a_at-heads-requires : goal.block-a_at-heads-requires
block-a_at-heads-requires t c = omega (arith, (asked c.requires).long)

pub block-b_at-count-requires : goal.block-b_at-count-requires
block-b_at-count-requires t c = omega (arith, (asked c.requires).long)

pub block-slice_bounds-open_block-count : goal.block-slice_bounds-open_block-count
block-slice_bounds-open_block-count t c = omega (arith, (asked c.requires).long)

pub block-slice_bounds-open_block-start : goal.block-slice_bounds-open_block-start
block-slice_bounds-open_block-start t c = omega (arith, (asked c.requires).long)

pub block-overflow_add-at : goal.block-overflow_add-at
block-overflow_add-at t c = omega (arith, (asked c.requires).small)

pub block-open_block-o-requires : goal.block-open_block-o-requires
block-open_block-o-requires t c = asks-block-open c.requires c.a_at-heads.ensures c.b_at-count.ensures

pub block-overflow_add-within : goal.block-overflow_add-within
block-overflow_add-within t c = omega (arith, asks-block-few c.requires c.a_at-heads.ensures c.b_at-count.ensures c.open_block-o.ensures)

pub block-overflow_add-from : goal.block-overflow_add-from
block-overflow_add-from t c = omega (arith, (asks-block-within c.requires c.a_at-heads.ensures c.b_at-count.ensures).1)

pub block-overflow_mul-from : goal.block-overflow_mul-from
block-overflow_mul-from t c = omega (arith, (asks-block-within c.requires c.a_at-heads.ensures c.b_at-count.ensures).1)

pub block-slice_bounds-items-count : goal.block-slice_bounds-items-count
block-slice_bounds-items-count t c = (asks-block-within c.requires c.a_at-heads.ensures c.b_at-count.ensures).0

pub block-slice_bounds-items-start : goal.block-slice_bounds-items-start
block-slice_bounds-items-start t c = (asks-block-within c.requires c.a_at-heads.ensures c.b_at-count.ensures).0

pub block-overflow_sub-nesting : goal.block-overflow_sub-nesting
block-overflow_sub-nesting t c = omega (arith, (asked c.requires).nested)

pub block-overflow_add-at-2 : goal.block-overflow_add-at-2
block-overflow_add-at-2 t c = omega (arith, (asked c.requires).small)

pub block-overflow_add-at-3 : goal.block-overflow_add-at-3
block-overflow_add-at-3 t c = omega (arith, (asks-block-within c.requires c.a_at-heads.ensures c.b_at-count.ensures).1)

pub block-items-q-requires : goal.block-items-q-requires
block-items-q-requires t c = (
  omega (arith, (asked c.requires).nested, c.decreases),
  asks-block-items c.requires c.a_at-heads.ensures c.b_at-count.ensures c.open_block-o.ensures,
)

pub block-releases-done-requires : goal.block-releases-done-requires
block-releases-done-requires t c = asks-block-releases c.requires c.a_at-heads.ensures c.b_at-count.ensures c.open_block-o.ensures c.items-q.ensures.answers

pub block-finish-requires : goal.block-finish-requires
block-finish-requires t c = asks-block-finish c.requires c.a_at-heads.ensures c.b_at-count.ensures c.open_block-o.ensures c.items-q.ensures.answers c.releases-done.ensures

pub block-shape_of-stack : goal.block-shape_of-stack
block-shape_of-stack t c = (block-returns-clause-answers t c).kept.same-stack

-- what it has done where it returns
pub body-returns-clause-answers : goal.body-returns-clause-answers
body-returns-clause-answers t c =
    answers-body c.requires c.a_at-heads.ensures c.b_at-count.ensures c.open_block-o.ensures
    c.items-q.ensures.answers c.spanned-n.ensures c.expression-r.ensures.answers c.releases-done.ensures c.finish.ensures

pub body-a_at-heads-requires : goal.body-a_at-heads-requires
body-a_at-heads-requires t c = omega (arith, (asked c.requires).long)

pub body-b_at-count-requires : goal.body-b_at-count-requires
body-b_at-count-requires t c = omega (arith, (asked c.requires).long)

pub body-slice_bounds-open_block-count : goal.body-slice_bounds-open_block-count
body-slice_bounds-open_block-count t c = omega (arith, (asked c.requires).long)

pub body-slice_bounds-open_block-start : goal.body-slice_bounds-open_block-start
body-slice_bounds-open_block-start t c = omega (arith, (asked c.requires).long)

pub body-overflow_add-at : goal.body-overflow_add-at
body-overflow_add-at t c = omega (arith, (asked c.requires).small)

pub body-open_block-o-requires : goal.body-open_block-o-requires
body-open_block-o-requires t c = asks-body-open c.requires c.a_at-heads.ensures c.b_at-count.ensures

pub body-overflow_add-within : goal.body-overflow_add-within
body-overflow_add-within t c = omega (arith, asks-body-few c.requires c.a_at-heads.ensures c.b_at-count.ensures c.open_block-o.ensures)

pub body-overflow_add-from : goal.body-overflow_add-from
body-overflow_add-from t c = omega (arith, (asks-body-within c.requires c.a_at-heads.ensures c.b_at-count.ensures).1)

pub body-overflow_mul-from : goal.body-overflow_mul-from
body-overflow_mul-from t c = omega (arith, (asks-body-within c.requires c.a_at-heads.ensures c.b_at-count.ensures).1)

pub body-slice_bounds-items-count : goal.body-slice_bounds-items-count
body-slice_bounds-items-count t c = (asks-body-within c.requires c.a_at-heads.ensures c.b_at-count.ensures).0

pub body-slice_bounds-items-start : goal.body-slice_bounds-items-start
body-slice_bounds-items-start t c = (asks-body-within c.requires c.a_at-heads.ensures c.b_at-count.ensures).0

pub body-overflow_sub-nesting : goal.body-overflow_sub-nesting
body-overflow_sub-nesting t c = omega (arith, (asked c.requires).nested)

pub body-overflow_add-at-2 : goal.body-overflow_add-at-2
body-overflow_add-at-2 t c = omega (arith, (asked c.requires).small)

pub body-overflow_add-at-3 : goal.body-overflow_add-at-3
body-overflow_add-at-3 t c = omega (arith, (asks-body-within c.requires c.a_at-heads.ensures c.b_at-count.ensures).1)

pub body-items-q-requires : goal.body-items-q-requires
body-items-q-requires t c = (
  omega (arith, (asked c.requires).nested, c.decreases),
  asks-body-items c.requires c.a_at-heads.ensures c.b_at-count.ensures c.open_block-o.ensures,
)

pub body-overflow_add-at-4 : goal.body-overflow_add-at-4
body-overflow_add-at-4 t c = omega (arith, (asked c.requires).small)

pub body-overflow_add-at-5 : goal.body-overflow_add-at-5
body-overflow_add-at-5 t c = omega (arith, (asks-body-within c.requires c.a_at-heads.ensures c.b_at-count.ensures).1)

pub body-spanned-n-requires : goal.body-spanned-n-requires
body-spanned-n-requires t c = asks-body-spanned c.requires c.a_at-heads.ensures c.b_at-count.ensures

pub body-overflow_add-after : goal.body-overflow_add-after
body-overflow_add-after t c = omega (arith, (asks-body-within c.requires c.a_at-heads.ensures c.b_at-count.ensures).1)

pub body-overflow_add-after-2 : goal.body-overflow_add-after-2
body-overflow_add-after-2 t c = omega (arith, (asks-body-passes c.requires c.a_at-heads.ensures c.b_at-count.ensures c.open_block-o.ensures c.items-q.ensures.answers c.spanned-n.ensures).1)

pub body-overflow_mul-after : goal.body-overflow_mul-after
body-overflow_mul-after t c = omega (arith, (asks-body-passes c.requires c.a_at-heads.ensures c.b_at-count.ensures c.open_block-o.ensures c.items-q.ensures.answers c.spanned-n.ensures).1)

pub body-slice_bounds-expression-count : goal.body-slice_bounds-expression-count
body-slice_bounds-expression-count t c = (asks-body-passes c.requires c.a_at-heads.ensures c.b_at-count.ensures c.open_block-o.ensures c.items-q.ensures.answers c.spanned-n.ensures).0

pub body-slice_bounds-expression-start : goal.body-slice_bounds-expression-start
body-slice_bounds-expression-start t c = (asks-body-passes c.requires c.a_at-heads.ensures c.b_at-count.ensures c.open_block-o.ensures c.items-q.ensures.answers c.spanned-n.ensures).0

pub body-overflow_sub-nesting-2 : goal.body-overflow_sub-nesting-2
body-overflow_sub-nesting-2 t c = omega (arith, (asked c.requires).nested)

pub body-overflow_add-at-6 : goal.body-overflow_add-at-6
body-overflow_add-at-6 t c = omega (arith, (asked c.requires).small)

pub body-overflow_add-at-7 : goal.body-overflow_add-at-7
body-overflow_add-at-7 t c = omega (arith, (asks-body-within c.requires c.a_at-heads.ensures c.b_at-count.ensures).1)

pub body-overflow_add-at-8 : goal.body-overflow_add-at-8
body-overflow_add-at-8 t c = omega (arith, (asks-body-passes c.requires c.a_at-heads.ensures c.b_at-count.ensures c.open_block-o.ensures c.items-q.ensures.answers c.spanned-n.ensures).1)

pub body-expression-r-requires : goal.body-expression-r-requires
body-expression-r-requires t c = (
  omega (arith, (asked c.requires).nested, c.decreases),
  asks-body-value c.requires c.a_at-heads.ensures c.b_at-count.ensures c.open_block-o.ensures
      c.items-q.ensures.answers c.spanned-n.ensures,
)

pub body-releases-done-requires : goal.body-releases-done-requires
body-releases-done-requires t c = asks-body-releases c.requires c.a_at-heads.ensures c.b_at-count.ensures c.open_block-o.ensures
    c.items-q.ensures.answers c.spanned-n.ensures c.expression-r.ensures.answers

pub body-finish-requires : goal.body-finish-requires
body-finish-requires t c = asks-body-finish c.requires c.a_at-heads.ensures c.b_at-count.ensures c.open_block-o.ensures
    c.items-q.ensures.answers c.spanned-n.ensures c.expression-r.ensures.answers c.releases-done.ensures

pub body-shape_of-stack : goal.body-shape_of-stack
body-shape_of-stack t c = (body-returns-clause-answers t c).kept.same-stack

-- what it has done where it returns
pub choose-returns-clause-answers : goal.choose-returns-clause-answers
choose-returns-clause-answers t c =
    answers-choose c.requires c.size_at.result c.size_at.ensures c.size_at-2.result
    c.size_at-2.ensures c.expression-p.ensures.answers c.end_of.ensures.0 c.emit-q.ensures
    c.statement-r.ensures.answers c.end_of-2.ensures.0 c.emit-s.ensures c.shape-t.ensures
    c.statement-u.ensures.answers c.shape-done.ensures c.finish.ensures

pub choose-slice_bounds-expression-count : goal.choose-slice_bounds-expression-count
choose-slice_bounds-expression-count t c = omega (arith, (asked c.requires).long)

pub choose-slice_bounds-expression-start : goal.choose-slice_bounds-expression-start
choose-slice_bounds-expression-start t c = omega (arith, (asked c.requires).long)

pub choose-overflow_sub-nesting : goal.choose-overflow_sub-nesting
choose-overflow_sub-nesting t c = omega (arith, (asked c.requires).nested)

pub choose-overflow_add-at : goal.choose-overflow_add-at
choose-overflow_add-at t c = omega (arith, (asked c.requires).small)

pub choose-expression-p-requires : goal.choose-expression-p-requires
choose-expression-p-requires t c = (omega (arith, (asked c.requires).nested, c.decreases), asks-choose-first c.requires)

pub choose-overflow_add-second : goal.choose-overflow_add-second
choose-overflow_add-second t c = omega (arith, (asked c.requires).small)

pub choose-overflow_add-at-2 : goal.choose-overflow_add-at-2
choose-overflow_add-at-2 t c = omega (arith, (asked c.requires).small)

pub choose-size_at-requires : goal.choose-size_at-requires
choose-size_at-requires t c = (asks-choose-passes c.requires _ refl).known

pub choose-overflow_add-second-2 : goal.choose-overflow_add-second-2
choose-overflow_add-second-2 t c = omega (arith, (asks-choose-passes c.requires c.size_at.result c.size_at.ensures).small)

pub choose-size_at-requires-2 : goal.choose-size_at-requires-2
choose-size_at-requires-2 t c = (asks-choose-passes₂ c.requires c.size_at.result c.size_at.ensures _ refl c.expression-p.ensures.answers).known

pub choose-overflow_add-third : goal.choose-overflow_add-third
choose-overflow_add-third t c = omega (arith, (asks-choose-passes₂ c.requires c.size_at.result c.size_at.ensures c.size_at-2.result c.size_at-2.ensures c.expression-p.ensures.answers).small)

pub choose-overflow_add-end_of : goal.choose-overflow_add-end_of
choose-overflow_add-end_of t c = omega (arith, c.end_of.ensures.1)

pub choose-emit-q-requires : goal.choose-emit-q-requires
choose-emit-q-requires t c = asks-choose-emit c.requires c.size_at.result c.size_at.ensures c.size_at-2.result
    c.size_at-2.ensures c.expression-p.ensures.answers

pub choose-overflow_mul-from : goal.choose-overflow_mul-from
choose-overflow_mul-from t c = omega (arith, (asks-choose-passes c.requires c.size_at.result c.size_at.ensures).small)

pub choose-slice_bounds-statement-count : goal.choose-slice_bounds-statement-count
choose-slice_bounds-statement-count t c = second-within c.args.part.now c.args.at c.size_at.result (asked c.requires).long
    (asks-choose-passes c.requires c.size_at.result c.size_at.ensures)

pub choose-slice_bounds-statement-start : goal.choose-slice_bounds-statement-start
choose-slice_bounds-statement-start t c = second-within c.args.part.now c.args.at c.size_at.result (asked c.requires).long
    (asks-choose-passes c.requires c.size_at.result c.size_at.ensures)

pub choose-overflow_sub-nesting-2 : goal.choose-overflow_sub-nesting-2
choose-overflow_sub-nesting-2 t c = omega (arith, (asked c.requires).nested)

pub choose-statement-r-requires : goal.choose-statement-r-requires
choose-statement-r-requires t c = (
  omega (arith, (asked c.requires).nested, c.decreases),
  asks-choose-second c.requires c.size_at.result c.size_at.ensures c.size_at-2.result c.size_at-2.ensures
      c.expression-p.ensures.answers c.end_of.ensures.0 c.emit-q.ensures,
)

pub choose-emit-s-requires : goal.choose-emit-s-requires
choose-emit-s-requires t c = asks-choose-emit₂ c.requires c.size_at.result c.size_at.ensures c.size_at-2.result
    c.size_at-2.ensures c.expression-p.ensures.answers c.end_of.ensures.0 c.emit-q.ensures
    c.statement-r.ensures.answers

pub choose-shape-t-requires : goal.choose-shape-t-requires
choose-shape-t-requires t c = asks-choose-shape c.requires c.size_at.result c.size_at.ensures c.size_at-2.result
    c.size_at-2.ensures c.expression-p.ensures.answers c.end_of.ensures.0 c.emit-q.ensures
    c.statement-r.ensures.answers c.end_of-2.ensures.0 c.emit-s.ensures

pub choose-overflow_mul-last : goal.choose-overflow_mul-last
choose-overflow_mul-last t c = omega (arith, (asks-choose-passes₂ c.requires c.size_at.result c.size_at.ensures c.size_at-2.result c.size_at-2.ensures c.expression-p.ensures.answers).small)

pub choose-slice_bounds-statement-count-2 : goal.choose-slice_bounds-statement-count-2
choose-slice_bounds-statement-count-2 t c = third-within c.args.part.now c.args.at (c.args.at + 1 + c.size_at.result) c.size_at-2.result (omega arith) (second-within c.args.part.now c.args.at c.size_at.result (asked c.requires).long (asks-choose-passes c.requires c.size_at.result c.size_at.ensures)) (asks-choose-passes₂ c.requires c.size_at.result c.size_at.ensures c.size_at-2.result c.size_at-2.ensures c.expression-p.ensures.answers)

pub choose-slice_bounds-statement-start-2 : goal.choose-slice_bounds-statement-start-2
choose-slice_bounds-statement-start-2 t c = third-within c.args.part.now c.args.at (c.args.at + 1 + c.size_at.result) c.size_at-2.result (omega arith) (second-within c.args.part.now c.args.at c.size_at.result (asked c.requires).long (asks-choose-passes c.requires c.size_at.result c.size_at.ensures)) (asks-choose-passes₂ c.requires c.size_at.result c.size_at.ensures c.size_at-2.result c.size_at-2.ensures c.expression-p.ensures.answers)

pub choose-overflow_sub-nesting-3 : goal.choose-overflow_sub-nesting-3
choose-overflow_sub-nesting-3 t c = omega (arith, (asked c.requires).nested)

pub choose-statement-u-requires : goal.choose-statement-u-requires
choose-statement-u-requires t c = (
  omega (arith, (asked c.requires).nested, c.decreases),
  asks-choose-third c.requires c.size_at.result c.size_at.ensures c.size_at-2.result
      c.size_at-2.ensures c.expression-p.ensures.answers c.end_of.ensures.0 c.emit-q.ensures
      c.statement-r.ensures.answers c.end_of-2.ensures.0 c.emit-s.ensures c.shape-t.ensures,
)

pub choose-shape-done-requires : goal.choose-shape-done-requires
choose-shape-done-requires t c = asks-choose-shape₂ c.requires c.size_at.result c.size_at.ensures c.size_at-2.result
    c.size_at-2.ensures c.expression-p.ensures.answers c.end_of.ensures.0 c.emit-q.ensures
    c.statement-r.ensures.answers c.end_of-2.ensures.0 c.emit-s.ensures c.shape-t.ensures c.statement-u.ensures.answers

pub choose-finish-requires : goal.choose-finish-requires
choose-finish-requires t c = asks-choose-finish c.requires c.size_at.result c.size_at.ensures c.size_at-2.result c.size_at-2.ensures
    c.expression-p.ensures.answers c.end_of.ensures.0 c.emit-q.ensures
    c.statement-r.ensures.answers c.end_of-2.ensures.0 c.emit-s.ensures c.shape-t.ensures c.statement-u.ensures.answers c.shape-done.ensures

pub choose-shape_of-stack : goal.choose-shape_of-stack
choose-shape_of-stack t c = (choose-returns-clause-answers t c).kept.same-stack

-- what it has done where it returns
pub conditional-returns-clause-answers : goal.conditional-returns-clause-answers
conditional-returns-clause-answers t c =
    answers-cond c.requires c.size_at.result c.size_at.ensures c.expression-p.ensures.answers
    c.end_of.ensures.0 c.emit-q.ensures c.expression-r.ensures.answers
    c.size_at-2.result c.size_at-2.ensures
    c.end_of-2.ensures.0 c.emit-s.ensures c.shape-t.ensures c.expression-u.ensures.answers _ refl c.shape-done.ensures c.finish.ensures

pub conditional-slice_bounds-expression-count : goal.conditional-slice_bounds-expression-count
conditional-slice_bounds-expression-count t c = omega (arith, (asked c.requires).long)

pub conditional-slice_bounds-expression-start : goal.conditional-slice_bounds-expression-start
conditional-slice_bounds-expression-start t c = omega (arith, (asked c.requires).long)

pub conditional-overflow_sub-nesting : goal.conditional-overflow_sub-nesting
conditional-overflow_sub-nesting t c = omega (arith, (asked c.requires).nested)

pub conditional-overflow_add-at : goal.conditional-overflow_add-at
conditional-overflow_add-at t c = omega (arith, (asked c.requires).small)

pub conditional-expression-p-requires : goal.conditional-expression-p-requires
conditional-expression-p-requires t c = (omega (arith, (asked c.requires).nested, c.decreases), asks-cond-first c.requires)

pub conditional-overflow_add-second : goal.conditional-overflow_add-second
conditional-overflow_add-second t c = omega (arith, (asked c.requires).small)

pub conditional-overflow_add-at-2 : goal.conditional-overflow_add-at-2
conditional-overflow_add-at-2 t c = omega (arith, (asked c.requires).small)

pub conditional-size_at-requires : goal.conditional-size_at-requires
conditional-size_at-requires t c = (asks-cond-passes c.requires _ refl).known

pub conditional-overflow_add-second-2 : goal.conditional-overflow_add-second-2
conditional-overflow_add-second-2 t c = omega (arith, (asks-cond-passes c.requires c.size_at.result c.size_at.ensures).small)

pub conditional-size_at-requires-2 : goal.conditional-size_at-requires-2
conditional-size_at-requires-2 t c = (asks-cond-passes₂ c.requires c.size_at.result c.size_at.ensures c.expression-p.ensures.answers _ refl).known

pub conditional-overflow_add-third : goal.conditional-overflow_add-third
conditional-overflow_add-third t c = omega (arith, (asks-cond-passes₂ c.requires c.size_at.result c.size_at.ensures c.expression-p.ensures.answers c.size_at-2.result c.size_at-2.ensures).small)

pub conditional-overflow_add-end_of : goal.conditional-overflow_add-end_of
conditional-overflow_add-end_of t c = omega (arith, c.end_of.ensures.1)

pub conditional-emit-q-requires : goal.conditional-emit-q-requires
conditional-emit-q-requires t c = asks-cond-emit c.requires c.size_at.result c.size_at.ensures c.expression-p.ensures.answers

pub conditional-overflow_mul-from : goal.conditional-overflow_mul-from
conditional-overflow_mul-from t c = omega (arith, (asks-cond-passes c.requires c.size_at.result c.size_at.ensures).small)

pub conditional-slice_bounds-expression-count-2 : goal.conditional-slice_bounds-expression-count-2
conditional-slice_bounds-expression-count-2 t c = second-within c.args.part.now c.args.at c.size_at.result (asked c.requires).long
    (asks-cond-passes c.requires c.size_at.result c.size_at.ensures)

pub conditional-slice_bounds-expression-start-2 : goal.conditional-slice_bounds-expression-start-2
conditional-slice_bounds-expression-start-2 t c = second-within c.args.part.now c.args.at c.size_at.result (asked c.requires).long
    (asks-cond-passes c.requires c.size_at.result c.size_at.ensures)

pub conditional-overflow_sub-nesting-2 : goal.conditional-overflow_sub-nesting-2
conditional-overflow_sub-nesting-2 t c = omega (arith, (asked c.requires).nested)

pub conditional-expression-r-requires : goal.conditional-expression-r-requires
conditional-expression-r-requires t c = (
  omega (arith, (asked c.requires).nested, c.decreases),
  asks-cond-second c.requires c.size_at.result c.size_at.ensures
      c.expression-p.ensures.answers c.end_of.ensures.0 c.emit-q.ensures,
)

pub conditional-bounds-stack-depth : goal.conditional-bounds-stack-depth
conditional-bounds-stack-depth t c = asks-cond-read c.requires c.size_at.result c.size_at.ensures c.expression-p.ensures.answers
    c.end_of.ensures.0 c.emit-q.ensures c.expression-r.ensures.answers

pub conditional-emit-s-requires : goal.conditional-emit-s-requires
conditional-emit-s-requires t c = asks-cond-emit₂ c.requires c.size_at.result c.size_at.ensures c.expression-p.ensures.answers
    c.end_of.ensures.0 c.emit-q.ensures c.expression-r.ensures.answers

pub conditional-shape-t-requires : goal.conditional-shape-t-requires
conditional-shape-t-requires t c = asks-cond-shape c.requires c.size_at.result c.size_at.ensures c.expression-p.ensures.answers c.end_of.ensures.0 c.emit-q.ensures
    c.expression-r.ensures.answers c.size_at-2.result c.size_at-2.ensures
    c.end_of-2.ensures.0 c.emit-s.ensures

pub conditional-overflow_mul-last : goal.conditional-overflow_mul-last
conditional-overflow_mul-last t c = omega (arith, (asks-cond-passes₂ c.requires c.size_at.result c.size_at.ensures c.expression-p.ensures.answers c.size_at-2.result c.size_at-2.ensures).small)

pub conditional-slice_bounds-expression-count-3 : goal.conditional-slice_bounds-expression-count-3
conditional-slice_bounds-expression-count-3 t c = third-within c.args.part.now c.args.at (c.args.at + 1 + c.size_at.result) c.size_at-2.result (omega arith) (second-within c.args.part.now c.args.at c.size_at.result (asked c.requires).long (asks-cond-passes c.requires c.size_at.result c.size_at.ensures)) (asks-cond-passes₂ c.requires c.size_at.result c.size_at.ensures c.expression-p.ensures.answers c.size_at-2.result c.size_at-2.ensures)

pub conditional-slice_bounds-expression-start-3 : goal.conditional-slice_bounds-expression-start-3
conditional-slice_bounds-expression-start-3 t c = third-within c.args.part.now c.args.at (c.args.at + 1 + c.size_at.result) c.size_at-2.result (omega arith) (second-within c.args.part.now c.args.at c.size_at.result (asked c.requires).long (asks-cond-passes c.requires c.size_at.result c.size_at.ensures)) (asks-cond-passes₂ c.requires c.size_at.result c.size_at.ensures c.expression-p.ensures.answers c.size_at-2.result c.size_at-2.ensures)

pub conditional-overflow_sub-nesting-3 : goal.conditional-overflow_sub-nesting-3
conditional-overflow_sub-nesting-3 t c = omega (arith, (asked c.requires).nested)

pub conditional-expression-u-requires : goal.conditional-expression-u-requires
conditional-expression-u-requires t c = (
  omega (arith, (asked c.requires).nested, c.decreases),
  asks-cond-third c.requires c.size_at.result c.size_at.ensures c.expression-p.ensures.answers c.end_of.ensures.0
      c.emit-q.ensures c.expression-r.ensures.answers c.size_at-2.result c.size_at-2.ensures
      c.end_of-2.ensures.0 c.emit-s.ensures c.shape-t.ensures,
)

pub conditional-bounds-stack-depth-2 : goal.conditional-bounds-stack-depth-2
conditional-bounds-stack-depth-2 t c = asks-cond-write c.requires c.size_at.result c.size_at.ensures c.expression-p.ensures.answers c.end_of.ensures.0 c.emit-q.ensures
    c.expression-r.ensures.answers c.size_at-2.result c.size_at-2.ensures
    c.end_of-2.ensures.0 c.emit-s.ensures c.shape-t.ensures c.expression-u.ensures.answers

pub conditional-overflow_add-depth : goal.conditional-overflow_add-depth
conditional-overflow_add-depth t c = omega (arith, (asked c.requires).deep)

pub conditional-shape-done-requires : goal.conditional-shape-done-requires
conditional-shape-done-requires t c = asks-cond-shape₂ c.requires c.size_at.result c.size_at.ensures c.expression-p.ensures.answers c.end_of.ensures.0
    c.emit-q.ensures c.expression-r.ensures.answers c.size_at-2.result c.size_at-2.ensures
    c.end_of-2.ensures.0 c.emit-s.ensures c.shape-t.ensures c.expression-u.ensures.answers _ refl

pub conditional-finish-requires : goal.conditional-finish-requires
conditional-finish-requires t c = asks-cond-finish c.requires c.size_at.result c.size_at.ensures c.expression-p.ensures.answers c.end_of.ensures.0
    c.emit-q.ensures c.expression-r.ensures.answers c.size_at-2.result c.size_at-2.ensures
    c.end_of-2.ensures.0 c.emit-s.ensures c.shape-t.ensures c.expression-u.ensures.answers _ refl c.shape-done.ensures

pub conditional-shape_of-stack : goal.conditional-shape_of-stack
conditional-shape_of-stack t c = (conditional-returns-clause-answers t c).kept.same-stack

-- what it has done where it returns
pub expression-returns-then-kind-lt-KIND_FUNCTION-clause-answers : goal.expression-returns-then-kind-lt-KIND_FUNCTION-clause-answers
expression-returns-then-kind-lt-KIND_FUNCTION-clause-answers t c =
    answer-as (λ n h e. leaf-of n h (λ z. c.in_default.in_default-own.rest.0.0.1 (c.kind_at-kind.ensures ∙ (sym e ∙ z))) (λ z. c.in_default.in_default-own.rest.0.1 (c.kind_at-kind.ensures ∙ (sym e ∙ z)))
    (λ z. c.in_default.in_default-own.rest.1 (c.kind_at-kind.ensures ∙ (sym e ∙ z))) (omega (arith, e, c.kind_at-kind.ensures, c.if-kind-lt-KIND_FUNCTION.true)))
    (answers-leaf (ask-as (λ n h e. leaf-of n h (λ z. c.in_default.in_default-own.rest.0.0.1 (c.kind_at-kind.ensures ∙ (sym e ∙ z)))
    (λ z. c.in_default.in_default-own.rest.0.1 (c.kind_at-kind.ensures ∙ (sym e ∙ z)))
    (λ z. c.in_default.in_default-own.rest.1 (c.kind_at-kind.ensures ∙ (sym e ∙ z))) (omega (arith, e, c.kind_at-kind.ensures, c.if-kind-lt-KIND_FUNCTION.true)))
    c.requires) c.kind_at-kind.ensures c.a_at.ensures
    c.b_at.ensures c.known_of-k.ensures c.leaf_type.ensures c.leaf-done.ensures c.finish.ensures)

pub expression-kind_at-kind-requires : goal.expression-kind_at-kind-requires
expression-kind_at-kind-requires t c = omega (arith, (asked c.requires).long)

pub expression-pair-requires : goal.expression-pair-requires
expression-pair-requires t c = (omega (arith, c.decreases), ask-as (λ n h e. e ∙ (sym c.kind_at-kind.ensures ∙ c.in-49.is)) c.requires)

pub expression-conditional-requires : goal.expression-conditional-requires
expression-conditional-requires t c = (omega (arith, c.decreases), ask-as (λ n h e. e ∙ (sym c.kind_at-kind.ensures ∙ c.in-50.is)) c.requires)

pub expression-body-requires : goal.expression-body-requires
expression-body-requires t c = (omega (arith, c.decreases), ask-as (λ n h e. e ∙ (sym c.kind_at-kind.ensures ∙ c.in-53.is)) c.requires)

pub expression-a_at-requires : goal.expression-a_at-requires
expression-a_at-requires t c = omega (arith, (asked c.requires).long)

pub expression-known_of-k-requires : goal.expression-known_of-k-requires
expression-known_of-k-requires t c = (asked c.requires).room

pub expression-bounds-stack-depth : goal.expression-bounds-stack-depth
expression-bounds-stack-depth t c = omega (arith, (asked c.requires).deep, (asked c.requires).stacked)

pub expression-b_at-requires : goal.expression-b_at-requires
expression-b_at-requires t c = omega (arith, (asked c.requires).long)

pub expression-leaf-done-requires : goal.expression-leaf-done-requires
expression-leaf-done-requires t c = asks-leaf (ask-as (λ n h e. leaf-of n h (λ z. c.in_default.in_default-own.rest.0.0.1 (c.kind_at-kind.ensures ∙ (sym e ∙ z)))
    (λ z. c.in_default.in_default-own.rest.0.1 (c.kind_at-kind.ensures ∙ (sym e ∙ z))) (λ z. c.in_default.in_default-own.rest.1 (c.kind_at-kind.ensures ∙ (sym e ∙ z)))
    (omega (arith, e, c.kind_at-kind.ensures, c.if-kind-lt-KIND_FUNCTION.true))) c.requires)

pub expression-finish-requires : goal.expression-finish-requires
expression-finish-requires t c = asks-leaf-finish (ask-as (λ n h e. leaf-of n h (λ z. c.in_default.in_default-own.rest.0.0.1 (c.kind_at-kind.ensures ∙ (sym e ∙ z)))
    (λ z. c.in_default.in_default-own.rest.0.1 (c.kind_at-kind.ensures ∙ (sym e ∙ z))) (λ z. c.in_default.in_default-own.rest.1 (c.kind_at-kind.ensures ∙ (sym e ∙ z)))
    (omega (arith, e, c.kind_at-kind.ensures, c.if-kind-lt-KIND_FUNCTION.true))) c.requires) c.leaf-done.ensures.0

pub expression-simple-requires : goal.expression-simple-requires
expression-simple-requires t c = (
  omega (arith, c.decreases),
  asks-anew _ (ask-as (λ n h e. simple-expr n h (λ z. c.in_default.in_default-own.rest.0.0.1 (c.kind_at-kind.ensures ∙ (sym e ∙ z)))
      (λ z. c.in_default.in_default-own.rest.0.1 (c.kind_at-kind.ensures ∙ (sym e ∙ z))) (λ z. c.in_default.in_default-own.rest.1 (c.kind_at-kind.ensures ∙ (sym e ∙ z)))
      (omega (arith, e, c.kind_at-kind.ensures, c.if-kind-lt-KIND_FUNCTION.false))) c.requires),
)

pub expression-shape_of-stack-in-49 : goal.expression-shape_of-stack-in-49
expression-shape_of-stack-in-49 t c = c.pair.ensures.answers.kept.same-stack

pub expression-returns-in-49-clause-answers : goal.expression-returns-in-49-clause-answers
expression-returns-in-49-clause-answers t c = answer-as (λ n h e. e ∙ (sym c.kind_at-kind.ensures ∙ c.in-49.is)) c.pair.ensures.answers

pub expression-shape_of-stack-in-50 : goal.expression-shape_of-stack-in-50
expression-shape_of-stack-in-50 t c = c.conditional.ensures.answers.kept.same-stack

pub expression-returns-in-50-clause-answers : goal.expression-returns-in-50-clause-answers
expression-returns-in-50-clause-answers t c = answer-as (λ n h e. e ∙ (sym c.kind_at-kind.ensures ∙ c.in-50.is)) c.conditional.ensures.answers

pub expression-shape_of-stack-in-53 : goal.expression-shape_of-stack-in-53
expression-shape_of-stack-in-53 t c = c.body.ensures.answers.kept.same-stack

pub expression-returns-in-53-clause-answers : goal.expression-returns-in-53-clause-answers
expression-returns-in-53-clause-answers t c = answer-as (λ n h e. e ∙ (sym c.kind_at-kind.ensures ∙ c.in-53.is)) c.body.ensures.answers

pub expression-shape_of-stack-then-kind-lt-KIND_FUNCTION : goal.expression-shape_of-stack-then-kind-lt-KIND_FUNCTION
expression-shape_of-stack-then-kind-lt-KIND_FUNCTION t c = (expression-returns-then-kind-lt-KIND_FUNCTION-clause-answers t c).kept.same-stack

pub expression-shape_of-stack-else-kind-lt-KIND_FUNCTION : goal.expression-shape_of-stack-else-kind-lt-KIND_FUNCTION
expression-shape_of-stack-else-kind-lt-KIND_FUNCTION t c = c.simple.ensures.answers.kept.same-stack

pub expression-returns-else-kind-lt-KIND_FUNCTION-clause-answers : goal.expression-returns-else-kind-lt-KIND_FUNCTION-clause-answers
expression-returns-else-kind-lt-KIND_FUNCTION-clause-answers t c = answer-as (λ n h e. simple-expr n h (λ z. c.in_default.in_default-own.rest.0.0.1 (c.kind_at-kind.ensures ∙ (sym e ∙ z)))
    (λ z. c.in_default.in_default-own.rest.0.1 (c.kind_at-kind.ensures ∙ (sym e ∙ z))) (λ z. c.in_default.in_default-own.rest.1 (c.kind_at-kind.ensures ∙ (sym e ∙ z)))
    (omega (arith, e, c.kind_at-kind.ensures, c.if-kind-lt-KIND_FUNCTION.false))) (answers-anew _ c.simple.ensures.answers)

pub items-loop-i-init : goal.items-loop-i-init
items-loop-i-init t c =
    let e : c.args.count - 0 ≡ c.args.count = omega arith in
    record { same = search rules; far = rw e (items-start _ _ _ _ _ _ _ _ _ _ _ _ _) }

pub items-statement-p-requires : goal.items-statement-p-requires
items-statement-p-requires t c = (omega (arith, c.decreases), items-asks c.loop-i.invariant.far (omega arith) c.requires)

pub items-size_at-n-requires : goal.items-size_at-n-requires
items-size_at-n-requires t c = (items-passes c.loop-i.invariant.far (omega arith) c.requires _ refl).known

pub items-overflow_mul-from : goal.items-overflow_mul-from
items-overflow_mul-from t c = omega (arith, (items-passes c.loop-i.invariant.far (omega arith) c.requires c.size_at-n.result c.size_at-n.ensures).small)

pub items-slice_bounds-rest-count : goal.items-slice_bounds-rest-count
items-slice_bounds-rest-count t c = (items-passes c.loop-i.invariant.far (omega arith) c.requires c.size_at-n.result c.size_at-n.ensures).fits

pub items-slice_bounds-rest-start : goal.items-slice_bounds-rest-start
items-slice_bounds-rest-start t c = (items-passes c.loop-i.invariant.far (omega arith) c.requires c.size_at-n.result c.size_at-n.ensures).fits

pub items-overflow_add-place : goal.items-overflow_add-place
items-overflow_add-place t c = omega (arith, (items-passes c.loop-i.invariant.far (omega arith) c.requires c.size_at-n.result c.size_at-n.ensures).small)

pub items-loop-i-preserved : goal.items-loop-i-preserved
items-loop-i-preserved t c =
    let e : c.args.count - (c.loop-i.i + 1) ≡ c.args.count - c.loop-i.i - 1 = omega arith in
    record { same = search rules; far = rw e (items-next c.loop-i.invariant.far (omega arith) c.statement-p.ensures.answers c.size_at-n.result c.size_at-n.ensures) }

pub items-shape_of-stack : goal.items-shape_of-stack
items-shape_of-stack t c = (items-end c.loop-i.invariant.far (omega arith)).kept.same-stack

pub items-returns-clause-answers : goal.items-returns-clause-answers
items-returns-clause-answers t c = items-end c.loop-i.invariant.far (omega arith)

pub operands-loop-i-init : goal.operands-loop-i-init
operands-loop-i-init t c = record { same = search rules; far = es-start _ _ _ _ _ _ _ _ _ _ _ _ _ }

pub operands-overflow_add-depth : goal.operands-overflow_add-depth
operands-overflow_add-depth t c = omega (arith, (asked (es-asks c.loop-i.invariant.far (omega arith) c.requires)).deep)

pub operands-expression-p-requires : goal.operands-expression-p-requires
operands-expression-p-requires t c = (omega (arith, c.decreases), es-asks c.loop-i.invariant.far (omega arith) c.requires)

pub operands-size_at-n-requires : goal.operands-size_at-n-requires
operands-size_at-n-requires t c = (es-passes c.loop-i.invariant.far (omega arith) c.requires _ refl).known

pub operands-overflow_mul-from : goal.operands-overflow_mul-from
operands-overflow_mul-from t c = omega (arith, (es-passes c.loop-i.invariant.far (omega arith) c.requires c.size_at-n.result c.size_at-n.ensures).small)

pub operands-slice_bounds-rest-count : goal.operands-slice_bounds-rest-count
operands-slice_bounds-rest-count t c = (es-passes c.loop-i.invariant.far (omega arith) c.requires c.size_at-n.result c.size_at-n.ensures).fits

pub operands-slice_bounds-rest-start : goal.operands-slice_bounds-rest-start
operands-slice_bounds-rest-start t c = (es-passes c.loop-i.invariant.far (omega arith) c.requires c.size_at-n.result c.size_at-n.ensures).fits

pub operands-overflow_add-place : goal.operands-overflow_add-place
operands-overflow_add-place t c = omega (arith, (es-passes c.loop-i.invariant.far (omega arith) c.requires c.size_at-n.result c.size_at-n.ensures).small)

pub operands-loop-i-preserved : goal.operands-loop-i-preserved
operands-loop-i-preserved t c = record { same = search rules; far = es-next c.loop-i.invariant.far (omega arith) c.expression-p.ensures.answers c.size_at-n.result c.size_at-n.ensures }

pub operands-shape_of-stack : goal.operands-shape_of-stack
operands-shape_of-stack t c = (es-end c.loop-i.invariant.far (omega arith)).kept.same-stack

pub operands-returns-clause-answers : goal.operands-returns-clause-answers
operands-returns-clause-answers t c = es-end c.loop-i.invariant.far (omega arith)

-- what it has done where it returns
pub pair-returns-clause-answers : goal.pair-returns-clause-answers
pair-returns-clause-answers t c =
    answers-pair c.requires c.size_at.result c.size_at.ensures c.expression-p.ensures.answers c.a_at-operator.ensures
    c.end_of-end.ensures.0 c.way_of-way.ensures c.between-q.ensures (c.args.depth + c.waiting.result)
    (ap (λ (k : ℕ). c.args.depth + k) c.waiting.ensures)
    c.expression-r.ensures.answers c.pair_type.ensures c.behind-done.ensures c.finish.ensures

pub pair-a_at-operator-requires : goal.pair-a_at-operator-requires
pair-a_at-operator-requires t c = omega (arith, (asked c.requires).long)

pub pair-slice_bounds-expression-count : goal.pair-slice_bounds-expression-count
pair-slice_bounds-expression-count t c = omega (arith, (asked c.requires).long)

pub pair-slice_bounds-expression-start : goal.pair-slice_bounds-expression-start
pair-slice_bounds-expression-start t c = omega (arith, (asked c.requires).long)

pub pair-overflow_sub-nesting : goal.pair-overflow_sub-nesting
pair-overflow_sub-nesting t c = omega (arith, (asked c.requires).nested)

pub pair-overflow_add-at : goal.pair-overflow_add-at
pair-overflow_add-at t c = omega (arith, (asked c.requires).small)

pub pair-expression-p-requires : goal.pair-expression-p-requires
pair-expression-p-requires t c = (omega (arith, (asked c.requires).nested, c.decreases), asks-pair-first c.requires)

pub pair-overflow_add-second : goal.pair-overflow_add-second
pair-overflow_add-second t c = omega (arith, (asked c.requires).small)

pub pair-overflow_add-at-2 : goal.pair-overflow_add-at-2
pair-overflow_add-at-2 t c = omega (arith, (asked c.requires).small)

pub pair-size_at-requires : goal.pair-size_at-requires
pair-size_at-requires t c = (asks-pair-passes c.requires _ refl).known

pub pair-overflow_add-second-2 : goal.pair-overflow_add-second-2
pair-overflow_add-second-2 t c = omega (arith, (asks-pair-passes c.requires c.size_at.result c.size_at.ensures).small)

pub pair-bounds-stack-depth : goal.pair-bounds-stack-depth
pair-bounds-stack-depth t c = asks-pair-read c.requires c.size_at.result c.size_at.ensures c.expression-p.ensures.answers

pub pair-between-q-requires : goal.pair-between-q-requires
pair-between-q-requires t c = let z = asks-pair-between c.requires c.size_at.result c.size_at.ensures c.expression-p.ensures.answers c.a_at-operator.ensures
    c.end_of-end.ensures.0 c.way_of-way.ensures in (c.end_of-end.ensures.1, z.0, z.1, z.2, z.3)

pub pair-overflow_mul-from : goal.pair-overflow_mul-from
pair-overflow_mul-from t c = omega (arith, (asks-pair-passes c.requires c.size_at.result c.size_at.ensures).small)

pub pair-slice_bounds-expression-count-2 : goal.pair-slice_bounds-expression-count-2
pair-slice_bounds-expression-count-2 t c = second-within c.args.part.now c.args.at c.size_at.result (asked c.requires).long
    (asks-pair-passes c.requires c.size_at.result c.size_at.ensures)

pub pair-slice_bounds-expression-start-2 : goal.pair-slice_bounds-expression-start-2
pair-slice_bounds-expression-start-2 t c = second-within c.args.part.now c.args.at c.size_at.result (asked c.requires).long
    (asks-pair-passes c.requires c.size_at.result c.size_at.ensures)

pub pair-overflow_sub-nesting-2 : goal.pair-overflow_sub-nesting-2
pair-overflow_sub-nesting-2 t c = omega (arith, (asked c.requires).nested)

pub pair-overflow_add-depth : goal.pair-overflow_add-depth
pair-overflow_add-depth t c = omega (
  arith,
  (asked (asks-pair-second c.requires c.size_at.result c.size_at.ensures c.expression-p.ensures.answers c.a_at-operator.ensures
      c.end_of-end.ensures.0 c.way_of-way.ensures c.between-q.ensures (c.args.depth + c.waiting.result)
      (ap (λ (k : ℕ). c.args.depth + k) c.waiting.ensures))).deep,
)

pub pair-expression-r-requires : goal.pair-expression-r-requires
pair-expression-r-requires t c = (
  omega (arith, (asked c.requires).nested, c.decreases),
  asks-pair-second c.requires c.size_at.result c.size_at.ensures c.expression-p.ensures.answers c.a_at-operator.ensures
      c.end_of-end.ensures.0 c.way_of-way.ensures c.between-q.ensures (c.args.depth + c.waiting.result)
      (ap (λ (k : ℕ). c.args.depth + k) c.waiting.ensures),
)

pub pair-bounds-stack-depth-2 : goal.pair-bounds-stack-depth-2
pair-bounds-stack-depth-2 t c = asks-pair-write c.requires c.size_at.result c.size_at.ensures c.expression-p.ensures.answers c.a_at-operator.ensures
    c.end_of-end.ensures.0 c.way_of-way.ensures c.between-q.ensures (c.args.depth + c.waiting.result)
    (ap (λ (k : ℕ). c.args.depth + k) c.waiting.ensures)
    c.expression-r.ensures.answers

pub pair-behind-done-requires : goal.pair-behind-done-requires
pair-behind-done-requires t c = let z = asks-pair-behind c.requires c.size_at.result c.size_at.ensures c.expression-p.ensures.answers c.a_at-operator.ensures
    c.end_of-end.ensures.0 c.way_of-way.ensures c.between-q.ensures (c.args.depth + c.waiting.result)
    (ap (λ (k : ℕ). c.args.depth + k) c.waiting.ensures)
    c.expression-r.ensures.answers c.pair_type.ensures in (c.end_of-end.ensures.1, z.0, z.1, z.2, z.3)

pub pair-finish-requires : goal.pair-finish-requires
pair-finish-requires t c = asks-pair-finish c.requires c.size_at.result c.size_at.ensures c.expression-p.ensures.answers c.a_at-operator.ensures
    c.end_of-end.ensures.0 c.way_of-way.ensures c.between-q.ensures (c.args.depth + c.waiting.result)
    (ap (λ (k : ℕ). c.args.depth + k) c.waiting.ensures)
    c.expression-r.ensures.answers c.pair_type.ensures c.behind-done.ensures

pub pair-shape_of-stack : goal.pair-shape_of-stack
pair-shape_of-stack t c = (pair-returns-clause-answers t c).kept.same-stack

-- what it has done where it returns
pub repeat-returns-clause-answers : goal.repeat-returns-clause-answers
repeat-returns-clause-answers t c =
    answers-while c.requires c.shape-p.ensures c.size_at.result c.size_at.ensures
    c.expression-q.ensures.answers c.end_of.ensures.0 c.emit-r.ensures c.statement-s.ensures.answers refl
    c.emit-t.ensures
    c.shape-done.ensures c.finish.ensures

pub repeat-overflow_cast-start : goal.repeat-overflow_cast-start
repeat-overflow_cast-start t c = omega (arith, (asked c.requires).address)

pub repeat-shape-p-requires : goal.repeat-shape-p-requires
repeat-shape-p-requires t c = asks-while-shape c.requires

pub repeat-slice_bounds-expression-count : goal.repeat-slice_bounds-expression-count
repeat-slice_bounds-expression-count t c = omega (arith, (asked c.requires).long)

pub repeat-slice_bounds-expression-start : goal.repeat-slice_bounds-expression-start
repeat-slice_bounds-expression-start t c = omega (arith, (asked c.requires).long)

pub repeat-overflow_sub-nesting : goal.repeat-overflow_sub-nesting
repeat-overflow_sub-nesting t c = omega (arith, (asked c.requires).nested)

pub repeat-overflow_add-at : goal.repeat-overflow_add-at
repeat-overflow_add-at t c = omega (arith, (asked c.requires).small)

pub repeat-expression-q-requires : goal.repeat-expression-q-requires
repeat-expression-q-requires t c = (omega (arith, (asked c.requires).nested, c.decreases), asks-while-first c.requires c.shape-p.ensures)

pub repeat-overflow_add-second : goal.repeat-overflow_add-second
repeat-overflow_add-second t c = omega (arith, (asked c.requires).small)

pub repeat-overflow_add-at-2 : goal.repeat-overflow_add-at-2
repeat-overflow_add-at-2 t c = omega (arith, (asked c.requires).small)

pub repeat-size_at-requires : goal.repeat-size_at-requires
repeat-size_at-requires t c = (asks-while-passes c.requires c.shape-p.ensures _ refl).known

pub repeat-overflow_add-second-2 : goal.repeat-overflow_add-second-2
repeat-overflow_add-second-2 t c = omega (arith, (asks-while-passes c.requires c.shape-p.ensures c.size_at.result c.size_at.ensures).small)

pub repeat-overflow_add-end_of : goal.repeat-overflow_add-end_of
repeat-overflow_add-end_of t c = omega (arith, c.end_of.ensures.1)

pub repeat-emit-r-requires : goal.repeat-emit-r-requires
repeat-emit-r-requires t c = asks-while-emit c.requires c.shape-p.ensures c.size_at.result c.size_at.ensures c.expression-q.ensures.answers

pub repeat-overflow_mul-from : goal.repeat-overflow_mul-from
repeat-overflow_mul-from t c = omega (arith, (asks-while-passes c.requires c.shape-p.ensures c.size_at.result c.size_at.ensures).small)

pub repeat-slice_bounds-statement-count : goal.repeat-slice_bounds-statement-count
repeat-slice_bounds-statement-count t c = second-within c.args.part.now c.args.at c.size_at.result (asked c.requires).long
    (asks-while-passes c.requires c.shape-p.ensures c.size_at.result c.size_at.ensures)

pub repeat-slice_bounds-statement-start : goal.repeat-slice_bounds-statement-start
repeat-slice_bounds-statement-start t c = second-within c.args.part.now c.args.at c.size_at.result (asked c.requires).long
    (asks-while-passes c.requires c.shape-p.ensures c.size_at.result c.size_at.ensures)

pub repeat-overflow_sub-nesting-2 : goal.repeat-overflow_sub-nesting-2
repeat-overflow_sub-nesting-2 t c = omega (arith, (asked c.requires).nested)

pub repeat-statement-s-requires : goal.repeat-statement-s-requires
repeat-statement-s-requires t c = (
  omega (arith, (asked c.requires).nested, c.decreases),
  asks-while-second c.requires c.shape-p.ensures c.size_at.result c.size_at.ensures
      c.expression-q.ensures.answers c.end_of.ensures.0 c.emit-r.ensures,
)

pub repeat-emit-t-requires : goal.repeat-emit-t-requires
repeat-emit-t-requires t c = asks-while-emit₂ c.requires c.shape-p.ensures c.size_at.result c.size_at.ensures
    c.expression-q.ensures.answers c.end_of.ensures.0 c.emit-r.ensures c.statement-s.ensures.answers

pub repeat-shape-done-requires : goal.repeat-shape-done-requires
repeat-shape-done-requires t c = asks-while-shape₂ c.requires c.shape-p.ensures c.size_at.result c.size_at.ensures c.expression-q.ensures.answers
    c.end_of.ensures.0 c.emit-r.ensures c.statement-s.ensures.answers refl c.emit-t.ensures

pub repeat-finish-requires : goal.repeat-finish-requires
repeat-finish-requires t c = asks-while-finish c.requires c.shape-p.ensures c.size_at.result c.size_at.ensures c.expression-q.ensures.answers
    c.end_of.ensures.0 c.emit-r.ensures c.statement-s.ensures.answers refl c.emit-t.ensures
    c.shape-done.ensures

pub repeat-shape_of-stack : goal.repeat-shape_of-stack
repeat-shape_of-stack t c = (repeat-returns-clause-answers t c).kept.same-stack

-- what it has done where it returns
pub select-returns-clause-answers : goal.select-returns-clause-answers
select-returns-clause-answers t c =
    answers_select c.requires c.size_at.result c.size_at.ensures c.expression-p.ensures.answers
    c.a_at-count.ensures (c.second_in-cell.ensures ∙ ap second_in c.known_at.ensures)
    c.emit-q.ensures c.arms-r.ensures.answers c.emit-s.ensures c.shape-done.ensures
    c.finish.ensures

pub select-a_at-count-requires : goal.select-a_at-count-requires
select-a_at-count-requires t c = omega (arith, (asked c.requires).long)

pub select-slice_bounds-expression-count : goal.select-slice_bounds-expression-count
select-slice_bounds-expression-count t c = omega (arith, (asked c.requires).long)

pub select-slice_bounds-expression-start : goal.select-slice_bounds-expression-start
select-slice_bounds-expression-start t c = omega (arith, (asked c.requires).long)

pub select-overflow_sub-nesting : goal.select-overflow_sub-nesting
select-overflow_sub-nesting t c = omega (arith, (asked c.requires).nested)

pub select-overflow_add-at : goal.select-overflow_add-at
select-overflow_add-at t c = omega (arith, (asked c.requires).small)

pub select-expression-p-requires : goal.select-expression-p-requires
select-expression-p-requires t c = (omega (arith, (asked c.requires).nested, c.decreases), asks-select-first c.requires)

pub select-emit-q-requires : goal.select-emit-q-requires
select-emit-q-requires t c = asks-select-emit c.requires _ refl c.expression-p.ensures.answers

pub select-overflow_add-second : goal.select-overflow_add-second
select-overflow_add-second t c = omega (arith, (asked c.requires).small)

pub select-overflow_add-at-2 : goal.select-overflow_add-at-2
select-overflow_add-at-2 t c = omega (arith, (asked c.requires).small)

pub select-size_at-requires : goal.select-size_at-requires
select-size_at-requires t c = (asks-select-passes c.requires _ refl).known

pub select-overflow_add-second-2 : goal.select-overflow_add-second-2
select-overflow_add-second-2 t c = omega (arith, (asks-select-passes c.requires c.size_at.result c.size_at.ensures).small)

pub select-overflow_mul-from : goal.select-overflow_mul-from
select-overflow_mul-from t c = omega (arith, (asks-select-passes c.requires c.size_at.result c.size_at.ensures).small)

pub select-slice_bounds-arms-count : goal.select-slice_bounds-arms-count
select-slice_bounds-arms-count t c = second-within c.args.part.now c.args.at c.size_at.result (asked c.requires).long
    (asks-select-passes c.requires c.size_at.result c.size_at.ensures)

pub select-slice_bounds-arms-start : goal.select-slice_bounds-arms-start
select-slice_bounds-arms-start t c = second-within c.args.part.now c.args.at c.size_at.result (asked c.requires).long
    (asks-select-passes c.requires c.size_at.result c.size_at.ensures)

pub select-overflow_sub-nesting-2 : goal.select-overflow_sub-nesting-2
select-overflow_sub-nesting-2 t c = omega (arith, (asked c.requires).nested)

pub select-arms-r-requires : goal.select-arms-r-requires
select-arms-r-requires t c = (
  omega (arith, (asked c.requires).nested, c.decreases),
  asks-select-second c.requires c.size_at.result c.size_at.ensures c.expression-p.ensures.answers c.a_at-count.ensures
      (c.second_in-cell.ensures ∙ ap second_in c.known_at.ensures) c.emit-q.ensures,
)

pub select-emit-s-requires : goal.select-emit-s-requires
select-emit-s-requires t c = asks-select-emit₂ c.requires c.size_at.result c.size_at.ensures c.expression-p.ensures.answers c.a_at-count.ensures
    (c.second_in-cell.ensures ∙ ap second_in c.known_at.ensures) c.emit-q.ensures c.arms-r.ensures.answers

pub select-shape-done-requires : goal.select-shape-done-requires
select-shape-done-requires t c = asks-select-shape c.requires c.size_at.result c.size_at.ensures c.expression-p.ensures.answers c.a_at-count.ensures
    (c.second_in-cell.ensures ∙ ap second_in c.known_at.ensures) c.emit-q.ensures c.arms-r.ensures.answers c.emit-s.ensures

pub select-finish-requires : goal.select-finish-requires
select-finish-requires t c = asks-select-finish c.requires c.size_at.result c.size_at.ensures c.expression-p.ensures.answers c.a_at-count.ensures
    (c.second_in-cell.ensures ∙ ap second_in c.known_at.ensures) c.emit-q.ensures c.arms-r.ensures.answers c.emit-s.ensures c.shape-done.ensures

pub select-shape_of-stack : goal.select-shape_of-stack
select-shape_of-stack t c = (select-returns-clause-answers t c).kept.same-stack

-- what it has done where it returns
pub simple-returns-clause-answers : goal.simple-returns-clause-answers
simple-returns-clause-answers t c =
    answers-simple c.requires c.kind_at-kind.ensures c.a_at-a.ensures c.b_at.ensures
    c.operands_of-count.ensures c.operands-p.ensures.answers c.known_of-k.ensures c.last-done.ensures
    c.last_type.ensures c.finish.ensures

pub simple-kind_at-kind-requires : goal.simple-kind_at-kind-requires
simple-kind_at-kind-requires t c = omega (arith, (asked c.requires).long)

pub simple-a_at-a-requires : goal.simple-a_at-a-requires
simple-a_at-a-requires t c = omega (arith, (asked c.requires).long)

pub simple-b_at-requires : goal.simple-b_at-requires
simple-b_at-requires t c = omega (arith, (asked c.requires).long)

pub simple-slice_bounds-operands-count : goal.simple-slice_bounds-operands-count
simple-slice_bounds-operands-count t c = omega (arith, (asked c.requires).long)

pub simple-slice_bounds-operands-start : goal.simple-slice_bounds-operands-start
simple-slice_bounds-operands-start t c = omega (arith, (asked c.requires).long)

pub simple-overflow_sub-nesting : goal.simple-overflow_sub-nesting
simple-overflow_sub-nesting t c = omega (arith, (asked c.requires).nested)

pub simple-overflow_add-at : goal.simple-overflow_add-at
simple-overflow_add-at t c = omega (arith, (asked c.requires).small)

pub simple-operands-p-requires : goal.simple-operands-p-requires
simple-operands-p-requires t c = (
  omega (arith, (asked c.requires).nested, c.decreases),
  asks-simple-first c.requires c.kind_at-kind.ensures c.a_at-a.ensures c.b_at.ensures
      c.operands_of-count.ensures,
)

pub simple-known_of-k-requires : goal.simple-known_of-k-requires
simple-known_of-k-requires t c = asks-simple-room c.requires c.kind_at-kind.ensures c.a_at-a.ensures c.b_at.ensures
    c.operands_of-count.ensures c.operands-p.ensures.answers

pub simple-bounds-stack-depth : goal.simple-bounds-stack-depth
simple-bounds-stack-depth t c = asks-simple-read c.requires c.kind_at-kind.ensures c.a_at-a.ensures c.b_at.ensures
    c.operands_of-count.ensures c.operands-p.ensures.answers

pub simple-bounds-stack-depth-2 : goal.simple-bounds-stack-depth-2
simple-bounds-stack-depth-2 t c = asks-simple-read c.requires c.kind_at-kind.ensures c.a_at-a.ensures c.b_at.ensures
    c.operands_of-count.ensures c.operands-p.ensures.answers

pub simple-last-done-requires : goal.simple-last-done-requires
simple-last-done-requires t c = asks-simple-last c.requires c.kind_at-kind.ensures c.a_at-a.ensures c.b_at.ensures
    c.operands_of-count.ensures c.operands-p.ensures.answers c.known_of-k.ensures

pub simple-finish-requires : goal.simple-finish-requires
simple-finish-requires t c = asks-simple-finish c.requires c.kind_at-kind.ensures c.a_at-a.ensures c.b_at.ensures c.operands_of-count.ensures
    c.operands-p.ensures.answers c.known_of-k.ensures c.last-done.ensures

pub simple-shape_of-stack : goal.simple-shape_of-stack
simple-shape_of-stack t c = (simple-returns-clause-answers t c).kept.same-stack

-- what it has done where it returns
pub statement-returns-in-20-clause-answers : goal.statement-returns-in-20-clause-answers
statement-returns-in-20-clause-answers t c =
    answer-as (λ n h e. e ∙ (sym c.kind_at-kind.ensures ∙ c.in-20.is))
    (answers-label (ask-as (λ n h e. e ∙ (sym c.kind_at-kind.ensures ∙ c.in-20.is)) c.requires) c.shape-done.ensures c.finish.ensures)

pub statement-returns-in-25-clause-answers : goal.statement-returns-in-25-clause-answers
statement-returns-in-25-clause-answers t c =
    answer-as (λ n h e. e ∙ (sym c.kind_at-kind.ensures ∙ c.in-25.is))
    (answers-goto (ask-as (λ n h e. e ∙ (sym c.kind_at-kind.ensures ∙ c.in-25.is)) c.requires)
    c.a_at.ensures c.goto-done.ensures c.finish-in-25.ensures)

pub statement-kind_at-kind-requires : goal.statement-kind_at-kind-requires
statement-kind_at-kind-requires t c = omega (arith, (asked c.requires).long)

pub statement-block-requires : goal.statement-block-requires
statement-block-requires t c = (omega (arith, c.decreases), ask-as (λ n h e. e ∙ (sym c.kind_at-kind.ensures ∙ c.in-1.is)) c.requires)

pub statement-shape-done-requires : goal.statement-shape-done-requires
statement-shape-done-requires t c = asks-label-shape (ask-as (λ n h e. e ∙ (sym c.kind_at-kind.ensures ∙ c.in-20.is)) c.requires)

pub statement-finish-requires : goal.statement-finish-requires
statement-finish-requires t c = asks-label-finish (ask-as (λ n h e. e ∙ (sym c.kind_at-kind.ensures ∙ c.in-20.is)) c.requires) c.shape-done.ensures

pub statement-assign-requires : goal.statement-assign-requires
statement-assign-requires t c = (omega (arith, c.decreases), ask-as (λ n h e. e ∙ (sym c.kind_at-kind.ensures ∙ c.in-21.is)) c.requires)

pub statement-when-requires : goal.statement-when-requires
statement-when-requires t c = (omega (arith, c.decreases), ask-as (λ n h e. e ∙ (sym c.kind_at-kind.ensures ∙ c.in-22.is)) c.requires)

pub statement-choose-requires : goal.statement-choose-requires
statement-choose-requires t c = (omega (arith, c.decreases), ask-as (λ n h e. e ∙ (sym c.kind_at-kind.ensures ∙ c.in-23.is)) c.requires)

pub statement-repeat-requires : goal.statement-repeat-requires
statement-repeat-requires t c = (omega (arith, c.decreases), ask-as (λ n h e. e ∙ (sym c.kind_at-kind.ensures ∙ c.in-24.is)) c.requires)

pub statement-a_at-requires : goal.statement-a_at-requires
statement-a_at-requires t c = omega (arith, (asked c.requires).long)

pub statement-goto-done-requires : goal.statement-goto-done-requires
statement-goto-done-requires t c = asks-goto (ask-as (λ n h e. e ∙ (sym c.kind_at-kind.ensures ∙ c.in-25.is)) c.requires) c.a_at.ensures

pub statement-finish-requires-in-25 : goal.statement-finish-requires-in-25
statement-finish-requires-in-25 t c = asks-goto-finish (ask-as (λ n h e. e ∙ (sym c.kind_at-kind.ensures ∙ c.in-25.is)) c.requires) c.a_at.ensures c.goto-done.ensures

pub statement-select-requires : goal.statement-select-requires
statement-select-requires t c = (omega (arith, c.decreases), ask-as (λ n h e. e ∙ (sym c.kind_at-kind.ensures ∙ c.in-30.is)) c.requires)

pub statement-turns-requires : goal.statement-turns-requires
statement-turns-requires t c = (omega (arith, c.decreases), ask-as (λ n h e. e ∙ (sym c.kind_at-kind.ensures ∙ c.in-31.is)) c.requires)

pub statement-simple-requires : goal.statement-simple-requires
statement-simple-requires t c = (
  omega (arith, c.decreases),
  asks-anew _ (ask-as (λ n h e. simple-stmt n h
      (λ z. c.in_default.in_default-own.rest.0.0.0.0.0.0.0.0.1 (c.kind_at-kind.ensures ∙ (sym e ∙ z)))
      (λ z. c.in_default.in_default-own.rest.0.0.0.0.0.0.0.1 (c.kind_at-kind.ensures ∙ (sym e ∙ z)))
      (λ z. c.in_default.in_default-own.rest.0.0.0.0.0.0.1 (c.kind_at-kind.ensures ∙ (sym e ∙ z)))
      (λ z. c.in_default.in_default-own.rest.0.0.0.0.0.1 (c.kind_at-kind.ensures ∙ (sym e ∙ z)))
      (λ z. c.in_default.in_default-own.rest.0.0.0.0.1 (c.kind_at-kind.ensures ∙ (sym e ∙ z))) (λ z. c.in_default.in_default-own.rest.0.0.0.1 (c.kind_at-kind.ensures ∙ (sym e ∙ z)))
      (λ z. c.in_default.in_default-own.rest.0.0.1 (c.kind_at-kind.ensures ∙ (sym e ∙ z))) (λ z. c.in_default.in_default-own.rest.0.1 (c.kind_at-kind.ensures ∙ (sym e ∙ z)))
      (λ z. c.in_default.in_default-own.rest.1 (c.kind_at-kind.ensures ∙ (sym e ∙ z)))) c.requires),
)

pub statement-shape_of-stack-in-1 : goal.statement-shape_of-stack-in-1
statement-shape_of-stack-in-1 t c = c.block.ensures.answers.kept.same-stack

pub statement-returns-in-1-clause-answers : goal.statement-returns-in-1-clause-answers
statement-returns-in-1-clause-answers t c = answer-as (λ n h e. e ∙ (sym c.kind_at-kind.ensures ∙ c.in-1.is)) c.block.ensures.answers

pub statement-shape_of-stack-in-20 : goal.statement-shape_of-stack-in-20
statement-shape_of-stack-in-20 t c = (statement-returns-in-20-clause-answers t c).kept.same-stack

pub statement-shape_of-stack-in-21 : goal.statement-shape_of-stack-in-21
statement-shape_of-stack-in-21 t c = c.assign.ensures.answers.kept.same-stack

pub statement-returns-in-21-clause-answers : goal.statement-returns-in-21-clause-answers
statement-returns-in-21-clause-answers t c = answer-as (λ n h e. e ∙ (sym c.kind_at-kind.ensures ∙ c.in-21.is)) c.assign.ensures.answers

pub statement-shape_of-stack-in-22 : goal.statement-shape_of-stack-in-22
statement-shape_of-stack-in-22 t c = c.when.ensures.answers.kept.same-stack

pub statement-returns-in-22-clause-answers : goal.statement-returns-in-22-clause-answers
statement-returns-in-22-clause-answers t c = answer-as (λ n h e. e ∙ (sym c.kind_at-kind.ensures ∙ c.in-22.is)) c.when.ensures.answers

pub statement-shape_of-stack-in-23 : goal.statement-shape_of-stack-in-23
statement-shape_of-stack-in-23 t c = c.choose.ensures.answers.kept.same-stack

pub statement-returns-in-23-clause-answers : goal.statement-returns-in-23-clause-answers
statement-returns-in-23-clause-answers t c = answer-as (λ n h e. e ∙ (sym c.kind_at-kind.ensures ∙ c.in-23.is)) c.choose.ensures.answers

pub statement-shape_of-stack-in-24 : goal.statement-shape_of-stack-in-24
statement-shape_of-stack-in-24 t c = c.repeat.ensures.answers.kept.same-stack

pub statement-returns-in-24-clause-answers : goal.statement-returns-in-24-clause-answers
statement-returns-in-24-clause-answers t c = answer-as (λ n h e. e ∙ (sym c.kind_at-kind.ensures ∙ c.in-24.is)) c.repeat.ensures.answers

pub statement-shape_of-stack-in-25 : goal.statement-shape_of-stack-in-25
statement-shape_of-stack-in-25 t c = (statement-returns-in-25-clause-answers t c).kept.same-stack

pub statement-shape_of-stack-in-30 : goal.statement-shape_of-stack-in-30
statement-shape_of-stack-in-30 t c = c.select.ensures.answers.kept.same-stack

pub statement-returns-in-30-clause-answers : goal.statement-returns-in-30-clause-answers
statement-returns-in-30-clause-answers t c = answer-as (λ n h e. e ∙ (sym c.kind_at-kind.ensures ∙ c.in-30.is)) c.select.ensures.answers

pub statement-shape_of-stack-in-31 : goal.statement-shape_of-stack-in-31
statement-shape_of-stack-in-31 t c = c.turns.ensures.answers.kept.same-stack

pub statement-returns-in-31-clause-answers : goal.statement-returns-in-31-clause-answers
statement-returns-in-31-clause-answers t c = answer-as (λ n h e. e ∙ (sym c.kind_at-kind.ensures ∙ c.in-31.is)) c.turns.ensures.answers

pub statement-shape_of-stack-in_default : goal.statement-shape_of-stack-in_default
statement-shape_of-stack-in_default t c = c.simple.ensures.answers.kept.same-stack

pub statement-returns-in_default-clause-answers : goal.statement-returns-in_default-clause-answers
statement-returns-in_default-clause-answers t c = answer-as (λ n h e. simple-stmt n h (λ z. c.in_default.in_default-own.rest.0.0.0.0.0.0.0.0.1 (c.kind_at-kind.ensures ∙ (sym e ∙ z)))
    (λ z. c.in_default.in_default-own.rest.0.0.0.0.0.0.0.1 (c.kind_at-kind.ensures ∙ (sym e ∙ z)))
    (λ z. c.in_default.in_default-own.rest.0.0.0.0.0.0.1 (c.kind_at-kind.ensures ∙ (sym e ∙ z)))
    (λ z. c.in_default.in_default-own.rest.0.0.0.0.0.1 (c.kind_at-kind.ensures ∙ (sym e ∙ z)))
    (λ z. c.in_default.in_default-own.rest.0.0.0.0.1 (c.kind_at-kind.ensures ∙ (sym e ∙ z))) (λ z. c.in_default.in_default-own.rest.0.0.0.1 (c.kind_at-kind.ensures ∙ (sym e ∙ z)))
    (λ z. c.in_default.in_default-own.rest.0.0.1 (c.kind_at-kind.ensures ∙ (sym e ∙ z))) (λ z. c.in_default.in_default-own.rest.0.1 (c.kind_at-kind.ensures ∙ (sym e ∙ z)))
    (λ z. c.in_default.in_default-own.rest.1 (c.kind_at-kind.ensures ∙ (sym e ∙ z))))
    (answers-anew _ c.simple.ensures.answers)

-- what it has done where it returns
pub turns-returns-clause-answers : goal.turns-returns-clause-answers
turns-returns-clause-answers t c =
    answers-turn c.requires c.spanned-n.result c.spanned-n.ensures c.operands-p.ensures.answers c.shape-q.ensures
    (c.second_in-cell.ensures ∙ ap second_in c.known_at.ensures) c.end_of-exit.ensures.0 c.enter_turns-r.ensures
    c.a_at-control.ensures c.enter_loop-up.ensures c.statement-s.ensures.answers c.leave_turn-t.ensures
    c.finish.ensures

pub turns-a_at-control-requires : goal.turns-a_at-control-requires
turns-a_at-control-requires t c = omega (arith, (asked c.requires).long)

pub turns-slice_bounds-operands-count : goal.turns-slice_bounds-operands-count
turns-slice_bounds-operands-count t c = omega (arith, (asked c.requires).long)

pub turns-slice_bounds-operands-start : goal.turns-slice_bounds-operands-start
turns-slice_bounds-operands-start t c = omega (arith, (asked c.requires).long)

pub turns-overflow_sub-nesting : goal.turns-overflow_sub-nesting
turns-overflow_sub-nesting t c = omega (arith, (asked c.requires).nested)

pub turns-overflow_add-at : goal.turns-overflow_add-at
turns-overflow_add-at t c = omega (arith, (asked c.requires).small)

pub turns-operands-p-requires : goal.turns-operands-p-requires
turns-operands-p-requires t c = (omega (arith, (asked c.requires).nested, c.decreases), asks-turn-first c.requires)

pub turns-overflow_add-at-2 : goal.turns-overflow_add-at-2
turns-overflow_add-at-2 t c = omega (arith, (asked c.requires).small)

pub turns-spanned-n-requires : goal.turns-spanned-n-requires
turns-spanned-n-requires t c = asks-turn-spans c.requires

pub turns-overflow_add-depth : goal.turns-overflow_add-depth
turns-overflow_add-depth t c = omega (arith, (asked c.requires).deep)

pub turns-shape-q-requires : goal.turns-shape-q-requires
turns-shape-q-requires t c = asks-turn-shape c.requires c.spanned-n.result c.spanned-n.ensures c.operands-p.ensures.answers

pub turns-enter_turns-r-requires : goal.turns-enter_turns-r-requires
turns-enter_turns-r-requires t c = asks-turn-enter c.requires c.spanned-n.result c.spanned-n.ensures c.operands-p.ensures.answers
    c.shape-q.ensures (c.second_in-cell.ensures ∙ ap second_in c.known_at.ensures) c.end_of-exit.ensures.0

pub turns-enter_loop-up-requires : goal.turns-enter_loop-up-requires
turns-enter_loop-up-requires t c = asks-turn-room c.requires c.spanned-n.result c.spanned-n.ensures c.operands-p.ensures.answers c.shape-q.ensures
    (c.second_in-cell.ensures ∙ ap second_in c.known_at.ensures) c.end_of-exit.ensures.0 c.enter_turns-r.ensures

pub turns-overflow_add-from : goal.turns-overflow_add-from
turns-overflow_add-from t c = omega (arith, (asks-turn-within c.requires c.spanned-n.result c.spanned-n.ensures).1)

pub turns-overflow_mul-from : goal.turns-overflow_mul-from
turns-overflow_mul-from t c = omega (arith, (asks-turn-within c.requires c.spanned-n.result c.spanned-n.ensures).1)

pub turns-slice_bounds-statement-count : goal.turns-slice_bounds-statement-count
turns-slice_bounds-statement-count t c = (asks-turn-within c.requires c.spanned-n.result c.spanned-n.ensures).0

pub turns-slice_bounds-statement-start : goal.turns-slice_bounds-statement-start
turns-slice_bounds-statement-start t c = (asks-turn-within c.requires c.spanned-n.result c.spanned-n.ensures).0

pub turns-overflow_sub-nesting-2 : goal.turns-overflow_sub-nesting-2
turns-overflow_sub-nesting-2 t c = omega (arith, (asked c.requires).nested)

pub turns-overflow_add-at-3 : goal.turns-overflow_add-at-3
turns-overflow_add-at-3 t c = omega (arith, (asked c.requires).small)

pub turns-overflow_add-at-4 : goal.turns-overflow_add-at-4
turns-overflow_add-at-4 t c = omega (arith, (asks-turn-within c.requires c.spanned-n.result c.spanned-n.ensures).1)

pub turns-statement-s-requires : goal.turns-statement-s-requires
turns-statement-s-requires t c = (
  omega (arith, (asked c.requires).nested, c.decreases),
  asks-turn-second c.requires c.spanned-n.result
      c.spanned-n.ensures c.operands-p.ensures.answers c.shape-q.ensures (c.second_in-cell.ensures ∙ ap second_in
      c.known_at.ensures) c.end_of-exit.ensures.0 c.enter_turns-r.ensures c.a_at-control.ensures
      c.enter_loop-up.ensures,
)

pub turns-overflow_cast-began : goal.turns-overflow_cast-began
turns-overflow_cast-began t c = omega (
  arith,
  asks-turn-began c.requires c.spanned-n.result c.spanned-n.ensures c.operands-p.ensures.answers
      c.shape-q.ensures (c.second_in-cell.ensures ∙ ap second_in c.known_at.ensures) c.end_of-exit.ensures.0
      c.enter_turns-r.ensures,
)

pub turns-leave_turn-t-requires : goal.turns-leave_turn-t-requires
turns-leave_turn-t-requires t c = asks-turn-leave c.requires c.spanned-n.result c.spanned-n.ensures c.operands-p.ensures.answers
    c.shape-q.ensures (c.second_in-cell.ensures ∙ ap second_in c.known_at.ensures) c.end_of-exit.ensures.0
    c.enter_turns-r.ensures c.a_at-control.ensures c.enter_loop-up.ensures c.statement-s.ensures.answers

pub turns-finish-requires : goal.turns-finish-requires
turns-finish-requires t c = asks-turn-finish c.requires c.spanned-n.result c.spanned-n.ensures c.operands-p.ensures.answers
    c.shape-q.ensures (c.second_in-cell.ensures ∙ ap second_in c.known_at.ensures) c.end_of-exit.ensures.0
    c.enter_turns-r.ensures c.a_at-control.ensures c.enter_loop-up.ensures c.statement-s.ensures.answers
    c.leave_turn-t.ensures

pub turns-shape_of-stack : goal.turns-shape_of-stack
turns-shape_of-stack t c = (turns-returns-clause-answers t c).kept.same-stack

-- what it has done where it returns
pub when-returns-clause-answers : goal.when-returns-clause-answers
when-returns-clause-answers t c =
    answers-when c.requires c.size_at.result c.size_at.ensures c.expression-p.ensures.answers
    c.end_of.ensures.0 c.emit-q.ensures c.statement-r.ensures.answers c.shape-done.ensures
    c.finish.ensures

pub when-slice_bounds-expression-count : goal.when-slice_bounds-expression-count
when-slice_bounds-expression-count t c = omega (arith, (asked c.requires).long)

pub when-slice_bounds-expression-start : goal.when-slice_bounds-expression-start
when-slice_bounds-expression-start t c = omega (arith, (asked c.requires).long)

pub when-overflow_sub-nesting : goal.when-overflow_sub-nesting
when-overflow_sub-nesting t c = omega (arith, (asked c.requires).nested)

pub when-overflow_add-at : goal.when-overflow_add-at
when-overflow_add-at t c = omega (arith, (asked c.requires).small)

pub when-expression-p-requires : goal.when-expression-p-requires
when-expression-p-requires t c = (omega (arith, (asked c.requires).nested, c.decreases), asks-when-first c.requires)

pub when-overflow_add-second : goal.when-overflow_add-second
when-overflow_add-second t c = omega (arith, (asked c.requires).small)

pub when-overflow_add-at-2 : goal.when-overflow_add-at-2
when-overflow_add-at-2 t c = omega (arith, (asked c.requires).small)

pub when-size_at-requires : goal.when-size_at-requires
when-size_at-requires t c = (asks-when-passes c.requires _ refl).known

pub when-overflow_add-second-2 : goal.when-overflow_add-second-2
when-overflow_add-second-2 t c = omega (arith, (asks-when-passes c.requires c.size_at.result c.size_at.ensures).small)

pub when-emit-q-requires : goal.when-emit-q-requires
when-emit-q-requires t c = asks-when-emit c.requires c.size_at.result c.size_at.ensures c.expression-p.ensures.answers

pub when-overflow_mul-from : goal.when-overflow_mul-from
when-overflow_mul-from t c = omega (arith, (asks-when-passes c.requires c.size_at.result c.size_at.ensures).small)

pub when-slice_bounds-statement-count : goal.when-slice_bounds-statement-count
when-slice_bounds-statement-count t c = second-within c.args.part.now c.args.at c.size_at.result (asked c.requires).long
    (asks-when-passes c.requires c.size_at.result c.size_at.ensures)

pub when-slice_bounds-statement-start : goal.when-slice_bounds-statement-start
when-slice_bounds-statement-start t c = second-within c.args.part.now c.args.at c.size_at.result (asked c.requires).long
    (asks-when-passes c.requires c.size_at.result c.size_at.ensures)

pub when-overflow_sub-nesting-2 : goal.when-overflow_sub-nesting-2
when-overflow_sub-nesting-2 t c = omega (arith, (asked c.requires).nested)

pub when-statement-r-requires : goal.when-statement-r-requires
when-statement-r-requires t c = (
  omega (arith, (asked c.requires).nested, c.decreases),
  asks-when-second c.requires c.size_at.result c.size_at.ensures c.expression-p.ensures.answers c.end_of.ensures.0 c.emit-q.ensures,
)

pub when-shape-done-requires : goal.when-shape-done-requires
when-shape-done-requires t c = asks-when-shape c.requires c.size_at.result c.size_at.ensures c.expression-p.ensures.answers
    c.end_of.ensures.0 c.emit-q.ensures c.statement-r.ensures.answers

pub when-finish-requires : goal.when-finish-requires
when-finish-requires t c = asks-when-finish c.requires c.size_at.result c.size_at.ensures c.expression-p.ensures.answers
    c.end_of.ensures.0 c.emit-q.ensures c.statement-r.ensures.answers c.shape-done.ensures

pub when-shape_of-stack : goal.when-shape_of-stack
when-shape_of-stack t c = (when-returns-clause-answers t c).kept.same-stack
