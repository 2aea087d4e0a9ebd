-- The walkers meet their contracts: the nesting that is left falls from an entry to those below it, and on one level the walkers have an order.
-- What each asks and answers is in table_forms.
use mathlib.Core.Path.{refl, sym, ◌∙◌}
use borrow.Author.Tests.{eqb-true}
use Rattle.logic.specs.Tests.{both_left, both_right}
use Rattle.table_names.proofs.Spares.{spared-label, spared-one, spared-next, unspared}
use native.Mathlib.Omega.{arith}
use Rattle.std.proofs.lemmas.Result.{err_from_is_err_and}
use Rattle.table_forms.specs.Forms.{is_body, is-simple, is_block, is-count, is_guard, is_other}
use Rattle.table_forms.specs.Part.{asked}
use Rattle.table_forms.specs.OperandList.{es-start, es-asks, es-room, es-passes, es-stop, es-next, es-end}
use Rattle.table_forms.specs.ItemList.{items-start, items-asks, items-passes, items-stop, items-next, items-end}
use Rattle.table_forms.specs.ByKind.{ask-as, answer-as, typed-as, typed-answer, label-answer, plain_form}
use Rattle.table_forms.specs.Simple.{simple-asks, settle-asks, simple-stop, simple-judged, simple-fixed, fixed-long}
use Rattle.table_forms.specs.Leaf.{leaf-judged, leaf-small}
use Rattle.table_forms.specs.Guard.{guard-asks, guard-passes, guard-stop, guard-items, guard-stop-2, guard-judged}
use Rattle.table_forms.specs.Count.{count-asks, count_room, count-spans, count_fits, count-stop, count-inner, count-stop-2, count-judged}
use Rattle.table_forms.specs.Block.{contents-stop, contents-judged, block-asks, block-contents, block-judged}
use Rattle.table_forms.specs.Body.{body-asks, body-contents, body-stop, body-result, body-fits, body-judged}
use Rattle.table_names.proofs.walkers.+block_body_contents_counted_expression_guarded_item_items_operand_operands_simple_statement.Goals as goal

pub block-a_at-heads-requires : goal.block-a_at-heads-requires
block-a_at-heads-requires t c = omega (arith, (asked c.requires).long)

pub block-b_at-count-requires : goal.block-b_at-count-requires
block-b_at-count-requires t c = omega (arith, (asked c.requires).long)

pub block-overflow_add-at : goal.block-overflow_add-at
block-overflow_add-at t c = omega (arith, (asked c.requires).small)

pub block-open-opened-requires : goal.block-open-opened-requires
block-open-opened-requires t c =
    let a = block-asks c.a_at-heads.result c.b_at-count.result (c.a_at-heads.ensures, c.b_at-count.ensures) c.requires in
    (a.known, a.within, a.reach, a.short, a.room)

pub block-overflow_sub-nesting : goal.block-overflow_sub-nesting
block-overflow_sub-nesting t c = omega (arith, (asked c.requires).nested)

pub block-contents-requires : goal.block-contents-requires
block-contents-requires t c = (
  omega (arith, (asked c.requires).nested),
  (
    block-contents c.a_at-heads.result c.b_at-count.result
        (c.a_at-heads.ensures, c.b_at-count.ensures) c.open-opened.ensures.0 c.requires,
    c.open-opened.ensures.1,
  ),
)

pub block-returns : goal.block-returns
block-returns t c = block-judged c.a_at-heads.result c.b_at-count.result (c.a_at-heads.ensures, c.b_at-count.ensures) c.open-opened.ensures.0 c.contents.ensures

pub body-a_at-heads-requires : goal.body-a_at-heads-requires
body-a_at-heads-requires t c = omega (arith, (asked c.requires).long)

pub body-b_at-count-requires : goal.body-b_at-count-requires
body-b_at-count-requires t c = omega (arith, (asked c.requires).long)

pub body-overflow_add-at : goal.body-overflow_add-at
body-overflow_add-at t c = omega (arith, (asked c.requires).small)

pub body-open-opened-requires : goal.body-open-opened-requires
body-open-opened-requires t c =
    let a = body-asks c.a_at-heads.result c.b_at-count.result (c.a_at-heads.ensures, c.b_at-count.ensures) c.requires in
    (a.known, a.within, a.reach, a.short, a.room)

pub body-overflow_sub-nesting : goal.body-overflow_sub-nesting
body-overflow_sub-nesting t c = omega (arith, (asked c.requires).nested)

pub body-contents-requires : goal.body-contents-requires
body-contents-requires t c = (
  omega (arith, (asked c.requires).nested),
  (
    body-contents c.a_at-heads.result c.b_at-count.result (c.a_at-heads.ensures, c.b_at-count.ensures) c.open-opened.ensures.0 c.requires,
    c.open-opened.ensures.1,
  ),
)

pub body-overflow_add-at-2 : goal.body-overflow_add-at-2
body-overflow_add-at-2 t c = omega (arith, (asked c.requires).small)

pub body-overflow_add-at-3 : goal.body-overflow_add-at-3
body-overflow_add-at-3 t c =
    let w = body-contents c.a_at-heads.result c.b_at-count.result (c.a_at-heads.ensures, c.b_at-count.ensures) c.open-opened.ensures.0 c.requires in
    omega (arith, w.fits, w.within, w.short)

pub body-spanned-n-requires : goal.body-spanned-n-requires
body-spanned-n-requires t c =
    let w = body-contents c.a_at-heads.result c.b_at-count.result (c.a_at-heads.ensures, c.b_at-count.ensures) c.open-opened.ensures.0 c.requires in (
      (body-asks c.a_at-heads.result c.b_at-count.result (c.a_at-heads.ensures, c.b_at-count.ensures) c.requires).known,
      omega (arith, w.within),
    )

pub body-overflow_add-after : goal.body-overflow_add-after
body-overflow_add-after t c =
    let w = body-contents c.a_at-heads.result c.b_at-count.result (c.a_at-heads.ensures, c.b_at-count.ensures) c.open-opened.ensures.0 c.requires in
    omega (arith, w.fits, w.within, w.short)

pub body-overflow_add-after-2 : goal.body-overflow_add-after-2
body-overflow_add-after-2 t c =
    omega (
      arith,
      body-fits c.a_at-heads.result c.b_at-count.result (c.a_at-heads.ensures, c.b_at-count.ensures) c.open-opened.ensures.0
          c.contents.ensures _ c.spanned-n.result c.in_ok-contents.was c.spanned-n.ensures c.requires,
    )

pub body-overflow_mul-after : goal.body-overflow_mul-after
body-overflow_mul-after t c =
    omega (
      arith,
      body-fits c.a_at-heads.result c.b_at-count.result (c.a_at-heads.ensures, c.b_at-count.ensures) c.open-opened.ensures.0
          c.contents.ensures _ c.spanned-n.result c.in_ok-contents.was c.spanned-n.ensures c.requires,
    )

pub body-slice_bounds-expression-count : goal.body-slice_bounds-expression-count
body-slice_bounds-expression-count t c =
    (body-fits c.a_at-heads.result c.b_at-count.result (c.a_at-heads.ensures, c.b_at-count.ensures) c.open-opened.ensures.0
    c.contents.ensures _ c.spanned-n.result c.in_ok-contents.was c.spanned-n.ensures c.requires).0

pub body-slice_bounds-expression-start : goal.body-slice_bounds-expression-start
body-slice_bounds-expression-start t c =
    (body-fits c.a_at-heads.result c.b_at-count.result (c.a_at-heads.ensures, c.b_at-count.ensures) c.open-opened.ensures.0
    c.contents.ensures _ c.spanned-n.result c.in_ok-contents.was c.spanned-n.ensures c.requires).0

pub body-overflow_sub-nesting-2 : goal.body-overflow_sub-nesting-2
body-overflow_sub-nesting-2 t c = omega (arith, (asked c.requires).nested)

pub body-overflow_add-at-4 : goal.body-overflow_add-at-4
body-overflow_add-at-4 t c = omega (arith, (asked c.requires).small)

pub body-overflow_add-at-5 : goal.body-overflow_add-at-5
body-overflow_add-at-5 t c =
    omega (
      arith,
      body-fits c.a_at-heads.result c.b_at-count.result (c.a_at-heads.ensures, c.b_at-count.ensures) c.open-opened.ensures.0
          c.contents.ensures _ c.spanned-n.result c.in_ok-contents.was c.spanned-n.ensures c.requires,
    )

pub body-overflow_add-at-6 : goal.body-overflow_add-at-6
body-overflow_add-at-6 t c =
    omega (
      arith,
      body-fits c.a_at-heads.result c.b_at-count.result (c.a_at-heads.ensures, c.b_at-count.ensures) c.open-opened.ensures.0
          c.contents.ensures _ c.spanned-n.result c.in_ok-contents.was c.spanned-n.ensures c.requires,
    )

pub body-expression-requires : goal.body-expression-requires
body-expression-requires t c = (
  omega (arith, (asked c.requires).nested),
  body-result c.a_at-heads.result c.b_at-count.result (c.a_at-heads.ensures, c.b_at-count.ensures)
      c.open-opened.ensures.0 c.contents.ensures _ c.spanned-n.result c.in_ok-contents.was
      c.spanned-n.ensures c.requires,
)

pub body-returns : goal.body-returns
body-returns t c =
    body-judged c.a_at-heads.result c.b_at-count.result (c.a_at-heads.ensures, c.b_at-count.ensures) c.open-opened.ensures.0
    c.contents.ensures _ c.spanned-n.result c.in_ok-contents.was c.spanned-n.ensures
    c.expression.ensures

pub body-returns-in_err-contents : goal.body-returns-in_err-contents
body-returns-in_err-contents t c =
    let p = err_from_is_err_and c.from_residual.result c.from_residual.ensures.1 in
    rw (p.1, p.2) (body-stop c.a_at-heads.result c.b_at-count.result (c.a_at-heads.ensures, c.b_at-count.ensures) c.open-opened.ensures.0 c.contents.ensures _ c.in_err-contents.was)

pub contents-overflow_add-at : goal.contents-overflow_add-at
contents-overflow_add-at t c = let a = c.requires.0 in omega (arith, a.within, a.short)

pub contents-head-requires : goal.contents-head-requires
contents-head-requires t c = let a = c.requires.0 in (a.within, a.room)

pub contents-overflow_add-from : goal.contents-overflow_add-from
contents-overflow_add-from t c = let a = c.requires.0 in omega (arith, a.within, a.short)

pub contents-overflow_mul-from : goal.contents-overflow_mul-from
contents-overflow_mul-from t c = let a = c.requires.0 in omega (arith, a.within, a.short)

pub contents-slice_bounds-items-count : goal.contents-slice_bounds-items-count
contents-slice_bounds-items-count t c = let a = c.requires.0 in a.fits

pub contents-slice_bounds-items-start : goal.contents-slice_bounds-items-start
contents-slice_bounds-items-start t c = let a = c.requires.0 in a.fits

pub contents-overflow_add-at-2 : goal.contents-overflow_add-at-2
contents-overflow_add-at-2 t c = let a = c.requires.0 in omega (arith, a.within, a.short)

pub contents-overflow_add-at-3 : goal.contents-overflow_add-at-3
contents-overflow_add-at-3 t c = let a = c.requires.0 in omega (arith, a.within, a.short)

pub contents-items-requires : goal.contents-items-requires
contents-items-requires t c = (omega arith, (c.requires.0.asks, c.requires.1))

pub contents-returns : goal.contents-returns
contents-returns t c =
    contents-judged c.head.ensures _
    c.in_ok-head.was c.items.ensures

pub contents-returns-in_err-head : goal.contents-returns-in_err-head
contents-returns-in_err-head t c =
    let p = err_from_is_err_and c.from_residual.result c.from_residual.ensures.1 in
    rw (p.1, p.2) (contents-stop c.head.ensures _ c.in_err-head.was)

pub counted-a_at-control-requires : goal.counted-a_at-control-requires
counted-a_at-control-requires t c = omega (arith, (asked c.requires).long)

pub counted-slice_bounds-below-count : goal.counted-slice_bounds-below-count
counted-slice_bounds-below-count t c = omega (arith, (asked c.requires).long)

pub counted-slice_bounds-below-start : goal.counted-slice_bounds-below-start
counted-slice_bounds-below-start t c = omega (arith, (asked c.requires).long)

pub counted-overflow_sub-nesting : goal.counted-overflow_sub-nesting
counted-overflow_sub-nesting t c = omega (arith, (asked c.requires).nested)

pub counted-overflow_add-at : goal.counted-overflow_add-at
counted-overflow_add-at t c = omega (arith, (asked c.requires).small)

pub counted-operands-requires : goal.counted-operands-requires
counted-operands-requires t c = (omega (arith, (asked c.requires).nested), count-asks c.requires)

pub counted-counted-whole-requires : goal.counted-counted-whole-requires
counted-counted-whole-requires t c = omega (arith, count_room c.requires, c.operands.ensures.same)

pub counted-overflow_add-at-2 : goal.counted-overflow_add-at-2
counted-overflow_add-at-2 t c = omega (arith, (asked c.requires).small)

pub counted-spanned-n-requires : goal.counted-spanned-n-requires
counted-spanned-n-requires t c = count-spans c.requires

pub counted-overflow_add-from : goal.counted-overflow_add-from
counted-overflow_add-from t c = omega (arith, count_fits c.requires c.spanned-n.result c.spanned-n.ensures)

pub counted-overflow_mul-from : goal.counted-overflow_mul-from
counted-overflow_mul-from t c = omega (arith, count_fits c.requires c.spanned-n.result c.spanned-n.ensures)

pub counted-enter_loop-up-requires : goal.counted-enter_loop-up-requires
counted-enter_loop-up-requires t c = (omega (arith, (asked c.requires).small), omega (arith, count_room c.requires, c.operands.ensures.same))

pub counted-slice_bounds-statement-count : goal.counted-slice_bounds-statement-count
counted-slice_bounds-statement-count t c = (count_fits c.requires c.spanned-n.result c.spanned-n.ensures).0

pub counted-slice_bounds-statement-start : goal.counted-slice_bounds-statement-start
counted-slice_bounds-statement-start t c = (count_fits c.requires c.spanned-n.result c.spanned-n.ensures).0

pub counted-overflow_sub-nesting-2 : goal.counted-overflow_sub-nesting-2
counted-overflow_sub-nesting-2 t c = omega (arith, (asked c.requires).nested)

pub counted-overflow_add-at-3 : goal.counted-overflow_add-at-3
counted-overflow_add-at-3 t c = omega (arith, (asked c.requires).small)

pub counted-overflow_add-at-4 : goal.counted-overflow_add-at-4
counted-overflow_add-at-4 t c = omega (arith, count_fits c.requires c.spanned-n.result c.spanned-n.ensures)

pub counted-statement-requires : goal.counted-statement-requires
counted-statement-requires t c = (
  omega (arith, (asked c.requires).nested),
  count-inner c.operands.ensures _ c.spanned-n.result c.in_ok-operands.was c.spanned-n.ensures
      (rw c.a_at-control.ensures at c.enter_loop-up.ensures) c.requires,
)

pub counted-returns : goal.counted-returns
counted-returns t c =
    count-judged c.operands.ensures _ c.spanned-n.result c.in_ok-operands.was c.spanned-n.ensures
    (rw c.a_at-control.ensures at c.enter_loop-up.ensures)
    c.statement.ensures _ c.in_ok-statement.was c.counted-whole.ensures

pub counted-returns-in_err-statement : goal.counted-returns-in_err-statement
counted-returns-in_err-statement t c =
    let p = err_from_is_err_and c.from_residual-in_err-statement.result c.from_residual-in_err-statement.ensures.1 in
    rw (p.1, p.2) (count-stop-2 c.operands.ensures _ c.spanned-n.result c.in_ok-operands.was c.spanned-n.ensures
    (rw c.a_at-control.ensures at c.enter_loop-up.ensures)
    c.statement.ensures _ c.in_err-statement.was)

pub counted-returns-in_err-operands : goal.counted-returns-in_err-operands
counted-returns-in_err-operands t c =
    let p = err_from_is_err_and c.from_residual.result c.from_residual.ensures.1 in
    rw (p.1, p.2) (count-stop c.operands.ensures _ c.in_err-operands.was)

pub expression-kind_at-requires : goal.expression-kind_at-requires
expression-kind_at-requires t c = omega (arith, (asked c.requires).long)

pub expression-body-requires : goal.expression-body-requires
expression-body-requires t c = (
  omega arith,
  ask-as (λ f h e. is_body f h (sym e ∙ (sym c.kind_at.ensures ∙ c.if-kind_at-eq-KIND_BLOCK_EXPRESSION.true)))
      c.requires,
)

pub expression-simple-requires : goal.expression-simple-requires
expression-simple-requires t c = (
  omega arith,
  ask-as (λ f h e. is-simple f h (λ z. c.if-kind_at-eq-KIND_BLOCK_EXPRESSION.false (c.kind_at.ensures ∙ e ∙ z)))
      c.requires,
)

pub expression-returns-then-kind_at-eq-KIND_BLOCK_EXPRESSION : goal.expression-returns-then-kind_at-eq-KIND_BLOCK_EXPRESSION
expression-returns-then-kind_at-eq-KIND_BLOCK_EXPRESSION t c =
    typed-as (λ f h e. is_body f h (sym e ∙ (sym c.kind_at.ensures
    ∙ c.if-kind_at-eq-KIND_BLOCK_EXPRESSION.true))) c.body.ensures

pub expression-returns-else-kind_at-eq-KIND_BLOCK_EXPRESSION : goal.expression-returns-else-kind_at-eq-KIND_BLOCK_EXPRESSION
expression-returns-else-kind_at-eq-KIND_BLOCK_EXPRESSION t c =
    typed-as (λ f h e. is-simple f h (λ z. c.if-kind_at-eq-KIND_BLOCK_EXPRESSION.false
    (c.kind_at.ensures ∙ e ∙ z))) c.simple.ensures

pub guarded-kind_at-kind-requires : goal.guarded-kind_at-kind-requires
guarded-kind_at-kind-requires t c = omega (arith, (asked c.requires).long)

pub guarded-a_at-requires : goal.guarded-a_at-requires
guarded-a_at-requires t c = omega (arith, (asked c.requires).long)

pub guarded-slice_bounds-below-count : goal.guarded-slice_bounds-below-count
guarded-slice_bounds-below-count t c = omega (arith, (asked c.requires).long)

pub guarded-slice_bounds-below-start : goal.guarded-slice_bounds-below-start
guarded-slice_bounds-below-start t c = omega (arith, (asked c.requires).long)

pub guarded-overflow_sub-nesting : goal.guarded-overflow_sub-nesting
guarded-overflow_sub-nesting t c = omega (arith, (asked c.requires).nested)

pub guarded-overflow_add-at : goal.guarded-overflow_add-at
guarded-overflow_add-at t c = omega (arith, (asked c.requires).small)

pub guarded-expression-requires : goal.guarded-expression-requires
guarded-expression-requires t c = (
  omega (arith, (asked c.requires).nested),
  guard-asks c.guarded_of-count.result
      (c.guarded_of-count.ensures ∙ rw (c.kind_at-kind.ensures, c.a_at.ensures)) c.requires,
)

pub guarded-overflow_add-at-2 : goal.guarded-overflow_add-at-2
guarded-overflow_add-at-2 t c = omega (arith, (asked c.requires).small)

pub guarded-size_at-n-requires : goal.guarded-size_at-n-requires
guarded-size_at-n-requires t c = (guard-passes c.guarded_of-count.result (c.guarded_of-count.ensures ∙ rw (c.kind_at-kind.ensures, c.a_at.ensures)) c.requires _ refl).known

pub guarded-overflow_add-from : goal.guarded-overflow_add-from
guarded-overflow_add-from t c =
    let w = guard-passes c.guarded_of-count.result (c.guarded_of-count.ensures ∙ rw (c.kind_at-kind.ensures, c.a_at.ensures))
    c.requires c.size_at-n.result c.size_at-n.ensures in
    omega (arith, w.fits, w.small)

pub guarded-overflow_mul-from : goal.guarded-overflow_mul-from
guarded-overflow_mul-from t c =
    let w = guard-passes c.guarded_of-count.result (c.guarded_of-count.ensures ∙ rw (c.kind_at-kind.ensures, c.a_at.ensures))
    c.requires c.size_at-n.result c.size_at-n.ensures in
    omega (arith, w.fits, w.small)

pub guarded-slice_bounds-items-count : goal.guarded-slice_bounds-items-count
guarded-slice_bounds-items-count t c =
    (guard-passes c.guarded_of-count.result (c.guarded_of-count.ensures ∙ rw (c.kind_at-kind.ensures, c.a_at.ensures))
    c.requires c.size_at-n.result c.size_at-n.ensures).fits

pub guarded-slice_bounds-items-start : goal.guarded-slice_bounds-items-start
guarded-slice_bounds-items-start t c =
    (guard-passes c.guarded_of-count.result (c.guarded_of-count.ensures ∙ rw (c.kind_at-kind.ensures, c.a_at.ensures))
    c.requires c.size_at-n.result c.size_at-n.ensures).fits

pub guarded-overflow_sub-nesting-2 : goal.guarded-overflow_sub-nesting-2
guarded-overflow_sub-nesting-2 t c = omega (arith, (asked c.requires).nested)

pub guarded-overflow_add-at-3 : goal.guarded-overflow_add-at-3
guarded-overflow_add-at-3 t c = omega (arith, (asked c.requires).small)

pub guarded-overflow_add-at-4 : goal.guarded-overflow_add-at-4
guarded-overflow_add-at-4 t c =
    let w = guard-passes c.guarded_of-count.result (c.guarded_of-count.ensures ∙ rw (c.kind_at-kind.ensures, c.a_at.ensures))
    c.requires c.size_at-n.result c.size_at-n.ensures in
    omega (arith, w.fits, w.small)

pub guarded-items-requires : goal.guarded-items-requires
guarded-items-requires t c = (
  omega (arith, (asked c.requires).nested),
  (
    guard-items c.guarded_of-count.result
        (c.guarded_of-count.ensures ∙ rw (c.kind_at-kind.ensures, c.a_at.ensures)) c.expression.ensures _
        c.size_at-n.result c.in_ok-t.was c.size_at-n.ensures c.requires,
    unspared,
  ),
)

pub guarded-returns : goal.guarded-returns
guarded-returns t c =
    guard-judged c.guarded_of-count.result (c.guarded_of-count.ensures ∙ rw (c.kind_at-kind.ensures, c.a_at.ensures))
    c.expression.ensures _ c.size_at-n.result c.in_ok-t.was c.size_at-n.ensures
    c.items.ensures _ c.in_ok-items.was
    (c.tested.ensures ∙ rw c.kind_at-kind.ensures)

pub guarded-returns-in_err-items : goal.guarded-returns-in_err-items
guarded-returns-in_err-items t c =
    let p = err_from_is_err_and c.from_residual-in_err-items.result c.from_residual-in_err-items.ensures.1 in
    rw (p.1, p.2) (guard-stop-2 c.guarded_of-count.result (c.guarded_of-count.ensures ∙ rw (c.kind_at-kind.ensures, c.a_at.ensures))
    c.expression.ensures _ c.size_at-n.result c.in_ok-t.was c.size_at-n.ensures
    c.items.ensures _ c.in_err-items.was)

pub guarded-returns-in_err-t : goal.guarded-returns-in_err-t
guarded-returns-in_err-t t c =
    let p = err_from_is_err_and c.from_residual.result c.from_residual.ensures.1 in
    rw (p.1, p.2) (guard-stop c.guarded_of-count.result (c.guarded_of-count.ensures ∙ rw (c.kind_at-kind.ensures, c.a_at.ensures))
    c.expression.ensures _ c.in_err-t.was)

pub item-kind_at-kind-requires : goal.item-kind_at-kind-requires
item-kind_at-kind-requires t c = omega (arith, (asked c.requires.0).long)

pub item-simple-requires : goal.item-simple-requires
item-simple-requires t c = (
  omega arith,
  ask-as (λ f h e. plain_form f h _ (sym c.is_plain.ensures ∙ c.if-is_plain.true) (c.kind_at-kind.ensures ∙ e)) c.requires.0,
)

pub item-returns-then-is_plain : goal.item-returns-then-is_plain
item-returns-then-is_plain t c = typed-answer (λ f h e. plain_form f h _ (sym c.is_plain.ensures ∙ c.if-is_plain.true) (c.kind_at-kind.ensures ∙ e)) c.simple.ensures

pub item-statement-requires : goal.item-statement-requires
item-statement-requires t c = (omega arith, c.requires.0)

pub item-returns-then-is_spared : goal.item-returns-then-is_spared
item-returns-then-is_spared t c =
    let told = sym c.is_spared.ensures ∙ c.if-is_spared.true in
    let label = sym c.kind_at-kind.ensures ∙ eqb-true _ 20 (both_right c.args.once _ told) in
    label-answer label (spared-label c.requires.0 c.args.once c.requires.1 (both_left c.args.once _ told) label)

pub item-returns-else-is_spared : goal.item-returns-else-is_spared
item-returns-else-is_spared t c = c.statement.ensures

pub items-loop-left-init : goal.items-loop-left-init
items-loop-left-init t c = (
  items-start c.args.table.now c.args.part.now c.args.count c.args.nesting
      c.args.at c.args.sizes.now c.args.env.now c.args.top,
  c.requires.1,
)

pub items-item-requires : goal.items-item-requires
items-item-requires t c = (omega arith, (items-asks c.loop-left.invariant.0 (omega arith) c.requires.0, spared-one (omega arith) c.loop-left.invariant.1))

pub items-size_at-n-requires : goal.items-size_at-n-requires
items-size_at-n-requires t c = (items-passes c.loop-left.invariant.0 (omega arith) c.requires.0 _ refl).known

pub items-overflow_mul-from : goal.items-overflow_mul-from
items-overflow_mul-from t c = omega (arith, (items-passes c.loop-left.invariant.0 (omega arith) c.requires.0 c.size_at-n.result c.size_at-n.ensures).small)

pub items-slice_bounds-rest-count : goal.items-slice_bounds-rest-count
items-slice_bounds-rest-count t c = (items-passes c.loop-left.invariant.0 (omega arith) c.requires.0 c.size_at-n.result c.size_at-n.ensures).fits

pub items-slice_bounds-rest-start : goal.items-slice_bounds-rest-start
items-slice_bounds-rest-start t c = (items-passes c.loop-left.invariant.0 (omega arith) c.requires.0 c.size_at-n.result c.size_at-n.ensures).fits

pub items-overflow_add-place : goal.items-overflow_add-place
items-overflow_add-place t c = omega (arith, (items-passes c.loop-left.invariant.0 (omega arith) c.requires.0 c.size_at-n.result c.size_at-n.ensures).small)

pub items-loop-left-preserved : goal.items-loop-left-preserved
items-loop-left-preserved t c = (
  items-next c.loop-left.invariant.0 (omega arith) _ c.size_at-n.result c.item.ensures c.in_ok-item.was c.size_at-n.ensures,
  spared-next (items-asks c.loop-left.invariant.0 (omega arith) c.requires.0) (omega arith) c.size_at-n.ensures c.item.ensures.kept c.loop-left.invariant.1,
)

pub items-returns-in_err-item : goal.items-returns-in_err-item
items-returns-in_err-item t c =
    let p = err_from_is_err_and c.from_residual.result c.from_residual.ensures.1 in
    rw (p.1, p.2) (items-stop c.loop-left.invariant.0 (omega arith) _
    c.item.ensures c.in_err-item.was)

pub items-returns : goal.items-returns
items-returns t c = items-end c.loop-left.invariant.0 (omega arith)

pub operand-kind_at-kind-requires : goal.operand-kind_at-kind-requires
operand-kind_at-kind-requires t c = omega (arith, (asked c.requires.0).long)

pub operand-a_at-requires : goal.operand-a_at-requires
operand-a_at-requires t c = omega (arith, (asked c.requires.0).long)

pub operand-leaf-requires : goal.operand-leaf-requires
operand-leaf-requires t c = (
  omega (arith, (asked c.requires.0).room),
  rw c.a_at.ensures (leaf-small c.requires.0),
)

pub operand-overflow_add-top : goal.operand-overflow_add-top
operand-overflow_add-top t c = omega (arith, (asked c.requires.0).room)

pub operand-expression-requires : goal.operand-expression-requires
operand-expression-requires t c = (omega arith, c.requires.0)

pub operand-returns-then-is_leaf : goal.operand-returns-then-is_leaf
operand-returns-then-is_leaf t c =
    leaf-judged (rw c.kind_at-kind.ensures at
    (sym c.is_leaf.ensures ∙ c.if-is_leaf.true))
    c.requires.1
    (c.leaf.ensures ∙ rw (c.kind_at-kind.ensures, c.a_at.ensures))
    (leaf-small c.requires.0)

pub operand-returns-else-is_leaf : goal.operand-returns-else-is_leaf
operand-returns-else-is_leaf t c = c.expression.ensures

pub operands-loop-i-init : goal.operands-loop-i-init
operands-loop-i-init t c =
    es-start c.args.table.now c.args.part.now c.args.count c.args.nesting
    c.args.at c.args.sizes.now c.args.env.now c.args.top

pub operands-operand-requires : goal.operands-operand-requires
operands-operand-requires t c = (omega arith, (es-asks c.loop-i.invariant (omega arith) c.requires, c.loop-i.invariant.alike))

pub operands-overflow_add-top : goal.operands-overflow_add-top
operands-overflow_add-top t c = omega (arith, es-room c.loop-i.invariant (omega arith) c.requires)

pub operands-push-requires : goal.operands-push-requires
operands-push-requires t c = omega (arith, es-room c.loop-i.invariant (omega arith) c.requires, c.operand.ensures.same)

pub operands-size_at-n-requires : goal.operands-size_at-n-requires
operands-size_at-n-requires t c =
    (es-passes c.loop-i.invariant (omega arith)
    c.requires _ refl).known

pub operands-overflow_mul-from : goal.operands-overflow_mul-from
operands-overflow_mul-from t c =
    omega (
      arith,
      (es-passes c.loop-i.invariant
          (omega arith) c.requires
          c.size_at-n.result c.size_at-n.ensures).small,
    )

pub operands-slice_bounds-rest-count : goal.operands-slice_bounds-rest-count
operands-slice_bounds-rest-count t c =
    (es-passes c.loop-i.invariant
    (omega arith) c.requires
    c.size_at-n.result c.size_at-n.ensures).fits

pub operands-slice_bounds-rest-start : goal.operands-slice_bounds-rest-start
operands-slice_bounds-rest-start t c =
    (es-passes c.loop-i.invariant
    (omega arith) c.requires
    c.size_at-n.result c.size_at-n.ensures).fits

pub operands-overflow_add-place : goal.operands-overflow_add-place
operands-overflow_add-place t c =
    omega (
      arith,
      (es-passes c.loop-i.invariant
          (omega arith) c.requires
          c.size_at-n.result c.size_at-n.ensures).small,
    )

pub operands-loop-i-preserved : goal.operands-loop-i-preserved
operands-loop-i-preserved t c =
    es-next c.loop-i.invariant
    (omega arith) _ c.size_at-n.result c.operand.ensures
    c.in_ok-t.was c.push.ensures
    c.size_at-n.ensures (omega (
      arith,
      es-room c.loop-i.invariant
          (omega arith) c.requires,
      c.operand.ensures.same,
    ))

pub operands-returns-in_err-t : goal.operands-returns-in_err-t
operands-returns-in_err-t t c =
    let p = err_from_is_err_and c.from_residual.result c.from_residual.ensures.1 in
    rw (p.1, p.2) (es-stop c.loop-i.invariant (omega arith) _
    c.operand.ensures c.in_err-t.was)

pub operands-returns : goal.operands-returns
operands-returns t c = es-end c.loop-i.invariant (omega arith)

pub simple-kind_at-kind-requires : goal.simple-kind_at-kind-requires
simple-kind_at-kind-requires t c = omega (arith, (asked c.requires).long)

pub simple-a_at-name-requires : goal.simple-a_at-name-requires
simple-a_at-name-requires t c = omega (arith, (asked c.requires).long)

pub simple-is_fixed-requires : goal.simple-is_fixed-requires
simple-is_fixed-requires t c = (c.kind_at-kind.ensures, fixed-long c.requires, (asked c.requires).room)

pub simple-overflow_add-result : goal.simple-overflow_add-result
simple-overflow_add-result t c = omega (arith, (asked c.requires).small)

pub simple-returns-then-is_fixed : goal.simple-returns-then-is_fixed
simple-returns-then-is_fixed t c = simple-fixed (sym c.is_fixed.ensures ∙ c.if-is_fixed.true)

pub simple-b_at-requires : goal.simple-b_at-requires
simple-b_at-requires t c = omega (arith, (asked c.requires).long)

pub simple-slice_bounds-below-count : goal.simple-slice_bounds-below-count
simple-slice_bounds-below-count t c = omega (arith, (asked c.requires).long)

pub simple-slice_bounds-below-start : goal.simple-slice_bounds-below-start
simple-slice_bounds-below-start t c = omega (arith, (asked c.requires).long)

pub simple-overflow_sub-nesting : goal.simple-overflow_sub-nesting
simple-overflow_sub-nesting t c = omega (arith, (asked c.requires).nested)

pub simple-overflow_add-at : goal.simple-overflow_add-at
simple-overflow_add-at t c = omega (arith, (asked c.requires).small)

pub simple-operands-requires : goal.simple-operands-requires
simple-operands-requires t c = (
  omega (arith, (asked c.requires).nested),
  simple-asks c.operands_of-count.result
      (c.operands_of-count.ensures ∙ rw (c.kind_at-kind.ensures, c.b_at.ensures)) c.requires,
)

pub simple-settle-requires : goal.simple-settle-requires
simple-settle-requires t c =
    rw c.a_at-name.ensures (settle-asks c.operands_of-count.result
    (c.operands_of-count.ensures ∙ rw (c.kind_at-kind.ensures, c.b_at.ensures))
    c.operands.ensures c.requires)

pub simple-returns : goal.simple-returns
simple-returns t c =
    simple-judged c.operands_of-count.result (c.operands_of-count.ensures ∙ rw (c.kind_at-kind.ensures, c.b_at.ensures))
    c.operands.ensures (sym c.is_fixed.ensures ∙ c.if-is_fixed.false)
    _ c.in_ok-operands.was
    (c.settle.ensures ∙ rw (c.kind_at-kind.ensures, c.a_at-name.ensures))

pub simple-returns-in_err-operands : goal.simple-returns-in_err-operands
simple-returns-in_err-operands t c =
    let p = err_from_is_err_and c.from_residual.result c.from_residual.ensures.1 in
    rw (p.1, p.2) (simple-stop c.operands_of-count.result (c.operands_of-count.ensures ∙ rw (c.kind_at-kind.ensures, c.b_at.ensures))
    c.operands.ensures (sym c.is_fixed.ensures ∙ c.if-is_fixed.false) _ c.in_err-operands.was)

pub statement-kind_at-kind-requires : goal.statement-kind_at-kind-requires
statement-kind_at-kind-requires t c = omega (arith, (asked c.requires).long)

pub statement-block-requires : goal.statement-block-requires
statement-block-requires t c = (
  omega arith,
  ask-as (λ f h e. is_block f h (sym e ∙ (sym c.kind_at-kind.ensures ∙ c.in-1.is)))
      c.requires,
)

pub statement-a_at-requires : goal.statement-a_at-requires
statement-a_at-requires t c = omega (arith, (asked c.requires).long)

pub statement-once-requires : goal.statement-once-requires
statement-once-requires t c = (asked c.requires).room

pub statement-guarded-requires : goal.statement-guarded-requires
statement-guarded-requires t c = (
  omega arith,
  ask-as (λ f h e. is_guard f c.kind_at-kind.result h (sym (c.kind_at-kind.ensures ∙ e)) (λ x y z. grind arith)) c.requires,
)

pub statement-counted-requires : goal.statement-counted-requires
statement-counted-requires t c = (
  omega arith,
  ask-as (λ f h e. is-count f h (sym e ∙ (sym c.kind_at-kind.ensures ∙ c.in-31.is)))
      c.requires,
)

pub statement-simple-requires : goal.statement-simple-requires
statement-simple-requires t c = (
  omega arith,
  ask-as (λ f h e. is_other f c.kind_at-kind.result h (sym (c.kind_at-kind.ensures ∙ e)) (λ z. grind arith) (λ z. grind arith) (λ z. grind arith) (λ z. grind arith)
      (λ z. grind arith) (λ z. grind arith) (λ z. grind arith)) c.requires,
)

pub statement-returns-in-1 : goal.statement-returns-in-1
statement-returns-in-1 t c =
    answer-as (λ f h e. is_block f h (sym e ∙ (sym c.kind_at-kind.ensures
    ∙ c.in-1.is))) c.block.ensures

pub statement-returns-in-20 : goal.statement-returns-in-20
statement-returns-in-20 t c = label-answer (sym c.kind_at-kind.ensures ∙ c.in-20.is) (rw c.a_at.ensures at c.once.ensures)

pub statement-returns-in-22 : goal.statement-returns-in-22
statement-returns-in-22 t c = answer-as (λ f h e. is_guard f c.kind_at-kind.result h (sym (c.kind_at-kind.ensures ∙ e)) (λ x y z. grind arith)) c.guarded.ensures

pub statement-returns-in-31 : goal.statement-returns-in-31
statement-returns-in-31 t c =
    answer-as (λ f h e. is-count f h (sym e ∙ (sym c.kind_at-kind.ensures
    ∙ c.in-31.is))) c.counted.ensures

pub statement-returns-in_default : goal.statement-returns-in_default
statement-returns-in_default t c =
    typed-answer (λ f h e. is_other f c.kind_at-kind.result h (sym (c.kind_at-kind.ensures ∙ e)) (λ z. grind arith) (λ z. grind arith) (λ z. grind arith) (λ z. grind arith)
    (λ z. grind arith) (λ z. grind arith) (λ z. grind arith)) c.simple.ensures
