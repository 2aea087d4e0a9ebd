-- `table_read::admitted` meets its contract.
use mathlib.Core.Path.{◌≡◌, sym, ap, ◌∙◌}
use mir.Syntax.{w32}
use mir.ValLaws.{to_z-of_z}
use Rattle.language_laws.specs.Claims.{entries_of}
use Rattle.table_entries.specs.Entries.{entries-some}
use Rattle.table_read.specs.Walk.{kind_at, laid_at, admits}
use Rattle.table_read.proofs.Steps.{admitted-none, admitted-laid}
use Rattle.table_read.proofs.admitted.Goals as goal

pub returns-then-part-lt-ENTRY_BYTES : goal.returns-then-part-lt-ENTRY_BYTES
returns-then-part-lt-ENTRY_BYTES c = admitted-none c.args.nesting c.args.sort c.args.part.now c.if-part-lt-ENTRY_BYTES.true

pub returns-then-is_leaf : goal.returns-then-is_leaf
returns-then-is_leaf c =
    let es = entries_of c.args.part.now in
    let e = entries-some c.args.part.now c.if-part-lt-ENTRY_BYTES.false in
    let h = c.kind_of-kind.ensures ∙ ap kind_at e in
    let laid : c.leaf_layout.result ≡ laid_at es = rw e (cc (h, to_z-of_z w32 _ (record { sfits = c.signed_b_at-b.type_inv }), c.leaf_layout.ensures)) in
    laid ∙ admitted-laid c.args.nesting c.args.sort es c.if-nesting-eq0.false
    (ap (admits c.args.sort) (sym c.kind_of-kind.ensures) ∙ sym c.admits.ensures ∙ c.if-not-admits.false)

pub returns-else-is_leaf : goal.returns-else-is_leaf
returns-else-is_leaf c =
    let es = entries_of c.args.part.now in
    let e = entries-some c.args.part.now c.if-part-lt-ENTRY_BYTES.false in
    let h = c.kind_of-kind.ensures ∙ ap kind_at e in
    let laid : c.in_layout.result ≡ laid_at es = rw e (cc (h, to_z-of_z w32 _ (record { sfits = c.signed_b_at-b.type_inv }), c.in_layout.ensures)) in
    laid ∙ admitted-laid c.args.nesting c.args.sort es c.if-nesting-eq0.false
    (ap (admits c.args.sort) (sym c.kind_of-kind.ensures) ∙ sym c.admits.ensures ∙ c.if-not-admits.false)
