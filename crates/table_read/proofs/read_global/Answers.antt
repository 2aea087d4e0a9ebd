-- `table_read::read_global` meets its contract.
use Rattle.std.specs.Prelude.{Err}
use native.Mathlib.Nat.{add-zero}
use mathlib.Core.Path.{sym, ap, ◌∙◌}
use Rattle.language_laws.specs.Claims.{entries_of}
use Rattle.table_read.specs.Walk.{placed, is_global, walk}
use Rattle.table_read.proofs.Parts.{laid-here}
use Rattle.table_read.proofs.Steps.{entered-unlaid, entered-other, entered-whole}
use Rattle.table_read.proofs.read_global.Goals as goal

pub returns-then-not-laid : goal.returns-then-not-laid
returns-then-not-laid c =
    let admits = is_global c.args.classes c.args.procedures in
    (ap Err (sym (add-zero c.args.place)) ∙ sym (ap (placed c.args.place) (entered-unlaid (walk 62) admits (entries_of c.args.part.now) (sym c.laid.ensures ∙ c.if-not-laid.true))), tt)

pub kind_of-requires : goal.kind_of-requires
kind_of-requires c =
    laid-here c.args.part.now (sym c.laid.ensures ∙ c.if-not-laid.false)

pub returns-then-not-is_global : goal.returns-then-not-is_global
returns-then-not-is_global c =
    let admits = is_global c.args.classes c.args.procedures in (
      ap Err (sym (add-zero c.args.place)) ∙ sym (ap (placed c.args.place) (entered-other (walk 62) admits (entries_of c.args.part.now) (sym c.laid.ensures ∙ c.if-not-laid.false)
          (ap admits (sym c.kind_of.ensures) ∙ sym c.is_global.ensures ∙ c.if-not-is_global.true))),
      tt,
    )

pub read_entry-requires : goal.read_entry-requires
read_entry-requires c =
    (laid-here c.args.part.now (sym c.laid.ensures ∙ c.if-not-laid.false), c.requires)

pub returns : goal.returns
returns c =
    let admits = is_global c.args.classes c.args.procedures in (
      c.read_entry.ensures.0
          ∙ sym (ap (placed c.args.place) (entered-whole (walk 62) admits (entries_of c.args.part.now) (sym c.laid.ensures ∙ c.if-not-laid.false)
          (ap admits (sym c.kind_of.ensures) ∙ sym c.is_global.ensures ∙ c.if-not-is_global.false))),
      c.read_entry.ensures.1,
    )
