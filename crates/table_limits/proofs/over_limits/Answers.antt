-- `table_limits::over_limits` meets its contract.
use Rattle.std.specs.Prelude.{Some, None, Ok, Err}
use Rattle.std.proofs.Common.{rules}
use mathlib.Core.Path.{◌≡◌, sym, ap, ◌∙◌}
use Prim.Native.Nat.{◌*◌, ◌≤◌}
use native.Mathlib.Omega.{arith}
use lib.ListN.{length, length-drop}
use Rattle.language_laws.specs.Claims.{entries_of}
use Rattle.table_entries.specs.Entries.{rest, entries-rest}
use Rattle.table_limits.specs.Usage.{root_of}
use Rattle.table_limits.proofs.Bodies.{limits-right, limits-short, limits-own, limits-exceeds, limits-ended}
use Rattle.table_limits.proofs.over_limits.Goals as goal
use Rattle.table_limits.proofs.over_limits.Goals.{In-Some}

pub returns-then-table-lt-ENTRY_BYTES : goal.returns-then-table-lt-ENTRY_BYTES
returns-then-table-lt-ENTRY_BYTES c =
    λ t e. sym (limits-short c.args.table.now c.if-table-lt-ENTRY_BYTES.true) ∙ limits-right c.args.table.now t e

-- the head of a table whose declarations all read
head : (c : In-Some) → c.root_head.result ≡ Ok (Some c.in-Some.own)
head c = c.in_ok-own.was ∙ ap Ok c.in-Some.is

fits : (c : In-Some) → 8 * c.in-Some.own.entries ≤ length c.args.table.now
fits c =
    omega (
      arith,
      rw (head c) at c.root_head.ensures.1,
      ap length (rest 8 c.args.table.now),
      length-drop 8 c.args.table.now,
      c.if-table-lt-ENTRY_BYTES.false,
    )

pub overflow_mul-at : goal.overflow_mul-at
overflow_mul-at c = omega (arith, c.well_formed, fits (goal.at.overflow_mul-at c).In-Some)

pub slice_bounds-root_items-count : goal.slice_bounds-root_items-count
slice_bounds-root_items-count c = fits (goal.at.slice_bounds-root_items-count c).In-Some

pub slice_bounds-root_items-start : goal.slice_bounds-root_items-start
slice_bounds-root_items-start c = omega (arith, fits (goal.at.slice_bounds-root_items-start c).In-Some)

pub root_items-requires : goal.root_items-requires
root_items-requires c =
    let h = rw (head (goal.at.root_items-requires c).In-Some) at c.root_head.ensures.1 in
    omega (arith, c.well_formed, h, fits (goal.at.root_items-requires c).In-Some)

pub returns : goal.returns
returns c =
    λ t e.
    c.root_limit.ensures ∙ ap root_of (rw (c.size_of.ensures, entries-rest c.in-Some.own.entries c.args.table.now) at c.root_items.ensures)
    ∙ sym (limits-own (entries_of c.args.table.now) (rw (c.name_of.ensures, entries-rest 1 c.args.table.now) at
    c.root_head.ensures.0) (head (goal.at.returns c).In-Some)) ∙ limits-right c.args.table.now t e

pub returns-in_err-own : goal.returns-in_err-own
returns-in_err-own c =
    let q : c.from_residual.result ≡ Err c.in_err-own.field-0.0 = search rules in
    λ t e. q ∙ sym (limits-exceeds (entries_of c.args.table.now)
    (rw (c.name_of.ensures, entries-rest 1 c.args.table.now) at c.root_head.ensures.0)
    c.in_err-own.was) ∙ limits-right c.args.table.now t e

pub returns-in_default : goal.returns-in_default
returns-in_default c =
    let none : c.root_head.result ≡ Ok None = search rules in
    λ t e. sym (limits-ended (entries_of c.args.table.now) (rw
    (c.name_of.ensures, entries-rest 1 c.args.table.now) at c.root_head.ensures.0)
    none) ∙ limits-right c.args.table.now t e
