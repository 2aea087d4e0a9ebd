-- `table_read::read_table` meets its contract.
use Rattle.std.specs.Prelude.{Result, Ok, Err, is_ok, IsErrAnd, ℕ, false}
use Rattle.std.proofs.lemmas.Result.{MatchResult-at_err}
use Rattle.logic.specs.Tests.{clash}
use Rattle.std.proofs.Common.{rules}
use mathlib.Core.Path.{◌≡◌, refl, ap, sym, ◌∙◌}
use native.Mathlib.Omega.{arith}
use Rattle.language_laws.specs.Claims.{entries_of}
use Rattle.table_entries.specs.Entries.{entries-length}
use Rattle.table_entries.specs.Sizes.{sized-known}
use Rattle.table_entries.specs.declared.Fault.TheVariants.{Unread}
use Rattle.table_read.proofs.Roots.{table_empty, table-over, table-uneven, table-shaped, one-tree, more-entries, no-tree}
use Rattle.table_read.proofs.read_table.Goals as goal
use Rattle.table_read.proofs.read_table.Goals.{then-bytes-eq0-via-then-bytes-eq0, then-bytes-eq0-via-else-bytes-eq0+then-bytes-gt-MAX_TABLE_BYTES, then-bytes-eq0-via-else-bytes-eq0+else-bytes-gt-MAX_TABLE_BYTES+then-bytes-ne0}

pub returns-then-bytes-eq0 : goal.returns-then-bytes-eq0
returns-then-bytes-eq0 c =
    elim c.then-bytes-eq0.branch [
      | then-bytes-eq0-via-then-bytes-eq0 w ↦ (table_empty c.args.table.now w.if-bytes-eq0.true, tt)
      | then-bytes-eq0-via-else-bytes-eq0+then-bytes-gt-MAX_TABLE_BYTES w ↦
          (table-over c.args.table.now w.if-bytes-eq0.false w.if-bytes-gt-MAX_TABLE_BYTES.true, tt)
      | then-bytes-eq0-via-else-bytes-eq0+else-bytes-gt-MAX_TABLE_BYTES+then-bytes-ne0 w ↦
          (table-uneven c.args.table.now w.if-bytes-eq0.false w.if-bytes-gt-MAX_TABLE_BYTES.false w.if-bytes-ne0.true, tt)
    ]

-- one that fails has a place
placed-at : (r : Result ℕ ℕ) → is_ok r ≡ false → (p : ℕ) × (r ≡ Err p)
placed-at (Ok n) e = clash (cc)
placed-at (Err p) e = (p, refl)

told : {T E : Type 0} (Q : E → Type 0) (r : Result T E) {y : E} → r ≡ Err y → IsErrAnd r Q → Q y
told Q r e h = rw e at h

pub returns-in_err-n : goal.returns-in_err-n
returns-in_err-n c =
    let e : c.from_residual.result ≡ Err c.in_err-n.field-0.0 = search rules in
    let q = placed-at c.read_root.result (sym c.map_err.ensures.variant ∙ ap is_ok c.in_err-n.was) in
    let h = told _ c.map_err.result c.in_err-n.was (MatchResult-at_err _ _ q.0 q.1 c.map_err.ensures.cases) in
    let f : c.in_err-n.field-0.0 ≡ Unread q.0 = search rules in
    rw (e, f) (
      rw (table-shaped c.args.table.now c.if-bytes-eq0.false c.if-bytes-gt-MAX_TABLE_BYTES.false c.if-bytes-ne0.false)
          (no-tree (entries_of c.args.table.now) c.read_root.ensures.0 q.1),
      tt,
    )

pub returns-then-n-bytes : goal.returns-then-n-bytes
returns-then-n-bytes c =
    let n : c.read_root.result ≡ Ok c.in_ok-n.n = search rules in (
      rw (table-shaped c.args.table.now c.if-bytes-eq0.false c.if-bytes-gt-MAX_TABLE_BYTES.false c.if-bytes-ne0.false)
          (one-tree (entries_of c.args.table.now) c.read_root.ensures.0 n (c.if-n-bytes.true ∙ sym (entries-length c.args.table.now))),
      sized-known (rw n at c.read_root.ensures.1) c.if-n-bytes.true (omega (arith, c.requires.0 c.if-bytes-gt-MAX_TABLE_BYTES.false, c.read_root.auto.sizes)),
    )

pub returns-else-n-bytes : goal.returns-else-n-bytes
returns-else-n-bytes c =
    let n : c.read_root.result ≡ Ok c.in_ok-n.n = search rules in (
      rw (table-shaped c.args.table.now c.if-bytes-eq0.false c.if-bytes-gt-MAX_TABLE_BYTES.false c.if-bytes-ne0.false)
          (more-entries (entries_of c.args.table.now) c.read_root.ensures.0 n (λ e. c.if-n-bytes.false (e ∙ entries-length c.args.table.now))),
      tt,
    )
