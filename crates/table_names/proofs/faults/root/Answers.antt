-- `table_names::faults::root` meets its contract.
use native.Mathlib.Omega.{arith}
use mathlib.Core.Path.{ap}
use Prim.Native.Nat.{ℕ, ◌+◌}
use Rattle.std.proofs.lemmas.Result.{err_from_is_err_and}
use Rattle.table_entries.specs.Sizes.{size_small}
use Rattle.table_forms.specs.Tables.{root-long, root-reach, root-room, root-globals, root-rest, root-stop, root-judged, root-place}
use Rattle.table_names.proofs.Spares.{spared-kept}
use Rattle.table_names.proofs.faults.root.Goals as goal

pub a_at-count-requires : goal.a_at-count-requires
a_at-count-requires c = omega (arith, (root-long c.requires.whole).0)

pub b_at-rest-requires : goal.b_at-rest-requires
b_at-rest-requires c =
    omega (arith, (root-long c.requires.whole).0)

pub spanned-after-requires : goal.spanned-after-requires
spanned-after-requires c =
    (c.requires.whole.known, (root-long c.requires.whole).3)

pub overflow_add-after : goal.overflow_add-after
overflow_add-after c =
    omega (arith, size_small c.args.table.now 1 c.a_at-count.result c.spanned-after.result c.spanned-after.ensures, c.requires.whole.legible.short)

pub open_root-opened-requires : goal.open_root-opened-requires
open_root-opened-requires c = (
  c.requires.whole.known,
  (root-reach c.requires.whole
      (record {
        first = c.a_at-count.ensures;
        second = c.b_at-rest.ensures;
        third = ap (λ (n : ℕ). 1 + n) c.spanned-after.ensures;
      })).0,
  (root-reach c.requires.whole (record {
    first = c.a_at-count.ensures;
    second = c.b_at-rest.ensures;
    third = ap (λ (n : ℕ). 1 + n) c.spanned-after.ensures;
  })).1,
  c.requires.whole.legible.short,
  root-room c.requires.whole (record {
    first = c.a_at-count.ensures;
    second = c.b_at-rest.ensures;
    third = ap (λ (n : ℕ). 1 + n) c.spanned-after.ensures;
  }),
)

pub globals-requires : goal.globals-requires
globals-requires c =
    root-globals (record {
      first = c.a_at-count.ensures;
      second = c.b_at-rest.ensures;
      third = ap (λ (n : ℕ). 1 + n) c.spanned-after.ensures;
    }) c.open_root-opened.ensures.0 c.requires

pub overflow_mul-from : goal.overflow_mul-from
overflow_mul-from c =
    omega (arith, root-place c.requires (record { first = c.a_at-count.ensures; second = c.b_at-rest.ensures; third = ap (λ (n : ℕ). 1 + n) c.spanned-after.ensures }))

pub slice_bounds-items-count : goal.slice_bounds-items-count
slice_bounds-items-count c =
    (root-place c.requires (record { first = c.a_at-count.ensures; second = c.b_at-rest.ensures; third = ap (λ (n : ℕ). 1 + n) c.spanned-after.ensures })).0

pub slice_bounds-items-start : goal.slice_bounds-items-start
slice_bounds-items-start c =
    (root-place c.requires (record { first = c.a_at-count.ensures; second = c.b_at-rest.ensures; third = ap (λ (n : ℕ). 1 + n) c.spanned-after.ensures })).0

pub items-requires : goal.items-requires
items-requires c = (
  root-rest (record {
    first = c.a_at-count.ensures;
    second = c.b_at-rest.ensures;
    third = ap (λ (n : ℕ). 1 + n) c.spanned-after.ensures;
  }) c.open_root-opened.ensures.0 c.globals.ensures c.requires,
  spared-kept c.globals.ensures.kept c.open_root-opened.ensures.1,
)

pub returns : goal.returns
returns c =
    root-judged (record {
      first = c.a_at-count.ensures;
      second = c.b_at-rest.ensures;
      third = ap (λ (n : ℕ). 1 + n) c.spanned-after.ensures;
    }) c.open_root-opened.ensures.0 c.globals.ensures _
    c.in_ok-globals.was c.items.ensures

pub returns-in_err-globals : goal.returns-in_err-globals
returns-in_err-globals c =
    let p = err_from_is_err_and c.from_residual.result c.from_residual.ensures.1 in
    rw (p.1, p.2) (root-stop (record {
      first = c.a_at-count.ensures;
      second = c.b_at-rest.ensures;
      third = ap (λ (n : ℕ). 1 + n) c.spanned-after.ensures;
    }) c.open_root-opened.ensures.0 c.globals.ensures _ c.in_err-globals.was)
