-- `table_read::read_root` meets its contract.
use Rattle.std.specs.Prelude.{Err}
use Rattle.std.proofs.Common.{rules}
use mathlib.Core.Path.{◌≡◌, sym, ◌∙◌}
use mathlib.Core.Bool.{true}
use Prim.Native.Nat.{◌≤◌}
use native.Mathlib.Omega.{arith}
use lib.ListN.{length, drop, length-drop}
use Rattle.language_laws.specs.Claims.{entries_of}
use Rattle.table_entries.specs.Entries.{entries-rest, rest as back}
use Rattle.table_read.specs.Walk.{placed, name_at, size_at, stands_at, walk_below}
use Rattle.table_read.proofs.Parts.{stands_here}
use Rattle.table_read.proofs.Steps.{placed-ok}
use Rattle.table_read.proofs.Roots.{below-fits, walk-root-none}
use Rattle.table_read.proofs.Counts.{root-stop, root-read}
use Rattle.table_read.proofs.read_root.Goals as goal
use Rattle.table_read.proofs.read_root.Goals.{Else-not-stands, After-below_root}

pub returns-then-not-stands : goal.returns-then-not-stands
returns-then-not-stands c =
    (sym (walk-root-none (entries_of c.args.part.now) (sym c.stands.ensures ∙ c.if-not-stands.true)), tt)

-- an entry stands there
stood : (c : Else-not-stands) → stands_at 1 (entries_of c.args.part.now) ≡ true
stood c = sym c.stands.ensures ∙ c.if-not-stands.false

here : (c : Else-not-stands) → 8 ≤ length c.args.part.now
here c = stands_here 1 c.args.part.now (stood c)

pub slice_bounds-below_root-count : goal.slice_bounds-below_root-count
slice_bounds-below_root-count c = here (goal.at.slice_bounds-below_root-count c).Else-not-stands

pub slice_bounds-below_root-start : goal.slice_bounds-below_root-start
slice_bounds-below_root-start c = omega (arith, here (goal.at.slice_bounds-below_root-start c).Else-not-stands)

pub name_of-requires : goal.name_of-requires
name_of-requires c = here (goal.at.name_of-requires c).Else-not-stands

pub size_of-requires : goal.size_of-requires
size_of-requires c = here (goal.at.size_of-requires c).Else-not-stands

pub below_root-requires : goal.below_root-requires
below_root-requires c = (
  rw (back 8 c.args.part.now)
      (omega (arith, length-drop 8 c.args.part.now, here (goal.at.below_root-requires c).Else-not-stands, c.requires.0)),
  c.requires.1,
)

-- what stands below the root, as the walk has it
below : (c : After-below_root) → let es = entries_of c.args.part.now in c.below_root.result ≡ placed 1 (walk_below (name_at es) (size_at es) (drop 1 es))
below c = rw (c.name_of.ensures, c.size_of.ensures, entries-rest 1 c.args.part.now) at c.below_root.ensures.0

pub shape_of-sizes-in_err-below : goal.shape_of-sizes-in_err-below
shape_of-sizes-in_err-below c = c.below_root.auto.sizes

pub returns-in_err-below : goal.returns-in_err-below
returns-in_err-below c =
    let e : c.from_residual.result ≡ Err c.in_err-below.field-0.0 = search rules in
    let at = goal.at.returns-in_err-below c in
    rw e (root-stop (entries_of c.args.part.now) (stood at.Else-not-stands) (below at.After-below_root) c.in_err-below.was, tt)

pub whole-requires : goal.whole-requires
whole-requires c =
    let fits = below-fits c.name_of.result c.size_of.result (drop 8 c.args.part.now)
    (placed-ok 1 _ (rw (back 8 c.args.part.now) at c.below_root.ensures.0) c.in_ok-below.was) in
    let some = here (goal.at.whole-requires c).Else-not-stands in
    (omega (arith, some, c.requires.0, c.below_root.auto.sizes), omega (arith, fits, length-drop 8 c.args.part.now, c.requires.0, c.requires.1))

pub shape_of-sizes : goal.shape_of-sizes
shape_of-sizes c =
    c.whole.auto.sizes ∙ c.below_root.auto.sizes

pub returns : goal.returns
returns c =
    let at = goal.at.returns c in
    root-read (entries_of c.args.part.now) (stood at.Else-not-stands) (placed-ok 1 _ (below at.After-below_root) c.in_ok-below.was)
    (rw (c.in_ok-below.was, entries-rest 1 c.args.part.now) at c.below_root.ensures.1)
    (omega (arith, here at.Else-not-stands, c.requires.0, c.below_root.auto.sizes)) c.whole.ensures.0 c.whole.ensures.1
