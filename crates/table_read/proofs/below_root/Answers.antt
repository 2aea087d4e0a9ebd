-- `table_read::below_root` meets its contract.
use Rattle.std.specs.Prelude.{Ok, Err}
use Rattle.std.proofs.Common.{rules}
use mathlib.Core.Path.{◌≡◌, sym, ap, ◌∙◌}
use Prim.Native.Nat.{◌+◌, ◌*◌, ◌≤◌}
use native.Mathlib.Omega.{arith}
use lib.ListN.{length, drop, length-drop}
use Rattle.language_laws.specs.Claims.{entries_of}
use Rattle.table_entries.specs.Entries.{entries-rest, rest as back}
use Rattle.table_entries.specs.Sizes.{Sized, sized-then}
use Rattle.table_read.specs.Operands.{sorts}
use Rattle.table_read.specs.Walk.{moved, placed, chain, walk, walk_head}
use Rattle.table_read.proofs.Steps.{placed-ok, stop-moved, chain_fits}
use Rattle.table_read.proofs.Roots.{head-fits, walk-below-stop, walk-below-whole}
use Rattle.table_read.proofs.below_root.Goals as goal
use Rattle.table_read.proofs.below_root.Goals.{In_ok-k, After-operands}

-- the head, as the walk has it, is within the part
head-read : (c : In_ok-k) → walk_head c.args.a 0 0 (entries_of c.args.part.now) ≡ Ok c.in_ok-k.k
head-read c = placed-ok 1 _ c.read_head.ensures.0 c.in_ok-k.was

fits : (c : In_ok-k) → 8 * c.in_ok-k.k ≤ length c.args.part.now
fits c = head-fits c.args.a c.args.part.now (head-read c)

pub read_head-requires : goal.read_head-requires
read_head-requires c = c.requires

pub shape_of-sizes-in_err-k : goal.shape_of-sizes-in_err-k
shape_of-sizes-in_err-k c = c.read_head.auto.sizes

pub returns-in_err-k : goal.returns-in_err-k
returns-in_err-k c =
    let e : c.from_residual.result ≡ Err c.in_err-k.field-0.0 = search rules in
    rw e (walk-below-stop c.args.a c.args.n (entries_of c.args.part.now) c.read_head.ensures.0 c.in_err-k.was, tt)

pub overflow_mul-at : goal.overflow_mul-at
overflow_mul-at c = omega (arith, fits c)

pub slice_bounds-operands-count : goal.slice_bounds-operands-count
slice_bounds-operands-count c = fits (goal.at.slice_bounds-operands-count c).In_ok-k

pub slice_bounds-operands-start : goal.slice_bounds-operands-start
slice_bounds-operands-start c = omega (arith, fits (goal.at.slice_bounds-operands-start c).In_ok-k)

pub overflow_add-k : goal.overflow_add-k
overflow_add-k c = omega (arith, fits (goal.at.overflow_add-k c).In_ok-k, c.requires.0, c.requires.1)

pub operands-requires : goal.operands-requires
operands-requires c =
    let k = c.in_ok-k.k in (
      rw (back (8 * k) c.args.part.now)
          (omega (arith, fits (goal.at.operands-requires c).In_ok-k, length-drop (8 * k) c.args.part.now, c.requires.0, c.read_head.auto.sizes)),
      omega (arith, c.requires.1, c.read_head.auto.sizes),
    )

pub shape_of-sizes-in_err-m : goal.shape_of-sizes-in_err-m
shape_of-sizes-in_err-m c = c.operands.auto.sizes ∙ c.read_head.auto.sizes

-- the statements, as the walk has them
statements : (c : After-operands) → c.operands.result ≡ placed (1 + c.in_ok-k.k) (chain (walk 63) (sorts 1 0 c.args.n) (drop c.in_ok-k.k (entries_of c.args.part.now)))
statements c = rw (entries-rest c.in_ok-k.k c.args.part.now) at c.operands.ensures.0

pub returns-in_err-m : goal.returns-in_err-m
returns-in_err-m c =
    let e : c.from_residual-in_err-m.result ≡ Err c.in_err-m.field-0.0 = search rules in
    let whole = walk-below-whole c.args.a c.args.n (entries_of c.args.part.now) (head-read (goal.at.returns-in_err-m c).In_ok-k) in
    rw e (stop-moved 1 c.in_ok-k.k _ (λ p u. whole ∙ ap (moved c.in_ok-k.k) u) (statements (goal.at.returns-in_err-m c).After-operands) c.in_err-m.was, tt)

pub overflow_add-result : goal.overflow_add-result
overflow_add-result c =
    let k = c.in_ok-k.k in
    let part = c.args.part.now in
    let below = chain_fits 63 (sorts 1 0 c.args.n) (drop (8 * k) part)
    (placed-ok (1 + k) _ (rw (back (8 * k) part) at c.operands.ensures.0) c.in_ok-m.was) in
    omega (arith, fits (goal.at.overflow_add-result c).In_ok-k, below, length-drop (8 * k) part)

pub shape_of-sizes : goal.shape_of-sizes
shape_of-sizes c = c.operands.auto.sizes ∙ c.read_head.auto.sizes

pub returns : goal.returns
returns c =
    let k = c.in_ok-k.k in
    let es = entries_of c.args.part.now in
    let head = head-read (goal.at.returns c).In_ok-k in
    let below = placed-ok (1 + k) _ (statements (goal.at.returns c).After-operands) c.in_ok-m.was in
    let f : Sized es 1 k _ c.read_head.new.sizes = rw c.in_ok-k.was at c.read_head.ensures.1 in
    let g : Sized (drop k es) (1 + k) c.in_ok-m.m _ c.operands.new.sizes = rw (c.in_ok-m.was, entries-rest k c.args.part.now) at c.operands.ensures.1 in
    (ap (placed 1) (sym (walk-below-whole c.args.a c.args.n es head ∙ ap (moved k) below)), sized-then f g)
