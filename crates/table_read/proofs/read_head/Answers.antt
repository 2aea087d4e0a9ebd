-- `table_read::read_head` meets its contract. What is read from the rest, moved by what is passed, is what is read from the part.
use Rattle.std.specs.Prelude.{Err}
use Rattle.std.proofs.Common.{rules}
use Prim.Native.Nat.{ℕ, suc, ◌+◌, ◌-◌, ◌*◌, ◌≤◌, ◌<◌}
use mathlib.Core.Path.{◌≡◌, refl, ◌∙◌}
use native.Mathlib.Omega.{arith}
use lib.ListN.{length}
use Rattle.table_read.proofs.Roots.{declared-none, declared-end, declared-fits, declared-stop, declared-here, declared-next, tally-small}
use Rattle.table_read.proofs.read_head.Goals as goal
use Rattle.table_read.proofs.read_head.Goals.{In_ok-k}

-- a declaration is left
more : (count i : ℕ) → i < count → count - i ≡ suc (count - (i + 1))
more count i h = omega arith

-- what a declaration counts is within the rest
read_fits : (c : In_ok-k) → 8 * c.in_ok-k.k ≤ length c.loop-i.rest.now
read_fits c = declared-fits c.loop-i.invariant.0 (more c.args.count c.loop-i.i (omega arith)) c.read_global.ensures.0 c.in_ok-k.was

pub loop-i-init : goal.loop-i-init
loop-i-init c = let a = c.args in (declared-none a.count (a.count - 0) a.part.now a.sizes.now (omega arith), refl)

pub overflow_add-passed : goal.overflow_add-passed
overflow_add-passed c =
    omega (arith, c.loop-i.invariant.0.long, c.requires.0, c.requires.1)

pub read_global-requires : goal.read_global-requires
read_global-requires c =
    (omega (arith, c.loop-i.invariant.0.long, c.requires.0, c.loop-i.invariant.1), omega (arith, c.requires.1, c.loop-i.invariant.1))

pub kind_of-kind-requires : goal.kind_of-kind-requires
kind_of-kind-requires c =
    declared-here c.loop-i.invariant.0 (more c.args.count c.loop-i.i (omega arith)) c.read_global.ensures.0 c.in_ok-k.was

pub overflow_mul-at : goal.overflow_mul-at
overflow_mul-at c = omega (arith, read_fits (goal.at.overflow_mul-at c).In_ok-k, c.loop-i.invariant.0.long)

pub slice_bounds-rest-count : goal.slice_bounds-rest-count
slice_bounds-rest-count c = omega (arith, read_fits (goal.at.slice_bounds-rest-count c).In_ok-k)

pub slice_bounds-rest-start : goal.slice_bounds-rest-start
slice_bounds-rest-start c = omega (arith, read_fits (goal.at.slice_bounds-rest-start c).In_ok-k)

pub overflow_add-passed-in-loop-i : goal.overflow_add-passed-in-loop-i
overflow_add-passed-in-loop-i c = omega (arith, read_fits (goal.at.overflow_add-passed-in-loop-i c).In_ok-k, c.loop-i.invariant.0.long)

pub overflow_add-classes : goal.overflow_add-classes
overflow_add-classes c =
    omega (arith, c.loop-i.invariant.0.few, tally-small c.kind_of-kind.result 11, c.tally-classes.ensures)

pub overflow_add-procedures : goal.overflow_add-procedures
overflow_add-procedures c =
    omega (arith, c.loop-i.invariant.0.fewer, tally-small c.kind_of-kind.result 12, c.tally-procedures.ensures)

pub loop-i-preserved : goal.loop-i-preserved
loop-i-preserved c = (
  declared-next c.loop-i.invariant.0 (more c.args.count c.loop-i.i (omega arith)) c.read_global.ensures.0 c.in_ok-k.was
      c.read_global.ensures.1 c.kind_of-kind.ensures c.tally-classes.ensures c.tally-procedures.ensures,
  c.read_global.auto.sizes ∙ c.loop-i.invariant.1,
)

pub shape_of-sizes-in_err-k : goal.shape_of-sizes-in_err-k
shape_of-sizes-in_err-k c = c.read_global.auto.sizes ∙ c.loop-i.invariant.1

pub returns-in_err-k : goal.returns-in_err-k
returns-in_err-k c =
    let e : c.from_residual.result ≡ Err c.in_err-k.field-0.0 = search rules in
    rw e (declared-stop c.loop-i.invariant.0 (more c.args.count c.loop-i.i (omega arith)) c.read_global.ensures.0 c.in_err-k.was, tt)

pub shape_of-sizes : goal.shape_of-sizes
shape_of-sizes c = c.loop-i.invariant.1

pub returns : goal.returns
returns c = (declared-end c.loop-i.invariant.0 (omega arith), c.loop-i.invariant.0.sized)
