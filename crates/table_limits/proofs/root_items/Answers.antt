-- `table_limits::root_items` meets its contract.
use Prim.Native.Nat.{◌*◌, ◌<◌}
use mathlib.Core.Path.{refl, sym, ◌∙◌}
use native.Mathlib.Omega.{arith}
use lib.ListN.{length-drop}
use Rattle.language_laws.specs.Claims.{entries_of}
use Rattle.table_entries.specs.Entries.{rest, entries-rest}
use Rattle.table_limits.specs.Usage.{usage_at}
use Rattle.table_limits.proofs.Trees.{through_same}
use Rattle.table_limits.proofs.Steps.{joined-level, items-step, through-stop, through-done}
use Rattle.table_limits.proofs.root_items.Goals as goal

pub loop-i-init : goal.loop-i-init
loop-i-init c = (through_same (usage_at 63) 1 0 _ (omega arith) refl refl refl, omega arith, c.requires.0, omega arith, omega (arith, c.requires))

pub overflow_mul-at : goal.overflow_mul-at
overflow_mul-at c =
    omega (arith, c.well_formed, rw c.in_ok-u.was at c.usage_of.ensures.1, c.loop-i.invariant, c.requires)

pub slice_bounds-rest-count : goal.slice_bounds-rest-count
slice_bounds-rest-count c =
    omega (arith, rw c.in_ok-u.was at c.usage_of.ensures.1)

pub slice_bounds-rest-start : goal.slice_bounds-rest-start
slice_bounds-rest-start c =
    omega (arith, rw c.in_ok-u.was at c.usage_of.ensures.1)

pub join-sum-requires : goal.join-sum-requires
join-sum-requires c =
    omega (arith, c.well_formed, rw c.in_ok-u.was at c.usage_of.ensures.1, c.loop-i.invariant, c.requires)

pub loop-i-preserved : goal.loop-i-preserved
loop-i-preserved c =
    let v = c.in_ok-u.u in
    let b = rw c.in_ok-u.was at c.usage_of.ensures.1 in
    let more : c.loop-i.i < c.args.count = omega arith in
    let o = c.args.own.holds in (
      c.loop-i.invariant.0
          ∙ items-step (usage_at 63) c.args.count c.loop-i.i
          o c.loop-i.sum
          (entries_of c.loop-i.rest.now) more
          c.usage_of.ensures.0 c.in_ok-u.was
          ∙ rw (c.join-sum.ensures, entries-rest v.entries c.loop-i.rest.now)
          refl,
      rw (c.join-sum.ensures, rest (8 * v.entries) c.loop-i.rest.now)
          (omega (
            arith,
            b,
            c.loop-i.invariant,
            length-drop (8 * v.entries) c.loop-i.rest.now,
          )),
      rw c.join-sum.ensures (joined-level 0 o c.loop-i.sum v
          c.loop-i.invariant.2 b.0 (omega arith)
          (omega (arith, c.loop-i.invariant))),
      rw c.join-sum.ensures (omega (arith, c.loop-i.invariant)),
      rw c.join-sum.ensures (omega (arith, c.loop-i.invariant)),
    )

pub returns-in_err-u : goal.returns-in_err-u
returns-in_err-u c =
    rw c.from_residual.ensures
    (sym (c.loop-i.invariant.0 ∙ through-stop (usage_at 63) 1 0 c.args.count c.loop-i.i c.args.own.holds c.loop-i.sum (entries_of c.loop-i.rest.now)
    (omega arith) c.usage_of.ensures.0 c.in_err-u.was))

pub returns : goal.returns
returns c =
    sym (c.loop-i.invariant.0 ∙ through-done (usage_at 63) 1 0 c.args.count c.loop-i.i c.args.own.holds c.loop-i.sum (entries_of c.loop-i.rest.now) (omega arith))
