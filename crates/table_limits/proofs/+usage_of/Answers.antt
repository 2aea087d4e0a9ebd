-- `table_limits::usage_of` meets its contract: the nesting falls from an entry to its operands, and a loop adds them up.
use Prim.Native.Nat.{ℕ, ◌-◌, ◌*◌, ◌<◌}
use Prim.{tt}
use Rattle.std.specs.Prelude.{Some}
use mathlib.Core.Path.{◌≡◌, refl, sym, ◌∙◌}
use native.Mathlib.Omega.{arith}
use lib.ListN.{length, length-drop}
use Rattle.language_laws.specs.Claims.{entries_of}
use Rattle.table_entries.specs.Entries.{rest, entries-rest}
use Rattle.table_limits.specs.Sums.{weight_of}
use Rattle.table_limits.specs.Usage.{usage_at, Bounded}
use Rattle.table_limits.proofs.Trees.{through_same}
use Rattle.table_limits.proofs.Steps.{through-step, through-stop, through-done, usage-none, usage-short, usage-whole, leaf-here, leaf-found, weight-low, kept_low, alone-level, joined-level}
use Rattle.table_limits.proofs.+usage_of.Goals as goal
use Rattle.table_limits.proofs.+usage_of.Goals.{Joined-leaf, then-leaf, else-leaf+in_ok-u}

-- what an operand takes, by whichever way it was found
found : (t : ℕ) (c : Joined-leaf t)
    → let l = c.loop-i.rest.now in
    (Some c.if-leaf.u ≡ usage_at (c.args.nesting - 1)
    (entries_of l)) × Bounded (Some c.if-leaf.u) (length l)
found t c =
    elim c.if-leaf.branch [
      | then-leaf w ↦ leaf-found (c.args.nesting - 1) c.loop-i.rest.now (sym c.leaf.ensures ∙ w.if-leaf.true) (w.u-is ∙ w.leaf_usage-u.ensures)
      | else-leaf+in_ok-u w ↦ rw w.u-is (rw w.in_ok-u.was at w.usage_of.ensures)
    ]

pub returns-then-nesting-eq0 : goal.returns-then-nesting-eq0
returns-then-nesting-eq0 t c = (sym (usage-none c.args.nesting (entries_of c.args.part.now) c.if-nesting-eq0.true), tt)

pub returns-then-part-lt-ENTRY_BYTES : goal.returns-then-part-lt-ENTRY_BYTES
returns-then-part-lt-ENTRY_BYTES t c = (sym (usage-short c.args.nesting c.args.part.now c.if-part-lt-ENTRY_BYTES.true), tt)

pub loop-i-init : goal.loop-i-init
loop-i-init t c =
    let a = alone-level c.kind_of-kind.result in (
      usage-whole c.args.nesting
          c.args.part.now
          c.if-nesting-eq0.false c.if-part-lt-ENTRY_BYTES.false
          ∙ rw (
            c.alone-sum.ensures,
            c.head_of-head.ensures,
            c.count-count.ensures,
            c.size_of.ensures,
            c.name_of-name.ensures,
            c.kind_of-kind.ensures,
            entries-rest 1 c.args.part.now,
          )
          (through_same (usage_at (c.args.nesting - 1)) _ _ _
          (omega arith) refl refl refl),
      rw (c.alone-sum.ensures, a.1, rest 8 c.args.part.now)
          (omega (arith, length-drop 8 c.args.part.now)),
      rw c.alone-sum.ensures a.0,
      omega arith,
      rw (c.alone-sum.ensures, a.1) (omega arith),
    )

pub leaf_usage-u-requires : goal.leaf_usage-u-requires
leaf_usage-u-requires t c =
    leaf-here (c.args.nesting - 1)
    c.loop-i.rest.now (sym c.leaf.ensures ∙ c.if-leaf.true)

pub overflow_mul-at : goal.overflow_mul-at
overflow_mul-at t c = omega (arith, (found t (goal.at.overflow_mul-at t c).Joined-leaf).1)

pub slice_bounds-rest-count-in-loop-i : goal.slice_bounds-rest-count-in-loop-i
slice_bounds-rest-count-in-loop-i t c = omega (arith, (found t (goal.at.slice_bounds-rest-count-in-loop-i t c).Joined-leaf).1)

pub slice_bounds-rest-start-in-loop-i : goal.slice_bounds-rest-start-in-loop-i
slice_bounds-rest-start-in-loop-i t c = omega (arith, (found t (goal.at.slice_bounds-rest-start-in-loop-i t c).Joined-leaf).1)

pub join-sum-requires : goal.join-sum-requires
join-sum-requires t c =
    omega (
      arith,
      (found t (goal.at.join-sum-requires t c).Joined-leaf).1,
      c.loop-i.invariant,
      weight-low c.kind_of-kind.result
          c.loop-i.i,
      c.weight.ensures,
    )

pub overflow_add-open : goal.overflow_add-open
overflow_add-open t c =
    omega (
      arith,
      c.well_formed,
      (found t (goal.at.overflow_add-open t c).Joined-leaf).1,
      c.loop-i.invariant,
      c.kept-open.ensures,
      kept_low c.head_of-head.result
          c.loop-i.i
          c.if-leaf.u.holds,
    )

pub loop-i-preserved : goal.loop-i-preserved
loop-i-preserved t c =
    let nesting = c.args.nesting in
    let kind = c.kind_of-kind.result in
    let rest-now = c.loop-i.rest.now in
    let i = c.loop-i.i in
    let v = c.if-leaf.u in
    let b = (found t (goal.at.loop-i-preserved t c).Joined-leaf).1 in
    let less : i
    < c.count-count.result = omega arith in
    let on = joined-level (weight_of kind
    i)
    c.loop-i.open
    c.loop-i.sum v
    c.loop-i.invariant.2 b.0
    (omega (
      arith,
      c.loop-i.invariant,
      weight-low kind
          i,
    ))
    (omega (arith, c.loop-i.invariant)) in (
      c.loop-i.invariant.0
          ∙ through-step (usage_at (nesting - 1))
          kind
          c.head_of-head.result
          c.count-count.result
          i
          c.loop-i.open
          c.loop-i.sum
          (entries_of rest-now) less
          (found t (goal.at.loop-i-preserved t c).Joined-leaf).0 refl
          ∙ rw (
            c.kept-open.ensures,
            c.join-sum.ensures,
            c.weight.ensures,
            entries-rest v.entries rest-now,
          ) refl,
      rw (c.join-sum.ensures, rest (8 * v.entries) rest-now)
          (omega (
            arith,
            b,
            c.loop-i.invariant,
            length-drop (8 * v.entries) rest-now,
          )),
      rw (c.join-sum.ensures, c.weight.ensures) on,
      rw c.join-sum.ensures (omega (
        arith,
        b,
        c.loop-i.invariant,
        c.kept-open.ensures,
        kept_low c.head_of-head.result
            i v.holds,
      )),
      rw c.join-sum.ensures (omega (arith, b, c.loop-i.invariant)),
    )

pub returns-in_err-u : goal.returns-in_err-u
returns-in_err-u t c =
    let less : c.loop-i.i < c.count-count.result = omega arith in
    rw c.from_residual.ensures (
      sym (c.loop-i.invariant.0 ∙ through-stop (usage_at (c.args.nesting - 1)) c.kind_of-kind.result c.head_of-head.result c.count-count.result
          c.loop-i.i c.loop-i.open c.loop-i.sum (entries_of c.loop-i.rest.now) less c.usage_of.ensures.0 c.in_err-u.was),
      tt,
    )

pub returns : goal.returns
returns t c =
    let all : c.loop-i.i ≡ c.count-count.result = omega (arith, c.loop-i.invariant) in (
      sym (c.loop-i.invariant.0 ∙ through-done (usage_at (c.args.nesting - 1))
          c.kind_of-kind.result
          c.head_of-head.result c.count-count.result c.loop-i.i
          c.loop-i.open c.loop-i.sum (entries_of c.loop-i.rest.now) all),
      (c.loop-i.invariant.2, omega (arith, c.loop-i.invariant), omega (arith, c.loop-i.invariant)),
    )
