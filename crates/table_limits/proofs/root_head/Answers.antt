-- `table_limits::root_head` meets its contract.
use Prim.{tt}
use Rattle.std.specs.Prelude.{None}
use Rattle.std.proofs.Common.{rules}
use Prim.Native.Nat.{ℕ, ◌-◌, ◌*◌, ◌<◌}
use mathlib.Core.Path.{◌≡◌, refl, sym, ap, ◌∙◌}
use native.Mathlib.Omega.{arith}
use lib.ListN.{length-drop}
use Rattle.language_laws.specs.Claims.{entries_of}
use Rattle.table_entries.specs.Entries.{rest, entries-rest}
use Rattle.table_limits.specs.Sums.{alone_of, over_of}
use Rattle.table_limits.specs.Usage.{head_from}
use Rattle.table_limits.proofs.Steps.{alone-level, declared-level, head-over, head-next, head-stop, head-end}
use Rattle.table_limits.proofs.root_head.Goals as goal

pub loop-i-init : goal.loop-i-init
loop-i-init c = let a = alone-level 1 in (rw c.alone-own.ensures (ap (λ (n : ℕ). head_from n (alone_of 1) (entries_of c.args.part.now)) (omega arith)), rw (c.alone-own.ensures, a.1) (omega arith), rw c.alone-own.ensures a.0)

pub kind_of-kind-requires : goal.kind_of-kind-requires
kind_of-kind-requires c = omega (arith, rw c.in-Some.is at c.usage_of.ensures.1)

pub returns-then-over : goal.returns-then-over
returns-then-over c =
    let more : c.loop-i.i < c.args.count = omega arith in (
      sym (c.loop-i.invariant.0
          ∙ head-over c.args.count c.loop-i.i
          c.loop-i.own
          (entries_of c.loop-i.rest.now) more
          c.usage_of.ensures.0 c.in-Some.is
          (ap (λ (k : ℕ). over_of k c.in-Some.u) (sym c.kind_of-kind.ensures)
          ∙ sym c.over.ensures ∙ c.if-over.true)),
      tt,
    )

pub declared-own-requires : goal.declared-own-requires
declared-own-requires c =
    omega (arith, c.well_formed, rw c.in-Some.is at c.usage_of.ensures.1, c.loop-i.invariant)

pub overflow_mul-at : goal.overflow_mul-at
overflow_mul-at c =
    omega (arith, c.well_formed, rw c.in-Some.is at c.usage_of.ensures.1, c.loop-i.invariant)

pub slice_bounds-rest-count : goal.slice_bounds-rest-count
slice_bounds-rest-count c =
    omega (arith, rw c.in-Some.is at c.usage_of.ensures.1)

pub slice_bounds-rest-start : goal.slice_bounds-rest-start
slice_bounds-rest-start c =
    omega (arith, rw c.in-Some.is at c.usage_of.ensures.1)

pub loop-i-preserved : goal.loop-i-preserved
loop-i-preserved c =
    let v = c.in-Some.u in
    let b = rw c.in-Some.is at c.usage_of.ensures.1 in
    let more : c.loop-i.i < c.args.count = omega arith in (
      c.loop-i.invariant.0
          ∙ head-next c.args.count c.loop-i.i
          c.loop-i.own
          (entries_of c.loop-i.rest.now) more
          c.usage_of.ensures.0
          c.in-Some.is
          (ap (λ (k : ℕ). over_of k c.in-Some.u)
          (sym c.kind_of-kind.ensures) ∙ sym c.over.ensures
          ∙ c.if-over.false)
          ∙ rw (
            c.declared-own.ensures,
            c.kind_of-kind.ensures,
            entries-rest v.entries c.loop-i.rest.now,
          ) refl,
      rw (c.declared-own.ensures, rest (8 * v.entries) c.loop-i.rest.now)
          (omega (
            arith,
            b,
            c.loop-i.invariant,
            length-drop (8 * v.entries) c.loop-i.rest.now,
          )),
      rw c.declared-own.ensures (declared-level c.kind_of-kind.result
          c.loop-i.own v
          c.loop-i.invariant.2 b.1),
    )

pub returns-in_default : goal.returns-in_default
returns-in_default c =
    let none : c.usage_of.result ≡ None = search rules in
    let more : c.loop-i.i < c.args.count = omega arith in (
      sym (c.loop-i.invariant.0 ∙ head-stop c.args.count c.loop-i.i c.loop-i.own (entries_of c.loop-i.rest.now) more c.usage_of.ensures.0 none),
      tt,
    )

pub returns : goal.returns
returns c =
    let end : c.args.count - c.loop-i.i ≡ 0 = omega arith in (
      sym (c.loop-i.invariant.0
          ∙ head-end (c.args.count - c.loop-i.i) c.loop-i.own (entries_of c.loop-i.rest.now) end),
      (c.loop-i.invariant.2, omega (arith, c.loop-i.invariant)),
    )
