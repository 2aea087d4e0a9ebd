-- The walkers of the reader meet their contracts: the nesting that is left falls from an operand to the entries below it.
use Rattle.std.specs.Prelude.{Ok, Err}
use Rattle.std.proofs.Common.{rules}
use mathlib.Core.Path.{◌≡◌, refl, sym, ap, ◌∙◌}
use native.Mathlib.Omega.{arith}
use lib.ListN.{length, drop, length-drop}
use Rattle.language_laws.specs.Claims.{entries_of}
use Rattle.table_read.specs.Operands.{sorts, is_leaf}
use Rattle.table_read.specs.Walk.{chain, kind_at, name_at, size_at, walk}
use Rattle.table_entries.specs.Entries.{entries-rest, rest as back}
use Rattle.table_entries.specs.Sizes.{Sized, sized-none}
use Rattle.table_read.proofs.Steps.{placed-ok, passed_none, passed-end, passed-refused, passed_deep, passed-fits, passed-stop, passed-next, leaf-below, below-fits}
use Rattle.table_read.proofs.Counts.{entry-stop, entry_read}
use Prim.Native.Nat.{ℕ, ◌+◌, ◌*◌, ◌≤◌, ◌<◌}
use Rattle.table_read.proofs.+operands_read_entry.Goals as goal
use Rattle.table_read.proofs.+operands_read_entry.Goals.{operands-In_ok-k, read_entry-In_ok-below}

-- what an operand counts is within the rest
read_fits : (t : ℕ) (c : operands-In_ok-k t) → 8 * c.in_ok-k.k ≤ length c.loop-i.rest.now
read_fits t c = passed-fits c.loop-i.invariant.0 (omega arith) c.sort_of.ensures c.admitted.ensures c.if-not-admitted.false c.read_entry.ensures.0 c.in_ok-k.was

pub operands-loop-i-init : goal.operands-loop-i-init
operands-loop-i-init t c =
    let a = c.args in
    (passed_none a.nesting (sorts a.kind a.a a.n) a.part.now a.place a.sizes.now, refl)

pub operands-returns-then-not-admitted : goal.operands-returns-then-not-admitted
operands-returns-then-not-admitted t c =
    let less : c.loop-i.i < length (sorts c.args.kind c.args.a c.args.n) = omega arith in
    (passed-refused c.loop-i.invariant.0 less c.sort_of.ensures c.admitted.ensures c.if-not-admitted.true, tt)

pub operands-overflow_add-here : goal.operands-overflow_add-here
operands-overflow_add-here t c = omega (arith, c.loop-i.invariant.0.long, c.requires.0, c.requires.1)

pub operands-overflow_sub-nesting : goal.operands-overflow_sub-nesting
operands-overflow_sub-nesting t c =
    let less : c.loop-i.i < length (sorts c.args.kind c.args.a c.args.n) = omega arith in
    omega (arith, (passed_deep c.loop-i.invariant.0 less c.sort_of.ensures c.admitted.ensures c.if-not-admitted.false).0)

pub operands-read_entry-requires : goal.operands-read_entry-requires
operands-read_entry-requires t c =
    let less : c.loop-i.i < length (sorts c.args.kind c.args.a c.args.n) = omega arith in
    let h = passed_deep c.loop-i.invariant.0 less c.sort_of.ensures c.admitted.ensures c.if-not-admitted.false in (
      omega arith,
      (h.1, (omega (arith, c.loop-i.invariant.0.long, c.requires.0, c.loop-i.invariant.1), omega (arith, c.requires.1, c.loop-i.invariant.1))),
    )

pub operands-overflow_mul-at : goal.operands-overflow_mul-at
operands-overflow_mul-at t c = omega (arith, read_fits t c, c.loop-i.invariant.0.long)

pub operands-slice_bounds-rest-count : goal.operands-slice_bounds-rest-count
operands-slice_bounds-rest-count t c = omega (arith, read_fits t c)

pub operands-slice_bounds-rest-start : goal.operands-slice_bounds-rest-start
operands-slice_bounds-rest-start t c = omega (arith, read_fits t c)

pub operands-overflow_add-passed : goal.operands-overflow_add-passed
operands-overflow_add-passed t c = omega (arith, read_fits t (goal.at.operands-overflow_add-passed t c).In_ok-k, c.loop-i.invariant.0.long)

pub operands-loop-i-preserved : goal.operands-loop-i-preserved
operands-loop-i-preserved t c =
    let less : c.loop-i.i < length (sorts c.args.kind c.args.a c.args.n) = omega arith in (
      passed-next c.loop-i.invariant.0 less c.sort_of.ensures c.admitted.ensures c.if-not-admitted.false c.read_entry.ensures.0
          c.in_ok-k.was c.read_entry.ensures.1,
      c.read_entry.auto.sizes ∙ c.loop-i.invariant.1,
    )

pub operands-returns-in_err-k : goal.operands-returns-in_err-k
operands-returns-in_err-k t c =
    let less : c.loop-i.i < length (sorts c.args.kind c.args.a c.args.n) = omega arith in
    let e : c.from_residual.result ≡ Err c.in_err-k.field-0.0 = search rules in
    rw e (
      passed-stop c.loop-i.invariant.0 less c.sort_of.ensures c.admitted.ensures c.if-not-admitted.false c.read_entry.ensures.0 c.in_err-k.was,
      tt,
    )

pub operands-returns : goal.operands-returns
operands-returns t c = (passed-end c.loop-i.invariant.0 (omega (arith, c.loop-i.invariant.0.few)), c.loop-i.invariant.0.sized)

pub read_entry-overflow_add-place : goal.read_entry-overflow_add-place
read_entry-overflow_add-place t c = omega (arith, c.requires.1.0, c.requires.1.1)

pub read_entry-operands-requires : goal.read_entry-operands-requires
read_entry-operands-requires t c =
    let part = c.args.part.now in
    (omega arith, (rw (back 8 part) (omega (arith, length-drop 8 part, c.requires.1.0, c.requires.0)), c.requires.1.1))

pub read_entry-whole-requires : goal.read_entry-whole-requires
read_entry-whole-requires t c = (omega (arith, c.requires.1.0, c.requires.0), omega arith)

pub read_entry-returns-then-is_leaf : goal.read_entry-returns-then-is_leaf
read_entry-returns-then-is_leaf t c =
    let part = c.args.part.now in
    let leaf = leaf-below (walk c.args.nesting) (entries_of part) (ap is_leaf (sym c.kind_of-kind.ensures) ∙ sym c.is_leaf.ensures ∙ c.if-is_leaf.true) in
    entry_read c.args.nesting part c.args.place c.requires.0 (sym leaf) (sized-none (drop 1 (entries_of part)) (c.args.place + 1) c.args.sizes.now)
    (omega (arith, c.requires.1.0, c.requires.0)) c.whole.ensures.0 c.whole.ensures.1

pub read_entry-returns-in_err-below : goal.read_entry-returns-in_err-below
read_entry-returns-in_err-below t c =
    let part = c.args.part.now in
    let h = rw (c.kind_of-kind.ensures, c.name_of.ensures, c.size_of.ensures, entries-rest 1 part) at c.operands.ensures.0 in
    let e : c.from_residual.result ≡ Err c.in_err-below.field-0.0 = search rules in
    rw e (entry-stop c.args.nesting part c.args.place h c.in_err-below.was, tt)

-- what was read below an entry, as the walk has it
below-read : (t : ℕ) (c : read_entry-In_ok-below t)
    → let es = entries_of c.args.part.now in
    (chain (walk c.args.nesting) (sorts (kind_at es) (name_at es) (size_at es)) (drop 1 es) ≡ Ok c.in_ok-below.below)
    × Sized (drop 1 es) (c.args.place + 1) c.in_ok-below.below c.args.sizes.now c.operands.new.sizes
below-read t c =
    let part = c.args.part.now in (
      placed-ok (c.args.place + 1) _
          (rw (c.kind_of-kind.ensures, c.name_of.ensures, c.size_of.ensures, entries-rest 1 part) at c.operands.ensures.0)
          c.in_ok-below.was,
      rw (c.in_ok-below.was, entries-rest 1 part) at c.operands.ensures.1,
    )

pub read_entry-whole-requires-2 : goal.read_entry-whole-requires-2
read_entry-whole-requires-2 t c =
    let h = below-read t (goal.at.read_entry-whole-requires-2 t c).In_ok-below in
    let fits = below-fits c.args.nesting c.args.part.now c.requires.0 h.0 in
    (omega (arith, c.operands.auto.sizes, c.requires.1.0, c.requires.0), omega (arith, fits, c.requires.1.0, c.requires.1.1))

pub read_entry-returns : goal.read_entry-returns
read_entry-returns t c =
    let h = below-read t (goal.at.read_entry-returns t c).In_ok-below in
    entry_read c.args.nesting c.args.part.now c.args.place c.requires.0 h.0 h.1
    (omega (arith, c.operands.auto.sizes, c.requires.1.0, c.requires.0)) c.whole-2.ensures.0 c.whole-2.ensures.1
