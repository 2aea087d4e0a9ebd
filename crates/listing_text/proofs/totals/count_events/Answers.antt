-- `count_events`, event by event: what is left to be counted gives the same (specs/Told, next-tag).
use mathlib.Core.Path.{sym, ◌∙◌}
use Prim.Native.Nat.{◌*◌}
use native.Mathlib.Omega.{arith}
use Rattle.words.specs.Numbers.{byte_at}
use Rattle.listing_text.specs.Bounds.{grown-below}
use Rattle.listing_text.specs.Told.{next-tag, no-tag}
use Rattle.listing_text.specs.Counting.{totals_of, tag-grown}
use Rattle.listing_text.proofs.totals.count_events.Goals as goal

pub loop-i-preserved : goal.loop-i-preserved
loop-i-preserved c =
    let t = totals_of c.loop-i.all in
    let tag = byte_at c.args.answers.now (8 * c.loop-i.i) in
    let h = c.loop-i-test.true in (
      rw c.count-all.ensures (grown-below 1 _ (omega (arith, h)) (tag-grown tag t) c.loop-i.invariant.0),
      rw c.count-all.ensures (sym (next-tag _ _ _ _ h) ∙ c.loop-i.invariant.1),
    )

pub returns : goal.returns
returns c = sym (no-tag _ _ _ _ c.loop-i-test.false) ∙ c.loop-i.invariant.1
