-- Each play gives the first lines of what is left to be listed (specs/Plays, next-left).
use Rattle.std.proofs.Common.{◌≡◌, refl, ◌∙◌, ◌++◌, ◌-◌, arith}
use lib.Dec.{ltb}
use borrow.Author.Tests.{ltb-true}
use Rattle.run.specs.Answers.{play_numbers}
use Rattle.listing_text.specs.Told.{full_steps, play_text}
use Rattle.listing_text.specs.Bounds.{none_below, steps-below}
use Rattle.listing_text.specs.Counting.{totals_of, steps-roomy, tags-grown}
use Rattle.listing_text.specs.Steps.{lines_left, all_left, fewer}
use Rattle.listing_text.specs.Plays.{comes, events-fit, next-left}
use Rattle.listing_text.specs.Writing.{begun, room-left, goes_left}
use Rattle.listing_text.proofs.list_runs.Goals as goal

pub loop-goes-init : goal.loop-goes-init
loop-goes-init c =
    (refl, refl, omega arith, λ t. none_below 65535, rw (all_left c.args.code.now c.args.state.now 65535) (begun c.args.text.now 0 _))

pub count_play-all-requires : goal.count_play-all-requires
count_play-all-requires c =
    let l = c.loop-goes in
    let comes-to = comes _ (λ k. (c.type_inv.code k).fits) l.left (omega (arith, l.invariant.2)) (totals_of l.all) l.state l.answers (omega (arith, l.invariant.1)) _ c.play-p.ensures in
    let stay = c.play-p.auto.answers ∙ l.invariant.1 in
    (omega (arith, events-fit comes-to, l.invariant.1, stay), steps-roomy (l.invariant.3 c.loop-goes-test.true), omega (arith, stay))

pub put_played-at-requires : goal.put_played-at-requires
put_played-at-requires c =
    let l = c.loop-goes in
    let comes-to = comes _ (λ k. (c.type_inv.code k).fits) l.left (omega (arith, l.invariant.2)) (totals_of l.all) l.state l.answers (omega (arith, l.invariant.1)) _ c.play-p.ensures in
    let x = play_numbers c.play-p.result.answer in
    let u = totals_of c.count_play-all.result in
    let lines : lines_left l.goes (totals_of l.all) c.args.code.now l.state l.left
    ≡ play_text c.play-p.new.answers x u ++ lines_left (ltb 0 (full_steps x)) u c.args.code.now c.play-p.new.state (l.left - full_steps x) =
    rw c.count_play-all.ensures (next-left comes-to l.goes (full_steps x) c.loop-goes-test.true refl) in (
      omega (arith, events-fit comes-to, l.invariant.1, c.play-p.auto.answers ∙ l.invariant.1),
      room-left c.args.text.now 0 _ l.text l.at _ l.invariant.4 (play_text c.play-p.new.answers x u) _ lines (omega (arith, c.requires)),
    )

pub overflow_sub-left : goal.overflow_sub-left
overflow_sub-left c =
    let l = c.loop-goes in
    let comes-to = comes _ (λ k. (c.type_inv.code k).fits) l.left (omega (arith, l.invariant.2)) (totals_of l.all) l.state l.answers (omega (arith, l.invariant.1)) _ c.play-p.ensures in
    omega (arith, comes-to.most, c.full_steps-n.ensures)

pub loop-goes-smaller : goal.loop-goes-smaller
loop-goes-smaller c =
    let l = c.loop-goes in
    let comes-to = comes _ (λ k. (c.type_inv.code k).fits) l.left (omega (arith, l.invariant.2)) (totals_of l.all) l.state l.answers (omega (arith, l.invariant.1)) _ c.play-p.ensures in
    fewer l.goes l.left c.full_steps-n.result c.loop-goes-test.true (omega (arith, comes-to.most, c.full_steps-n.ensures))

pub loop-goes-preserved : goal.loop-goes-preserved
loop-goes-preserved c =
    let l = c.loop-goes in
    let n = c.full_steps-n.ensures in
    let comes-to = comes _ (λ k. (c.type_inv.code k).fits) l.left (omega (arith, l.invariant.2)) (totals_of l.all) l.state l.answers (omega (arith, l.invariant.1)) _ c.play-p.ensures in
    let u = totals_of c.count_play-all.result in
    let lines : lines_left l.goes (totals_of l.all) c.args.code.now l.state l.left
    ≡ play_text c.play-p.new.answers (play_numbers c.play-p.result.answer) u
    ++ lines_left (ltb 0 c.full_steps-n.result) u c.args.code.now c.play-p.new.state (l.left - c.full_steps-n.result) =
    rw c.count_play-all.ensures (next-left comes-to l.goes c.full_steps-n.result c.loop-goes-test.true n) in (
      c.play-p.auto.state ∙ l.invariant.0,
      c.play-p.auto.answers ∙ l.invariant.1,
      omega (arith, l.invariant.2),
      λ t.
          let paced = comes-to.paced (omega (arith, ltb-true 0 c.full_steps-n.result t, n)) in
          rw c.count_play-all.ensures
          (steps-below _ _ _ _ (omega (arith, paced.0, comes-to.counted, n)) (omega (arith, paced.1, n)) (omega (arith, comes-to.most, n))
          (tags-grown c.play-p.new.answers 0 _ _) (l.invariant.3 c.loop-goes-test.true)),
      goes_left _ _ _ l.text l.at _ l.invariant.4 _ _ _ _ lines c.put_played-at.ensures,
    )
