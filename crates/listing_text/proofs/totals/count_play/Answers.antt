-- `count_play`: the events are as many as the answer says, and leave the readings as they are.
use Rattle.std.proofs.Common.{ap, ◌∙◌, arith}
use Rattle.listing_text.specs.Told.{count_tags}
use Rattle.listing_text.specs.Counting.{totals_of, tags-grown}
use Rattle.listing_text.proofs.totals.count_play.Goals as goal

pub overflow_add-result : goal.overflow_add-result
overflow_add-result c =
    let t = totals_of c.args.t in
    let e = c.count_events-all.ensures ∙ ap (λ k. count_tags c.args.answers.now 0 k t) c.events_of-events.ensures in
    record { fits = omega (arith, ap (λ u. u.readings) e ∙ (tags-grown c.args.answers.now 0 _ t).readings, c.requires.1.readings) }
