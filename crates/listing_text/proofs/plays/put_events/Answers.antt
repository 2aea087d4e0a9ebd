-- `put_events`, event by event. What is left to be written finishes the text (specs/Writing, Left).
use Prim.Native.Nat.{◌*◌}
use native.Mathlib.Omega.{arith}
use Rattle.listing_text.specs.Told.{line_at, next-event, no-event}
use Rattle.listing_text.specs.Writing.{room-left, goes_left, finished}
use Rattle.listing_text.proofs.plays.put_events.Goals as goal

pub put_event-next-requires : goal.put_event-next-requires
put_event-next-requires c =
    let answers = c.args.answers.now in
    let i = c.loop-i.i in
    let e = next-event answers i c.args.events c.loop-i-test.true in (
      omega (arith, c.requires.0, c.loop-i-test.true),
      room-left _ _ _ _ _ _ c.loop-i.invariant (line_at answers (8 * i)) _ e c.requires.1,
    )

pub loop-i-preserved : goal.loop-i-preserved
loop-i-preserved c =
    let e = next-event c.args.answers.now c.loop-i.i c.args.events c.loop-i-test.true in
    goes_left _ _ _ _ _ _ c.loop-i.invariant _ _ _ _ e c.put_event-next.ensures

pub returns : goal.returns
returns c =
    finished _ _ _ _ _ _ c.loop-i.invariant (no-event c.args.answers.now c.loop-i.i c.args.events c.loop-i-test.false)
