-- `put_played`: the lines of the events, and what follows them (specs/Told, play_text).
use Rattle.std.proofs.Common.{sym, ap}
use Rattle.listing_text.specs.Told.{event_lines}
use Rattle.listing_text.specs.Writing.{puts-as, join}
use Rattle.listing_text.proofs.plays.put_played.Goals as goal

pub returns : goal.returns
returns c =
    join _ _ _ _ _ _ _ _
    (puts-as (ap (event_lines c.args.answers.now 0) (sym c.events_of.ensures)) c.put_events-next.ensures)
    c.put_last.ensures
