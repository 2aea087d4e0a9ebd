use Prim.Native.Nat.{◌-◌}
use Rattle.listing_text.specs.Told.{event_lines}
use Rattle.listing_text.specs.Writing.{Left}
use Rattle.listing_text.proofs.plays.put_events.Given as goal

abbrev pub invariant-loop-i : goal.invariant-loop-i
invariant-loop-i l = Left l.initial.text l.at (event_lines l.answers 0 l.events) l.text l.next (event_lines l.answers l.i (l.events - l.i))
