use mathlib.Core.Path.{◌≡◌}
use Prim.Native.Nat.{◌-◌}
use Rattle.listing_text.specs.Told.{count_tags}
use Rattle.listing_text.specs.Counting.{totals_of, Roomy}
use Rattle.listing_text.proofs.totals.count_events.Given as goal

abbrev pub invariant-loop-i : goal.invariant-loop-i
invariant-loop-i l =
    (Roomy (totals_of l.all) (l.events - l.i)) × (count_tags l.answers l.i (l.events - l.i) (totals_of l.all) ≡ count_tags l.answers 0 l.events (totals_of l.initial.all))
