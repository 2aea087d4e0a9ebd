-- `list_runs`, play by play. What is left to be listed finishes the text (specs/Writing, Left).
use Rattle.std.proofs.Common.{◌≡◌, true, length, ◌≤◌}
use Rattle.listing_text.specs.Text.{lines_of}
use Rattle.listing_text.specs.Bounds.{Below}
use Rattle.listing_text.specs.Counting.{totals_of}
use Rattle.listing_text.specs.Steps.{lines_left, runs_left}
use Rattle.listing_text.specs.Writing.{Left}
use Rattle.listing_text.proofs.list_runs.Given as goal

abbrev pub invariant-loop-goes : goal.invariant-loop-goes
invariant-loop-goes l =
    (length l.state ≡ length l.initial.state) × (length l.answers ≡ 4096) × (l.left ≤ 65535) × (l.goes ≡ true → Below 65535 (totals_of l.all) l.left)
    × Left l.initial.text 0 (lines_of l.code l.initial.state 65535) l.text l.at (lines_left l.goes (totals_of l.all) l.code l.state l.left)

abbrev pub decreases-loop-goes : goal.decreases-loop-goes
decreases-loop-goes l = runs_left l.goes l.left
