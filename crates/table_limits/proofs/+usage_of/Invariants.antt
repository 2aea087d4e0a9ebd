use Prim.Native.Nat.{◌+◌, ◌-◌, ◌*◌, ◌≤◌, ◌<◌}
use mathlib.Core.Path.{◌≡◌}
use lib.ListN.{length}
use Rattle.language_laws.specs.Claims.{entries_of}
use Rattle.table_limits.specs.Sums.{Level}
use Rattle.table_limits.specs.Usage.{through, usage_at}
use Rattle.table_limits.proofs.+usage_of.Given as goal

abbrev pub decreases-usage_of : goal.decreases-usage_of
decreases-usage_of l = l.nesting

abbrev pub invariant-loop-i : goal.invariant-loop-i
invariant-loop-i l =
    (usage_at l.nesting (entries_of l.part) ≡ through (usage_at (l.nesting - 1)) l.kind l.head (l.count - l.i) l.i l.open l.sum (entries_of l.rest))
    × (8 * l.sum.entries + length l.rest ≡ length l.part) × Level l.sum × (l.open ≤ l.sum.entries) × (l.i < l.sum.entries)
