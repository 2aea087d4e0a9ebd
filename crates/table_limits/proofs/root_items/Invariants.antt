use Prim.Native.Nat.{◌+◌, ◌-◌, ◌*◌, ◌≤◌}
use mathlib.Core.Path.{◌≡◌}
use lib.ListN.{length}
use Rattle.language_laws.specs.Claims.{entries_of}
use Rattle.table_limits.specs.Sums.{Level}
use Rattle.table_limits.specs.Usage.{through, usage_at, items_at}
use Rattle.table_limits.proofs.root_items.Given as goal

abbrev pub invariant-loop-i : goal.invariant-loop-i
invariant-loop-i l =
    (items_at l.count l.own (entries_of l.part) ≡ through (usage_at 63) 1 0 (l.count - l.i) l.i l.own.holds l.sum (entries_of l.rest))
    × (8 * l.sum.entries + length l.rest ≡ 8 * l.own.entries + length l.part) × Level l.sum × (l.own.entries ≤ l.sum.entries) × (l.own.holds ≤ l.sum.entries)
