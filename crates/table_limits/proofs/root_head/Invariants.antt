use Prim.Native.Nat.{◌+◌, ◌-◌, ◌*◌}
use mathlib.Core.Path.{◌≡◌}
use lib.ListN.{length}
use Rattle.language_laws.specs.Claims.{entries_of}
use Rattle.table_limits.specs.Sums.{Level}
use Rattle.table_limits.specs.Usage.{head_at, head_from}
use Rattle.table_limits.proofs.root_head.Given as goal

abbrev pub invariant-loop-i : goal.invariant-loop-i
invariant-loop-i l =
    (head_at l.count (entries_of l.part) ≡ head_from (l.count - l.i) l.own (entries_of l.rest)) × (8 * l.own.entries + length l.rest ≡ 8 + length l.part) × Level l.own
