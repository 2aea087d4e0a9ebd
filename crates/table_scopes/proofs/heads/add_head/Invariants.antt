use mathlib.Core.Path.{◌≡◌}
use lib.ListN.{length}
use Prim.Native.Nat.{◌+◌, ◌-◌}
use Rattle.table_scopes.specs.Items.{items_at, Adds}
use Rattle.table_scopes.proofs.heads.add_head.Given as goal

abbrev pub invariant-loop-place : goal.invariant-loop-place
invariant-loop-place l =
    Adds (items_at l.sort l.table l.at l.count) l.top l.initial.env (items_at l.sort l.table l.place (l.at + l.count - l.place)) l.up l.env × (length l.env ≡ length l.initial.env)
