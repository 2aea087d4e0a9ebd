use mathlib.Core.Path.{◌≡◌}
use Prim.Native.Nat.{◌/◌}
use lib.ListN.{length}
use Rattle.table_scopes.specs.Hops.{Hops}
use Rattle.table_scopes.proofs.spans.spanned.Given as goal

abbrev pub invariant-loop-left : goal.invariant-loop-left
invariant-loop-left l = Hops l.table l.from l.parts l.at l.left × (l.count ≡ length l.table / 8)
