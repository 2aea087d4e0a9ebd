use mathlib.Core.Path.{◌≡◌}
use Prim.Native.Nat.{◌+◌, ◌≤◌}
use Rattle.compile_emit.specs.EmitEntry.{holds_head}
use Prim.Native.Nat.{◌-◌, ◌*◌}
use lib.ListN.{drop}
use Rattle.compile_emit.proofs.holds_in.Given as goal

abbrev pub invariant-loop-i : goal.invariant-loop-i
invariant-loop-i l = (holds_head l.part l.count ≡ l.n + holds_head (drop (8 * l.i) l.part) (l.count - l.i)) × (l.n ≤ l.i)
