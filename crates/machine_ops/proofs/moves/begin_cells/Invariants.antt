use Prim.Native.Nat.{◌-◌}
use mathlib.Core.Path.{◌≡◌}
use lib.ListN.{length}
use Rattle.machine_ops.specs.Moves.{begun}
use Rattle.machine_ops.proofs.moves.begin_cells.Given as goal

abbrev pub invariant-loop-j : goal.invariant-loop-j
invariant-loop-j l = (length l.state ≡ length l.initial.state) × (begun l.code l.place l.initial.state l.g l.p (l.c - l.p) ≡ begun l.code l.place l.state l.g l.j (l.c - l.j))
