use mathlib.Core.Path.{◌≡◌}
use Prim.Native.Nat.{◌-◌}
use lib.ListN.{length}
use Rattle.compile_output.specs.EmitRecord.{Fits}
use Rattle.compile_output.specs.EmitCode.{lets, cursor_after, emitted}
use Rattle.compile_output.proofs.releases.Given as goal

abbrev pub invariant-loop-i : goal.invariant-loop-i
invariant-loop-i l =
    (cursor_after (lets l.count) l.initial.p ≡ cursor_after (lets (l.count - l.i)) l.p) × (emitted (lets l.count) l.initial.p l.initial.out ≡ emitted (lets (l.count - l.i)) l.p l.out)
    × Fits (cursor_after (lets (l.count - l.i)) l.p) (length l.out) × (length l.out ≡ length l.initial.out)
