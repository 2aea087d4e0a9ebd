use mathlib.Core.Path.{◌≡◌}
use Prim.Native.Nat.{◌+◌}
use lib.ListN.{length}
use Rattle.compile_emit.specs.EmitEntry.{cursor_head, emit_head, finishes}
use Prim.Native.Nat.{◌-◌, ◌*◌}
use lib.Seq.{sets}
use lib.ListN.{drop}
use Rattle.compile_output.specs.EmitRecord.{Fits}
use Rattle.compile_emit.proofs.declare.Given as goal

abbrev pub invariant-loop-i : goal.invariant-loop-i
invariant-loop-i l = (cursor_head l.part l.count l.initial.p ≡ cursor_head (drop (8 * l.i) l.part) (l.count - l.i) l.p)
    × (emit_head l.part l.known l.at l.count l.initial.p l.initial.out ≡ emit_head (drop (8 * l.i) l.part) l.known (l.at + l.i) (l.count - l.i) l.p l.out)
    × (sets l.initial.ends l.at (finishes l.part l.count l.initial.p) ≡ sets l.ends (l.at + l.i) (finishes (drop (8 * l.i) l.part) (l.count - l.i) l.p))
    × Fits (cursor_head (drop (8 * l.i) l.part) (l.count - l.i) l.p) (length l.out) × (length l.out ≡ length l.initial.out) × (length l.ends ≡ length l.initial.ends)
