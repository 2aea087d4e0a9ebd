use mathlib.Core.Path.{◌≡◌}
use Prim.Native.Nat.{◌+◌, ◌*◌, ◌≤◌}
use lib.ListN.{length}
use Rattle.load_places.specs.Records.{bad_shape, shape_place, least}
use Rattle.load_places.specs.Index.{Indexed}
use Rattle.load_records.specs.Answer.{Upto}
use Rattle.load_records.proofs.shapes_pass.Given as goal

abbrev pub invariant-loop-k : goal.invariant-loop-k
invariant-loop-k l = Upto (bad_shape l.of.code.now) (shape_place l.of.code.now) l.total l.k l.p × (l.p ≤ 1000000 + 261 * l.k) × (l.least ≡ least l.of.code.now l.k)
    × (length l.shapes ≡ length l.initial.shapes) × Indexed l.of.code.now l.shapes l.of.instructions l.k
