use mathlib.Core.Path.{◌≡◌}
use Prim.Native.Nat.{◌+◌, ◌*◌, ◌≤◌}
use lib.ListN.{length}
use Rattle.load_places.specs.Records.{bad_class, class_place}
use Rattle.load_places.specs.Index.{Placed}
use Rattle.load_records.specs.Answer.{Upto}
use Rattle.load_records.proofs.classes_pass.Given as goal

abbrev pub invariant-loop-k : goal.invariant-loop-k
invariant-loop-k l = Upto (bad_class l.of.code.now) (class_place l.of.code.now) l.of.classes l.k l.p × (l.p ≤ 8 + 258 * l.k) × (length l.classes ≡ length l.initial.classes) × Placed (class_place l.of.code.now) l.classes l.k
