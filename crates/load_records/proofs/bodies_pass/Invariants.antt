use mathlib.Core.Path.{◌≡◌}
use Prim.Native.Nat.{◌+◌, ◌*◌, ◌-◌, ◌≤◌, ◌<◌}
use lib.ListN.{length}
use Rattle.load_places.specs.Records.{bad_body, body_place, first_of}
use Rattle.load_places.specs.Index.{Placed}
use Rattle.load_records.specs.Answer.{Upto}
use Rattle.load_records.proofs.bodies_pass.Given as goal

abbrev pub invariant-loop-k : goal.invariant-loop-k
invariant-loop-k l = Upto (bad_body l.of.code.now) (body_place l.of.code.now) l.total l.k l.p × (l.p ≤ 8192 + 262 * l.k) × (0 < l.k → l.last ≡ first_of l.of.code.now (l.k - 1))
    × (length l.bodies ≡ length l.initial.bodies) × Placed (body_place l.of.code.now) l.bodies l.k
