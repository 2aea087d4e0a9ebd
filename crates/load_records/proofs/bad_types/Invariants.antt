use mathlib.Core.Path.{◌≡◌}
use Prim.Native.Nat.{◌+◌, ◌-◌}
use Rattle.words.specs.Numbers.{byte_at}
use Rattle.load_places.specs.Search.{seek}
use Rattle.load_places.specs.Records.{no_type}
use Rattle.load_records.proofs.bad_types.Given as goal

abbrev pub invariant-loop-i : goal.invariant-loop-i
invariant-loop-i l = (l.bad ≡ seek (λ k. no_type l.of.classes (byte_at l.of.code.now (l.place + k))) (l.size - l.i) l.i)
