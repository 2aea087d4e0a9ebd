use mathlib.Core.Path.{◌≡◌}
use Prim.Native.Nat.{◌-◌}
use Rattle.load_places.specs.Search.{seek}
use Rattle.load_places.specs.Records.{bad_code}
use Rattle.load_records.proofs.code_pass.Given as goal

abbrev pub invariant-loop-i : goal.invariant-loop-i
invariant-loop-i l = (l.bad ≡ seek (bad_code l.code) (l.whole - l.i) l.i)
