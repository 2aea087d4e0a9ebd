-- A list of runs on lent bytes, and what stands beside it: the plain machine's answers and the bytes of its states.
use Rattle.std.specs.Prelude.{◌≡◌, false, List, [], ◌∷◌, ℕ}
use Rattle.std.proofs.Math.Option.{some}
use Rattle.words.specs.Laws.{Bytes}
use Rattle.values.specs.Trace.{readings_in}
use Rattle.bytecode.specs.Macro.{Macro}
use Rattle.bytecode.specs.Machine.{Machine}
use Rattle.bytecode.specs.Runs.{Ran, Feed}
use Rattle.bytecode.specs.Sound.{sound}
use Rattle.bytecode.specs.State.{encode, decode}
use Rattle.bytecode.specs.Lent.{RanOn, run_on}
use Rattle.logic.specs.Lists.{Each}

-- what is fed to a list of runs: any bytes as readings, of any length, and an allowance
abbrev pub Fed : List Feed → Type 0
Fed fs = Each (λ f. Bytes f.readings) fs

-- runs on lent bytes, each on what the one before it left there
unfoldable pub runs_on : List ℕ → List Feed → List ℕ → List RanOn
runs_on code [] l = []
runs_on code (f ∷ fs) l = let r = run_on code l f.readings f.allowance in r ∷ runs_on code fs r.bytes

-- an answer of the plain machine, beside the bytes of its state and the number of readings in its trace
abbrev pub on_bytes : Ran → RanOn
on_bytes r = record { answer = r.answer; bytes = encode r.state; readings = readings_in r.trace }

-- the state that decodes from bytes is not sound, if one does
abbrev pub NoneSound : Macro → List ℕ → Type 0
NoneSound m l = (s : Machine) → decode m l ≡ some s → sound m s ≡ false
