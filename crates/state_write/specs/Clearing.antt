-- What clearing may take for granted of the bytes, and what it makes of them.
use Rattle.std.specs.Prelude.{◌≡◌, List, ℕ, ◌+◌, ◌*◌, ◌≤◌, ◌<◌}
use Rattle.std.proofs.Math.Option.{some}
use Rattle.words.specs.Numbers.{byte_at, half_at}
use Rattle.values.specs.Ends.{accepted}
use Rattle.bytecode.specs.Macro.{Macro}
use Rattle.bytecode.specs.Rules.{judge_macro}
use Rattle.bytecode.specs.Machine.{Machine}
use Rattle.bytecode.specs.State.{encode, activation_length, activations_at, record_length, records_at}
use Rattle.bytecode.specs.Lent.{sound_state}
use Rattle.load_places.specs.Records.{classes, bodies}

-- each of n parts of d bytes, from b on, begins with a number below x
abbrev pub Below : ℕ → ℕ → List ℕ → ℕ → ℕ → Type 0
Below x d l b n = (k : ℕ) → k < n → byte_at l (b + d * k) < x

-- of a running state: each activation is of a body that there is, each record of a class
pub record Uncleared (c l : List ℕ) : Type 0 where
  pub few : byte_at l 2 ≤ 32
  pub some-records : half_at l 4 ≤ 256
  pub of-bodies : Below (bodies c) activation_length l activations_at (byte_at l 2)
  pub of-classes : Below (classes c) record_length l records_at (half_at l 4)

-- whatever sound state of the macro the bytes l hold, e is its encoding
abbrev pub Encodes : List ℕ → List ℕ → List ℕ → Type 0
Encodes c l e = (m : Macro) → judge_macro c ≡ accepted m → (s : Machine) → sound_state m l ≡ some s → e ≡ encode s
