-- What is seen of a macro that passes and a state's bytes before 10 and 11 are told, and what stands once they have been.
use Rattle.std.specs.Prelude.{◌≡◌, true, List, ℕ, Option, Some, None}
use Rattle.values.specs.Ends.{accepted}
use Rattle.bytecode.specs.Macro.{Macro}
use Rattle.bytecode.specs.Rules.{judge_macro}
use Rattle.bytecode.specs.Machine.{Machine}
use Rattle.bytecode.specs.Sound.{sound}
use Rattle.bytecode.specs.State.{encode}
use Rattle.state_check.specs.Inspecting.{Placed, Held, NotHeld}

-- whether a sound state decodes from the bytes, and if so where things stand in the macro
abbrev pub Seen : List ℕ → List ℕ → List ℕ → List ℕ → Option ℕ → Type 0
Seen c l bodies classes (Some base) = Held c l × Placed c bodies classes base
Seen c l bodies classes None = NotHeld c l

-- the macro passes, and the bytes are those of a sound state of it
pub record Standing (c l : List ℕ) : Type 0 where
  pub macro : Macro
  pub passes : judge_macro c ≡ accepted macro
  pub state : Machine
  pub sounds : sound macro state ≡ true
  pub bytes : l ≡ encode state
