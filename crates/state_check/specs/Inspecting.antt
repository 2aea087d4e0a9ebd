-- What an inspection tells: by the bytes alone, and of the macro and the state that they hold.
use Rattle.std.specs.Prelude.{◌≡◌, Bool, true, false, cond, List, ℕ, eqb, length, Option, Some, None, Result, Ok, Err}
use Rattle.std.proofs.Math.Option.{some, none}
use Rattle.words.specs.Numbers.{byte_at, half_at}
use Rattle.values.specs.Ends.{accepted, refused as refused_by}
use Rattle.values.specs.Refusals.{refusal_of}
use Rattle.values.specs.declared.Refusal.{Refusal}
use Rattle.bytecode.specs.Macro.{Macro}
use Rattle.bytecode.specs.Rules.{judge_macro}
use Rattle.bytecode.specs.Machine.{Machine}
use Rattle.bytecode.specs.Lent.{sound_state}
use Rattle.bytecode.specs.State.{state_length}
use Rattle.load_places.specs.Records.{code_base}
use Rattle.load_places.specs.Rules.{judge, passes, refused}
use Rattle.load_check.specs.Lookups.{Bodied, Classed}
use Rattle.state_sound.specs.Fits.{plain_fits, sound_bytes}

-- as many records count while activations stand
abbrev pub records_in : List ℕ → ℕ
records_in l = cond (eqb (byte_at l 0) 0) (half_at l 4) 0

-- the tests that need no state found by the loading rules, of bytes of any length
abbrev pub sized_fits : List ℕ → List ℕ → Bool
sized_fits c l = cond (eqb (length l) state_length) (plain_fits c l) false

-- the places of the bodies, of the classes and of the first instruction are there
pub record Placed (c bx cx : List ℕ) (base : ℕ) : Type 0 where
  pub bodied : Bodied c bx
  pub classed : Classed c cx
  pub based : base ≡ code_base c

abbrev pub Tells : List ℕ → List ℕ → List ℕ → List ℕ → Result (Option ℕ) Refusal → Type 0
Tells c l bx cx (Ok (Some base)) = (judge c ≡ passes) × (sound_bytes c l ≡ true) × Placed c bx cx base
Tells c l bx cx (Ok None) = (judge c ≡ passes) × (sound_bytes c l ≡ false)
Tells c l bx cx (Err r) = judge c ≡ refused r.number r.place

-- a macro that passes and a sound state of it
pub record Held (c l : List ℕ) : Type 0 where
  pub macro : Macro
  pub passes : judge_macro c ≡ accepted macro
  pub state : Machine
  pub sound : sound_state macro l ≡ some state

-- a macro that passes, and no sound state of it
pub record NotHeld (c l : List ℕ) : Type 0 where
  pub macro : Macro
  pub passes : judge_macro c ≡ accepted macro
  pub unsound : sound_state macro l ≡ none

abbrev pub Inspects : List ℕ → List ℕ → List ℕ → List ℕ → Result (Option ℕ) Refusal → Type 0
Inspects c l bx cx (Ok (Some base)) = Held c l × Placed c bx cx base
Inspects c l bx cx (Ok None) = NotHeld c l
Inspects c l bx cx (Err r) = judge_macro c ≡ refused_by (refusal_of r)
