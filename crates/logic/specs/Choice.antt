-- The choice between two by a test, as the other definitions write it.
use Rattle.std.specs.Prelude.{Bool, true, false}

infix 20 If◌then◌else◌
abbrev pub If◌then◌else◌ {ℓ} : {A : Type ℓ} → Bool → A → A → A
If true then a else b = a
If false then a else b = b
