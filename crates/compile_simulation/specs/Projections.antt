-- The projections of values: what a value is that has one, and what the tree sees of each.
use Rattle.std.specs.Prelude.{Bool, ◌≡◌, refl, List, ℕ, ℤ}
use Rattle.std.proofs.Common.{ap, arith}
use Rattle.std.proofs.Math.Option.{Option, none, some}
use Rattle.logic.specs.Options.{keep}
use Rattle.values.specs.Types.{logical}
use Rattle.values.specs.Arithmetic.{mistyped}
use Rattle.values.specs.Values.{Value, int, log, bit, ref, ty_of, as_integer, as_logical, as_bits, Reference, as_reference, equality}
use Rattle.language.specs.Tree.{Global}
use Rattle.compile_code.specs.Compile.{classes_of}
use Rattle.compile_simulation.specs.View.{seen_v, class_of}

pub nothing : {A B : Type 0} (x : A) → ◌≡◌ {A = Option A} none (some x) → B
nothing x h = let z : ◌≡◌ {A = ℕ} 0 1 = cc h in absurd (omega arith)

pub is-integer : (v : Value) (z : ℤ) → as_integer v ≡ some z → v ≡ int z
is-integer (int y) z h = let e : y ≡ z = cc h in ap int e
is-integer (log b) z h = nothing z h
is-integer (bit n) z h = nothing z h
is-integer (ref c r) z h = nothing z h

pub is-logical : (v : Value) (b : Bool) → as_logical v ≡ some b → v ≡ log b
is-logical (int z) b h = nothing b h
is-logical (log a) b h = let e : a ≡ b = cc h in ap log e
is-logical (bit n) b h = nothing b h
is-logical (ref c r) b h = nothing b h

pub not-logical : (v : Value) → (ty_of v ≡ logical → ⊥) → as_logical v ≡ none
not-logical (int z) h = refl
not-logical (log b) h = absurd (h refl)
not-logical (bit n) h = refl
not-logical (ref c r) h = refl

-- no integer equals what is none
pub unlike : (f : Bool → Bool) (v : Value) (z : ℤ) → as_integer v ≡ none → equality f v (int z) ≡ mistyped
unlike f (int y) z h = let e : ◌≡◌ {A = ℕ} 0 1 = cc h in absurd (omega arith)
unlike f (log b) z h = refl
unlike f (bit n) z h = refl
unlike f (ref c r) z h = refl

module _ (gs : List Global) where
  -- a reference as the tree sees it
  abbrev pub named : Reference → Reference
  named r = record { class = (class_of (classes_of gs) r.class).name; target = r.target }

  pub seen-integer : (v : Value) → as_integer (seen_v gs v) ≡ as_integer v
  seen-integer (int z) = refl
  seen-integer (log b) = refl
  seen-integer (bit n) = refl
  seen-integer (ref c r) = refl

  pub seen-logical : (v : Value) → as_logical (seen_v gs v) ≡ as_logical v
  seen-logical (int z) = refl
  seen-logical (log b) = refl
  seen-logical (bit n) = refl
  seen-logical (ref c r) = refl

  pub seen-bits : (v : Value) → as_bits (seen_v gs v) ≡ as_bits v
  seen-bits (int z) = refl
  seen-bits (log b) = refl
  seen-bits (bit n) = refl
  seen-bits (ref c r) = refl

  pub seen-reference : (v : Value) → as_reference (seen_v gs v) ≡ keep (as_reference v) (λ r. some (named r))
  seen-reference (int z) = refl
  seen-reference (log b) = refl
  seen-reference (bit n) = refl
  seen-reference (ref c r) = refl
