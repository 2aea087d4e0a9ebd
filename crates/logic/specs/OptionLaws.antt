-- Laws of options: something is not nothing, and what there is to go on with.
use Rattle.std.specs.Prelude.{◌≡◌, refl, Bool, true, false, ℕ}
use Rattle.std.proofs.Math.Option.{Option, none, some}
use Rattle.std.proofs.Common.{arith}
use Rattle.logic.specs.Choice.{If◌then◌else◌}
use Rattle.logic.specs.Options.{keep}
use Rattle.logic.specs.Tests.{if-and, if-same}

pub never-some : {A B : Type 0} {x : A} → ◌≡◌ {A = Option A} none (some x) → B
never-some h = let z : ◌≡◌ {A = ℕ} 0 1 = cc h in absurd (omega arith)

pub same_some : {A : Type 0} {x y : A} → some x ≡ some y → x ≡ y
same_some h = cc

pub by-option {ℓ} : {A : Type 0} {P : Type ℓ} (o : Option A) → (o ≡ none → P) → ((x : A) → o ≡ some x → P) → P
by-option none f g = f refl
by-option (some x) f g = g x refl

-- a choice whose second branch is none
pub chosen : {A : Type 0} (b : Bool) (o : Option A) (y : A) → (If b then o else none) ≡ some y → (b ≡ true) × (o ≡ some y)
chosen true o y h = (refl, h)
chosen false o y h = never-some h

-- ── going on with what there is ──
pub kept : {A B : Type 0} (o : Option A) (f : A → Option B) (y : B) → keep o f ≡ some y → (x : A) × (o ≡ some x) × (f x ≡ some y)
kept none f y h = never-some h
kept (some x) f y h = (x, refl, h)

pub keep-none : {A B : Type 0} (o : Option A) → keep {B = B} o (λ x. none) ≡ none
keep-none none = refl
keep-none (some x) = refl

pub keep-if : {A B : Type 0} (t : Bool) (o : Option A) (f : A → Option B) → keep (If t then none else o) f ≡ (If t then none else keep o f)
keep-if true o f = refl
keep-if false o f = refl

-- where each way gives the same
pub ruleset alike-ways = (keep-none, if-and, if-same)
