-- What a move tells, one move after another, and a move under a test that was made.
use mathlib.Core.Path.{◌≡◌, refl, sym, ap, ◌∙◌}
use mathlib.Core.Bool.{Bool, true, false, cond, not, ◌&&◌}
use mathlib.Core.List.{List}
use Prim.Native.Nat.{ℕ, ◌≤◌}
use Rattle.std.specs.Prelude.{Option, Some, None}
use lib.Dec.{eqb}
use Rattle.load_places.specs.Rules.{Flow, goes, ends, bad, need, chain, unused}
use Rattle.load_places.specs.declared.Moved.{Moved}
use Rattle.load_places.specs.declared.Moved.TheVariants.{Goes}
use Rattle.load_rules.specs.Paired.{has_operands}
use Rattle.load_rules.specs.Moves.{flow_of, Fit}
use Rattle.logic.specs.Tests.{never}

pub told : (st : List ℕ) {r v : Moved} {F : Flow} → r ≡ v → flow_of r st ≡ F → F ≡ flow_of v st
told st q m = sym m ∙ ap (λ (x : Moved). flow_of x st) q

pub fit-goes : (r : Moved) (g e : ℕ) → Fit r → r ≡ Goes g e → (g ≤ 16) × (e ≤ 32)
fit-goes r g e m q = let k : Fit (Goes g e) = rw q at m in k

-- one move after another
pub after : {X F G : Flow} (f : ℕ → List ℕ → Flow) → X ≡ F → G ≡ chain X f → G ≡ chain F f
after f m e = e ∙ ap (λ (x : Flow). chain x f) m

chain-chain : (F : Flow) (f g : ℕ → List ℕ → Flow) → chain (chain F f) g ≡ chain F (λ h s. chain (f h s) g)
chain-chain (goes h s) f g = refl
chain-chain ends f g = refl
chain-chain bad f g = refl

pub after_two : {X Y F G : Flow} (f g : ℕ → List ℕ → Flow) → X ≡ F → Y ≡ chain X f → G ≡ chain Y g → G ≡ chain F (λ h s. chain (f h s) g)
after_two {F = F} f g m e d = after g (after f m e) d ∙ chain-chain F f g

-- a test that was made, as `need` takes it
pub meets : (b : Bool) (F : Flow) → b ≡ true → F ≡ need b F
meets true F e = refl
meets false F e = never e

pub lacks : (b : Bool) (F : Flow) → b ≡ false → bad ≡ need b F
lacks false F e = refl
lacks true F e = never (sym e)

-- a flow from a type, if there is one
abbrev pub given : Option ℕ → (ℕ → Flow) → Flow
given (Some t) f = f t
given None f = bad

pub given-needs : (x y : Bool) (t : ℕ) (f : ℕ → Flow) → given (cond x (cond y (Some t) None) None) f ≡ need x (need y (f t))
given-needs true true t f = refl
given-needs true false t f = refl
given-needs false y t f = refl

-- an instruction that has no use for operands
module _ (a b : ℕ) where
  pub operands-some : has_operands a b ≡ true → (F : Flow) → unused a (unused b F) ≡ bad
  unfolding has_operands
  operands-some t F = go (eqb a 0) (eqb b 0) t
    where
      go : (x y : Bool) → not (x && y) ≡ true → need x (need y F) ≡ bad
      go true true q = never q
      go true false q = refl
      go false y q = refl

  pub operands-none : has_operands a b ≡ false → (eqb a 0 ≡ true) × (eqb b 0 ≡ true)
  unfolding has_operands
  operands-none t = go (eqb a 0) (eqb b 0) t
    where
      go : (x y : Bool) → not (x && y) ≡ false → (x ≡ true) × (y ≡ true)
      go true true q = (refl, refl)
      go true false q = never (sym q)
      go false y q = never (sym q)
