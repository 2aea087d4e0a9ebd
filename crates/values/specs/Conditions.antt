-- What holds of every condition.
use Rattle.std.specs.Prelude.{◌≡◌, refl, Bool, true, false, ◌&&◌, ◌||◌, List, [], ◌∷◌, ℕ, ◌<◌, eqb, ltb}
use Rattle.std.proofs.Common.{arith, eqb-true, ltb-true}
use Rattle.logic.specs.Lists.{among, all}
use Rattle.values.specs.Ends.{conditions, is_condition}

-- what holds of every element holds of one that is among them
among-all : (p : ℕ → Bool) (c : ℕ) (xs : List ℕ) → all p xs ≡ true → among c xs ≡ true → p c ≡ true
unfolding all among
among-all p c [] a h = let z : ◌≡◌ {A = ℕ} 0 1 = cc h in absurd (omega arith)
among-all p c (x ∷ xs) a h = pick (eqb c x) refl (p x) refl a h (among-all p c xs)
  where
    pick : (e : Bool) → eqb c x ≡ e → (b : Bool) → p x ≡ b → (b && all p xs) ≡ true → (e || among c xs) ≡ true
        → (all p xs ≡ true → among c xs ≡ true → p c ≡ true) → p c ≡ true
    pick true e true f a h r = let q : c ≡ x = eqb-true c x e in rw q f
    pick false e true f a h r = r a h
    pick true e false f a h r = let z : ◌≡◌ {A = ℕ} 0 1 = cc a in absurd (omega arith)
    pick false e false f a h r = let z : ◌≡◌ {A = ℕ} 0 1 = cc a in absurd (omega arith)

-- the numbers of conditions are bytes
pub condition-byte : (c : ℕ) → is_condition c ≡ true → c < 256
condition-byte c h = ltb-true c 256 (among-all (λ n. ltb n 256) c conditions (unfold all in refl) h)
