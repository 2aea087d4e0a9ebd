-- Laws: two types that `same` tells to be identical are one, and so with lists of types. And as many types as values.
use Rattle.std.specs.Prelude.{◌≡◌, refl, Bool, true, false, ◌&&◌, List, [], ◌∷◌, ℕ, zero, suc, ◌+◌, ◌-◌, length}
use Rattle.std.proofs.Common.{sym, ◌∙◌, ap, ap₂, arith, eqb-true, eq-eqb}
use Rattle.values.specs.Types.{Ty, integer, logical, bits, reference, ty_code, same, fits, sames, all_fit}
use Rattle.values.specs.Values.{Value, tys_of}

-- the type that a code stands for; any, where it is no code
unfoldable coded : ℕ → Ty
coded zero = integer
coded (suc zero) = integer
coded (suc (suc zero)) = logical
coded (suc (suc (suc zero))) = bits
coded (suc (suc (suc (suc n)))) = reference (n - 65532)

code-back : (t : Ty) → coded (ty_code t) ≡ t
unfolding coded
code-back integer = refl
code-back logical = refl
code-back bits = refl
code-back (reference c) =
    let e : 65536 + c ≡ suc (suc (suc (suc (65532 + c)))) = omega arith in
    let f : 65532 + c - 65532 ≡ c = omega arith in
    ap coded e ∙ ap reference f

pub same_refl : (t : Ty) → same t t ≡ true
same_refl t = eq-eqb (ty_code t) (ty_code t) refl

pub same→≡ : (t u : Ty) → same t u ≡ true → t ≡ u
same→≡ t u h = sym (code-back t) ∙ ap coded (eqb-true (ty_code t) (ty_code u) h) ∙ code-back u

pub sames-refl : (ts : List Ty) → sames ts ts ≡ true
unfolding sames
sames-refl [] = refl
sames-refl (t ∷ ts) = ap₂ (λ a b. a && b) (same_refl t) (sames-refl ts)

pub sames→≡ : (ts us : List Ty) → sames ts us ≡ true → ts ≡ us
unfolding sames
sames→≡ [] [] h = refl
sames→≡ [] (u ∷ us) h = let z : ◌≡◌ {A = ℕ} 0 1 = cc h in absurd (omega arith)
sames→≡ (t ∷ ts) [] h = let z : ◌≡◌ {A = ℕ} 0 1 = cc h in absurd (omega arith)
sames→≡ (t ∷ ts) (u ∷ us) h = go (same t u) refl h (sames→≡ ts us)
  where
    go : (b : Bool) → same t u ≡ b → (b && sames ts us) ≡ true → (sames ts us ≡ true → ts ≡ us) → t ∷ ts ≡ u ∷ us
    go true e k rest = ap₂ (λ x xs. x ∷ xs) (same→≡ t u e) (rest k)
    go false e k rest = let z : ◌≡◌ {A = ℕ} 0 1 = cc k in absurd (omega arith)

-- what fits a place is of its very type (DECISIONS, D25): all that turns on it goes through these two
pub fits→≡ : (t u : Ty) → fits t u ≡ true → t ≡ u
fits→≡ = same→≡

fit-sames : (ts us : List Ty) → all_fit ts us ≡ sames ts us
unfolding all_fit sames
fit-sames [] [] = refl
fit-sames [] (u ∷ us) = refl
fit-sames (t ∷ ts) [] = refl
fit-sames (t ∷ ts) (u ∷ us) = ap (λ b. same t u && b) (fit-sames ts us)

pub all_fit→≡ : (ts us : List Ty) → all_fit ts us ≡ true → ts ≡ us
all_fit→≡ ts us h = sames→≡ ts us (sym (fit-sames ts us) ∙ h)

-- ── there are as many types as values ──
pub length_types : (vs : List Value) → length (tys_of vs) ≡ length vs
unfolding tys_of
length_types [] = refl
length_types (v ∷ vs) = ap suc (length_types vs)
