-- Laws of lists: what is so of each element, and what stands at a place.
use Rattle.std.specs.Prelude.{◌≡◌, refl, Bool, true, ◌&&◌, ℕ, zero, suc, ◌<◌, length}
use Rattle.std.proofs.Common.{ap, subst, arith}
use mathlib.Core.List.{List, [], ◌∷◌, ◌++◌, map, reverse, reverse_aux}
use Rattle.std.proofs.Math.Option.{some}
use Rattle.std.proofs.Math.ListN.{get_elem?}
use Rattle.logic.specs.Lists.{all, Each}
use Rattle.logic.specs.Tests.{halves, and_assoc}
use Rattle.logic.specs.OptionLaws.{never-some}

pub app_nil : {A : Type 0} (xs : List A) → xs ++ [] ≡ xs
app_nil [] = refl
app_nil (x ∷ xs) = ap (λ ys. x ∷ ys) (app_nil xs)

pub index_below : {A : Type 0} (xs : List A) (n : ℕ) (x : A) → get_elem? xs n ≡ some x → n < length xs
index_below [] n x e = never-some e
index_below (y ∷ xs) zero x e = omega arith
index_below (y ∷ xs) (suc n) x e = let h = index_below xs n x e in omega arith

pub all_append : {A : Type 0} (f : A → Bool) (us vs : List A) → all f (us ++ vs) ≡ (all f us && all f vs)
unfolding all
all_append f [] vs = refl
all_append f (u ∷ us) vs = rw (all_append f us vs, and_assoc (f u) (all f us) (all f vs))

-- ── what is so of each element ──
pub each_at : {A : Type 0} (P : A → Type 0) (xs : List A) (i : ℕ) (x : A) → Each P xs → get_elem? xs i ≡ some x → P x
each_at P [] i x p h = never-some h
each_at P (y ∷ xs) zero x p h = let e : y ≡ x = cc in subst P e p.0
each_at P (y ∷ xs) (suc i) x p h = each_at P xs i x p.1 h

pub each_all : {A : Type 0} (t : A → Bool) (P : A → Type 0) → ((x : A) → t x ≡ true → P x) → (xs : List A) → all t xs ≡ true → Each P xs
unfolding all
each_all t P f [] h = tt
each_all t P f (x ∷ xs) h = let a = halves (t x) (all t xs) h in (f x a.0, each_all t P f xs a.1)

pub each-end : {A : Type 0} (P : A → Type 0) (xs ys : List A) → Each P (xs ++ ys) → Each P ys
each-end P [] ys h = h
each-end P (x ∷ xs) ys h = each-end P xs ys h.1

pub each_both : {A : Type 0} (P : A → Type 0) (xs ys : List A) → Each P xs → Each P ys → Each P (xs ++ ys)
each_both P [] ys h i = i
each_both P (x ∷ xs) ys h i = (h.0, each_both P xs ys h.1 i)

pub each_map : {A B : Type 0} (P : A → Type 0) (Q : B → Type 0) (g : A → B) → ((x : A) → P x → Q (g x)) → (xs : List A) → Each P xs → Each Q (map g xs)
each_map P Q g f [] h = tt
each_map P Q g f (x ∷ xs) h = (f x h.0, each_map P Q g f xs h.1)

pub each-reverse : {A : Type 0} (P : A → Type 0) (xs : List A) → Each P xs → Each P (reverse xs)
each-reverse P xs h = go xs [] h tt
  where
    go : (xs ys : List _) → Each P xs → Each P ys → Each P (reverse_aux xs ys)
    go [] ys h i = i
    go (x ∷ xs) ys h i = go xs (x ∷ ys) h.1 (h.0, i)
