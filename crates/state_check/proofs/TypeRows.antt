-- Types that are compared as lists, the top first, are compared as rows.
use mathlib.Core.Path.{◌≡◌, refl, sym, ap, ◌∙◌}
use mathlib.Core.Bool.{Bool, true, false, cond, ◌&&◌}
use mathlib.Core.List.{List, [], ◌∷◌, ◌++◌}
use Prim.Native.Nat.{ℕ, zero, suc, ◌+◌}
use native.Mathlib.Nat.{add-zero, add-suc, zero-add}
use native.Mathlib.Omega.{arith}
use lib.ListN.{length, length-append}
use lib.Dec.{eqb}
use borrow.Author.Tests.{eqb-true, eqb-false}
use Rattle.words.specs.Numbers.{byte_at}
use Rattle.load_places.specs.Search.{tops, alike}
use Rattle.state_sound.specs.Each.{each, each_snoc}

pub by-test {ℓ} : {P : Type ℓ} (t : Bool) → (t ≡ true → P) → (t ≡ false → P) → P
by-test true f g = f refl
by-test false f g = g refl

pub length-tops : (l : List ℕ) (q n : ℕ) → length (tops l q n) ≡ n
unfolding tops
length-tops l q zero = refl
length-tops l q (suc n) = ap suc (length-tops l q n)

tops-split : (l : List ℕ) (a t : ℕ) → tops l 0 (a + t) ≡ tops l a t ++ tops l 0 a
unfolding tops
tops-split l a zero = rw (add-zero a)
tops-split l a (suc t) = rw (add-suc a t, zero-add (a + t)) (ap (λ (x : List ℕ). byte_at l (a + t) ∷ x) (tops-split l a t))

alike-append : (x x' y y' : List ℕ) → length x ≡ length x' → alike (x ++ y) (x' ++ y') ≡ (alike x x' && alike y y')
unfolding alike
alike-append [] [] y y' e = refl
alike-append [] (b ∷ x') y y' e = absurd (omega arith)
alike-append (a ∷ x) [] y y' e = absurd (omega arith)
alike-append (a ∷ x) (b ∷ x') y y' e = by-test (eqb a b) (λ p. rw p (alike-append x x' y y' (omega arith))) (λ p. rw p)

alike-long : (x y : List ℕ) → (length x ≡ length y → ⊥) → alike x y ≡ false
unfolding alike
alike-long [] [] n = absurd (n refl)
alike-long [] (b ∷ y) n = refl
alike-long (a ∷ x) [] n = refl
alike-long (a ∷ x) (b ∷ y) n = by-test (eqb a b) (λ p. rw p (alike-long x y (λ e. n (ap suc e)))) (λ p. rw p)

abbrev pub same_at : List ℕ → List ℕ → ℕ → ℕ → ℕ → Bool
same_at c e q p j = eqb (byte_at c (q + j)) (byte_at e (p + j))

alike-row : (c e : List ℕ) (q p n : ℕ) → alike (tops c q n) (tops e p n) ≡ each (λ j. eqb (byte_at c (q + j)) (byte_at e (p + j))) 0 n
unfolding alike tops each
alike-row c e q p zero = refl
alike-row c e q p (suc n) =
    rw (alike-row c e q p n) (turn (eqb (byte_at c (q + n)) (byte_at e (p + n))) (each (same_at c e q p) 0 n)
    ∙ sym (each_snoc (same_at c e q p) n 0 ∙ ap (λ (z : ℕ). each (same_at c e q p) 0 n && same_at c e q p z) (zero-add n)))
  where
    turn : (a b : Bool) → cond a b false ≡ (b && a)
    turn true true = refl
    turn true false = refl
    turn false true = refl
    turn false false = refl

-- t types of c above a types of l, against d of st
pub alike-rows : (c l st : List ℕ) (q t p a d : ℕ) → alike (tops c q t ++ tops l p a) (tops st 0 d)
    ≡ cond (eqb (a + t) d) (each (λ j. eqb (byte_at c (q + j)) (byte_at st (a + j))) 0 t && each (λ j. eqb (byte_at l (p + j)) (byte_at st (0 + j))) 0 a) false
alike-rows c l st q t p a d =
    by-test (eqb (a + t) d)
    (λ e. let z : a + t ≡ d = eqb-true (a + t) d e in
    rw (e, ← z, tops-split st a t)
    (alike-append (tops c q t) (tops st a t) (tops l p a) (tops st 0 a) (length-tops c q t ∙ sym (length-tops st a t))
    ∙ rw (alike-row c st q a t, alike-row l st p 0 a)))
    (λ e. rw e (alike-long (tops c q t ++ tops l p a) (tops st 0 d) (λ z. eqb-false (a + t) d e
    (omega (arith, sym (length-append (tops c q t) (tops l p a)) ∙ z, length-tops c q t, length-tops l p a, length-tops st 0 d)))))

-- two runs of tests are one
pub each_and : (f g : ℕ → Bool) (n j : ℕ) → (each f j n && each g j n) ≡ each (λ k. f k && g k) j n
unfolding each
each_and f g zero j = refl
each_and f g (suc n) j = turn (f j) (each f (suc j) n) (g j) (each g (suc j) n) ∙ ap (λ (x : Bool). (f j && g j) && x) (each_and f g n (suc j))
  where
    turn : (a x b y : Bool) → ((a && x) && (b && y)) ≡ ((a && b) && (x && y))
    turn true true true y = refl
    turn true true false y = refl
    turn true false true y = refl
    turn true false false y = refl
    turn false x b y = refl
