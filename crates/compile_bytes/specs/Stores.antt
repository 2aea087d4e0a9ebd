-- Runs of stores: one after the other is one run, and runs that lie apart may be exchanged. And records one after the other.
use Rattle.std.specs.Prelude.{◌≡◌, refl, List, [], ◌∷◌, ◌++◌, ℕ, suc, ◌+◌, ◌*◌, ◌≤◌, ◌<◌, length, set}
use Rattle.std.proofs.Common.{ap, sym, ◌∙◌, append_assoc, arith, length-append}
use Rattle.std.proofs.lemmas.List.Edits.{sets}
use Rattle.std.proofs.lemmas.List.{set_comm}
use Rattle.compile_code.specs.Encode.{each}
use Rattle.words.specs.Laws.{sets-append}

set-sets : (l : List ℕ) (i k v : ℕ) (xs : List ℕ) → k < i → set (sets l i xs) k v ≡ sets (set l k v) i xs
set-sets l i k v [] h = refl
set-sets l i k v (x ∷ xs) h =
    let d : ¬ (k ≡ i) = omega arith in
    set-sets (set l i x) (suc i) k v xs (omega arith) ∙ ap (λ (z : List ℕ). sets z (suc i) xs) (sym (set_comm l k i v x d))

pub sets-comm : (l : List ℕ) (i j : ℕ) (xs ys : List ℕ) → j + length ys ≤ i → sets (sets l i xs) j ys ≡ sets (sets l j ys) i xs
sets-comm l i j xs [] h = refl
sets-comm l i j xs (y ∷ ys) h =
    ap (λ (z : List ℕ). sets z (suc j) ys) (set-sets l i j y xs (omega arith)) ∙ sets-comm (set l j y) i (suc j) xs ys (omega arith)

-- at a place that is known to be the end of the first run
pub sets-join : (l : List ℕ) (i j : ℕ) (xs ys : List ℕ) → j ≡ i + length xs → sets (sets l i xs) j ys ≡ sets l i (xs ++ ys)
sets-join l i j xs ys e = ap (λ (k : ℕ). sets (sets l i xs) k ys) e ∙ sets-append l i xs ys

-- ── records one after the other ──
pub each-end : {A : Type 0} (f : A → List ℕ) (xs : List A) (l : List ℕ) → each f xs l ≡ each f xs [] ++ l
unfolding each
each-end f [] l = refl
each-end f (x ∷ xs) l = ap (λ (m : List ℕ). f x ++ m) (each-end f xs l) ∙ sym (append_assoc (f x) (each f xs []) l)

-- of one length each
pub each-length : {A : Type 0} (f : A → List ℕ) (n : ℕ) → ((x : A) → length (f x) ≡ n) → (xs : List A) → length (each f xs []) ≡ n * length xs
unfolding each
each-length f n h [] = omega arith
each-length f n h (x ∷ xs) = let a = h x in let b = each-length f n h xs in length-append (f x) (each f xs []) ∙ omega arith
