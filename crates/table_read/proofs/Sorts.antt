-- Laws of the operand table: what stands at a place of it. Assumes nothing.
use mathlib.Core.Path.{◌≡◌, refl, ap, sym, ◌∙◌}
use mathlib.Core.Bool.{Bool, true, false, ◌||◌}
use mathlib.Core.List.{List, [], ◌∷◌, ◌++◌}
use Prim.Native.Nat.{ℕ, zero, suc, ◌+◌, ◌-◌, ◌≤◌, ◌<◌}
use native.Mathlib.Omega.{arith}
use lib.Dec.{eqb, ltb}
use lib.ListN.{length, get_or, replicate, get_or-replicate, length-append, length-replicate}
use borrow.Author.Tests.{ne_eqb, eqb-true}
use Rattle.logic.specs.Choice.{If◌then◌else◌}
use Rattle.table_read.specs.declared.kinds.Sort.{Sort}
use Rattle.table_read.specs.declared.kinds.Sort.TheVariants.{Stmt, Target, Expr}
use Rattle.table_read.specs.Operands.{is_leaf, sorts}

-- a run of one sort, and what follows it
module _ {A : Type 0} (x d : A) (ys : List A) where
  pub run-first : (a i : ℕ) → i < a → get_or (replicate a x ++ ys) i d ≡ x
  run-first zero i h = absurd (omega arith)
  run-first (suc a) zero h = refl
  run-first (suc a) (suc i) h = run-first a i (omega arith)

  pub run_past : (a i : ℕ) → a ≤ i → get_or (replicate a x ++ ys) i d ≡ get_or ys (i - a) d
  run_past zero i h = ap (λ (m : ℕ). get_or ys m d) (omega arith)
  run_past (suc a) zero h = absurd (omega arith)
  run_past (suc a) (suc i) h = run_past a i (omega arith) ∙ ap (λ (m : ℕ). get_or ys m d) (omega arith)

-- the one after a run
pub run-last : {A : Type 0} (x y d : A) (a i : ℕ) → a ≤ i → i < length (replicate a x ++ (y ∷ [])) → get_or (replicate a x ++ (y ∷ [])) i d ≡ y
run-last x y d a i h k =
    let z : i - a ≡ 0 = omega (arith, length-append (replicate a x) (y ∷ []), length-replicate a x) in
    run_past x d (y ∷ []) a i h ∙ rw z

-- two runs, and what follows them
pub run-second : {A : Type 0} (x y d : A) (zs : List A) (a n i : ℕ) → a ≤ i → i < a + n → get_or (replicate a x ++ (replicate n y ++ zs)) i d ≡ y
run-second x y d zs a n i h k = run_past x d (replicate n y ++ zs) a i h ∙ run-first y d zs n (i - a) (omega arith)

pub run_end : {A : Type 0} (x y z d : A) (a n i : ℕ) → a + n ≤ i → i < length (replicate a x ++ (replicate n y ++ (z ∷ [])))
    → get_or (replicate a x ++ (replicate n y ++ (z ∷ []))) i d ≡ z
run_end x y z d a n i h k =
    let l : length (replicate a x ++ (replicate n y ++ (z ∷ []))) ≡ a + (n + 1) = simp (length-append, length-replicate) in
    run_past x d (replicate n y ++ (z ∷ [])) a i (omega arith) ∙ run-last y z d n (i - a) (omega arith) (omega (arith, length-append (replicate n y) (z ∷ []), length-replicate n y))

pub run-both : {A : Type 0} (x y d : A) (a n i : ℕ) → a ≤ i → i < length (replicate a x ++ replicate n y) → get_or (replicate a x ++ replicate n y) i d ≡ y
run-both x y d a n i h k =
    run_past x d (replicate n y) a i h
    ∙ get_or-replicate n (i - a) y d (omega (arith, length-append (replicate a x) (replicate n y), length-replicate a x, length-replicate n y))

-- a first, and then all alike
pub guards : (i m : ℕ) → i < suc m → (If eqb i 0 then Expr else Stmt) ≡ get_or (Expr ∷ replicate m Stmt) i Expr
guards zero m h = refl
guards (suc i) m h = rw (ne_eqb (suc i) 0 (λ e. omega arith)) (sym (get_or-replicate m i Stmt Expr (omega arith)))

-- three alike, and then another
pub counts : (i : ℕ) → i < 4 → (If ltb i 3 then Expr else Stmt) ≡ get_or (Expr ∷ Expr ∷ Expr ∷ Stmt ∷ []) i Expr
counts zero h = refl
counts (suc zero) h = refl
counts (suc (suc zero)) h = refl
counts (suc (suc (suc zero))) h = refl
counts (suc (suc (suc (suc i)))) h = absurd (omega arith)

pub later-one : (i : ℕ) → (i ≡ 0 → ⊥) → get_or (Target ∷ Expr ∷ []) i Expr ≡ Expr
later-one zero h = absurd (h refl)
later-one (suc zero) h = refl
later-one (suc (suc i)) h = refl

-- the other kinds have expressions alone
exprs : (n i : ℕ) → get_or (replicate n Expr) i Expr ≡ Expr
exprs zero i = refl
exprs (suc n) zero = refl
exprs (suc n) (suc i) = exprs n i

chosen : (b : Bool) (x y : List Sort) (i : ℕ) → get_or x i Expr ≡ Expr → get_or y i Expr ≡ Expr → get_or (If b then x else y) i Expr ≡ Expr
chosen true x y i h k = h
chosen false x y i h k = k

pub others : (k a n i : ℕ) → (k ≡ 1 → ⊥) → (k ≡ 11 → ⊥) → (k ≡ 12 → ⊥) → (k ≡ 21 → ⊥) → (k ≡ 22 → ⊥) → (k ≡ 23 → ⊥) → (k ≡ 24 → ⊥) → (k ≡ 30 → ⊥) → (k ≡ 31 → ⊥) → (k ≡ 53 → ⊥)
    → get_or (sorts k a n) i Expr ≡ Expr
unfolding sorts
others k a n i p1 p11 p12 p21 p22 p23 p24 p30 p31 p53 =
    rw (ne_eqb k 1 p1, ne_eqb k 11 p11, ne_eqb k 12 p12, ne_eqb k 21 p21, ne_eqb k 22 p22, ne_eqb k 23 p23, ne_eqb k 24 p24, ne_eqb k 30 p30, ne_eqb k 31 p31, ne_eqb k 53 p53)
    (chosen (eqb k 26) (Expr ∷ []) _ i (exprs 1 i)
    (chosen (eqb k 27) (replicate n Expr) _ i (exprs n i)
    (chosen (eqb k 28) (Expr ∷ Expr ∷ []) _ i (exprs 2 i)
    (chosen (eqb k 45) (replicate n Expr) _ i (exprs n i)
    (chosen (eqb k 46) (Expr ∷ []) _ i (exprs 1 i)
    (chosen (eqb k 47) (replicate n Expr) _ i (exprs n i)
    (chosen (eqb k 48) (Expr ∷ []) _ i (exprs 1 i)
    (chosen (eqb k 49) (Expr ∷ Expr ∷ []) _ i (exprs 2 i)
    (chosen (eqb k 50) (Expr ∷ Expr ∷ Expr ∷ []) _ i (exprs 3 i)
    (chosen (eqb k 51) (Expr ∷ []) [] i (exprs 1 i) refl))))))))))

-- a kind is one of a few
pub kind-or : {A : Type 0} (k j : ℕ) {b : Bool} → (k ≡ j → A) → (b ≡ true → A) → (eqb k j || b) ≡ true → A
kind-or {A} k j {b} f g = go (eqb k j) (λ t. f (eqb-true k j t))
  where
    go : (a : Bool) → (a ≡ true → A) → (a || b) ≡ true → A
    go true h t = h refl
    go false h t = g t

-- those with no operands
pub leaf-sorts : (k a n : ℕ) → is_leaf k ≡ true → sorts k a n ≡ []
unfolding is_leaf sorts
leaf-sorts k a n =
    kind-or k 10 (λ e. rw e) (kind-or k 14 (λ e. rw e) (kind-or k 20 (λ e. rw e) (kind-or k 25 (λ e. rw e) (kind-or k 40 (λ e. rw e)
    (kind-or k 41 (λ e. rw e) (kind-or k 42 (λ e. rw e) (kind-or k 43 (λ e. rw e) (λ t. rw (eqb-true k 44 t)))))))))
