-- Lists of what a function gives at the numbers from one on, forwards and backwards.
use Rattle.std.specs.Prelude.{◌≡◌, ltb, length, take}
use Rattle.std.proofs.Math.Path.{refl, sym, ap}
use Rattle.std.proofs.Common.{◌∙◌, zero-add, arith}
use mathlib.Core.List.{List, [], ◌∷◌, ◌++◌, reverse, reverse_aux}
use Rattle.std.proofs.Math.Option.{none, some}
use Prim.Native.Nat.{ℕ, zero, suc, ◌+◌, ◌≤◌}
use Rattle.std.proofs.Math.Nat.{add-zero, add-suc, suc-add}
use Rattle.std.proofs.Math.Dec.{leb-suc-suc, leb-suc-zero, leb-zero}
use Rattle.std.proofs.Math.ListN.{get_elem?}
use Rattle.logic.specs.Choice.{If◌then◌else◌}

module _ {A : Type 0} (f : ℕ → A) where
  -- f j, f (j + 1), .. (n of them)
  unfoldable pub span : ℕ → ℕ → List A
  span j zero = []
  span j (suc n) = f j ∷ span (suc j) n

  -- f (n - 1), .., f 1, f 0
  unfoldable pub backs : ℕ → List A
  backs zero = []
  backs (suc n) = f n ∷ backs n

  backs-onto : (k n : ℕ) → reverse_aux (backs k) (span k n) ≡ span 0 (k + n)
  unfolding span backs
  backs-onto zero n = rw (zero-add n)
  backs-onto (suc k) n = backs-onto k (suc n) ∙ ap (span 0) (add-suc k n ∙ sym (suc-add k n))

  span-onto : (n k : ℕ) → reverse_aux (span k n) (backs k) ≡ backs (k + n)
  unfolding span backs
  span-onto zero k = rw (add-zero k)
  span-onto (suc n) k = span-onto n (suc k) ∙ ap backs (suc-add k n ∙ sym (add-suc k n))

  pub reverse-backs : (n : ℕ) → reverse (backs n) ≡ span 0 n
  unfolding span
  reverse-backs n = backs-onto n 0 ∙ rw (add-zero n)

  pub reverse-span : (n : ℕ) → reverse (span 0 n) ≡ backs n
  unfolding backs
  reverse-span n = span-onto n 0 ∙ rw (zero-add n)

  pub span-length : (n j : ℕ) → length (span j n) ≡ n
  unfolding span
  span-length zero j = refl
  span-length (suc n) j = ap suc (span-length n (suc j))

  pub backs-length : (n : ℕ) → length (backs n) ≡ n
  unfolding backs
  backs-length zero = refl
  backs-length (suc n) = ap suc (backs-length n)

  pub span-at : (n j i : ℕ) → get_elem? (span j n) i ≡ (If ltb i n then some (f (j + i)) else none)
  unfolding span
  span-at zero j i = rw (leb-suc-zero i)
  span-at (suc n) j zero = rw (leb-suc-suc 0 n, leb-zero n, add-zero j)
  span-at (suc n) j (suc i) = rw (leb-suc-suc (suc i) n, add-suc j i, ← suc-add j i) (span-at n (suc j) i)

  pub span-take : (p n j : ℕ) → p ≤ n → take p (span j n) ≡ span j p
  unfolding span
  span-take zero n j h = refl
  span-take (suc p) zero j h = absurd (omega arith)
  span-take (suc p) (suc n) j h = ap {B = List A} (λ r. f j ∷ r) (span-take p n (suc j) (omega arith))

  pub span-snoc : (n j : ℕ) → span j (suc n) ≡ span j n ++ (f (j + n) ∷ [])
  unfolding span
  span-snoc zero j = rw (add-zero j)
  span-snoc (suc n) j = rw (add-suc j n, ← suc-add j n) (ap {B = List A} (λ r. f j ∷ r) (span-snoc n (suc j)))
