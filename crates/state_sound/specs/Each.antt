-- A test that holds at each number of a run of them, and its laws.
use Rattle.std.specs.Prelude.{◌≡◌, Bool, true, false}
use Rattle.std.proofs.Math.Path.{refl, sym, ap, ap₂}
use Rattle.std.proofs.Common.{◌∙◌, add-zero, zero-add, add-one, arith}
use Rattle.std.proofs.Math.Bool.{◌&&◌}
use Prim.Native.Nat.{ℕ, zero, suc, ◌+◌, ◌<◌}
use Rattle.std.proofs.Math.Nat.{add-suc, suc-add}
use Rattle.logic.specs.Tests.{both, halves, and_assoc, and-true}

-- f holds at j, j + 1, .. (n of them)
unfoldable pub each : (ℕ → Bool) → ℕ → ℕ → Bool
each f j zero = true
each f j (suc n) = f j && each f (suc j) n

-- ── Booleans ──

-- two tests that each lead to the other are one
pub same_test : (a b : Bool) → (a ≡ true → b ≡ true) → (b ≡ true → a ≡ true) → a ≡ b
same_test true b f g = sym (f refl)
same_test false true f g = g refl
same_test false false f g = refl

-- ── each ──
module _ (f : ℕ → Bool) where
  pub each_snoc : (n j : ℕ) → each f j (suc n) ≡ (each f j n && f (j + n))
  unfolding each
  each_snoc zero j = rw (add-zero j) (and-true (f j))
  each_snoc (suc n) j =
      ap (λ (b : Bool). f j && b) (each_snoc n (suc j)) ∙ sym (and_assoc (f j) (each f (suc j) n) (f (suc j + n))) ∙ rw (suc-add j n, add-suc j n)

  pub each_none : each f 0 0 ≡ true
  unfolding each
  each_none = refl

  -- one more, as a loop adds it
  pub each_more : (i : ℕ) (a : Bool) → a ≡ each f 0 i → (a && f i) ≡ each f 0 (i + 1)
  each_more i a e = rw (e, add-one i, each_snoc i 0, zero-add i)

  pub each_at : (n j : ℕ) → each f j n ≡ true → (k : ℕ) → k < n → f (j + k) ≡ true
  unfolding each
  each_at zero j e k h = absurd (omega arith)
  each_at (suc n) j e zero h = rw (add-zero j) (halves (f j) (each f (suc j) n) e).0
  each_at (suc n) j e (suc k) h = rw (add-suc j k, ← suc-add j k) (each_at n (suc j) (halves (f j) (each f (suc j) n) e).1 k (omega arith))

  pub each_of : (n j : ℕ) → ((k : ℕ) → k < n → f (j + k) ≡ true) → each f j n ≡ true
  unfolding each
  each_of zero j g = refl
  each_of (suc n) j g = both (rw (add-zero j) at (g 0 (omega arith))) (each_of n (suc j) (λ k h. rw (suc-add j k, ← add-suc j k) (g (suc k) (omega arith))))

  pub each-get : (n : ℕ) → each f 0 n ≡ true → (k : ℕ) → k < n → f k ≡ true
  each-get n e k h = rw (zero-add k) at (each_at n 0 e k h)

  pub each_all : (n : ℕ) → ((k : ℕ) → k < n → f k ≡ true) → each f 0 n ≡ true
  each_all n g = each_of n 0 (λ k h. rw (zero-add k) (g k h))

module _ (f g : ℕ → Bool) where
  pub each_same : (n j : ℕ) → ((k : ℕ) → k < n → f (j + k) ≡ g (j + k)) → each f j n ≡ each g j n
  unfolding each
  each_same zero j e = refl
  each_same (suc n) j e =
      ap₂ ◌&&◌ (rw (add-zero j) at (e 0 (omega arith))) (each_same n (suc j) (λ k h. rw (suc-add j k, ← add-suc j k) (e (suc k) (omega arith))))

  pub each-alike : (n : ℕ) → ((k : ℕ) → k < n → f k ≡ g k) → each f 0 n ≡ each g 0 n
  each-alike n e = each_same n 0 (λ k h. rw (zero-add k) (e k h))
