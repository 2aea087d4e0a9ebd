-- Laws of the first number at which a test holds: as a search upwards meets it, and as a pass downwards keeps it.
use mathlib.Core.Path.{◌≡◌, refl, ap, ◌∙◌}
use mathlib.Core.Bool.{Bool, true, false, cond}
use Prim.Native.Nat.{ℕ, zero, suc, ◌+◌, ◌-◌, ◌<◌, ◌≤◌}
use native.Mathlib.Omega.{arith}
use borrow.Author.Count.{below_more}
use Rattle.load_places.specs.Search.{seek, first, Clean}

seek-from : (f : ℕ → Bool) (n i : ℕ) → ((k : ℕ) → k < n → f (i + k) ≡ false) → seek f n i ≡ i + n
unfolding seek
seek-from f zero i h = omega arith
seek-from f (suc n) i h =
    let e : f i ≡ false = ap f (omega arith) ∙ h 0 (omega arith) in
    let g : (k : ℕ) → k < n → f (suc i + k) ≡ false = λ k p. ap f (omega arith) ∙ h (suc k) (omega arith) in
    rw e (seek-from f n (suc i) g ∙ omega arith)

seek_hit : (f : ℕ → Bool) (n i j : ℕ) → ((k : ℕ) → k < j → f (i + k) ≡ false) → j < n → f (i + j) ≡ true → seek f n i ≡ i + j
unfolding seek
seek_hit f zero i j h p e = absurd (omega arith)
seek_hit f (suc n) i zero h p e = let q : f i ≡ true = ap f (omega arith) ∙ e in rw q (omega arith)
seek_hit f (suc n) i (suc j) h p e =
    let q : f i ≡ false = ap f (omega arith) ∙ h 0 (omega arith) in
    let g : (k : ℕ) → k < j → f (suc i + k) ≡ false = λ k r. ap f (omega arith) ∙ h (suc k) (omega arith) in
    rw q (seek_hit f n (suc i) j g (omega arith) (ap f (omega arith) ∙ e) ∙ omega arith)

-- ── a search upwards: none below j, and then j, or no further ──
pub first-hit : (f : ℕ → Bool) (n j : ℕ) → Clean f j → j < n → f j ≡ true → first f n ≡ j
first-hit f n j C p e = seek_hit f n 0 j (λ k q. ap f (omega arith) ∙ C k q) p (ap f (omega arith) ∙ e) ∙ omega arith

pub first-none : (f : ℕ → Bool) (n j : ℕ) → Clean f j → n ≤ j → j ≤ n → first f n ≡ j
first-none f n j C p q = seek-from f n 0 (λ k r. ap f (omega arith) ∙ C k (omega arith)) ∙ omega arith

pub clean-none : (f : ℕ → Bool) → Clean f 0
clean-none f k p = absurd (omega arith)

pub clean-more : (f : ℕ → Bool) (i : ℕ) → Clean f i → f i ≡ false → Clean f (i + 1)
clean-more f i C e = below_more (λ (k : ℕ). f k ≡ false) i C e

-- ── a first that is not below n has passed them all ──
seek-clean : (f : ℕ → Bool) (n i : ℕ) → i + n ≤ seek f n i → (k : ℕ) → k < n → f (i + k) ≡ false
unfolding seek
seek-clean f zero i h k p = absurd (omega arith)
seek-clean f (suc n) i h k p = go (f i) refl (λ z j q. seek-clean f n (suc i) z j q) k p
  where
    go : (b : Bool) → f i ≡ b → (suc i + n ≤ seek f n (suc i) → (j : ℕ) → j < n → f (suc i + j) ≡ false) → (k : ℕ) → k < suc n → f (i + k) ≡ false
    go true e r k p = let z : i + suc n ≤ i = rw e at h in absurd (omega arith)
    go false e r zero p = ap f (omega arith) ∙ e
    go false e r (suc k) p = let z : i + suc n ≤ seek f n (suc i) = rw e at h in
        ap f (omega arith) ∙ r (omega arith) k (omega arith)

pub first-clean : (f : ℕ → Bool) (n : ℕ) → n ≤ first f n → Clean f n
first-clean f n h k p = ap f (omega arith) ∙ seek-clean f n 0 (omega arith) k p

seek-le : (f : ℕ → Bool) (n i : ℕ) → seek f n i ≤ i + n
unfolding seek
seek-le f zero i = omega arith
seek-le f (suc n) i = go (f i) (seek-le f n (suc i))
  where
    go : (b : Bool) → seek f n (suc i) ≤ suc i + n → cond b i (seek f n (suc i)) ≤ i + suc n
    go true h = omega arith
    go false h = omega arith

pub first-le : (f : ℕ → Bool) (n : ℕ) → first f n ≤ n
first-le f n = omega (arith, seek-le f n 0)

-- ── a pass downwards that keeps the last bad one it met ──
pub seek-down : (f : ℕ → Bool) (n i r : ℕ) → 0 < i → i ≤ n → r ≡ seek f (n - i) i → cond (f (i - 1)) (i - 1) r ≡ seek f (n - (i - 1)) (i - 1)
unfolding seek
seek-down f n i r h g e =
    let a : n - (i - 1) ≡ suc (n - i) = omega arith in
    let b : suc (i - 1) ≡ i = omega arith in
    rw (a, b, ← e)

pub seek-start : (f : ℕ → Bool) (n : ℕ) → n ≡ seek f (n - n) n
unfolding seek
seek-start f n = let a : n - n ≡ 0 = omega arith in rw a

pub seek-whole : (f : ℕ → Bool) (n i r : ℕ) → i ≤ 0 → r ≡ seek f (n - i) i → r ≡ first f n
seek-whole f n i r h e =
    let a : n - i ≡ n = omega arith in
    let b : i ≡ 0 = omega arith in
    rw (a, b) at e

-- a search that would stop at m anyway need not go further
seek-cut : (f : ℕ → Bool) (n m i : ℕ) → m ≤ n → (m < n → f (i + m) ≡ true) → seek f n i ≡ seek f m i
unfolding seek
seek-cut f zero zero i h t = refl
seek-cut f (suc n) zero i h t = let q : f i ≡ true = ap f (omega arith) ∙ t (omega arith) in rw q
seek-cut f zero (suc m) i h t = absurd (omega arith)
seek-cut f (suc n) (suc m) i h t =
    ap (cond (f i) i) (seek-cut f n m (suc i) (omega arith) (λ q. ap f (omega arith) ∙ t (omega arith)))

pub first-cut : (f : ℕ → Bool) (n m : ℕ) → m ≤ n → (m < n → f m ≡ true) → first f n ≡ first f m
first-cut f n m h t = seek-cut f n m 0 h (λ q. ap f (omega arith) ∙ t q)
