-- The first number at which a test holds, and lists of type bytes with the last on top.
use Rattle.std.specs.Prelude.{◌≡◌, Bool, true, false, cond, List, [], ◌∷◌, ℕ, zero, suc, ◌+◌, ◌<◌, eqb}
use Rattle.words.specs.Numbers.{byte_at}

-- the first of i, i + 1, .. (n of them) at which f holds, or i + n where it holds at none
unfoldable pub seek : (ℕ → Bool) → ℕ → ℕ → ℕ
seek f zero i = i
seek f (suc n) i = let r = seek f n (suc i) in cond (f i) i r

-- the first below n, or n
abbrev pub first : (ℕ → Bool) → ℕ → ℕ
first f n = seek f n 0

-- f holds nowhere below i
abbrev pub Clean : (ℕ → Bool) → ℕ → Type 0
Clean f i = (k : ℕ) → k < i → f k ≡ false

-- the n bytes from q, the last first
unfoldable pub tops : List ℕ → ℕ → ℕ → List ℕ
tops l q zero = []
tops l q (suc n) = byte_at l (q + n) ∷ tops l q n

-- two lists are the same
unfoldable pub alike : List ℕ → List ℕ → Bool
alike [] [] = true
alike [] (y ∷ t) = false
alike (x ∷ s) [] = false
alike (x ∷ s) (y ∷ t) = cond (eqb x y) (alike s t) false
