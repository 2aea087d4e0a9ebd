-- What holds of numbers in bytes and of the two readings of 32 bits, for all bytes and numbers. A law on numbers in bytes is stated
-- once over their size; at a size it computes to the names of Numbers: `reads-back four` speaks of word_at and word.
use Rattle.std.specs.Prelude.{◌≡◌, refl, List, [], ◌∷◌, ◌++◌, ◌⊎◌, ℕ, zero, suc, ◌+◌, ◌≤◌, ◌<◌, length, get_or, set, take, drop, ℤ}
use Rattle.std.proofs.Common.{sym, ◌∙◌, inl, inr, add-zero, zero-add, add-suc, suc-add, arith, length-set, length-drop, get_or-set_same, get_or-set_other, get_or-take, get_or-drop, length-take-le, ext_get_or, SFits}
use Rattle.std.proofs.lemmas.List.Edits.{sets}
use Rattle.std.proofs.lemmas.List.{set-get_or}
use Rattle.std.specs.Int.{w32}
use mir.ValLaws.{to_z-of_z, of_z-to_z, to_z-Fits, of_z_fits}
use Rattle.words.specs.Numbers.{byte_at, half_at, word_at, half, word, integer_of, word_of}

-- ── stores ──
-- one run of stores after the other is one run
pub sets-append : (l : List ℕ) (i : ℕ) (xs ys : List ℕ) → sets (sets l i xs) (i + length xs) ys ≡ sets l i (xs ++ ys)
sets-append l i [] ys = rw add-zero
sets-append l i (x ∷ xs) ys = rw (add-suc, ← suc-add) (sets-append (set l i x) (suc i) xs ys)

-- ── numbers in bytes ──
pub data Size : Type 0 where
  one two four : Size

-- as many bytes, and the number that they cannot hold
abbrev pub bytes_in : Size → ℕ
bytes_in one = 1
bytes_in two = 2
bytes_in four = 4

abbrev pub limit : Size → ℕ
limit one = 256
limit two = 65536
limit four = 4294967296

abbrev pub number_at : Size → List ℕ → ℕ → ℕ
number_at one = byte_at
number_at two = half_at
number_at four = word_at

abbrev pub bytes_of : Size → ℕ → List ℕ
bytes_of one n = n ∷ []
bytes_of two n = half n
bytes_of four n = word n

-- every element is a byte
abbrev pub Bytes : List ℕ → Type 0
Bytes l = (k : ℕ) → get_or l k 0 < 256

-- n elements from i and m from j have none in common
abbrev pub Apart : ℕ → ℕ → ℕ → ℕ → Type 0
Apart i n j m = (i + n ≤ j) ⊎ (j + m ≤ i)

-- the element at a place after a run of stores: below it, in it, past it
below-sets : (vs l : List ℕ) (i j : ℕ) → j < i → get_or (sets l i vs) j 0 ≡ get_or l j 0
below-sets [] l i j h = refl
below-sets (v ∷ vs) l i j h = below-sets vs (set l i v) (suc i) j (omega arith) ∙ get_or-set_other l i j v 0 (λ e. omega arith)

pub in-sets : (vs l : List ℕ) (i : ℕ) → i + length vs ≤ length l → (k : ℕ) → k < length vs → get_or (sets l i vs) (i + k) 0 ≡ get_or vs k 0
in-sets [] l i r k h = absurd (omega arith)
in-sets (v ∷ vs) l i r zero h =
    rw (add-zero i) (below-sets vs (set l i v) (suc i) i (omega arith) ∙ get_or-set_same l i v 0 (omega arith))
in-sets (v ∷ vs) l i r (suc k) h =
    rw (add-suc i k, ← suc-add i k) (in-sets vs (set l i v) (suc i) (rw (length-set l i v) (omega arith)) k (omega arith))

past-sets : (vs l : List ℕ) (i j : ℕ) → i + length vs ≤ j → get_or (sets l i vs) j 0 ≡ get_or l j 0
past-sets [] l i j h = refl
past-sets (v ∷ vs) l i j h = past-sets vs (set l i v) (suc i) j (omega arith) ∙ get_or-set_other l i j v 0 (λ e. omega arith)

pub out-sets : (vs l : List ℕ) (i j m : ℕ) → Apart i (length vs) j m → (k : ℕ) → k < m → get_or (sets l i vs) (j + k) 0 ≡ get_or l (j + k) 0
out-sets vs l i j m (inl a) k h = past-sets vs l i (j + k) (omega arith)
out-sets vs l i j m (inr a) k h = below-sets vs l i (j + k) (omega arith)

-- a number is the same where its bytes are
byte-same : (l m : List ℕ) (i j : ℕ) → get_or l (i + 0) 0 ≡ get_or m (j + 0) 0 → get_or l i 0 ≡ get_or m j 0
byte-same l m i j e = rw (add-zero i, add-zero j) at e

pub same_number : (s : Size) (l m : List ℕ) (i j : ℕ) → ((k : ℕ) → k < bytes_in s → get_or l (i + k) 0 ≡ get_or m (j + k) 0) → number_at s l i ≡ number_at s m j
same_number one l m i j g = byte-same l m i j (g 0 (omega arith))
same_number two l m i j g = rw (byte-same l m i j (g 0 (omega arith)), g 1 (omega arith))
same_number four l m i j g = rw (byte-same l m i j (g 0 (omega arith)), g 1 (omega arith), g 2 (omega arith), g 3 (omega arith))

pub length-bytes_of : (s : Size) (n : ℕ) → length (bytes_of s n) ≡ bytes_in s
length-bytes_of one n = refl
length-bytes_of two n = refl
length-bytes_of four n = refl

pub number-of-bytes : (s : Size) (n : ℕ) → number_at s (bytes_of s n) 0 ≡ n
number-of-bytes one n = refl
number-of-bytes two n = omega arith
number-of-bytes four n = omega arith

-- what was written is read
pub reads-back : (s : Size) (l : List ℕ) (i n : ℕ) → i + bytes_in s ≤ length l → number_at s (sets l i (bytes_of s n)) i ≡ n
reads-back s l i n r =
    same_number s (sets l i (bytes_of s n)) (bytes_of s n) i 0
    (λ k h. rw (zero-add k) (in-sets (bytes_of s n) l i (rw (length-bytes_of s n) r) k (rw (length-bytes_of s n) h)))
    ∙ number-of-bytes s n

-- what stands apart from what was written stays; the length does too: length-sets of lib.Seq
pub keeps : (s : Size) (vs l : List ℕ) (i j : ℕ) → Apart i (length vs) j (bytes_in s) → number_at s (sets l i vs) j ≡ number_at s l j
keeps s vs l i j a = same_number s (sets l i vs) l j j (out-sets vs l i j (bytes_in s) a)

-- the bytes of a number within its limit are bytes
pub bytes_below : (s : Size) (n : ℕ) → n < limit s → Bytes (bytes_of s n)
bytes_below one n h zero = h
bytes_below one n h (suc k) = omega arith
bytes_below two n h zero = omega arith
bytes_below two n h (suc zero) = omega arith
bytes_below two n h (suc (suc k)) = omega arith
bytes_below four n h zero = omega arith
bytes_below four n h (suc zero) = omega arith
bytes_below four n h (suc (suc zero)) = omega arith
bytes_below four n h (suc (suc (suc zero))) = omega arith
bytes_below four n h (suc (suc (suc (suc k)))) = omega arith

-- of bytes
module _ (l : List ℕ) (b : Bytes l) (i : ℕ) where
  -- a number within the limit is read
  pub number-below : (s : Size) → number_at s l i < limit s
  number-below one = b i
  number-below two = omega (arith, b i, b (i + 1))
  number-below four = omega (arith, b i, b (i + 1), b (i + 2), b (i + 3))

  -- and its bytes are those that stand there
  pub bytes_read : (s : Size) (k : ℕ) → k < bytes_in s → get_or (bytes_of s (number_at s l i)) k 0 ≡ get_or l (i + k) 0
  bytes_read one zero h = rw (add-zero i)
  bytes_read one (suc k) h = absurd (omega arith)
  bytes_read two zero h = rw (add-zero i) (omega (arith, b i))
  bytes_read two (suc zero) h = omega (arith, b i)
  bytes_read two (suc (suc k)) h = absurd (omega arith)
  bytes_read four zero h = rw (add-zero i) (omega (arith, b i))
  bytes_read four (suc zero) h = omega (arith, b i, b (i + 1))
  bytes_read four (suc (suc zero)) h = omega (arith, b i, b (i + 1), b (i + 2))
  bytes_read four (suc (suc (suc zero))) h = omega (arith, b i, b (i + 1), b (i + 2))
  bytes_read four (suc (suc (suc (suc k)))) h = absurd (omega arith)

  pub bytes-slice : (s : Size) → i + bytes_in s ≤ length l → bytes_of s (number_at s l i) ≡ take (bytes_in s) (drop i l)
  bytes-slice s r =
      let t : length (take (bytes_in s) (drop i l)) ≡ bytes_in s = length-take-le (bytes_in s) (drop i l) (rw (length-drop i l) (omega arith)) in
      ext_get_or 0 _ _ (length-bytes_of s _ ∙ sym t)
      (λ k h. let h' : k < bytes_in s = rw (length-bytes_of s (number_at s l i)) at h in
      bytes_read s k h' ∙ sym (get_or-take (bytes_in s) (drop i l) k 0 h' ∙ get_or-drop i l k 0))

-- a run of stores of what stands there changes nothing
sets_same : (vs l : List ℕ) (i : ℕ) → ((k : ℕ) → k < length vs → get_or vs k 0 ≡ get_or l (i + k) 0) → sets l i vs ≡ l
sets_same [] l i g = refl
sets_same (v ∷ vs) l i g =
    let e : v ≡ get_or l i 0 = rw (add-zero i) at (g 0 (omega arith)) in
    rw (e, set-get_or l i 0) (sets_same vs l (suc i) (λ k h. rw (suc-add i k, ← add-suc i k) (g (suc k) (omega arith))))

-- ── 32 bits as an integer ──
pub integer-back : (z : ℤ) → SFits w32 z → integer_of (word_of z) ≡ z
integer-back z h = to_z-of_z w32 z h

pub word_back : (w : ℕ) → w < 4294967296 → word_of (integer_of w) ≡ w
word_back w h = of_z-to_z w32 w (record { fits = h })

pub integer-fits : (w : ℕ) → w < 4294967296 → SFits w32 (integer_of w)
integer-fits w h = to_z-Fits w32 w (record { fits = h })

pub word_below : (z : ℤ) → SFits w32 z → word_of z < 4294967296
word_below z h = (of_z_fits w32 z h).fits
