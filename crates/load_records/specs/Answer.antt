-- What the record pass answers and leaves behind, and what its inner passes do.
use Rattle.std.specs.Prelude.{◌≡◌, Bool, false, cond, not, List, ℕ, ◌+◌, ◌≤◌, ◌<◌, ltb, length, Result, Ok, Err, IfOk}
use Rattle.words.specs.Numbers.{byte_at}
use Rattle.load_places.specs.Search.{first, Clean}
use Rattle.load_places.specs.Records.{classes, bodies, count, shapes, no_mark, bad_types, Read, reads, unread}
use Rattle.load_places.specs.Index.{Ready}

abbrev pub read_of : {A : Type 0} → Result A ℕ → Read
read_of (Ok x) = reads
read_of (Err k) = unread k

-- where the records read, the indexes are ready
abbrev pub Left : List ℕ → List ℕ → List ℕ → List ℕ → Result ℕ ℕ → Type 0
Left l ix bx cx (Ok b) = Ready l ix bx cx b
Left l ix bx cx (Err k) = Unit {0}

-- a record of n bytes with the mark x, y stands at p, and after it as many types as its byte at m says
unfoldable pub typed_fits : List ℕ → ℕ → ℕ → ℕ → ℕ → ℕ → Bool
typed_fits l p n m x y =
    cond (no_mark l p n x y) false
    (cond (ltb (length l) (p + n + byte_at l (p + m))) false
    (not (bad_types l (p + n) (byte_at l (p + m)))))

-- a pass over n records has come to the k-th, at p, and has met no bad one
pub record Upto (bad : ℕ → Bool) (place : ℕ → ℕ) (n k p : ℕ) : Type 0 where
  pub within : k ≤ n
  pub stands : p ≡ place k
  pub clean : Clean bad k

-- none of n records is bad; or the first bad one is the k-th
abbrev pub Meets : {A : Type 0} → (ℕ → Bool) → ℕ → Result A ℕ → Type 0
Meets bad n (Ok x) = n ≡ first bad n
Meets bad n (Err k) = (k < n) × (k ≡ first bad n)

-- a pass over n records met no bad one, and p is the place behind the last; or it went to the first bad one
pub record Passes (bad : ℕ → Bool) (place : ℕ → ℕ) (n : ℕ) (r : Result ℕ ℕ) : Type 0 where
  pub upto : Meets bad n r
  pub stands : IfOk r (λ p. p ≡ place n)

-- the head's counts: classes, bodies, instructions, shapes
pub record Counts (l : List ℕ) (c m n t : ℕ) : Type 0 where
  pub of-classes : c ≡ classes l
  pub of-bodies : m ≡ bodies l
  pub of_code : n ≡ count l
  pub of-shapes : t ≡ shapes l
