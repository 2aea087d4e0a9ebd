-- What the loading check's indexes hold, and what is known of a macro whose records read.
use Rattle.std.specs.Prelude.{◌≡◌, List, false, ℕ, ◌+◌, ◌*◌, ◌/◌, ◌<◌, ◌≤◌, length, get_or}
use Rattle.load_places.specs.Search.{Clean}
use Rattle.load_places.specs.Records.{classes, bodies, count, shapes, class_place, body_place, code_base, shape_place, address_of, least, bad_head, bad_class, bad_body, bad_code, bad_shape}

-- where a search among the first k shapes for those of addresses 8 * b to 8 * b + 7 begins: there is none, p is 0; or p is the place of one that
-- none of them stands before
pub data Group (l : List ℕ) (k b p : ℕ) : Type 0 where
  vacant : p ≡ 0 → ((j : ℕ) → j < k → address_of l j / 8 ≡ b → ⊥) → Group l k b p
  begins : (j : ℕ) → j < k → p ≡ shape_place l j → least l j ≤ 8 * b → Group l k b p

-- ix has such a place for each group of addresses below n
abbrev pub Indexed : List ℕ → List ℕ → ℕ → ℕ → Type 0
Indexed l ix n k = (b : ℕ) → 8 * b < n → Group l k b (get_or ix b 0)

-- px has the places of the first k of the records whose places are given
abbrev pub Placed : (ℕ → ℕ) → List ℕ → ℕ → Type 0
Placed place px k = (j : ℕ) → j < k → get_or px j 0 ≡ place j

-- the records read, but for the end
pub record Well (l : List ℕ) : Type 0 where
  pub head : bad_head l ≡ false
  pub of-classes : Clean (bad_class l) (classes l)
  pub of-bodies : Clean (bad_body l) (bodies l)
  pub of_code : Clean (bad_code l) (count l)
  pub of-shapes : Clean (bad_shape l) (shapes l)

-- the end stands behind the last shape
abbrev pub Ended : List ℕ → Type 0
Ended l = shape_place l (shapes l) + 2 ≡ length l

-- what the record pass leaves in the indexes of shapes, bodies and classes, and the place of the first instruction
pub record Ready (l ix bx cx : List ℕ) (base : ℕ) : Type 0 where
  pub well : Well l
  pub ended : Ended l
  pub based : base ≡ code_base l
  pub small : base < 65536
  pub indexed : Indexed l ix (count l) (shapes l)
  pub of-bodies : Placed (body_place l) bx (bodies l)
  pub of-classes : Placed (class_place l) cx (classes l)
