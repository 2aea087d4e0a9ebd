-- Rows: a list cut or filled up to a number of elements (`pad`), one element of it altered, its parts one after the other (`flat`).
use Rattle.std.specs.Prelude.{◌≡◌, get_or, replicate, set as put}
use Rattle.std.proofs.Math.Path.{refl, sym, ap}
use Rattle.std.proofs.Common.{◌∙◌, zero-mul}
use mathlib.Core.List.{List, [], ◌∷◌, ◌++◌, reverse, map, append_assoc, reverse-cons}
use Prim.Native.Nat.{ℕ, zero, suc, ◌*◌, ◌-◌, ◌≤◌, ◌<◌}
use Rattle.std.proofs.Math.Nat.{suc-mul}
use native.Mathlib.Omega.{arith}
use Rattle.std.proofs.Math.ListN.{length, length-append}
use Rattle.bytecode.specs.State.{pad, flat}

-- the element at a place altered, and its list made longer with z where the place lies past its end
unfoldable pub alter : {A : Type 0} → A → (A → A) → List A → ℕ → List A
alter z g [] zero = g z ∷ []
alter z g [] (suc k) = z ∷ alter z g [] k
alter z g (x ∷ xs) zero = g x ∷ xs
alter z g (x ∷ xs) (suc k) = x ∷ alter z g xs k

module _ {A : Type 0} (z : A) where
  pub length-pad : (n : ℕ) (xs : List A) → length (pad n z xs) ≡ n
  unfolding pad
  length-pad zero xs = refl
  length-pad (suc n) [] = ap suc (length-pad n [])
  length-pad (suc n) (x ∷ xs) = ap suc (length-pad n xs)

  pub pad-pad : (n : ℕ) (xs : List A) → pad n z (pad n z xs) ≡ pad n z xs
  unfolding pad
  pad-pad zero xs = refl
  pad-pad (suc n) [] = ap (λ (l : List A). z ∷ l) (pad-pad n [])
  pad-pad (suc n) (x ∷ xs) = ap (λ (l : List A). x ∷ l) (pad-pad n xs)

  pub pad-nil : (n : ℕ) → pad n z [] ≡ replicate n z
  unfolding pad
  pad-nil zero = refl
  pad-nil (suc n) = ap (λ (l : List A). z ∷ l) (pad-nil n)

  -- as many as there are, then z
  pub pad-fill : (n : ℕ) (xs : List A) → length xs ≤ n → pad n z xs ≡ xs ++ replicate (n - length xs) z
  unfolding pad
  pad-fill n [] h =
      let e : n - 0 ≡ n = omega arith in
      rw e (pad-nil n)
  pad-fill zero (x ∷ xs) h = absurd (omega arith)
  pad-fill (suc n) (x ∷ xs) h =
      let e : suc n - suc (length xs) ≡ n - length xs = omega arith in
      rw e (ap (λ (l : List A). x ∷ l) (pad-fill n xs (omega arith)))

  pub get_d-pad : (n : ℕ) (xs : List A) (k : ℕ) → k < n → get_or (pad n z xs) k z ≡ get_or xs k z
  unfolding pad
  get_d-pad zero xs k h = absurd (omega arith)
  get_d-pad (suc n) [] zero h = refl
  get_d-pad (suc n) [] (suc k) h = get_d-pad n [] k (omega arith)
  get_d-pad (suc n) (x ∷ xs) zero h = refl
  get_d-pad (suc n) (x ∷ xs) (suc k) h = get_d-pad n xs k (omega arith)

  -- ── altering ──
  pub alter-alter : (g h : A → A) (xs : List A) (k : ℕ) → alter z g (alter z h xs k) k ≡ alter z (λ (a : A). g (h a)) xs k
  unfolding alter
  alter-alter g h [] zero = refl
  alter-alter g h [] (suc k) = ap (λ (l : List A). z ∷ l) (alter-alter g h [] k)
  alter-alter g h (x ∷ xs) zero = refl
  alter-alter g h (x ∷ xs) (suc k) = ap (λ (l : List A). x ∷ l) (alter-alter g h xs k)

  pub alter-known : (g : A → A) (xs : List A) (k : ℕ) → alter z g xs k ≡ alter z (λ (a : A). g (get_or xs k z)) xs k
  unfolding alter
  alter-known g [] zero = refl
  alter-known g [] (suc k) = ap (λ (l : List A). z ∷ l) (alter-known g [] k)
  alter-known g (x ∷ xs) zero = refl
  alter-known g (x ∷ xs) (suc k) = ap (λ (l : List A). x ∷ l) (alter-known g xs k)

  alter-put : (g : A → A) (xs : List A) (k : ℕ) → k < length xs → alter z g xs k ≡ put xs k (g (get_or xs k z))
  unfolding alter
  alter-put g [] k h = absurd (omega arith)
  alter-put g (x ∷ xs) zero h = refl
  alter-put g (x ∷ xs) (suc k) h = ap (λ (l : List A). x ∷ l) (alter-put g xs k (omega arith))

  pub pad-alter : (n : ℕ) (g : A → A) (xs : List A) (k : ℕ) → k < n → pad n z (alter z g xs k) ≡ alter z g (pad n z xs) k
  unfolding pad alter
  pad-alter zero g xs k h = absurd (omega arith)
  pad-alter (suc n) g [] zero h = refl
  pad-alter (suc n) g [] (suc k) h = ap (λ (l : List A). z ∷ l) (pad-alter n g [] k (omega arith))
  pad-alter (suc n) g (x ∷ xs) zero h = refl
  pad-alter (suc n) g (x ∷ xs) (suc k) h = ap (λ (l : List A). x ∷ l) (pad-alter n g xs k (omega arith))

  -- an element within a filled row, and the one past its end
  pub pad-inner : (n : ℕ) (g : A → A) (xs : List A) (x : A) (ys : List A) → length xs < n
      → alter z g (pad n z (xs ++ (x ∷ ys))) (length xs) ≡ pad n z (xs ++ (g x ∷ ys))
  unfolding pad alter
  pad-inner zero g xs x ys h = absurd (omega arith)
  pad-inner (suc n) g [] x ys h = refl
  pad-inner (suc n) g (y ∷ xs) x ys h = ap (λ (l : List A). y ∷ l) (pad-inner n g xs x ys (omega arith))

  pub pad-blank : (n : ℕ) (xs : List A) → pad n z (xs ++ (z ∷ [])) ≡ pad n z xs
  unfolding pad
  pad-blank zero xs = refl
  pad-blank (suc n) [] = refl
  pad-blank (suc n) (x ∷ xs) = ap (λ (l : List A). x ∷ l) (pad-blank n xs)

  pub pad-next : (n : ℕ) (g : A → A) (xs : List A) → length xs < n → alter z g (pad n z xs) (length xs) ≡ pad n z (xs ++ (g z ∷ []))
  pad-next n g xs h = ap (λ (l : List A). alter z g l (length xs)) (sym (pad-blank n xs)) ∙ pad-inner n g xs z [] h

  pub pad-last : (n : ℕ) (xs : List A) (x : A) → length xs < n → alter z (λ (a : A). z) (pad n z (xs ++ (x ∷ []))) (length xs) ≡ pad n z xs
  pad-last n xs x h = pad-inner n (λ (a : A). z) xs x [] h ∙ pad-blank n xs

  pub pad-put : (n : ℕ) (g : A → A) (xs : List A) (k : ℕ) → k < length xs → k < n → alter z g (pad n z xs) k ≡ pad n z (put xs k (g (get_or xs k z)))
  pad-put n g xs k h i = sym (pad-alter n g xs k i) ∙ ap (pad n z) (alter-put g xs k h)

-- ── a row's parts ──
module _ {A : Type 0} (enc : A → List ℕ) where
  pub flat_append : (xs ys : List A) → flat enc (xs ++ ys) ≡ flat enc xs ++ flat enc ys
  unfolding flat
  flat_append [] ys = refl
  flat_append (x ∷ xs) ys = rw (flat_append xs ys, append_assoc (enc x) (flat enc xs) (flat enc ys))

  pub length-flat : (w : ℕ) → ((x : A) → length (enc x) ≡ w) → (xs : List A) → length (flat enc xs) ≡ length xs * w
  unfolding flat
  length-flat w wide [] = sym (zero-mul w)
  length-flat w wide (x ∷ xs) = length-append (enc x) (flat enc xs) ∙ rw (wide x, length-flat w wide xs, suc-mul (length xs) w) (omega arith)

  -- the parts written first, then laid out
  pub flat_map : (n : ℕ) (z : A) (xs : List A) → flat (λ (l : List ℕ). l) (pad n (enc z) (map enc xs)) ≡ flat enc (pad n z xs)
  unfolding flat pad
  flat_map zero z xs = refl
  flat_map (suc n) z [] = ap (λ (l : List ℕ). enc z ++ l) (flat_map n z [])
  flat_map (suc n) z (x ∷ xs) = ap (λ (l : List ℕ). enc x ++ l) (flat_map n z xs)

-- ── lists that are held with the last first ──
pub map-append : {A B : Type 0} (f : A → B) (xs ys : List A) → map f (xs ++ ys) ≡ map f xs ++ map f ys
map-append f [] ys = refl
map-append f (x ∷ xs) ys = ap (λ (l : List _). f x ∷ l) (map-append f xs ys)

pub map_turned : {A B : Type 0} (f : A → B) (x : A) (xs : List A) → map f (reverse (x ∷ xs)) ≡ map f (reverse xs) ++ (f x ∷ [])
map_turned f x xs = rw (reverse-cons x xs) (map-append f (reverse xs) (x ∷ []))
