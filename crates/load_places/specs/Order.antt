-- Shapes in address order: where the first n of them read, the one of an address is found by what stands before it.
use Rattle.std.specs.Prelude.{◌≡◌, true, List, ltb}
use Rattle.std.proofs.Math.Path.{refl}
use Rattle.std.proofs.Common.{ap}
use Rattle.std.proofs.Math.Bool.{false}
use Prim.Native.Nat.{ℕ, zero, suc, ◌<◌, ◌≤◌}
use native.Mathlib.Omega.{arith}
use Rattle.std.proofs.Math.Decide.{ℕ_discrete}
use borrow.Author.Tests.{ltb-true, ltb-false, ne_eqb, eq-eqb}
use Rattle.logic.specs.Tests.{tests, by-test, held}
use Rattle.load_places.specs.Search.{Clean}
use Rattle.load_places.specs.Records.{bodies, classes, class_place, body_place, shape_place, address_of, find, shape_fits, least, bad_shape}

module _ (l : List ℕ) where
  -- every record stands past the head
  class-past : (k : ℕ) → 8 ≤ class_place l k
  unfolding class_place
  class-past zero = omega arith
  class-past (suc k) = omega (arith, class-past k)

  body-past : (k : ℕ) → 8 ≤ body_place l k
  unfolding body_place
  body-past zero = class-past (classes l)
  body-past (suc k) = omega (arith, body-past k)

  pub shape-past : (k : ℕ) → 8 ≤ shape_place l k
  unfolding shape_place
  shape-past zero = omega (arith, body-past (bodies l))
  shape-past (suc k) = omega (arith, shape-past k)

  pub in_order : (k : ℕ) → bad_shape l k ≡ false → (shape_fits l (shape_place l k) ≡ true) × (least l k ≤ address_of l k)
  unfolding bad_shape
  in_order k e = let h = held false (shape_fits l (shape_place l k)) _ e in (h.0, ltb-false _ _ h.1)

  -- an address that none of the first k shapes has
  pub find_none : (k x : ℕ) → ((j : ℕ) → j < k → address_of l j ≡ x → ⊥) → find l k x ≡ 0
  unfolding find
  find_none zero x h = refl
  find_none (suc k) x h = rw (find_none k x (λ j g. h j (omega arith)), ne_eqb (address_of l k) x (h k (omega arith)))

  module _ (n : ℕ) (c : Clean (bad_shape l) n) where
    rises : (k : ℕ) → k < n → least l k ≤ address_of l k
    rises k h = (in_order k (c k h)).1

    -- those before the k-th are below the least address that it may have
    below : (k j : ℕ) → k ≤ n → j < k → address_of l j < least l k
    unfolding least
    below zero j g h = absurd (omega arith)
    below (suc k) j g h = elim (ℕ_discrete j k) [
      | yes q ↦ rw q (omega arith)
      | no q ↦ let o = rises k (omega arith) in let b = below k j (omega arith) (omega (arith, q)) in omega arith
    ]

    -- an address between those before the k-th and the k-th
    pub find-between : (k x : ℕ) → k ≤ n → least l k ≤ x → (k < n → x < address_of l k) → find l n x ≡ 0
    find-between k x g h u = find_none n x (λ j b e. by-test (ltb j k)
        (λ q. let o = below k j g (ltb-true j k q) in omega arith)
        (λ q. elim (ℕ_discrete j k) [
          | yes d ↦ let v = u (omega tests) in let z : address_of l j ≡ address_of l k = ap (address_of l) d in omega arith
          | no d ↦ let v = u (omega tests) in let o = below j k (omega arith) (omega (tests, d)) in let w = rises j b in omega arith
        ]))

  -- past those of the first k
  pub find_past : (k x : ℕ) → Clean (bad_shape l) k → least l k ≤ x → find l k x ≡ 0
  find_past k x c h = find-between k c k x (omega arith) h (λ b. absurd (omega arith))

  -- that of the k-th
  pub find_at : (n k : ℕ) → Clean (bad_shape l) n → k < n → find l n (address_of l k) ≡ shape_place l k
  unfolding find
  find_at zero k c h = absurd (omega arith)
  find_at (suc n) k c h = elim (ℕ_discrete k n) [
    | yes q ↦ rw (q, find_past n (address_of l n) (λ j g. c j (omega arith)) (rises (suc n) c n (omega arith)), eq-eqb (address_of l n) (address_of l n) refl)
    | no q ↦ rw (find_at n k (λ j g. c j (omega arith)) (omega (arith, q)), ne_eqb (shape_place l k) 0 (omega (arith, shape-past k)))
  ]
