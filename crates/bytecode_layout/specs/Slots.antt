-- A value or a cell in a row: exchanged, added behind the last, the last taken off. For operands, cells, fields and holds.
use Rattle.std.specs.Prelude.{◌≡◌, refl, ℕ, zero, suc, ◌<◌, length, set as replace}
use Rattle.std.proofs.Common.{sym, ap, ◌∙◌}
use mathlib.Core.List.{List, [], ◌∷◌, ◌++◌, reverse, map, append_assoc, reverse-append, reverse-cons}
use Rattle.std.proofs.lemmas.List.{length-reverse, length-map}
use Rattle.bytecode.specs.State.{pad}
use Rattle.bytecode_layout.specs.Rows.{pad-inner, pad-next, pad-last, pad-put, map_turned, map-append}
use Rattle.bytecode_layout.specs.Parts.{groups_of}
use Rattle.bytecode_layout.specs.Places.{at}

-- a list laid out from its end, and one of its elements
pub map-turned-at : {A B : Type 0} (g : A → B) (us : List A) (v : A) (vs : List A) → map g (reverse (us ++ (v ∷ vs))) ≡ map g (reverse vs) ++ (g v ∷ map g (reverse us))
map-turned-at g us v vs =
    rw (reverse-append us (v ∷ vs), reverse-cons v vs, append_assoc (reverse vs) (v ∷ []) (reverse us), map-append g (reverse vs) (v ∷ reverse us))

-- n places in the row, g the word or the type byte
module _ {A : Type 0} (n : ℕ) (g : A → ℕ) where
  -- ── operands: vs lie below ──
  turned-length : (vs : List A) → length (map g (reverse vs)) ≡ length vs
  turned-length vs = length-map (reverse vs) g ∙ length-reverse vs

  pub operand-put : (us : List A) (v w : A) (vs : List A) → length vs < n
      → at (length vs) (g w) (pad n 0 (map g (reverse (us ++ (v ∷ vs))))) ≡ pad n 0 (map g (reverse (us ++ (w ∷ vs))))
  operand-put us v w vs h =
      rw (map-turned-at g us v vs, map-turned-at g us w vs, ← turned-length vs) (pad-inner 0 n (λ (x : ℕ). g w) (map g (reverse vs)) (g v) (map g (reverse us)) (rw (turned-length vs) h))

  pub operand-pushed : (v : A) (vs : List A) → length vs < n → at (length vs) (g v) (pad n 0 (map g (reverse vs))) ≡ pad n 0 (map g (reverse (v ∷ vs)))
  operand-pushed v vs h = rw (map_turned g v vs, ← turned-length vs) (pad-next 0 n (λ (x : ℕ). g v) (map g (reverse vs)) (rw (turned-length vs) h))

  pub operand-popped : (v : A) (vs : List A) → length vs < n → at (length vs) 0 (pad n 0 (map g (reverse (v ∷ vs)))) ≡ pad n 0 (map g (reverse vs))
  operand-popped v vs h = rw (map_turned g v vs, ← turned-length vs) (pad-last 0 n (map g (reverse vs)) (g v) (rw (turned-length vs) h))

  -- ── cells and fields ──
  pub field-put : (v : A) (vs : List A) (x : ℕ) → x < length vs → x < n → at x (g v) (pad n 0 (map g vs)) ≡ pad n 0 (map g (replace vs x v))
  field-put v vs x h k = pad-put 0 n (λ (y : ℕ). g v) (map g vs) x (rw (length-map vs g) h) k ∙ ap (pad n 0) (sym (go vs x))
    where
      go : (us : List A) (x : ℕ) → map g (replace us x v) ≡ replace (map g us) x (g v)
      go [] x = refl
      go (u ∷ us) zero = refl
      go (u ∷ us) (suc x) = ap (λ (l : List ℕ). g u ∷ l) (go us x)

  pub field_next : (v : A) (vs : List A) → length vs < n → at (length vs) (g v) (pad n 0 (map g vs)) ≡ pad n 0 (map g (vs ++ (v ∷ [])))
  field_next v vs h = rw (map-append g vs (v ∷ []), ← length-map vs g) (pad-next 0 n (λ (y : ℕ). g v) (map g vs) (rw (length-map vs g) h))

  pub field-last : (v : A) (vs : List A) → length vs < n → at (length vs) 0 (pad n 0 (map g (vs ++ (v ∷ [])))) ≡ pad n 0 (map g vs)
  field-last v vs h = rw (map-append g vs (v ∷ []), ← length-map vs g) (pad-last 0 n (map g vs) (g v) (rw (length-map vs g) h))

-- ── holds ──
pub group-pushed : (g : ℕ) (gs : List ℕ) → length gs < 512 → at (length gs) g (groups_of gs) ≡ groups_of (g ∷ gs)
group-pushed g gs h = rw (reverse-cons g gs, ← length-reverse gs) (pad-next 0 512 (λ (x : ℕ). g) (reverse gs) (rw (length-reverse gs) h))

pub group-popped : (g : ℕ) (gs : List ℕ) → length gs < 512 → at (length gs) 0 (groups_of (g ∷ gs)) ≡ groups_of gs
group-popped g gs h = rw (reverse-cons g gs, ← length-reverse gs) (pad-last 0 512 (reverse gs) g (rw (length-reverse gs) h))
