-- Laws of the passes over records: how far a pass has come, and what it leaves in its index.
use mathlib.Core.Path.{◌≡◌, refl, sym, ap, ◌∙◌}
use mathlib.Core.Bool.{Bool, true, false, cond, not, ◌&&◌}
use mathlib.Core.List.{List}
use Rattle.std.specs.Prelude.{Ok, Err}
use Prim.Native.Nat.{ℕ, zero, suc, ◌+◌, ◌*◌, ◌/◌, ◌-◌, ◌<◌, ◌≤◌}
use native.Mathlib.Omega.{arith}
use native.Mathlib.Numerals.{add-one}
use native.Mathlib.Decide.{ℕ_discrete}
use lib.ListN.{length, set, get_or}
use lib.Seq.{get_or-set_other, get_or-set_same}
use lib.Dec.{eqb, ltb}
use borrow.Author.Tests.{ltb-true, ltb-false, lt-ltb, le-ltb}
use Rattle.words.specs.Numbers.{byte_at, half_at}
use Rattle.load_places.specs.Search.{first}
use Rattle.load_places.specs.Records.{class_place, body_place, first_of, code_base, shape_place, address_of, least, rises, body_fits, bad_body, bad_code, shape_fits, bad_shape}
use Rattle.load_places.specs.Index.{Group, vacant, begins, Indexed, Placed}
use Rattle.load_records.specs.Answer.{Upto, Passes}
use Rattle.load_records.proofs.Search.{first-hit, first-none, first-cut, clean-none, clean-more}
use Rattle.load_records.proofs.Tests.{cut, whole}
use Rattle.logic.specs.Tests.{by-test}

module _ {bad : ℕ → Bool} {place : ℕ → ℕ} {n : ℕ} where
  pub starts : (p : ℕ) → p ≡ place 0 → Upto bad place n 0 p
  starts p e = record { within = omega arith; stands = e; clean = clean-none bad }

  module _ {k p : ℕ} (U : Upto bad place n k p) where
    pub goes-on : (q : ℕ) → k < n → bad k ≡ false → q ≡ place (k + 1) → Upto bad place n (k + 1) q
    goes-on q h e d = record { within = omega arith; stands = d; clean = clean-more bad k U.clean e }

    pub stops : k < n → bad k ≡ true → Passes bad place n (Err k)
    stops h e = record { upto = (h, sym (first-hit bad n k U.clean h e)); stands = tt }

    pub finishes : n ≤ k → Passes bad place n (Ok p)
    finishes h =
        let e : k ≡ n = omega (arith, U.within) in
        record { upto = sym (first-none bad n k U.clean h U.within ∙ e); stands = U.stands ∙ ap place e }

pub placed-more : (place : ℕ → ℕ) (px : List ℕ) (k p : ℕ) → p ≡ place k → k < length px → Placed place px k → Placed place (set px k p) (k + 1)
placed-more place px k p e h P j r = elim (ℕ_discrete j k) [
  | yes q ↦ rw q (get_or-set_same px k p 0 h ∙ e)
  | no q ↦ get_or-set_other px k j p 0 q ∙ P j (omega (arith, q))
]

-- ── the classes ──
pub class-start : (l : List ℕ) → 8 ≡ class_place l 0
unfolding class_place
class-start l = refl

pub next-class : (l : List ℕ) (k p c : ℕ) → p ≡ class_place l k → c ≡ byte_at l (p + 2) → p + 3 + c ≡ class_place l (k + 1)
unfolding class_place
next-class l k p c e d = rw (add-one k, ← e, ← d)

-- ── the bodies ──
pub next-body : (l : List ℕ) (k p c : ℕ) → p ≡ body_place l k → c ≡ byte_at l (p + 6) → p + 7 + c ≡ body_place l (k + 1)
unfolding body_place
next-body l k p c e d = rw (add-one k, ← e, ← d)

pub last-first : (l : List ℕ) (k p a : ℕ) → p ≡ body_place l k → a ≡ half_at l (p + 2) → 0 < k + 1 → a ≡ first_of l (k + 1 - 1)
last-first l k p a e d h = let q : k + 1 - 1 ≡ k = omega arith in rw (q, ← e) d

pub body-unfit : (l : List ℕ) (k p : ℕ) → p ≡ body_place l k → body_fits l p ≡ false → bad_body l k ≡ true
unfolding bad_body
body-unfit l k p e h = rw (← e, h)

-- the order of first addresses, as the code tests it with the last in hand
rises-same : (l : List ℕ) (k u a : ℕ) → (0 < k → u ≡ first_of l (k - 1)) → rises k u a ≡ rises k (first_of l (k - 1)) a
unfolding rises
rises-same l zero u a h = refl
rises-same l (suc k) u a h = rw (h (omega arith))

module _ (l : List ℕ) (k p u a : ℕ) (e : p ≡ body_place l k) (h : 0 < k → u ≡ first_of l (k - 1)) (d : a ≡ half_at l (p + 2)) (f : body_fits l p ≡ true) where
  named : rises k u a ≡ rises k (first_of l (k - 1)) (first_of l k)
  named = rises-same l k u a h ∙ rw (d, e)

  pub body-good : rises k u a ≡ true → bad_body l k ≡ false
  unfolding bad_body
  body-good r = rw (← e, f, (rw (← e) at (sym named ∙ r)))

  pub body-bad : rises k u a ≡ false → bad_body l k ≡ true
  unfolding bad_body
  body-bad r = rw (← e, f, (rw (← e) at (sym named ∙ r)))

-- ── the instructions ──
module _ (l : List ℕ) (base : ℕ) (e : base ≡ code_base l) where
  pub code-mark : (i : ℕ) (r : Bool) → base + 8 * i + 8 ≤ length l → r ≡ not (eqb (byte_at l (base + 8 * i)) 73 && eqb (byte_at l (base + 8 * i + 1)) 78) → r ≡ bad_code l i
  code-mark i r h d = d ∙ sym (whole l (base + 8 * i) 8 73 78 h) ∙ rw e

  -- the pass over those that stand whole, gone down to the first
  pub code-passed : (n w r : ℕ) → w ≤ n → (w < n → length l < base + 8 * w + 8) → r ≡ first (bad_code l) w → r ≡ first (bad_code l) n
  code-passed n w r h c q = q ∙ sym (first-cut (bad_code l) n w h (λ y. rw (← e) (cut l (base + 8 * w) 8 73 78 (c y))))

-- ── the shapes ──
pub least_first : (l : List ℕ) → 0 ≡ least l 0
unfolding least
least_first l = refl

module _ (l : List ℕ) (k p : ℕ) (e : p ≡ shape_place l k) where
  pub shape-unfit : shape_fits l p ≡ false → bad_shape l k ≡ true
  unfolding bad_shape
  shape-unfit h = rw (← e, h)

  module _ (f : shape_fits l p ≡ true) (u a : ℕ) (h : u ≡ least l k) (d : a ≡ half_at l (p + 2)) where
    pub shape-late : a < u → bad_shape l k ≡ true
    unfolding bad_shape
    shape-late r = rw (← e, f, ← d, ← h, lt-ltb a u r)

    pub shape-good : u ≤ a → bad_shape l k ≡ false
    unfolding bad_shape
    shape-good r = rw (← e, f, ← d, ← h, le-ltb a u r)

  pub next-least : (a : ℕ) → a ≡ half_at l (p + 2) → a + 1 ≡ least l (k + 1)
  unfolding least
  next-least a d = rw (add-one k, add-one a, d, e)

  pub next-shape : (c : ℕ) → c ≡ byte_at l (p + 5) → p + 6 + c ≡ shape_place l (k + 1)
  unfolding shape_place
  next-shape c d = rw (add-one k, ← e, ← d)

  -- a group's search begins at its first shape
  module _ (u a : ℕ) (h : u ≡ least l k) (d : a ≡ half_at l (p + 2)) (g : u ≤ a) where
    at-hand : address_of l k ≡ a
    at-hand = ap (λ (q : ℕ). half_at l (q + 2)) (sym e) ∙ sym d

    -- one more shape; b is no group of it, or has one already
    more : (b q : ℕ) → (a / 8 ≡ b → 8 * b < u) → Group l k b q → Group l (k + 1) b q
    unfolding least
    more b q o (begins j f s r) = begins j (omega arith) s r
    more b q o (vacant z f) = vacant z (λ j r y. elim (ℕ_discrete j k) [
      | yes v ↦ let w : a / 8 ≡ b = ap (λ (x : ℕ). x / 8) (sym at-hand) ∙ ap (λ (i : ℕ). address_of l i / 8) (sym v) ∙ y in late k h f (o w) w
      | no v ↦ f j (omega (arith, v)) y
    ])
      where
        late : (k : ℕ) → u ≡ least l k → ((j : ℕ) → j < k → address_of l j / 8 ≡ b → ⊥) → 8 * b < u → a / 8 ≡ b → ⊥
        late zero h f t w = omega arith
        late (suc i) h f t w = f i (omega arith) (omega arith)

    pub indexed-more : (ix : List ℕ) (n : ℕ) → a < 8 * length ix → Indexed l ix n k → Indexed l (cond (ltb (8 * (a / 8)) u) ix (set ix (a / 8) p)) n (k + 1)
    indexed-more ix n t I b r = by-test (ltb (8 * (a / 8)) u)
        (λ y. rw y (more b (get_or ix b 0) (λ w. rw (← w) (ltb-true _ _ y)) (I b r)))
        (λ y. rw y (elim (ℕ_discrete b (a / 8)) [
          | yes q ↦ rw q (begins k (omega arith) (get_or-set_same ix (a / 8) p 0 (omega arith) ∙ e) (rw (← h) (ltb-false _ _ y)))
          | no q ↦ rw (get_or-set_other ix (a / 8) b p 0 q) (more b (get_or ix b 0) (λ w. absurd (q (sym w))) (I b r))
        ]))
