-- Shapes by rising address: what the one in hand tells of an address, and what a search comes to.
use mathlib.Core.Path.{◌≡◌, refl, sym, ap, ◌∙◌}
use mathlib.Core.List.{List}
use Prim.Native.Nat.{ℕ, suc, ◌+◌, ◌/◌, ◌<◌, ◌≤◌}
use native.Mathlib.Omega.{arith}
use native.Mathlib.Numerals.{add-one}
use native.Mathlib.Decide.{ℕ_discrete}
use lib.Dec.{ltb}
use lib.ListN.{length, get_or}
use borrow.Author.Tests.{lt-ltb, le-ltb, ltb-true, ltb-false}
use Rattle.std.specs.Prelude.{Some}
use Rattle.logic.specs.Tests.{by-test}
use Rattle.words.specs.Numbers.{byte_at, half_at}
use Rattle.load_places.specs.Records.{count, shapes, shape_place, address_of, least, find}
use Rattle.load_places.specs.Rules.{shape_at}
use Rattle.load_places.specs.Index.{Group, vacant, begins, Well, Ended}
use Rattle.load_places.specs.Order.{in_order, find_none, find-between, find_at, shape-past}
use Rattle.load_places.specs.declared.NextShape.{NextShape}
use Rattle.load_rules.specs.Moves.{Shaped, ShapeAt, ShapeFound, OneOfShapes, NotPast, next_address, Next}
use Rattle.load_records.proofs.Known.{shape_of}

-- ── where shapes stand ──
module _ (l : List ℕ) (W : Well l) (E : Ended l) where
  -- behind a shape or the end there are two bytes, behind a shape more
  pub shape-low : (j : ℕ) → j < shapes l → shape_place l j + 6 + byte_at l (shape_place l j + 5) ≤ length l
  shape-low j h = (shape_of l W j h).bytes

  pub end_low : (j : ℕ) → j ≤ shapes l → shape_place l j + 2 ≤ length l
  end_low j h = elim (ℕ_discrete j (shapes l)) [
    | yes q ↦ rw q (omega (arith, E))
    | no q ↦ omega (arith, shape-low j (omega (arith, q)))
  ]

  pub at-end : (j p : ℕ) → j ≤ shapes l → p ≡ shape_place l j → p + 2 ≡ length l → j ≡ shapes l
  at-end j p h e z = elim (ℕ_discrete j (shapes l)) [
    | yes q ↦ q
    | no q ↦ absurd (omega (arith, e, shape-low j (omega (arith, q))))
  ]

  pub before-end : (j p : ℕ) → j ≤ shapes l → p ≡ shape_place l j → (p + 2 ≡ length l → ⊥) → j < shapes l
  before-end j p h e z = elim (ℕ_discrete j (shapes l)) [
    | yes q ↦ absurd (z (ap (λ (x : ℕ). x + 2) (e ∙ ap (shape_place l) q) ∙ E))
    | no q ↦ omega (arith, q)
  ]

  -- what is read at p
  module _ (p j : ℕ) (h : j ≤ shapes l) (e : p ≡ shape_place l j) where
    pub told-end : p + 2 ≡ length l → 65536 ≡ next_address l j
    told-end z = rw (le-ltb j (shapes l) (omega (arith, at-end j p h e z)))

-- ── the shape of an address ──
module _ (l : List ℕ) (W : Well l) where
  shape-found : (x : ℕ) → x < count l → shape_at l x ≡ find l (shapes l) x
  unfolding shape_at
  shape-found x h = simp (lt-ltb x (count l) h)

  -- the j-th shape's
  pub here : (j x r : ℕ) → j < shapes l → x ≡ address_of l j → r ≡ shape_place l j → ShapeAt l x r
  here j x r h e d =
      let s = shape_of l W j h in
      let f : shape_at l (address_of l j) ≡ shape_place l j = shape-found (address_of l j) s.address ∙ find_at l (shapes l) j W.of-shapes h in
      record { is = d ∙ sym f ∙ ap (shape_at l) (sym e); inside = λ n. rw d s.bytes }

  -- none, between those before the j-th and the j-th
  pub absent : (j x : ℕ) → j ≤ shapes l → least l j ≤ x → (j < shapes l → x < address_of l j) → 0 ≡ shape_at l x
  unfolding shape_at
  absent j x h p a = by-test (ltb x (count l)) (λ e. rw e (sym (find-between l (shapes l) W.of-shapes j x h p a))) (λ e. rw e)

  pub nowhere : {x : ℕ} → 0 ≡ shape_at l x → ShapeAt l x 0
  nowhere e = record { is = e; inside = λ n. absurd (n refl) }

  -- ── the next one ──
  module _ (i : ℕ) (s : NextShape) (N : Next l i s) where
    some_next : N.index < shapes l → s.address ≡ address_of l N.index
    some_next h = N.is ∙ simp (lt-ltb N.index (shapes l) h)

    last-next : shapes l ≤ N.index → s.address ≡ 65536
    last-next h = N.is ∙ simp (le-ltb N.index (shapes l) h)

    is-next : s.address ≡ i → i ≤ count l → N.index < shapes l
    is-next e h = by-test (ltb N.index (shapes l)) (λ t. ltb-true _ _ t) (λ t. absurd (omega (arith, last-next (ltb-false _ _ t), N.few)))

    pub next_here : s.address ≡ i → i ≤ count l → ShapeAt l i s.place
    next_here e h = let k = is-next e h in here N.index i s.place k (sym e ∙ some_next k) N.stands

    pub next-stands : s.place ≡ 0 → ⊥
    next-stands z = omega (arith, N.stands, shape-past l N.index)

    pub next-absent : (s.address ≡ i → ⊥) → 0 ≡ shape_at l i
    next-absent n = absent N.index i N.within N.passed (λ h. omega (arith, some_next h, N.ahead, n))

    -- and if it is, the one behind it
    pub behind-here : s.address ≡ i → i < count l → s.place + 6 + byte_at l (s.place + 5) ≤ length l
    behind-here e h = rw N.stands (shape_of l W N.index (is-next e (omega arith))).bytes

    pub behind-stands : s.address ≡ i → i < count l → (c : ℕ) → c ≡ byte_at l (s.place + 5) → OneOfShapes l (s.place + 6 + c)
    unfolding shape_place
    behind-stands e h c d = (suc N.index, is-next e (omega arith), rw (d, N.stands))

    -- and if it is, the one behind it, r
    pub next-behind : s.address ≡ i → i < count l → (r : NextShape) (p c : ℕ) → r.place ≡ p → c ≡ byte_at l (s.place + 5) → p ≡ s.place + 6 + c
        → ((j : ℕ) → j ≤ shapes l → p ≡ shape_place l j → r.address ≡ next_address l j) → Next l (i + 1) r
    unfolding shape_place least
    next-behind e h r p c d g q f =
        let k = is-next e (omega arith) in
        let stands : p ≡ shape_place l (suc N.index) = q ∙ rw (g, N.stands) in
        let a : r.address ≡ next_address l (suc N.index) = f (suc N.index) k stands in
        let u : least l (suc N.index) ≡ i + 1 = after (sym (some_next k) ∙ e) in
        record {
          index = suc N.index;
          within = k;
          stands = d ∙ stands;
          passed = omega (arith, u);
          is = a;
          ahead = by-test (ltb (suc N.index) (shapes l))
              (λ t. let z : r.address ≡ address_of l (suc N.index) = a ∙ simp t in
              omega (arith, z, u, (in_order l (suc N.index) (W.of-shapes (suc N.index) (ltb-true _ _ t))).1))
              (λ t. let z : r.address ≡ 65536 = a ∙ simp t in omega (arith, N.few));
          few = N.few;
        }
      where
        after : address_of l N.index ≡ i → least l (suc N.index) ≡ i + 1
        after g = rw (g, add-one i)

pub first_next : (l : List ℕ) (r : NextShape) (p : ℕ) → r.place ≡ p → p ≡ shape_place l 0
    → ((j : ℕ) → j ≤ shapes l → p ≡ shape_place l j → r.address ≡ next_address l j) → count l < 65536 → Next l 0 r
unfolding least
first_next l r p d e f few =
    record { index = 0; within = omega arith; stands = d ∙ e; passed = omega arith; is = f 0 (omega arith) e; ahead = omega arith; few = few }

-- ── a search ──
module _ (l : List ℕ) (W : Well l) (E : Ended l) (x p : ℕ) (B : NotPast l x p) where
  pub search-shape : p + 2 < length l → B.0 < shapes l
  search-shape h = before-end l W E B.0 p B.1 B.2 (λ z. omega arith)

  pub search-room : p + 2 < length l → p + 6 + byte_at l (p + 5) ≤ length l
  search-room h = rw B.2 (shape-low l W E B.0 (search-shape h))

  pub search-end : length l ≤ p + 2 → ShapeAt l x 0
  search-end h =
      let z : p + 2 ≡ length l = omega (arith, B.2, end_low l W E B.0 B.1) in
      let q = at-end l W E B.0 p B.1 B.2 z in
      nowhere l W (absent l W B.0 x B.1 B.3 (λ g. absurd (omega (arith, q))))

  module _ (h : p + 2 < length l) (a : ℕ) (e : a ≡ half_at l (p + 2)) where
    address_is : a ≡ address_of l B.0
    address_is = e ∙ ap (λ (q : ℕ). half_at l (q + 2)) B.2

    pub search-here : a ≡ x → ShapeFound l x (Some p)
    search-here d = ((λ z. omega (arith, B.2, shape-past l B.0)), here l W B.0 x p (search-shape h) (sym d ∙ address_is) B.2)

    pub search-gone : x < a → ShapeAt l x 0
    search-gone d = nowhere l W (absent l W B.0 x B.1 B.3 (λ g. omega (arith, address_is)))

    pub search-on : a ≤ x → (a ≡ x → ⊥) → (c : ℕ) → c ≡ byte_at l (p + 5) → NotPast l x (p + 6 + c)
    unfolding shape_place least
    search-on d n c g = (suc B.0, search-shape h, rw (g, B.2), omega (arith, address_is, n))

-- where it begins
module _ (l ix : List ℕ) (S : Shaped l ix) (x r : ℕ) (h : x < count l) (e : r ≡ get_or ix (x / 8) 0) where
  group_of : Group l (shapes l) (x / 8) r
  group_of = rw e (S.indexed (x / 8) (omega arith))

  pub group-vacant : r ≡ 0 → ShapeAt l x 0
  group-vacant z = go group_of
    where
      go : Group l (shapes l) (x / 8) r → ShapeAt l x 0
      go (vacant y f) = nowhere l S.well (sym (shape-found l S.well x h ∙ find_none l (shapes l) x (λ j g q. f j g (ap (λ (i : ℕ). i / 8) q))))
      go (begins j g q u) = absurd (omega (arith, q, shape-past l j))
