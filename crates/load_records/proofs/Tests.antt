-- Laws of the record tests, as the code makes them.
use mathlib.Core.Path.{◌≡◌, refl, sym}
use mathlib.Core.Bool.{Bool, true, false, cond, not, ◌&&◌, ◌||◌}
use mathlib.Core.List.{List}
use Prim.Native.Nat.{ℕ, ◌+◌, ◌-◌, ◌<◌, ◌≤◌}
use native.Mathlib.Omega.{arith}
use lib.ListN.{length}
use lib.Dec.{ltb, leb, eqb}
use borrow.Author.Tests.{eq-eqb, ne_eqb, lt-ltb, le-ltb, ltb-false, eqb-true, not-true}
use Rattle.words.specs.Numbers.{byte_at, half_at}
use Rattle.load_places.specs.Search.{first}
use Rattle.load_places.specs.Records.{classes, count, class_place, no_mark, no_type, bad_types, bad_head, bad_class, rises, body_fits, shape_fits, read_end, reads, unread}
use Rattle.load_records.specs.Answer.{typed_fits}
use Rattle.logic.specs.Tests.{never, by-test, no_true, no_false}

-- ── a chain of tests that came out well passed each ──

-- ── a mark ──
module _ (l : List ℕ) (p n x y : ℕ) where
  pub cut : length l < p + n → no_mark l p n x y ≡ true
  unfolding no_mark
  cut h = simp (lt-ltb _ _ h)

  pub whole : p + n ≤ length l → no_mark l p n x y ≡ not (eqb (byte_at l p) x && eqb (byte_at l (p + 1)) y)
  unfolding no_mark
  whole h = simp (le-ltb _ _ h)

  pub room : no_mark l p n x y ≡ false → p + n ≤ length l
  unfolding no_mark
  room e = ltb-false _ _ (no_true _ _ e).0

-- ── a type byte ──
module _ (c t : ℕ) where
  pub type-low : t < 16 → t < 1 → no_type c t ≡ true
  unfolding no_type
  type-low g h = simp (lt-ltb _ _ g, lt-ltb _ _ h)

  pub type-plain : t < 16 → 1 ≤ t → no_type c t ≡ ltb 3 t
  unfolding no_type
  type-plain g h = simp (lt-ltb _ _ g, le-ltb _ _ h)

  pub type-class : 16 ≤ t → no_type c t ≡ leb c (t - 16)
  unfolding no_type
  type-class g = simp (le-ltb _ _ g)

-- the first of n type bytes that is none
pub types-passed : (l : List ℕ) (p n c r : ℕ) → c ≡ classes l → r ≡ first (λ k. no_type c (byte_at l (p + k))) n → ltb r n ≡ bad_types l p n
unfolding bad_types
types-passed l p n c r e q = rw (← e, ← q)

-- ── the head ──
module _ (l : List ℕ) where
  pub head-1 : no_mark l 0 8 72 68 ≡ true → bad_head l ≡ true
  unfolding bad_head
  head-1 a = simp a

  module _ (a : no_mark l 0 8 72 68 ≡ false) where
    pub head-2 : 16 < byte_at l 2 → bad_head l ≡ true
    unfolding bad_head
    head-2 b = simp (a, lt-ltb _ _ b)

    pub head-3 : byte_at l 2 ≤ 16 → byte_at l 3 < 1 → bad_head l ≡ true
    unfolding bad_head
    head-3 b c = simp (a, le-ltb _ _ b, lt-ltb _ _ c)

    pub head-4 : byte_at l 2 ≤ 16 → 1 ≤ byte_at l 3 → bad_head l ≡ ltb 64 (byte_at l 3)
    unfolding bad_head
    head-4 b c = simp (a, le-ltb _ _ b, le-ltb _ _ c)

-- ── a record and the types that it counts ──
module _ (l : List ℕ) (p n m x y : ℕ) where
  pub typed-1 : no_mark l p n x y ≡ true → typed_fits l p n m x y ≡ false
  unfolding typed_fits
  typed-1 a = simp a

  module _ (a : no_mark l p n x y ≡ false) where
    pub typed-2 : length l < p + n + byte_at l (p + m) → typed_fits l p n m x y ≡ false
    unfolding typed_fits
    typed-2 b = simp (a, lt-ltb _ _ b)

    pub typed-3 : p + n + byte_at l (p + m) ≤ length l → typed_fits l p n m x y ≡ not (bad_types l (p + n) (byte_at l (p + m)))
    unfolding typed_fits
    typed-3 b = simp (a, le-ltb _ _ b)

  pub typed-parts : typed_fits l p n m x y ≡ true
      → (no_mark l p n x y ≡ false) × (ltb (length l) (p + n + byte_at l (p + m)) ≡ false) × (bad_types l (p + n) (byte_at l (p + m)) ≡ false)
  unfolding typed_fits
  typed-parts e = let a = no_false (no_mark l p n x y) _ e in let b = no_false _ _ a.1 in (a.0, b.0, not-true _ b.1)

  pub typed-room : typed_fits l p n m x y ≡ true → p + n ≤ length l
  typed-room e = room l p n x y (typed-parts e).0

-- ── a class ──
flag : (x : Bool) → cond x true false ≡ x
flag true = refl
flag false = refl

module _ (l : List ℕ) (p k : ℕ) (e : p ≡ class_place l k) where
  pub class-1 : typed_fits l p 3 2 67 76 ≡ false → bad_class l k ≡ true
  unfolding bad_class typed_fits
  class-1 t =
      rw (← e) (go (no_mark l p 3 67 76) (ltb (length l) (p + 3 + byte_at l (p + 2))) (bad_types l (p + 3) (byte_at l (p + 2)))
      (ltb (byte_at l (p + 2)) 1) (ltb 8 (byte_at l (p + 2))) t)
    where
      go : (a b c d f : Bool) → cond a false (cond b false (not c)) ≡ false → cond a true (cond d true (cond f true (cond b true c))) ≡ true
      go true b c d f q = refl
      go false b c true f q = refl
      go false b c false true q = refl
      go false true c false false q = refl
      go false false true false false q = refl
      go false false false false false q = never (sym q)

  module _ (t : typed_fits l p 3 2 67 76 ≡ true) where
    pub class-2 : byte_at l (p + 2) < 1 → bad_class l k ≡ true
    unfolding bad_class
    class-2 b = let w = typed-parts l p 3 2 67 76 t in rw (← e) (simp (w.0, lt-ltb _ _ b))

    pub class-3 : 1 ≤ byte_at l (p + 2) → bad_class l k ≡ ltb 8 (byte_at l (p + 2))
    unfolding bad_class
    class-3 b = let w = typed-parts l p 3 2 67 76 t in rw (← e) (simp (w.0, w.1, w.2, le-ltb _ _ b) (flag (ltb 8 (byte_at l (p + 2)))))

-- ── a body ──
pub rises-zero : (k u a : ℕ) → k ≡ 0 → rises k u a ≡ eqb a 0
unfolding rises
rises-zero k u a e = simp (eq-eqb k 0 e)

pub rises-more : (k u a : ℕ) → (k ≡ 0 → ⊥) → rises k u a ≡ ltb u a
unfolding rises
rises-more k u a e = simp (ne_eqb k 0 e)

module _ (l : List ℕ) (p : ℕ) where
  pub body-1 : typed_fits l p 7 6 66 68 ≡ false → body_fits l p ≡ false
  unfolding body_fits typed_fits
  body-1 t =
      go (no_mark l p 7 66 68) (ltb (length l) (p + 7 + byte_at l (p + 6))) (bad_types l (p + 7) (byte_at l (p + 6)))
      (eqb (byte_at l (p + 5)) 0 || not (no_type (classes l) (byte_at l (p + 5)))) (ltb (byte_at l (p + 6)) (byte_at l (p + 4))) t
    where
      go : (a b c d f : Bool) → cond a false (cond b false (not c)) ≡ false
          → cond a false (cond b false (cond d (cond f false (cond c false (ltb (half_at l (p + 2)) (count l)))) false)) ≡ false
      go true b c d f q = refl
      go false true c d f q = refl
      go false false c false f q = refl
      go false false c true true q = refl
      go false false true true false q = refl
      go false false false true false q = never (sym q)

  module _ (t : typed_fits l p 7 6 66 68 ≡ true) where
    pub body-2 : eqb (byte_at l (p + 5)) 0 || not (no_type (classes l) (byte_at l (p + 5))) ≡ false → body_fits l p ≡ false
    unfolding body_fits
    body-2 c = let w = typed-parts l p 7 6 66 68 t in simp (w.0, w.1, c)

    module _ (c : eqb (byte_at l (p + 5)) 0 || not (no_type (classes l) (byte_at l (p + 5))) ≡ true) where
      pub body-3 : byte_at l (p + 6) < byte_at l (p + 4) → body_fits l p ≡ false
      unfolding body_fits
      body-3 d = let w = typed-parts l p 7 6 66 68 t in simp (w.0, w.1, c, lt-ltb _ _ d)

      pub body-4 : byte_at l (p + 4) ≤ byte_at l (p + 6) → body_fits l p ≡ ltb (half_at l (p + 2)) (count l)
      unfolding body_fits
      body-4 d = let w = typed-parts l p 7 6 66 68 t in simp (w.0, w.1, w.2, c, le-ltb _ _ d)

-- ── a shape ──
module _ (l : List ℕ) (p : ℕ) where
  pub shape-1 : typed_fits l p 6 5 83 72 ≡ false → shape_fits l p ≡ false
  unfolding shape_fits typed_fits
  shape-1 t = go (no_mark l p 6 83 72) (ltb (length l) (p + 6 + byte_at l (p + 5))) (bad_types l (p + 6) (byte_at l (p + 5))) t
    where
      go : (a b c : Bool) → cond a false (cond b false (not c)) ≡ false
          → cond a false (cond b false (cond c false (ltb (half_at l (p + 2)) (count l)))) ≡ false
      go true b c q = refl
      go false true c q = refl
      go false false true q = refl
      go false false false q = never (sym q)

  pub shape-2 : typed_fits l p 6 5 83 72 ≡ true → shape_fits l p ≡ ltb (half_at l (p + 2)) (count l)
  unfolding shape_fits
  shape-2 t = let w = typed-parts l p 6 5 83 72 t in simp (w.0, w.1, w.2)

-- ── the end ──
module _ (l : List ℕ) (p k : ℕ) where
  pub end-1 : no_mark l p 2 90 90 ≡ true → read_end l p k ≡ unread k
  unfolding read_end
  end-1 a = simp a

  pub end-2 : no_mark l p 2 90 90 ≡ false → length l ≡ p + 2 → read_end l p k ≡ reads
  unfolding read_end
  end-2 a b = simp (a, eq-eqb _ _ b)

  pub end-3 : no_mark l p 2 90 90 ≡ false → (length l ≡ p + 2 → ⊥) → read_end l p k ≡ unread (k + 1)
  unfolding read_end
  end-3 a b = simp (a, ne_eqb _ _ b)

  pub end-stands : read_end l p k ≡ reads → length l ≡ p + 2
  unfolding read_end
  end-stands e =
      by-test (no_mark l p 2 90 90) (λ a. let z : unread k ≡ reads = rw a at e in absurd (let y : ◌≡◌ {A = ℕ} 0 1 = cc in omega arith))
      (λ a. by-test (eqb (length l) (p + 2)) (λ b. eqb-true _ _ b)
      (λ b. let z : unread (k + 1) ≡ reads = rw (a, b) at e in absurd (let y : ◌≡◌ {A = ℕ} 0 1 = cc in omega arith)))
