-- The tests of a state's bytes, exit by exit as the code leaves them.
use mathlib.Core.Path.{◌≡◌, refl, sym, ap, ◌∙◌}
use mathlib.Core.Bool.{Bool, true, false, ◌&&◌, ◌||◌}
use mathlib.Core.List.{List}
use Prim.Native.Nat.{ℕ, ◌+◌, ◌*◌, ◌-◌, ◌<◌, ◌≤◌}
use native.Mathlib.Omega.{arith}
use native.Mathlib.Numerals.{add-one}
use lib.Dec.{ltb, leb, eqb}
use borrow.Author.Tests.{eq-eqb, ne_eqb, lt-ltb, le-ltb, lt-leb, le-leb}
use Rattle.words.specs.Numbers.{byte_at, half_at, word_at}
use Rattle.values.specs.Ends.{is_condition}
use Rattle.load_places.specs.Records.{classes, bodies, count, class_place, body_place, code_place, no_type}
use Rattle.load_places.specs.Index.{Well}
use Rattle.load_check.specs.Lookups.{class-of}
use Rattle.state_sound.specs.Each.{each}
use Rattle.state_sound.specs.Fits.{frame_at, entry_at, body_in, depth_in, open_in, address_in, class_in, points_to, value_fits, value_in, row_fits, record_fits, calls, frame_fits}
use Rattle.state_sound.specs.Fits.{held, groups_fit, running_fits, plain_fits}
use Rattle.bytecode.specs.State.{cell_types_at, cell_words_at, holds_at, record_length, records_at}

-- what was read at a place that is another's
pub at_address : (f : ℕ → ℕ) {x i a : ℕ} → i ≡ a → x ≡ f i → x ≡ f a
at_address f e q = q ∙ ap f e

pub told-type : (c : List ℕ) (n t : ℕ) (x b : Bool) → n ≡ classes c → x ≡ no_type n t → x ≡ b → no_type (classes c) t ≡ b
told-type c n t x b e p q = rw (← e) (sym p ∙ q)

-- a fold has come to its end
pub each-end : (f : ℕ → Bool) (n k : ℕ) (ok : Bool) → k ≤ n → n ≤ k → ok ≡ each f 0 k → ok ≡ each f 0 n
each-end f n k ok a b e = e ∙ ap (each f 0) (let z : k ≡ n = omega arith in z)

pub few-fields : (c : List ℕ) (a q f : ℕ) → Well c → a < classes c → q ≡ class_place c a → f ≡ byte_at c (q + 2) → f ≤ 8
few-fields c a q f W h e d = rw (d, e) (class-of c W a h).few

-- ── values ──
module _ (l : List ℕ) (r t w : ℕ) where
  pub points-null : w ≡ 0 → true ≡ points_to l r t w
  unfolding points_to
  points-null e = simp (eq-eqb w 0 e)

  module _ (n : (w ≡ 0 → ⊥)) where
    pub points-past : r ≤ w - 1 → false ≡ points_to l r t w
    unfolding points_to
    points-past h = simp (ne_eqb w 0 n, le-ltb (w - 1) r h)

    pub points-made : w - 1 < r → eqb (byte_at l (records_at + record_length * (w - 1))) (t - 16) ≡ points_to l r t w
    unfolding points_to
    points-made h = simp (ne_eqb w 0 n, lt-ltb (w - 1) r h)

module _ (c l : List ℕ) (r t w : ℕ) where
  pub value_none : no_type (classes c) t ≡ true → false ≡ value_fits c l r t w
  unfolding value_fits
  value_none e = simp e

  module _ (e : no_type (classes c) t ≡ false) where
    pub value-reference : 16 ≤ t → points_to l r t w ≡ value_fits c l r t w
    unfolding value_fits
    value-reference h = simp (e, le-ltb t 16 h)

    pub value-logical : t < 16 → t ≡ 2 → ltb w 2 ≡ value_fits c l r t w
    unfolding value_fits
    value-logical h q = simp (e, lt-ltb t 16 h, eq-eqb t 2 q)

    pub value-any : t < 16 → (t ≡ 2 → ⊥) → true ≡ value_fits c l r t w
    unfolding value_fits
    value-any h q = simp (e, lt-ltb t 16 h, ne_eqb t 2 q)

module _ (c l : List ℕ) (r : ℕ) (e : List ℕ) (q t w : ℕ) where
  abbrev pub fits_at : ℕ → Bool
  fits_at j = eqb (byte_at l (t + j)) (byte_at e (q + j)) && value_in c l r t w j

  pub row_is : (n j : ℕ) (ok : Bool) → j ≤ n → n ≤ j → ok ≡ each fits_at 0 j → ok ≡ row_fits c l r e q t w n
  unfolding row_fits
  row_is n j ok a b i = i ∙ ap (each fits_at 0) (let z : j ≡ n = omega arith in z)

-- ── records ──
module _ (c l : List ℕ) (r k : ℕ) where
  pub record-none : classes c ≤ class_in l k → false ≡ record_fits c l r k
  unfolding record_fits
  record-none h = simp (le-ltb (class_in l k) (classes c) h)

  pub record-row : (p : ℕ) → p ≡ class_place c (class_in l k) → class_in l k < classes c
      → row_fits c l r c (p + 3) (entry_at k + 36) (entry_at k + 4) (byte_at c (p + 2)) ≡ record_fits c l r k
  unfolding record_fits
  record-row p e h = rw e (simp (lt-ltb (class_in l k) (classes c) h))

-- ── activations ──
module _ (c l : List ℕ) (n k : ℕ) where
  pub calls-top : n ≤ k + 1 → true ≡ calls c l n k
  unfolding calls
  calls-top h = simp (le-ltb (k + 1) n h)

  module _ (h : k + 1 < n) where
    pub calls-other : (byte_at c (code_place c (address_in l k) + 2) ≡ 10 → ⊥) → false ≡ calls c l n k
    unfolding calls
    calls-other e = simp (lt-ltb (k + 1) n h, ne_eqb _ 10 e)

    module _ (e : byte_at c (code_place c (address_in l k) + 2) ≡ 10) where
      pub calls-used : (byte_at c (code_place c (address_in l k) + 3) ≡ 0 → ⊥) → false ≡ calls c l n k
      unfolding calls
      calls-used a = simp (lt-ltb (k + 1) n h, eq-eqb _ 10 e, ne_eqb _ 0 a)

      pub calls-body : byte_at c (code_place c (address_in l k) + 3) ≡ 0 → eqb (word_at c (code_place c (address_in l k) + 4)) (body_in l (k + 1)) ≡ calls c l n k
      unfolding calls
      calls-body a = simp (lt-ltb (k + 1) n h, eq-eqb _ 10 e, eq-eqb _ 0 a)

module _ (c l : List ℕ) (r n k : ℕ) where
  pub frame-1 : bodies c ≤ body_in l k → false ≡ frame_fits c l r n k
  unfolding frame_fits
  frame-1 a = simp (le-ltb (body_in l k) (bodies c) a)

  module _ (a : body_in l k < bodies c) (q : ℕ) (e : q ≡ body_place c (body_in l k)) where
    pub frame-2 : 32 < byte_at c (q + 6) → false ≡ frame_fits c l r n k
    unfolding frame_fits
    frame-2 b = let b' : 32 < byte_at c (body_place c (body_in l k) + 6) = rw e at b in simp (lt-ltb (body_in l k) (bodies c) a, lt-leb (byte_at c (body_place c (body_in l k) + 6)) 32 b')

    module _ (b : byte_at c (q + 6) ≤ 32) where
      cells : leb (byte_at c (body_place c (body_in l k) + 6)) 32 ≡ true
      cells = let b' : byte_at c (body_place c (body_in l k) + 6) ≤ 32 = rw e at b in le-leb _ 32 b'

      pub frame-3 : 32 < depth_in l k → false ≡ frame_fits c l r n k
      unfolding frame_fits
      frame-3 d = simp (lt-ltb (body_in l k) (bodies c) a, cells, lt-leb (depth_in l k) 32 d)

      module _ (d : depth_in l k ≤ 32) where
        pub frame-4 : 16 < open_in l k → false ≡ frame_fits c l r n k
        unfolding frame_fits
        frame-4 f = simp (lt-ltb (body_in l k) (bodies c) a, cells, le-leb (depth_in l k) 32 d, lt-leb (open_in l k) 16 f)

        module _ (f : open_in l k ≤ 16) where
          pub frame-5 : count c ≤ address_in l k → false ≡ frame_fits c l r n k
          unfolding frame_fits
          frame-5 g = simp (lt-ltb (body_in l k) (bodies c) a, cells, le-leb (depth_in l k) 32 d, le-leb (open_in l k) 16 f, le-ltb (address_in l k) (count c) g)

          module _ (g : address_in l k < count c) where
            pub frame-6 : calls c l n k ≡ false → false ≡ frame_fits c l r n k
            unfolding frame_fits
            frame-6 i = simp (lt-ltb (body_in l k) (bodies c) a, cells, le-leb (depth_in l k) 32 d, le-leb (open_in l k) 16 f, lt-ltb (address_in l k) (count c) g, i)

            pub frame-7 : calls c l n k ≡ true → row_fits c l r c (q + 7) (frame_at k + cell_types_at) (frame_at k + cell_words_at) (byte_at c (q + 6)) ≡ frame_fits c l r n k
            unfolding frame_fits
            frame-7 i = rw e (simp (lt-ltb (body_in l k) (bodies c) a, cells, le-leb (depth_in l k) 32 d, le-leb (open_in l k) 16 f, lt-ltb (address_in l k) (count c) g, i))

-- ── holds ──
pub held_none : (l : List ℕ) → 0 ≡ held l 0
unfolding held
held_none l = refl

pub held-end : (l : List ℕ) (n k s : ℕ) → k ≤ n → n ≤ k → s ≡ held l k → s ≡ held l n
held-end l n k s a b e = e ∙ ap (held l) (let z : k ≡ n = omega arith in z)

abbrev pub group_at : List ℕ → ℕ → Bool
group_at l j = leb (byte_at l (holds_at + j)) 63

pub held_more : (l : List ℕ) (k s : ℕ) → s ≡ held l k → s + open_in l k ≡ held l (k + 1)
unfolding held
held_more l k s e = rw (add-one k, e)

module _ (l : List ℕ) (h : ℕ) where
  pub groups-over : 512 < h → false ≡ groups_fit l h
  unfolding groups_fit
  groups-over a = simp (lt-leb h 512 a)

  pub groups-is : h ≤ 512 → (j : ℕ) (ok : Bool) → j ≤ h → h ≤ j → ok ≡ each (group_at l) 0 j → ok ≡ groups_fit l h
  unfolding groups_fit
  groups-is a j ok b d e = let z : j ≡ h = omega arith in e ∙ rw z (simp (le-leb h 512 a))

-- ── states ──
module _ (c l : List ℕ) (n r h : ℕ) where
  pub running-1 : n < 1 → false ≡ running_fits c l n r h
  unfolding running_fits
  running-1 a = simp (lt-leb 1 n a)

  module _ (a : 1 ≤ n) where
    pub running-2 : 32 < n → false ≡ running_fits c l n r h
    unfolding running_fits
    running-2 b = simp (le-leb 1 n a, lt-leb n 32 b)

    module _ (b : n ≤ 32) where
      pub running-3 : 256 < r → false ≡ running_fits c l n r h
      unfolding running_fits
      running-3 d = simp (le-leb 1 n a, le-leb n 32 b, lt-leb r 256 d)

      module _ (d : r ≤ 256) where
        pub running-4 : (byte_at l 32 ≡ 0 → ⊥) → false ≡ running_fits c l n r h
        unfolding running_fits
        running-4 e = simp (le-leb 1 n a, le-leb n 32 b, le-leb r 256 d, ne_eqb (byte_at l 32) 0 e)

        module _ (e : byte_at l 32 ≡ 0) where
          pub running-5 : (held l n ≡ h → ⊥) → false ≡ running_fits c l n r h
          unfolding running_fits
          running-5 f = simp (le-leb 1 n a, le-leb n 32 b, le-leb r 256 d, eq-eqb (byte_at l 32) 0 e, ne_eqb (held l n) h f)

          module _ (f : held l n ≡ h) where
            pub running-6 : groups_fit l h ≡ false → false ≡ running_fits c l n r h
            unfolding running_fits
            running-6 g = simp (le-leb 1 n a, le-leb n 32 b, le-leb r 256 d, eq-eqb (byte_at l 32) 0 e, eq-eqb (held l n) h f, g)

            module _ (g : groups_fit l h ≡ true) where
              pub running-7 : each (record_fits c l r) 0 r ≡ false → false ≡ running_fits c l n r h
              unfolding running_fits
              running-7 i = simp (le-leb 1 n a, le-leb n 32 b, le-leb r 256 d, eq-eqb (byte_at l 32) 0 e, eq-eqb (held l n) h f, g, i)

              pub running-8 : each (record_fits c l r) 0 r ≡ true → each (frame_fits c l r n) 0 n ≡ running_fits c l n r h
              unfolding running_fits
              running-8 i = simp (le-leb 1 n a, le-leb n 32 b, le-leb r 256 d, eq-eqb (byte_at l 32) 0 e, eq-eqb (held l n) h f, g, i)

module _ (c l : List ℕ) where
  pub plain-running : byte_at l 0 ≡ 0 → running_fits c l (byte_at l 2) (half_at l 4) (half_at l 6) ≡ plain_fits c l
  unfolding plain_fits
  plain-running a = simp (eq-eqb (byte_at l 0) 0 a)

  module _ (a : (byte_at l 0 ≡ 0 → ⊥)) where
    pub plain-releasing : byte_at l 0 ≡ 1 → is_condition (byte_at l 1) ≡ true → groups_fit l (half_at l 6) ≡ plain_fits c l
    unfolding plain_fits
    plain-releasing b e = simp (ne_eqb (byte_at l 0) 0 a, eq-eqb (byte_at l 0) 1 b, e)

    pub plain_other : byte_at l 0 ≡ 1 → is_condition (byte_at l 1) ≡ false → false ≡ plain_fits c l
    unfolding plain_fits
    plain_other b e = simp (ne_eqb (byte_at l 0) 0 a, eq-eqb (byte_at l 0) 1 b, e)

    module _ (b : (byte_at l 0 ≡ 1 → ⊥)) where
      pub plain-ended : byte_at l 0 ≡ 2 → (eqb (byte_at l 1) 0 || is_condition (byte_at l 1)) ≡ plain_fits c l
      unfolding plain_fits
      plain-ended d = simp (ne_eqb (byte_at l 0) 0 a, ne_eqb (byte_at l 0) 1 b, eq-eqb (byte_at l 0) 2 d)

      pub plain-none : (byte_at l 0 ≡ 2 → ⊥) → false ≡ plain_fits c l
      unfolding plain_fits
      plain-none d = simp (ne_eqb (byte_at l 0) 0 a, ne_eqb (byte_at l 0) 1 b, ne_eqb (byte_at l 0) 2 d)
