-- The record pass as a whole: each way out of it is what the definition says, and the last leaves the indexes ready.
use mathlib.Core.Path.{◌≡◌, refl, sym, ap, subst, ◌∙◌}
use mathlib.Core.Bool.{Bool, false}
use mathlib.Core.List.{List}
use Prim.Native.Nat.{ℕ, ◌+◌, ◌*◌, ◌<◌}
use native.Mathlib.Omega.{arith}
use lib.Dec.{ltb}
use lib.ListN.{length, get_or}
use borrow.Author.Tests.{lt-ltb, le-ltb}
use Rattle.load_places.specs.Search.{first}
use Rattle.load_places.specs.Records.{classes, bodies, count, shapes, class_place, body_place, code_base, shape_place, bad_head, bad_class, bad_body, bad_code, bad_shape, unread, read_end, read_records}
use Rattle.load_places.specs.Index.{Group, Indexed, Placed, Well, Ready}
use Rattle.std.specs.Prelude.{Result, Ok, Err, MatchResult, IsErrAnd}
use Rattle.load_records.specs.Answer.{Meets, Passes, Counts}
use Rattle.load_records.proofs.Search.{first-clean}

-- ── where a pass that met no bad one ends, the next begins ──
pub body-start : (l : List ℕ) {c p : ℕ} → Passes (bad_class l) (class_place l) c (Ok p) → c ≡ classes l → p ≡ body_place l 0
unfolding body_place
body-start l P e = P.stands ∙ ap (class_place l) e

pub code-start : (l : List ℕ) {m p : ℕ} → Passes (bad_body l) (body_place l) m (Ok p) → m ≡ bodies l → p ≡ code_base l
code-start l P e = P.stands ∙ ap (body_place l) e

pub shape-start : (l : List ℕ) (n base : ℕ) → n ≡ count l → base ≡ code_base l → base + 8 * n ≡ shape_place l 0
unfolding shape_place
shape-start l n base e d = rw (d, e)

-- ── what a `?` tells after a `map_err`, and what it hands on ──
pub told-ok : {A : Type 0} (r : Result A ℕ) (y : A) → MatchResult r (λ x. ◌≡◌ {A = Result A ℕ} (Ok y) (Ok x)) (λ e. ⊥) → r ≡ Ok y
told-ok (Ok x) y h = sym h
told-ok (Err e) y h = absurd h

pub told-err : {A : Type 0} (r : Result A ℕ) (w : ℕ) (P : ℕ → Type 0) → MatchResult r (λ x. ◌≡◌ {A = Result A ℕ} (Err w) (Ok x)) P → (k : ℕ) × (r ≡ Err k) × P k
told-err (Ok x) w P h = absurd (cc)
told-err (Err k) w P h = (k, refl, h)

pub handed-on : {A : Type 0} (r : Result A ℕ) (w : ℕ) → IsErrAnd r (λ y. y ≡ w) → r ≡ Err w
handed-on (Ok x) w h = absurd h
handed-on (Err k) w h = ap Err h

-- the head's counts, as they are read
pub counted : (l : List ℕ) {c m n t : ℕ} → c ≡ classes l → m ≡ bodies l → n ≡ count l → t ≡ shapes l → Counts l c m n t
counted l e f g h = record { of-classes = e; of-bodies = f; of_code = g; of-shapes = h }

-- none of n is bad
good : (bad : ℕ → Bool) {n : ℕ} → n ≡ first bad n → ltb (first bad n) n ≡ false
good bad e = le-ltb _ _ (omega (arith, e))

-- ── the ways out, in order ──
module _ {l : List ℕ} {c m n t : ℕ} (h : bad_head l ≡ false) (N : Counts l c m n t) where
  pub whole-classes : {k : ℕ} → Passes (bad_class l) (class_place l) c (Err k) → unread (1 + k) ≡ read_records l
  unfolding read_records
  whole-classes {k} C = rw (h, ← N.of-classes, ← C.upto.1, lt-ltb k c C.upto.0)

  module _ {p : ℕ} (C : Passes (bad_class l) (class_place l) c (Ok p)) where
    pub whole-bodies : {k : ℕ} → Passes (bad_body l) (body_place l) m (Err k) → unread (1 + c + k) ≡ read_records l
    unfolding read_records
    whole-bodies {k} B = rw (h, ← N.of-classes, good (bad_class l) C.upto, ← N.of-bodies, ← B.upto.1, lt-ltb k m B.upto.0)

    module _ {q : ℕ} (B : Passes (bad_body l) (body_place l) m (Ok q)) where
      pub whole_code : {k : ℕ} → Meets {A = Unit} (bad_code l) n (Err k) → unread (1 + c + m + k) ≡ read_records l
      unfolding read_records
      whole_code {k} I =
          rw (h, ← N.of-classes, good (bad_class l) C.upto, ← N.of-bodies, good (bad_body l) B.upto, ← N.of_code, ← I.1, lt-ltb k n I.0)

      module _ (I : n ≡ first (bad_code l) n) where
        pub whole-shapes : {k : ℕ} → Passes (bad_shape l) (shape_place l) t (Err k) → unread (1 + c + m + n + k) ≡ read_records l
        unfolding read_records
        whole-shapes {k} S =
            rw (
              h,
              ← N.of-classes,
              good (bad_class l) C.upto,
              ← N.of-bodies,
              good (bad_body l) B.upto,
              ← N.of_code,
              good (bad_code l) I,
              ← N.of-shapes,
              ← S.upto.1,
              lt-ltb k t S.upto.0,
            )

        module _ {r : ℕ} (S : Passes (bad_shape l) (shape_place l) t (Ok r)) where
          pub whole-end : read_end l r (1 + c + m + n + t) ≡ read_records l
          unfolding read_records
          whole-end =
              rw (
                S.stands,
                h,
                ← N.of-classes,
                good (bad_class l) C.upto,
                ← N.of-bodies,
                good (bad_body l) B.upto,
                ← N.of_code,
                good (bad_code l) I,
                ← N.of-shapes,
                good (bad_shape l) S.upto,
              )

          whole-well : Well l
          whole-well = record {
            head = h;
            of-classes = first-clean _ _ (rw (← N.of-classes) (omega (arith, C.upto)));
            of-bodies = first-clean _ _ (rw (← N.of-bodies) (omega (arith, B.upto)));
            of_code = first-clean _ _ (rw (← N.of_code) (omega (arith, I)));
            of-shapes = first-clean _ _ (rw (← N.of-shapes) (omega (arith, S.upto)));
          }

          pub whole_ready : (ix bx cx : List ℕ) → q < 65536 → Indexed l ix n t → Placed (body_place l) bx m → Placed (class_place l) cx c → length l ≡ r + 2
              → Ready l ix bx cx q
          whole_ready ix bx cx small X Y Z z = record {
            well = whole-well;
            ended = ap (λ (p : ℕ). p + 2) (ap (shape_place l) (sym N.of-shapes) ∙ sym S.stands) ∙ sym z;
            based = code-start l B N.of-bodies;
            small = small;
            indexed = λ x g. subst (λ (j : ℕ). Group l j x (get_or ix x 0)) N.of-shapes (X x (rw N.of_code g));
            of-bodies = λ j g. Y j (omega (arith, N.of-bodies));
            of-classes = λ j g. Z j (omega (arith, N.of-classes));
          }
