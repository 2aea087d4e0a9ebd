-- What is known of records that read: what the loading rules and the machine may cite of a macro's bytes.
use mathlib.Core.Path.{◌≡◌, refl, sym}
use mathlib.Core.Bool.{Bool, true, false, cond, not, ◌||◌}
use mathlib.Core.List.{List}
use Prim.Native.Nat.{ℕ, zero, suc, ◌+◌, ◌*◌, ◌-◌, ◌<◌, ◌≤◌}
use native.Mathlib.Omega.{arith}
use lib.ListN.{length}
use lib.Dec.{eqb}
use borrow.Author.Tests.{ltb-true, ltb-false, not-false}
use Rattle.words.specs.Numbers.{byte_at, half_at}
use Rattle.words.specs.Laws.{Bytes}
use Rattle.load_places.specs.Records.{classes, bodies, count, shapes, class_place, body_place, first_of, code_place, shape_place, no_mark, no_type, bad_types, bad_head}
use Rattle.load_places.specs.Records.{bad_class, rises, body_fits, bad_body, shape_fits, bad_shape}
use Rattle.load_places.specs.Index.{Well, Ready}
use Rattle.std.specs.Prelude.{Result, Ok}
use Rattle.load_records.specs.Answer.{Left}
use Rattle.load_records.proofs.Search.{first-clean}
use Rattle.logic.specs.Tests.{never, held, no_true, no_false, no-else, neither}
use Rattle.load_records.proofs.Tests.{room}

-- each of the n bytes from q is a type
abbrev pub Types : List ℕ → ℕ → ℕ → Type 0
Types l q n = (j : ℕ) → j < n → no_type (classes l) (byte_at l (q + j)) ≡ false

pub record Head (l : List ℕ) : Type 0 where
  pub bytes : 8 ≤ length l
  pub few-classes : classes l ≤ 16
  pub some-bodies : 1 ≤ bodies l
  pub few-bodies : bodies l ≤ 64

-- the record at p of a class, a body, a shape
pub record Class (l : List ℕ) (p : ℕ) : Type 0 where
  pub bytes : p + 3 + byte_at l (p + 2) ≤ length l
  pub some : 1 ≤ byte_at l (p + 2)
  pub few : byte_at l (p + 2) ≤ 8
  pub types : Types l (p + 3) (byte_at l (p + 2))

pub record Body (l : List ℕ) (p : ℕ) : Type 0 where
  pub bytes : p + 7 + byte_at l (p + 6) ≤ length l
  pub result : eqb (byte_at l (p + 5)) 0 || not (no_type (classes l) (byte_at l (p + 5))) ≡ true
  pub parameters : byte_at l (p + 4) ≤ byte_at l (p + 6)
  pub types : Types l (p + 7) (byte_at l (p + 6))
  pub address : half_at l (p + 2) < count l

pub record Shape (l : List ℕ) (p : ℕ) : Type 0 where
  pub bytes : p + 6 + byte_at l (p + 5) ≤ length l
  pub types : Types l (p + 6) (byte_at l (p + 5))
  pub address : half_at l (p + 2) < count l

-- ── from the tests ──
types-good : (l : List ℕ) (q n : ℕ) → bad_types l q n ≡ false → Types l q n
unfolding bad_types
types-good l q n e = first-clean _ n (ltb-false _ _ e)

pub head-known : (l : List ℕ) → bad_head l ≡ false → Head l
unfolding bad_head
head-known l e =
    let a = no_true _ _ e in
    let b = neither _ _ a.1 in
    let c = neither _ _ b.1 in
    record {
      bytes = room l 0 8 72 68 a.0;
      few-classes = ltb-false _ _ b.0;
      some-bodies = ltb-false _ _ c.0;
      few-bodies = ltb-false _ _ c.1;
    }

pub class-known : (l : List ℕ) (k : ℕ) → bad_class l k ≡ false → Class l (class_place l k)
unfolding bad_class
class-known l k e =
    let a = no_true (no_mark l (class_place l k) 3 67 76) _ e in
    let b = no_true _ _ a.1 in
    let c = no_true _ _ b.1 in
    let d = no_true _ _ c.1 in
    record { bytes = ltb-false _ _ d.0; some = ltb-false _ _ b.0; few = ltb-false _ _ c.0; types = types-good l (class_place l k + 3) _ d.1 }

pub body-known : (l : List ℕ) (p : ℕ) → body_fits l p ≡ true → Body l p
unfolding body_fits
body-known l p e =
    let a = no_false (no_mark l p 7 66 68) _ e in
    let b = no_false _ _ a.1 in
    let c = no-else _ _ b.1 in
    let d = no_false _ _ c.1 in
    let f = no_false _ _ d.1 in
    record {
      bytes = ltb-false _ _ b.0;
      result = c.0;
      parameters = ltb-false _ _ d.0;
      types = types-good l (p + 7) _ f.0;
      address = ltb-true _ _ f.1;
    }

pub shape-known : (l : List ℕ) (p : ℕ) → shape_fits l p ≡ true → Shape l p
unfolding shape_fits
shape-known l p e =
    let a = no_false (no_mark l p 6 83 72) _ e in
    let b = no_false _ _ a.1 in
    let c = no_false _ _ b.1 in
    record { bytes = ltb-false _ _ b.0; types = types-good l (p + 6) _ c.0; address = ltb-true _ _ c.1 }

-- ── of a macro whose records read ──
kept : (a b : Bool) → cond a (not b) true ≡ false → (a ≡ true) × (b ≡ true)
kept true b e = (refl, not-false b e)
kept false b e = never (sym e)

module _ (l : List ℕ) (W : Well l) where
  pub head_of : Head l
  head_of = head-known l W.head

  pub class-of : (k : ℕ) → k < classes l → Class l (class_place l k)
  class-of k h = class-known l k (W.of-classes k h)

  pub body_of : (k : ℕ) → k < bodies l → Body l (body_place l k)
  unfolding bad_body
  body_of k h = body-known l (body_place l k) (kept _ (rises k (first_of l (k - 1)) (first_of l k)) (W.of-bodies k h)).0

  pub code_of : (i : ℕ) → i < count l → code_place l i + 8 ≤ length l
  code_of i h = room l (code_place l i) 8 73 78 (W.of_code i h)

  pub shape_of : (k : ℕ) → k < shapes l → Shape l (shape_place l k)
  unfolding bad_shape
  shape_of k h = shape-known l (shape_place l k) (held false (shape_fits l (shape_place l k)) _ (W.of-shapes k h)).0

-- ── how far the places go ──
module _ (l : List ℕ) (B : Bytes l) where
  class-high : (k : ℕ) → class_place l k ≤ 8 + 258 * k
  unfolding class_place
  class-high zero = omega arith
  class-high (suc k) = omega (arith, class-high k, B (class_place l k + 2))

  -- within a u32, and so within an index
  pub class-below : (k : ℕ) → k ≤ classes l → class_place l k < 4294967296
  class-below k h = omega (arith, class-high k, B 2)

-- ── for a caller of scan that was told where the instructions begin ──
pub ready : (l ix bx cx : List ℕ) (r : Result ℕ ℕ) (base : ℕ) → r ≡ Ok base → Left l ix bx cx r → Ready l ix bx cx base
ready l ix bx cx r base e R = rw e at R
