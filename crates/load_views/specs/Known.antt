-- What is known of each record of a macro whose records read.
use Rattle.std.specs.Prelude.{◌≡◌, refl, Bool, ◌||◌, List, ℕ, zero, suc, ◌+◌, ◌-◌, ◌≤◌, ◌<◌, eqb, ltb, length}
use Rattle.std.proofs.Common.{sym, ◌∙◌, true≢false, sub-one, zero-add, arith}
use Rattle.std.proofs.Math.Bool.{true, false, not}
use Rattle.std.proofs.Math.Dec.{eqb-suc-zero}
use borrow.Author.Tests.{ltb-true, ltb-false, lt-ltb, le-ltb, eqb-true, ne_eqb, not-true, not-false}
use Rattle.words.specs.Numbers.{byte_at, half_at}
use Rattle.values.specs.Types.{ty_byte}
use Rattle.values.specs.Ends.{refusal, accepted, refused}
use Rattle.bytecode.specs.Macro.{Macro, read_macro}
use Rattle.load_places.specs.Search.{first, Clean}
use Rattle.load_places.specs.Records.{classes, bodies, count, shapes, class_place, body_place, first_of, shape_place, no_mark, no_type, bad_types, bad_head, bad_class, rises}
use Rattle.load_places.specs.Records.{body_fits, bad_body, bad_code, shape_fits, bad_shape, Read, reads, unread, among, read_records}
use Rattle.load_places.specs.Index.{Well}
use Rattle.logic.specs.Tests.{tests, by-test, past, held, neither}
use Rattle.load_views.specs.View.{ty_on, Typed, view, params_at, result_at, cells_at, fields_at}
use Rattle.load_views.specs.Reading.{told, macro-told, none_first}

-- ── where the records read ──
pub clean : (f : ℕ → Bool) (n : ℕ) → n ≤ first f n → Clean f n
clean f n h k b = none_first f n 0 (rw (zero-add n) h) k (omega arith) (omega arith)

among_reads : (r n k : ℕ) (rest : Read) → among r n k rest ≡ reads → (n ≤ r) × (rest ≡ reads)
among_reads r n k rest e =
    by-test (ltb r n) (λ h. let z : unread (k + r) ≡ reads = rw h at e in absurd (let y : ◌≡◌ {A = ℕ} 0 1 = cc in omega arith))
    (λ h. (omega tests, rw h at e))

pub reads-well : (l : List ℕ) → read_records l ≡ reads → Well l
unfolding read_records
reads-well l e =
    by-test (bad_head l) (λ h. let z : unread 0 ≡ reads = rw h at e in absurd (let y : ◌≡◌ {A = ℕ} 0 1 = cc in omega arith))
    (λ h. let c = among_reads (first (bad_class l) (classes l)) (classes l) 1 _ (rw h at e) in
    let b = among_reads (first (bad_body l) (bodies l)) (bodies l) (1 + classes l) _ c.1 in
    let i = among_reads (first (bad_code l) (count l)) (count l) (1 + classes l + bodies l) _ b.1 in
    let s = among_reads (first (bad_shape l) (shapes l)) (shapes l) (1 + classes l + bodies l + count l) _ i.1 in
    record {
      head = h;
      of-classes = clean (bad_class l) (classes l) c.0;
      of-bodies = clean (bad_body l) (bodies l) b.0;
      of_code = clean (bad_code l) (count l) i.0;
      of-shapes = clean (bad_shape l) (shapes l) s.0;
    })

pub reads-view : (l : List ℕ) (m : Macro) → read_macro l ≡ accepted m → (view l ≡ m) × (read_records l ≡ reads)
reads-view l m e = go (read_records l) refl (sym (macro-told l) ∙ e)
  where
    go : (r : Read) → read_records l ≡ r → told l (read_records l) ≡ accepted m → (view l ≡ m) × (read_records l ≡ reads)
    go reads q t = (let z : accepted (view l) ≡ accepted m = rw q at t in cc, q)
    go (unread k) q t = let z : refused (refusal 8 k) ≡ accepted m = rw q at t in absurd (let y : ◌≡◌ {A = ℕ} 0 1 = cc in omega arith)

-- ── types ──
pub type-byte : (c t : ℕ) → no_type c t ≡ false → ty_byte (ty_on t) ≡ t
unfolding no_type ty_on
type-byte c zero e = absurd (true≢false e)
type-byte c (suc zero) e = refl
type-byte c (suc (suc zero)) e = refl
type-byte c (suc (suc (suc zero))) e = refl
type-byte c (suc (suc (suc (suc n)))) e = high (suc (suc (suc (suc n)))) (omega arith) e
  where
    high : (t : ℕ) → 3 < t → no_type c t ≡ false → ty_byte (ty_on t) ≡ t
    high t h e =
        rw (ne_eqb t 1 (omega arith), ne_eqb t 2 (omega arith), ne_eqb t 3 (omega arith))
        (by-test (ltb t 16)
        (λ q. absurd (true≢false (rw (q, le-ltb t 1 (omega arith), lt-ltb 3 t h) at e)))
        (λ q. omega tests))

typed : (l : List ℕ) (q n : ℕ) → bad_types l q n ≡ false → Typed l q n
unfolding bad_types
typed l q n e k h = type-byte (classes l) (byte_at l (q + k)) (clean (λ k. no_type (classes l) (byte_at l (q + k))) n (omega tests) k h)

-- ── records ──
pub record KnownBody (l : List ℕ) (k : ℕ) : Type 0 where
  pub risen : rises k (first_of l (k - 1)) (first_of l k) ≡ true
  pub below : first_of l k < count l
  pub fewer : params_at l k ≤ cells_at l k
  pub result : eqb (result_at l k) 0 || not (no_type (classes l) (result_at l k)) ≡ true
  pub cells : Typed l (body_place l k + 7) (cells_at l k)

module _ (l : List ℕ) (w : Well l) where
  pub some-body : 0 < bodies l
  unfolding bad_head
  some-body =
      let h = past false (no_mark l 0 8 72 68) _ w.head in
      let b = neither (ltb 16 (classes l)) _ h.1 in
      let c = neither (ltb (bodies l) 1) _ b.1 in
      omega (arith, ltb-false (bodies l) 1 c.0)

  pub known-class : (k : ℕ) → k < classes l → Typed l (class_place l k + 3) (fields_at l k)
  unfolding bad_class
  known-class k h =
      let p = class_place l k in
      let a = past false (no_mark l p 3 67 76) _ (w.of-classes k h) in
      let b = past false (ltb (byte_at l (p + 2)) 1) _ a.1 in
      let c = past false (ltb 8 (byte_at l (p + 2))) _ b.1 in
      let d = past false (ltb (length l) (p + 3 + byte_at l (p + 2))) _ c.1 in
      typed l (p + 3) (byte_at l (p + 2)) d.1

  pub known-body : (k : ℕ) → k < bodies l → KnownBody l k
  unfolding bad_body body_fits
  known-body k h =
      let p = body_place l k in let n = byte_at l (p + 6) in
      let r = held false (body_fits l p) _ (w.of-bodies k h) in
      let a = past true (no_mark l p 7 66 68) _ r.0 in
      let b = past true (ltb (length l) (p + 7 + n)) _ a.1 in
      let c = held true (eqb (byte_at l (p + 5)) 0 || not (no_type (classes l) (byte_at l (p + 5)))) _ b.1 in
      let d = past true (ltb n (byte_at l (p + 4))) _ c.1 in
      let t = past true (bad_types l (p + 7) n) _ d.1 in
      record {
        risen = not-false _ r.1;
        below = ltb-true _ _ t.1;
        fewer = ltb-false _ _ d.0;
        result = c.0;
        cells = typed l (p + 7) n t.0;
      }

  pub known-result : (k : ℕ) → k < bodies l → eqb (result_at l k) 0 ≡ false → ty_byte (ty_on (result_at l k)) ≡ result_at l k
  known-result k h e = type-byte (classes l) _ (not-true _ (rw e at (known-body k h).result))

  pub known-shape : (k : ℕ) → k < shapes l
      → (half_at l (shape_place l k + 2) < count l) × Typed l (shape_place l k + 6) (byte_at l (shape_place l k + 5))
  unfolding bad_shape shape_fits
  known-shape k h =
      let p = shape_place l k in let n = byte_at l (p + 5) in
      let r = held false (shape_fits l p) _ (w.of-shapes k h) in
      let a = past true (no_mark l p 6 83 72) _ r.0 in
      let b = past true (ltb (length l) (p + 6 + n)) _ a.1 in
      let t = past true (bad_types l (p + 6) n) _ b.1 in
      (ltb-true _ _ t.1, typed l (p + 6) n t.0)

  -- the first addresses rise from 0
  pub first-zero : first_of l 0 ≡ 0
  unfolding rises
  first-zero = eqb-true (first_of l 0) 0 (known-body 0 some-body).risen

  pub first-rises : (k : ℕ) → suc k < bodies l → first_of l k < first_of l (suc k)
  unfolding rises
  first-rises k h = ltb-true _ _ (rw (eqb-suc-zero k, sub-one) at (known-body (suc k) h).risen)
