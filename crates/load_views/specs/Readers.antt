-- Each record's reader, at a place: it reads what stands there exactly where the test of that place passes.
use Rattle.std.specs.Prelude.{◌≡◌, false, ◌||◌, List, eqb, ltb, length, drop}
use Rattle.std.proofs.Math.Path.{refl}
use Rattle.std.proofs.Common.{sym, ap, ◌∙◌, true≢false, sub-one, add_assoc, length-drop, drop_of_length-le, drop-cons}
use Rattle.std.proofs.Math.Bool.{not, not-not}
use Rattle.std.proofs.Math.Option.{Option, none, some}
use Prim.Native.Nat.{ℕ, zero, suc, ◌+◌, ◌-◌, ◌≤◌, ◌<◌}
use Rattle.std.proofs.Math.Nat.{add-zero, zero-add, add-suc, suc-add}
use native.Mathlib.Omega.{arith}
use Rattle.std.proofs.Math.Dec.{eqb-suc-zero}
use Rattle.std.proofs.Math.Seq.{get_or-drop, drop-drop}
use borrow.Author.Tests.{lt-ltb, le-ltb, le-leb, lt-leb, ne_eqb}
use Rattle.logic.specs.Choice.{If◌then◌else◌}
use Rattle.words.specs.Numbers.{byte_at, half_at}
use Rattle.words.specs.Laws.{Size, one, two, four, number_at, same_number}
use Rattle.values.specs.Types.{Ty}
use Rattle.bytecode.specs.Macro.{Code, Cut, cut, marked, ty_of_byte, read_types, read_class, read_result, rises as rises_after, read_body, read_code, follows, read_shape}
use Rattle.load_places.specs.Search.{seek}
use Rattle.load_places.specs.Records.{classes, count, class_place, body_place, first_of, code_place, shape_place, address_of, least, no_mark, no_type, bad_types, bad_class, rises}
use Rattle.load_places.specs.Records.{body_fits, bad_body, bad_code, shape_fits, bad_shape}
use Rattle.load_views.specs.Lists.{span, backs, reverse-span}
use Rattle.logic.specs.Tests.{tests, by-test, leb-not, if-same, if-not}
use Rattle.logic.specs.OptionLaws.{keep-if, alike-ways}
use Rattle.load_views.specs.View.{ty_on, types_on, result_on, class_on, body_on, code_on, placed_on}

-- ── types ──
pub type_reads : (c t : ℕ) → ty_of_byte c t ≡ (If no_type c t then none else some (ty_on t))
unfolding ty_of_byte no_type ty_on
type_reads c zero = refl
type_reads c (suc zero) = refl
type_reads c (suc (suc zero)) = refl
type_reads c (suc (suc (suc zero))) = refl
type_reads c (suc (suc (suc (suc n)))) = high (suc (suc (suc (suc n)))) (omega arith)
  where
    high : (t : ℕ) → 3 < t → ty_of_byte c t ≡ (If no_type c t then none else some (ty_on t))
    high t h =
        rw (ne_eqb t 1 (omega arith), ne_eqb t 2 (omega arith), ne_eqb t 3 (omega arith))
        (by-test (ltb t 16)
        (λ p. rw (p, lt-leb 16 t (omega tests), le-ltb t 1 (omega arith), lt-ltb 3 t h))
        (λ p. rw (p, le-leb 16 t (omega tests), leb-not c (t - 16)) (sym (if-not (ltb (t - 16) c) _ _))))

-- n types from q + j on
module _ (l : List ℕ) (c q : ℕ) where
  abbrev types_from : ℕ → ℕ → Option (Cut (List Ty))
  types_from n j =
      If ltb (length l) (q + (j + n)) then none else
      If ltb (seek (λ k. no_type c (byte_at l (q + k))) n j) (j + n) then none else
      some (cut (span (λ k. ty_on (byte_at l (q + k))) j n) (drop (q + (j + n)) l))

  types-read : (n j : ℕ) → q + j ≤ length l → read_types c n (drop (q + j) l) ≡ types_from n j
  unfolding read_types seek span
  types-read zero j h = rw (add-zero j, le-ltb (length l) (q + j) h, le-ltb j j (omega arith))
  types-read (suc n) j h =
      by-test (ltb (q + j) (length l))
      (λ e. rw (drop-cons l (q + j) 0 (omega tests), type_reads c (byte_at l (q + j)))
      (by-test (no_type c (byte_at l (q + j)))
      (λ b. rw (b, lt-ltb j (j + suc n) (omega arith)) (sym (if-same (ltb (length l) (q + (j + suc n))) none)))
      (λ b. rw (b, ← add-suc q j, types-read n (suc j) (omega tests), suc-add j n, ← add-suc j n) (simp keep-if))))
      (λ e. rw (drop_of_length-le l {i = q + j} (omega tests), lt-ltb (length l) (q + (j + suc n)) (omega tests)))

module _ (l : List ℕ) where
  types-at : (q n : ℕ) → q ≤ length l
      → read_types (classes l) n (drop q l)
      ≡ (If ltb (length l) (q + n) then none else If bad_types l q n then none else some (cut (types_on l q n) (drop (q + n) l)))
  unfolding bad_types
  types-at q n h = rw (add-zero q, zero-add n) at (types-read l (classes l) q n 0 (omega arith))

  -- ── marks and numbers ──
  pub marked-at : (p n x y : ℕ) → 0 < n → marked x y n (drop p l) ≡ not (no_mark l p n x y)
  unfolding no_mark
  marked-at p n x y h =
      rw (length-drop p l, get_or-drop p l 0 0, get_or-drop p l 1 0, add-zero p)
      (by-test (ltb (length l) (p + n))
      (λ e. rw (e, lt-leb n (length l - p) (omega tests)))
      (λ e. rw (e, le-leb n (length l - p) (omega tests)) (sym (not-not _))))

  pub mark-room : (p n x y : ℕ) → no_mark l p n x y ≡ false → p + n ≤ length l
  unfolding no_mark
  mark-room p n x y e = by-test (ltb (length l) (p + n)) (λ h. absurd (true≢false (rw h at e))) (λ h. omega tests)

  number-drop : (s : Size) (p i : ℕ) → number_at s (drop p l) i ≡ number_at s l (p + i)
  number-drop s p i = same_number s (drop p l) l i (p + i) (λ k h. get_or-drop p l (i + k) 0 ∙ ap (λ x. byte_at l x) (sym (add_assoc p i k)))

  -- ── the records ──
  pub class-reads : (k : ℕ) (before : List (List Ty))
      → read_class (classes l) before (drop (class_place l k) l)
      ≡ (If bad_class l k then none else some (cut (class_on l (class_place l k)) (drop (class_place l (suc k)) l)))
  unfolding read_class bad_class class_place
  class-reads k before =
      let p = class_place l k in let n = byte_at l (p + 2) in
      rw (marked-at p 3 67 76 (omega arith), number-drop one p 2, drop-drop 3 p l, leb-not 1 n, leb-not n 8, bad_class)
      (by-test (no_mark l p 3 67 76) (λ e. rw e)
      (λ e. rw (e, types-at (p + 3) n (mark-room p 3 67 76 e))
      (by-test (ltb n 1) (λ h. rw h) (λ h. rw h
      (by-test (ltb 8 n) (λ h. rw h) (λ h. rw h
      (by-test (ltb (length l) (p + 3 + n)) (λ h. rw h) (λ h. rw h))))))))

  result-reads : (t : ℕ) → read_result (classes l) t ≡ (If eqb t 0 || not (no_type (classes l) t) then some (result_on t) else none)
  unfolding read_result result_on
  result-reads t =
      rw (type_reads (classes l) t)
      (by-test (eqb t 0) (λ h. rw h) (λ h. rw h (by-test (no_type (classes l) t) (λ e. rw e) (λ e. rw e))))

  rises-on : (k a : ℕ) → rises_after (backs (λ j. body_on l (body_place l j)) k) a ≡ rises k (first_of l (k - 1)) a
  unfolding backs rises
  rises-on zero a = refl
  rises-on (suc k) a = rw (eqb-suc-zero k, sub-one)

  pub body_reads : (k : ℕ)
      → read_body (classes l) (count l) (backs (λ j. body_on l (body_place l j)) k) (drop (body_place l k) l)
      ≡ (If bad_body l k then none else some (cut (body_on l (body_place l k)) (drop (body_place l (suc k)) l)))
  unfolding read_body bad_body body_fits body_place
  body_reads k =
      let p = body_place l k in let n = byte_at l (p + 6) in
      rw (marked-at p 7 66 68 (omega arith), number-drop two p 2, number-drop one p 4, number-drop one p 5, number-drop one p 6, drop-drop 7 p l)
      (rw (rises-on k (first_of l k), leb-not (byte_at l (p + 4)) n, result-reads (byte_at l (p + 5)), bad_body, body_fits)
      (by-test (no_mark l p 7 66 68) (λ e. rw e)
      (λ e. rw (e, types-at (p + 7) n (mark-room p 7 66 68 e))
      (by-test (ltb (length l) (p + 7 + n)) (λ h. rw h (simp alike-ways))
      (λ h. rw h (by-test (eqb (byte_at l (p + 5)) 0 || not (no_type (classes l) (byte_at l (p + 5))))
      (λ h. rw h (by-test (ltb n (byte_at l (p + 4))) (λ h. rw h (simp alike-ways))
      (λ h. rw h (by-test (bad_types l (p + 7) n) (λ h. rw h (simp alike-ways))
      (λ h. rw h (by-test (ltb (half_at l (p + 2)) (count l))
      (λ h. rw h (by-test (rises k (first_of l (k - 1)) (first_of l k)) (λ h. rw h) (λ h. rw h)))
      (λ h. rw h (simp alike-ways))))))))
      (λ h. rw h (simp alike-ways))))))))

  pub code_reads : (i : ℕ) (before : List Code)
      → read_code before (drop (code_place l i) l)
      ≡ (If bad_code l i then none else some (cut (code_on l (code_place l i)) (drop (code_place l (suc i)) l)))
  unfolding read_code
  code_reads i before =
      let p = code_place l i in
      let e : code_place l (suc i) ≡ p + 8 = omega arith in
      rw (marked-at p 8 73 78 (omega arith), number-drop one p 2, number-drop one p 3, number-drop four p 4, drop-drop 8 p l, e)
      (if-not (no_mark l p 8 73 78) _ _)

  follows_on : (k a : ℕ) → follows (backs (λ j. placed_on l (shape_place l j)) k) a ≡ not (ltb a (least l k))
  unfolding backs least
  follows_on zero a = rw (le-ltb a 0 (omega arith))
  follows_on (suc k) a = by-test (ltb (address_of l k) a) (λ h. rw (h, le-ltb a (suc (address_of l k)) (omega tests))) (λ h. rw (h, lt-ltb a (suc (address_of l k)) (omega tests)))

  pub shape-reads : (k : ℕ)
      → read_shape (classes l) (count l) (backs (λ j. placed_on l (shape_place l j)) k) (drop (shape_place l k) l)
      ≡ (If bad_shape l k then none else some (cut (placed_on l (shape_place l k)) (drop (shape_place l (suc k)) l)))
  unfolding read_shape bad_shape shape_fits shape_place
  shape-reads k =
      let p = shape_place l k in let n = byte_at l (p + 5) in
      rw (marked-at p 6 83 72 (omega arith), number-drop two p 2, number-drop one p 4, number-drop one p 5, drop-drop 6 p l)
      (rw (follows_on k (address_of l k), bad_shape, shape_fits)
      (by-test (no_mark l p 6 83 72) (λ e. rw e)
      (λ e. rw (e, types-at (p + 6) n (mark-room p 6 83 72 e))
      (by-test (ltb (length l) (p + 6 + n)) (λ h. rw h (simp alike-ways))
      (λ h. rw h (by-test (bad_types l (p + 6) n) (λ h. rw h (simp alike-ways))
      (λ h. rw h (by-test (ltb (half_at l (p + 2)) (count l))
      (λ h. rw (h, reverse-span (λ k. ty_on (byte_at l (p + 6 + k))) n) (if-not (ltb (address_of l k) (least l k)) _ _))
      (λ h. rw h)))))))))
