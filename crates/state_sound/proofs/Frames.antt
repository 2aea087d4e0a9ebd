-- A record and an activation that are read are sound exactly where the tests of their bytes pass.
use Rattle.std.specs.Prelude.{◌≡◌, Bool, true, false, cond, ◌&&◌, ℕ, zero, suc, ◌+◌, ◌*◌, ◌≤◌, ◌<◌, eqb, leb, ltb, length, drop}
use Rattle.std.proofs.Math.Path.{refl}
use Rattle.std.proofs.Common.{sym, ap, ◌∙◌, zero-add, arith, length-drop, length-take-le}
use mathlib.Core.List.{List, [], ◌∷◌, ◌++◌, reverse, reverse_aux}
use Rattle.std.proofs.Math.ListN.{length-reverse}
use borrow.Author.Tests.{ltb-true, lt-ltb, le-ltb, lt-leb, le-leb, eqb-true}
use Rattle.logic.specs.Lists.{all}
use Rattle.words.specs.Numbers.{byte_at}
use Rattle.words.specs.Laws.{four, Bytes, number-below}
use Rattle.values.specs.Types.{Ty, ty_byte, sames}
use Rattle.values.specs.Values.{Value, ty_of, tys_of}
use Rattle.bytecode.specs.Macro.{Macro}
use Rattle.bytecode.specs.Instructions.{in_body}
use Rattle.bytecode.specs.Machine.{Made}
use Rattle.bytecode.specs.Sound.{sound_value, typed_cells, sound_record, sound_group, sound_activation}
use Rattle.bytecode.specs.State.{part, cell_types_at, cell_words_at, holds_at, operand_types_at, operand_words_at, state_length}
use Rattle.load_places.specs.Search.{tops, alike, Clean}
use Rattle.load_places.specs.Records.{classes, bodies, count, class_place, body_place, first_of}
use Rattle.load_places.specs.Rules.{body_of, end_of, broken}
use Rattle.load_places.specs.Index.{Well}
use Rattle.load_check.specs.Views.{span, backs, span-at, reverse-span, tests, by-test, view, body_on, bytes, alike-bytes, known-class, known-body, first-rises}
use Rattle.load_check.specs.Views.{body-at, in-body, stands as standing, before-end, class-at, Viewed}
use Rattle.state_sound.specs.Each.{each, same_test}
use Rattle.state_sound.specs.Fits.{frame_at, entry_at, body_in, depth_in, open_in, address_in, class_in, held, value_in, row_fits, record_fits, cells_fit, operands_in, taken_in, stands_in, stands}
use Rattle.state_sound.proofs.Rows.{cells-typed, Recorded, row-bytes, row-sound, row_typed}
use Rattle.state_sound.proofs.Decoded.{types_at, words_at, field_count, record_on, record_reads, cell_count, cells_read, cells_on, operands_read, operands_on, holds_on, frame_on, frame_reads}
use Rattle.logic.specs.Tests.{and-false, and-true, halves, both, no-else}

-- ── lists ──
pub all-span : {A : Type 0} (t : A → Bool) (f : ℕ → A) (n j : ℕ) → all t (span f j n) ≡ each (λ k. t (f k)) j n
unfolding all span each
all-span t f zero j = refl
all-span t f (suc n) j = ap (λ (b : Bool). t (f j) && b) (all-span t f n (suc j))

all-turned : {A : Type 0} (t : A → Bool) (xs ys : List A) → all t (reverse_aux xs ys) ≡ (all t xs && all t ys)
unfolding all
all-turned t [] ys = refl
all-turned t (x ∷ xs) ys = all-turned t xs (x ∷ ys) ∙ move (all t xs) (t x) (all t ys)
  where
    move : (a b c : Bool) → (a && (b && c)) ≡ ((b && a) && c)
    move true true c = refl
    move true false c = refl
    move false true c = refl
    move false false c = refl

pub all-reverse : {A : Type 0} (t : A → Bool) (xs : List A) → all t (reverse xs) ≡ all t xs
unfolding all
all-reverse t xs = all-turned t xs [] ∙ and-true (all t xs)

module _ (c l : List ℕ) (r : ℕ) where
  pub recorded : Recorded l r (span (record_on c l) 0 r)
  unfolding record_on
  recorded = record { made = record_on c l; each-is = λ k. span-at (record_on c l) r 0 k ∙ rw (zero-add k); class-is = λ k. refl }

module _ (c l : List ℕ) (W : Well c) (B : Bytes l) (r : ℕ) where
  abbrev rs : List Made
  rs = span (record_on c l) 0 r

  abbrev m : Macro
  m = view c

  narrow : (p i : ℕ) → words_at l p i < 4294967296
  narrow p i = number-below l B (p + 4 * i) four

  -- ── a record ──
  pub record-fits : (k : ℕ) → (record_reads c l k && sound_record m rs (record_on c l k)) ≡ record_fits c l r k
  unfolding record_fits row_fits record_on
  record-fits k =
      rw (class-at c (class_in l k))
      (by-test (ltb (class_in l k) (classes c))
      (λ p. rw p
      (row_typed c l r rs (recorded c l r) (types_at l (entry_at k + 36)) (words_at l (entry_at k + 4)) (types_at c (class_place c (class_in l k) + 3)) (field_count c l k) 0
      (λ i h. narrow (entry_at k + 4) (0 + i)) (λ i h. rw (zero-add i) (known-class c W (class_in l k) (ltb-true _ _ p) i h))))
      (λ p. rw p))

-- ── where an address stands ──
module _ (c : List ℕ) (W : Well c) where
  rising : (k j : ℕ) → j ≤ k → k < bodies c → first_of c j ≤ first_of c k
  rising zero j a h = let e : j ≡ 0 = omega arith in rw e (omega arith)
  rising (suc k) j a h =
      by-test (eqb j (suc k)) (λ e. rw (eqb-true j (suc k) e) (omega arith))
      (λ e. omega (tests, rising k j (omega tests) (omega arith), first-rises c W k h))

  end_below : (k j : ℕ) → k < j → j < bodies c → end_of c k ≤ first_of c j
  unfolding end_of
  end_below k j a h = rw (lt-ltb (k + 1) (bodies c) (omega arith)) (rising j (k + 1) (omega arith) h)

  -- an address of the code stands in its own body alone
  pub stands-in : (k i : ℕ) → k < bodies c → i < count c → in_body (view c) k i ≡ eqb k (body_of c i)
  stands-in k i h b =
      let s = standing c W i in
      let j = body_of c i in
      in-body c k i h ∙
      by-test (eqb k (body_of c i))
      (λ e. let q : k ≡ j = eqb-true k j e in rw (e, q, le-leb (first_of c j) i s.begun, lt-ltb i (end_of c j) (before-end c W j i s b)))
      (λ e. rw e (by-test (ltb k j)
      (λ p. let o : end_of c k ≤ i = omega (arith, end_below k j (ltb-true k j p) s.within, s.begun) in rw (le-ltb i (end_of c k) o) (and-false (leb (first_of c k) i)))
      (λ p. let d : suc j ≤ k = omega tests in
      let o : i < first_of c k = omega (arith, s.next (omega arith), rising k (suc j) d h) in rw (lt-leb (first_of c k) i o))))

  end-count : (k : ℕ) → k < bodies c → end_of c k ≤ count c
  unfolding end_of
  end-count k h =
      by-test (ltb (k + 1) (bodies c))
      (λ e. rw e (omega (arith, (known-body c W (k + 1) (ltb-true _ _ e)).below)))
      (λ e. rw e (omega arith))

  -- none stands behind the code
  pub stands-not : (k i : ℕ) → k < bodies c → count c ≤ i → in_body (view c) k i ≡ false
  stands-not k i h b = in-body c k i h ∙ rw (le-ltb i (end_of c k) (omega (arith, end-count k h))) (and-false (leb (first_of c k) i))

-- ── types as bytes ──
bytes-append : (ts us : List Ty) → bytes (ts ++ us) ≡ bytes ts ++ bytes us
bytes-append [] us = refl
bytes-append (t ∷ ts) us = ap (λ (x : List ℕ). ty_byte t ∷ x) (bytes-append ts us)

bytes-backs : (l : List ℕ) (q : ℕ) (f : ℕ → Value) (n : ℕ) → ((i : ℕ) → i < n → ty_byte (ty_of (f i)) ≡ byte_at l (q + i)) → bytes (tys_of (backs f n)) ≡ tops l q n
unfolding backs tops tys_of
bytes-backs l q f zero e = refl
bytes-backs l q f (suc n) e = rw (e n (omega arith), bytes-backs l q f n (λ i h. e i (omega arith)))

-- ── tests put together ──

pub choose : {a b : Bool} → a ≡ true → b ≡ true → cond a b false ≡ true
choose p q = rw (p, q)

spread : (c_r o_r I Sm Vo H G Tc A : Bool) → (o_r ≡ true → Sm ≡ A)
    → ((c_r && o_r) && (I && (Sm && (Vo && (H && (G && Tc)))))) ≡ ((c_r && Tc) && (cond I (cond H (cond A (o_r && Vo) false) false) false && G))
spread c_r o_r I Sm Vo H G Tc A q =
    same_test _ _
    (λ e.
    let a = halves (c_r && o_r) _ e in
    let b = halves c_r o_r a.0 in
    let i = halves I _ a.1 in
    let s = halves Sm _ i.1 in
    let v = halves Vo _ s.1 in
    let h = halves H _ v.1 in
    let g = halves G Tc h.1 in
    both (both b.0 g.1) (both (choose i.0 (choose h.0 (choose (sym (q b.1) ∙ s.0) (both b.1 v.0)))) g.0))
    (λ e.
    let a = halves (c_r && Tc) _ e in
    let b = halves c_r Tc a.0 in
    let d = halves (cond I (cond H (cond A (o_r && Vo) false) false) false) G a.1 in
    let i = no-else I _ d.0 in
    let h = no-else H _ i.1 in
    let t = no-else A _ h.1 in
    let o = halves o_r Vo t.1 in
    both (both b.0 o.0) (both i.0 (both (q o.0 ∙ t.0) (both o.1 (both h.0 (both d.1 b.1))))))

-- activation k, of a body that there is, with counts in range
pub record Rough (c l : List ℕ) (k : ℕ) : Type 0 where
  pub body : body_in l k < bodies c
  pub cells : cell_count c l k ≤ 32
  pub depth : depth_in l k ≤ 32
  pub open' : open_in l k ≤ 16
  pub room : held l k + open_in l k ≤ 512

-- ── an activation ──
module _ (c l : List ℕ) (seen : Viewed c (view c)) (clean : Clean (broken c) (count c)) (B : Bytes l) (long : length l ≡ state_length) (r n k : ℕ) (R : Rough c l k)
    (taken : List Ty) (T : bytes taken ≡ tops c (body_place c (body_in l (k + 1)) + 7) (taken_in c l n k)) where
  abbrev made : List Made
  made = span (record_on c l) 0 r

  holds-count : length (holds_on c l k) ≡ open_in l k
  holds-count =
      let a : length (part holds_at 512 l) ≡ 512 = length-take-le 512 (drop holds_at l) (rw (length-drop holds_at l) (omega arith)) in
      length-take-le (open_in l k) (drop (held l k) (part holds_at 512 l)) (rw (length-drop (held l k) (part holds_at 512 l), a) (omega (arith, R.room)))

  operand-types : operands_read c l k ≡ true → (s : List Ty) → sames (taken ++ tys_of (reverse (operands_on c l k))) s ≡ alike (operands_in c l n k) (bytes s)
  operand-types e s =
      let g : bytes (tys_of (reverse (operands_on c l k))) ≡ tops l (frame_at k + operand_types_at) (depth_in l k) =
      rw (reverse-span _ (depth_in l k)) (bytes-backs l (frame_at k + operand_types_at) _ (depth_in l k)
      (λ i h. rw (zero-add i) at (row-bytes (classes c) (types_at l (frame_at k + operand_types_at)) (words_at l (frame_at k + operand_words_at)) (depth_in l k) 0 e i h))) in
      sym (alike-bytes (taken ++ tys_of (reverse (operands_on c l k))) s) ∙ rw (bytes-append taken (tys_of (reverse (operands_on c l k))), T, g)

  cells-fit : (cells_read c l k && typed_cells made (cells_on c l k) (body_on c (body_place c (body_in l k))).cells) ≡ cells_fit c l r k
  unfolding row_fits
  cells-fit =
      rw (cells-typed (classes c) (types_at l (frame_at k + cell_types_at)) (words_at l (frame_at k + cell_words_at)) made (cell_count c l k) 0)
      (row_typed c l r made (recorded c l r) (types_at l (frame_at k + cell_types_at)) (words_at l (frame_at k + cell_words_at)) (types_at c (body_place c (body_in l k) + 7)) (cell_count c l k) 0
      (λ i h. number-below l B (frame_at k + cell_words_at + 4 * (0 + i)) four) (λ i h. rw (zero-add i) ((known-body c seen.well (body_in l k) R.body).cells i h)))

  operands-fit : (operands_read c l k && all (sound_value made) (reverse (operands_on c l k))) ≡ each (value_in c l r (frame_at k + operand_types_at) (frame_at k + operand_words_at)) 0 (depth_in l k)
  operands-fit =
      rw (all-reverse (sound_value made) (operands_on c l k))
      (row-sound c l r made (recorded c l r) (types_at l (frame_at k + operand_types_at)) (words_at l (frame_at k + operand_words_at)) (depth_in l k) 0
      (λ i h. number-below l B (frame_at k + operand_words_at + 4 * (0 + i)) four))

  reads_here : frame_reads c l k ≡ (cells_read c l k && operands_read c l k)
  reads_here =
      rw (lt-ltb (body_in l k) (bodies c) R.body, le-leb (cell_count c l k) 32 R.cells, le-leb (depth_in l k) 32 R.depth, le-leb (open_in l k) 16 R.open')

  pub frame-fits : address_in l k < count c
      → (frame_reads c l k && sound_activation (view c) made taken (frame_on c l k)) ≡ (cells_fit c l r k && (stands c l r n k && all sound_group (holds_on c l k)))
  unfolding sound_activation frame_on stands stands_in
  frame-fits h =
      let i = address_in l k in
      let F = seen.founds clean i h in
      let s = F.0 in
      rw (
        reads_here,
        stands-in c seen.well (body_in l k) i R.body h,
        F.1,
        body-at c (body_in l k),
        lt-ltb (body_in l k) (bodies c) R.body,
        F.2,
        length-reverse (holds_on c l k),
        holds-count,
        all-reverse sound_group (holds_on c l k),
        ← cells-fit,
        ← operands-fit,
      )
      (spread (cells_read c l k) (operands_read c l k) (eqb (body_in l k) (body_of c i)) _ _ (eqb (open_in l k) s.holds) _ _ (alike (operands_in c l n k) (bytes s.operands))
      (λ e. operand-types e s.operands))
