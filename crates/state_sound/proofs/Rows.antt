-- Values and rows of them, as they are read from a state's bytes: what is read is sound exactly where the tests of the bytes pass.
use Rattle.std.specs.Prelude.{◌≡◌, Bool, not, eqb, leb, ltb, drop}
use Rattle.std.proofs.Math.Path.{refl, ap, ap₂}
use Rattle.std.proofs.Common.{sym, ◌∙◌, add-zero, suc-add}
use Rattle.std.proofs.Math.Bool.{true, false, ◌&&◌}
use mathlib.Core.List.{List, ◌∷◌, map}
use Rattle.std.proofs.Math.Option.{Option, none, some}
use Prim.Native.Nat.{ℕ, zero, suc, ◌+◌, ◌*◌, ◌-◌, ◌<◌}
use Rattle.std.proofs.Math.Nat.{add-suc}
use native.Mathlib.Omega.{arith}
use Rattle.std.proofs.Math.ListN.{get_elem?}
use Rattle.std.proofs.Math.Seq.{get_or-drop}
use Rattle.std.specs.Int.Signed.{mag}
use borrow.Author.Tests.{ne_eqb, lt-ltb, le-ltb}
use Rattle.bytecode.specs.Words.{word_ref, valid_word, word_value}
use Rattle.logic.specs.Lists.{all}
use Rattle.logic.specs.Options.{keep}
use Rattle.logic.specs.Choice.{If◌then◌else◌}
use Rattle.words.specs.Numbers.{byte_at, word_at, integer_of}
use Rattle.words.specs.Laws.{four, same_number, integer-fits}
use Rattle.values.specs.Types.{Ty, integer, logical, bits, reference, ty_byte, same, sames}
use Rattle.values.specs.Values.{Value, ty_of, tys_of, Cell, assigned, ty_of_cell}
use Rattle.bytecode.specs.Machine.{Made}
use Rattle.bytecode.specs.Sound.{sound_value, points, typed_values, sound_cell, typed_cells}
use Rattle.bytecode.specs.State.{read_value, read_cell, read_row}
use Rattle.load_places.specs.Records.{classes, no_type}
use Rattle.load_check.specs.Views.{span, by-test, ty_on, type-byte, same_byte, type_reads}
use Rattle.logic.specs.Tests.{and-true, and-false}
use Rattle.state_sound.specs.Each.{each, each_at}
use Rattle.state_sound.specs.Fits.{points_to, value_fits, class_in}

-- ── one value ──
abbrev pub value_on : ℕ → ℕ → Value
value_on t w = word_value (ty_on t) w

abbrev pub readable : ℕ → ℕ → ℕ → Bool
readable n t w = not (no_type n t) && valid_word (ty_on t) w

value-reads : (n t w : ℕ) → read_value n t w ≡ (If readable n t w then some (value_on t w) else none)
unfolding read_value
value-reads n t w = rw (type_reads n t) (by-test (no_type n t) (λ e. rw e) (λ e. rw e))

-- the made records are r, of the classes that stand in l
pub record Recorded (l : List ℕ) (r : ℕ) (rs : List Made) : Type 0 where
  pub made : ℕ → Made
  pub each-is : (k : ℕ) → get_elem? rs k ≡ (If ltb k r then some (made k) else none)
  pub class-is : (k : ℕ) → (made k).class ≡ class_in l k

module _ (c l : List ℕ) (r : ℕ) (rs : List Made) (R : Recorded l r rs) where
  points-is : (t w : ℕ) → points rs (t - 16) (word_ref w) ≡ points_to l r t w
  unfolding points_to
  points-is t zero = refl
  points-is t (suc k) =
      let e : suc k - 1 ≡ k = omega arith in
      rw (e, ne_eqb (suc k) 0 (λ z. omega arith), R.each-is k) (by-test (ltb k r) (λ p. rw (p, R.class-is k)) (λ p. rw p))

  value-sound : (t w : ℕ) → w < 4294967296 → (readable (classes c) t w && sound_value rs (value_on t w)) ≡ value_fits c l r t w
  unfolding value_fits no_type ty_on sound_value
  value-sound zero w h = refl
  value-sound (suc zero) w h = lt-ltb (mag (integer_of w)) 2147483648 (integer-fits w h).sfits
  value-sound (suc (suc zero)) w h = and-true (ltb w 2)
  value-sound (suc (suc (suc zero))) w h = lt-ltb w 4294967296 h
  value-sound (suc (suc (suc (suc n)))) w h = high (suc (suc (suc (suc n)))) (omega arith)
    where
      high : (t : ℕ) → 3 < t → (readable (classes c) t w && sound_value rs (value_on t w)) ≡ value_fits c l r t w
      high t g =
          rw (ne_eqb t 1 (omega arith), ne_eqb t 2 (omega arith), ne_eqb t 3 (omega arith))
          (by-test (ltb t 16)
          (λ p. rw (p, le-ltb t 1 (omega arith), lt-ltb 3 t g))
          (λ p. rw p (by-test (leb (classes c) (t - 16)) (λ q. rw q) (λ q. rw q (points-is t w)))))

type-of : (ty : Ty) (w : ℕ) → ty_of (word_value ty w) ≡ ty
type-of integer w = refl
type-of logical w = refl
type-of bits w = refl
type-of (reference c) w = refl

pub readable-type : (n t w : ℕ) → readable n t w ≡ true → ty_byte (ty_of (value_on t w)) ≡ t
readable-type n t w e =
    rw (type-of (ty_on t) w)
    (type-byte n t (by-test (no_type n t) (λ p. absurd (let z : ◌≡◌ {A = Bool} false true = rw p at e in never z)) (λ p. p)))
  where
    never : false ≡ true → ⊥
    never z = let q : ◌≡◌ {A = ℕ} 0 1 = cc z in omega arith

-- a cell is read as its value is
cell-reads : (n t w : ℕ) → read_cell n t w ≡ (If readable n t w then some (assigned (value_on t w)) else none)
unfolding read_cell
cell-reads n t w = rw (value-reads n t w) (by-test (readable n t w) (λ e. rw e) (λ e. rw e))

-- ── rows: of elements that are read by a test and then known ──
joined : {A : Type 0} (a b : Bool) (v : A) (vs : List A)
    → keep (If a then some v else none) (λ x. keep (If b then some vs else none) (λ xs. some (x ∷ xs))) ≡ (If a && b then some (v ∷ vs) else none)
joined true true v vs = refl
joined true false v vs = refl
joined false b v vs = refl

module _ {A : Type 0} (read : ℕ → ℕ → Option A) (ok : ℕ → ℕ → Bool) (on : ℕ → ℕ → A) (reads : (t w : ℕ) → read t w ≡ (If ok t w then some (on t w) else none)) (t w : ℕ → ℕ) where
  row_read : (k j : ℕ) (ws ts : List ℕ) → ((i : ℕ) → i < k → byte_at ts i ≡ t (j + i)) → ((i : ℕ) → i < k → word_at ws (4 * i) ≡ w (j + i))
      → read_row read k ws ts ≡ (If each (λ i. ok (t i) (w i)) j k then some (span (λ i. on (t i) (w i)) j k) else none)
  unfolding read_row each span
  row_read zero j ws ts p q = refl
  row_read (suc k) j ws ts p q =
      let e : byte_at ts 0 ≡ t j = rw (add-zero j) at (p 0 (omega arith)) in
      let d : word_at ws 0 ≡ w j = rw (add-zero j) at (q 0 (omega arith)) in
      let g = row_read k (suc j) (drop 4 ws) (drop 1 ts)
      (λ i h. get_or-drop 1 ts i 0 ∙ ap (λ (z : ℕ). byte_at ts z) (let z : 1 + i ≡ suc i = omega arith in z) ∙ rw (suc-add j i, ← add-suc j i) (p (suc i) (omega arith)))
      (λ i h. same_number four (drop 4 ws) ws (4 * i) (4 * suc i) (λ x y. get_or-drop 4 ws (4 * i + x) 0 ∙ ap (λ (z : ℕ). byte_at ws z) (omega arith))
      ∙ rw (suc-add j i, ← add-suc j i) (q (suc i) (omega arith))) in
      rw (e, d, g, reads (t j) (w j)) (joined (ok (t j) (w j)) (each (λ i. ok (t i) (w i)) (suc j) k) _ _)

module _ (n : ℕ) (t w : ℕ → ℕ) where
  abbrev pub row_reads : ℕ → ℕ → Bool
  row_reads j k = each (λ i. readable n (t i) (w i)) j k

  abbrev pub row_on : ℕ → ℕ → List Value
  row_on j k = span (λ i. value_on (t i) (w i)) j k

  abbrev pub cell_row : ℕ → ℕ → List Cell
  cell_row j k = span (λ i. assigned (value_on (t i) (w i))) j k

  pub values-read : (k j : ℕ) (ws ts : List ℕ) → ((i : ℕ) → i < k → byte_at ts i ≡ t (j + i)) → ((i : ℕ) → i < k → word_at ws (4 * i) ≡ w (j + i))
      → read_row (read_value n) k ws ts ≡ (If row_reads j k then some (row_on j k) else none)
  values-read = row_read (read_value n) (readable n) value_on (value-reads n) t w

  pub cells-read : (k j : ℕ) (ws ts : List ℕ) → ((i : ℕ) → i < k → byte_at ts i ≡ t (j + i)) → ((i : ℕ) → i < k → word_at ws (4 * i) ≡ w (j + i))
      → read_row (read_cell n) k ws ts ≡ (If row_reads j k then some (cell_row j k) else none)
  cells-read = row_read (read_cell n) (readable n) (λ t w. assigned (value_on t w)) (cell-reads n) t w

  -- a row of cells is typed and sound as the row of their values
  cell-types : (k j : ℕ) → map ty_of_cell (cell_row j k) ≡ tys_of (row_on j k)
  unfolding span tys_of
  cell-types zero j = refl
  cell-types (suc k) j = ap (λ (ts : List Ty). ty_of (value_on (t j) (w j)) ∷ ts) (cell-types k (suc j))

  cell-sounds : (rs : List Made) (k j : ℕ) → all (sound_cell rs) (cell_row j k) ≡ all (sound_value rs) (row_on j k)
  unfolding span all
  cell-sounds rs zero j = refl
  cell-sounds rs (suc k) j = ap (λ (b : Bool). sound_value rs (value_on (t j) (w j)) && b) (cell-sounds rs k (suc j))

  pub cells-typed : (rs : List Made) (k j : ℕ) (ts : List Ty) → typed_cells rs (cell_row j k) ts ≡ typed_values rs (row_on j k) ts
  cells-typed rs k j ts = rw (cell-types k j, cell-sounds rs k j)

  -- the types of a row that reads
  pub row-bytes : (k j : ℕ) → row_reads j k ≡ true → (i : ℕ) → i < k → ty_byte (ty_of (value_on (t (j + i)) (w (j + i)))) ≡ t (j + i)
  row-bytes k j e i h = readable-type n (t (j + i)) (w (j + i)) (each_at (λ i. readable n (t i) (w i)) k j e i h)

shuffled : (a b c x y z : Bool) → ((a && x) && ((b && y) && (c && z))) ≡ ((a && (b && c)) && (x && (y && z)))
shuffled true true true x y z = refl
shuffled true true false x true z = and-false x
shuffled true true false x false z = and-false x
shuffled true false c x y z = and-false x
shuffled false b c x y z = refl

module _ (c l : List ℕ) (r : ℕ) (rs : List Made) (R : Recorded l r rs) (t w : ℕ → ℕ) where
  abbrev row : ℕ → ℕ → List Value
  row j k = row_on (classes c) t w j k

  -- each value is sound
  pub row-sound : (k j : ℕ) → ((i : ℕ) → i < k → w (j + i) < 4294967296)
      → (row_reads (classes c) t w j k && all (sound_value rs) (row j k)) ≡ each (λ i. value_fits c l r (t i) (w i)) j k
  unfolding each span all
  row-sound zero j h = refl
  row-sound (suc k) j h =
      let hj : w j < 4294967296 = rw (add-zero j) at (h 0 (omega arith)) in
      let g = row-sound k (suc j) (λ i p. rw (suc-add j i, ← add-suc j i) (h (suc i) (omega arith))) in
      four-way (readable (classes c) (t j) (w j)) _ (sound_value rs (value_on (t j) (w j))) _ ∙ ap₂ ◌&&◌ (value-sound c l r rs R (t j) (w j) hj) g
    where
      four-way : (a x b y : Bool) → ((a && x) && (b && y)) ≡ ((a && b) && (x && y))
      four-way true x true y = refl
      four-way true x false y = and-false x
      four-way false x b y = refl

  -- and of the types that stand in e
  module _ (e : ℕ → ℕ) where
    value-typed : (i : ℕ) → w i < 4294967296 → ty_byte (ty_on (e i)) ≡ e i
        → (readable (classes c) (t i) (w i) && (same (ty_of (value_on (t i) (w i))) (ty_on (e i)) && sound_value rs (value_on (t i) (w i))))
        ≡ (eqb (t i) (e i) && value_fits c l r (t i) (w i))
    value-typed i h q =
        rw (← value-sound c l r rs R (t i) (w i) h, same_byte (ty_of (value_on (t i) (w i))) (ty_on (e i)), q)
        (by-test (readable (classes c) (t i) (w i))
        (λ p. rw (p, readable-type (classes c) (t i) (w i) p))
        (λ p. rw p (sym (and-false (eqb (t i) (e i))))))

    pub row_typed : (k j : ℕ) → ((i : ℕ) → i < k → w (j + i) < 4294967296) → ((i : ℕ) → i < k → ty_byte (ty_on (e (j + i))) ≡ e (j + i))
        → (row_reads (classes c) t w j k && typed_values rs (row j k) (span (λ i. ty_on (e i)) j k)) ≡ each (λ i. eqb (t i) (e i) && value_fits c l r (t i) (w i)) j k
    unfolding each span all sames tys_of
    row_typed zero j h q = refl
    row_typed (suc k) j h q =
        let hj : w j < 4294967296 = rw (add-zero j) at (h 0 (omega arith)) in
        let qj : ty_byte (ty_on (e j)) ≡ e j = rw (add-zero j) at (q 0 (omega arith)) in
        let g = row_typed k (suc j) (λ i p. rw (suc-add j i, ← add-suc j i) (h (suc i) (omega arith))) (λ i p. rw (suc-add j i, ← add-suc j i) (q (suc i) (omega arith))) in
        shuffled (readable (classes c) (t j) (w j)) (same (ty_of (value_on (t j) (w j))) (ty_on (e j))) (sound_value rs (value_on (t j) (w j))) _ _ _
        ∙ ap₂ ◌&&◌ (value-typed j hj qj) g
