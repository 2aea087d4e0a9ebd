-- The records and activations that stand in a state's bytes, and that they are read exactly where their values read.
use Rattle.std.specs.Prelude.{◌≡◌, Bool, ◌&&◌, ltb}
use Rattle.std.proofs.Math.Path.{refl, ap}
use Rattle.std.proofs.Common.{◌∙◌, zero-add, get_or-take}
use Rattle.std.proofs.Math.Bool.{true, false}
use mathlib.Core.List.{List, ◌∷◌, reverse, reverse_aux}
use Rattle.std.proofs.Math.Option.{Option, none, some}
use Prim.Native.Nat.{ℕ, zero, suc, ◌+◌, ◌*◌, ◌≤◌, ◌<◌}
use Rattle.std.proofs.Math.Nat.{add-zero}
use native.Mathlib.Omega.{arith}
use Rattle.std.proofs.Math.Dec.{leb}
use Rattle.std.proofs.Math.ListN.{drop, take}
use Rattle.std.proofs.Math.Seq.{get_or-drop, drop-drop}
use borrow.Author.Tests.{leb-true, ltb-true, ltb-false}
use Rattle.logic.specs.Options.{keep}
use Rattle.logic.specs.Choice.{If◌then◌else◌}
use Rattle.words.specs.Numbers.{byte_at, half_at, word_at}
use Rattle.words.specs.Laws.{Size, one, two, four, number_at, bytes_in, same_number}
use Rattle.values.specs.Values.{Value, Cell}
use Rattle.bytecode.specs.Macro.{Macro}
use Rattle.bytecode.specs.Machine.{Activation, Made}
use Rattle.bytecode.specs.State.{part, read_value, read_cell, read_row, read_activation, read_activations, read_record, read_records}
use Rattle.load_places.specs.Records.{classes, bodies, class_place, body_place, no_mark, bad_class}
use Rattle.load_places.specs.Index.{Well}
use Rattle.load_check.specs.Views.{span, span-length, by-test, past, view, body-at, class-at, class-count}
use Rattle.logic.specs.Tests.{halves}
use Rattle.state_sound.specs.Each.{each}
use Rattle.state_sound.specs.Fits.{frame_at, entry_at, body_in, depth_in, open_in, address_in, class_in, held}
use Rattle.state_sound.proofs.Rows.{row_reads, row_on, cell_row, values-read, cells-read}
use Rattle.bytecode.specs.State.{activation_length, cell_types_at, cell_words_at, holds_at, operand_types_at, operand_words_at}

-- ── a number in a part of the bytes ──
part-number : (s : Size) (l : List ℕ) (p w o i : ℕ) → o + i + bytes_in s ≤ w → number_at s (drop o (take w (drop p l))) i ≡ number_at s l (p + o + i)
part-number s l p w o i h =
    same_number s (drop o (take w (drop p l))) l i (p + o + i) (λ k q.
    get_or-drop o (take w (drop p l)) (i + k) 0 ∙ get_or-take w (drop p l) (o + (i + k)) 0 (omega arith) ∙ get_or-drop p l (o + (i + k)) 0
    ∙ ap (λ (z : ℕ). byte_at l z) (omega arith))

-- the types and the words of a row
abbrev pub types_at : List ℕ → ℕ → ℕ → ℕ
types_at l p j = byte_at l (p + j)

abbrev pub words_at : List ℕ → ℕ → ℕ → ℕ
words_at l p j = word_at l (p + 4 * j)

-- n values or cells of a part: types at t, words at w
module _ (l : List ℕ) (classes' p width w t : ℕ) where
  part-types : (n : ℕ) → t + n ≤ width → (i : ℕ) → i < n → byte_at (drop t (take width (drop p l))) i ≡ types_at l (p + t) (0 + i)
  part-types n b i h = rw (zero-add i) (part-number one l p width t i (omega arith))

  part-words : (n : ℕ) → w + 4 * n ≤ width → (i : ℕ) → i < n → word_at (drop w (take width (drop p l))) (4 * i) ≡ words_at l (p + w) (0 + i)
  part-words n a i h = rw (zero-add i) (part-number four l p width w (4 * i) (omega arith))

  part-values : (n : ℕ) → w + 4 * n ≤ width → t + n ≤ width
      → read_row (read_value classes') n (drop w (take width (drop p l))) (drop t (take width (drop p l)))
      ≡ (If row_reads classes' (types_at l (p + t)) (words_at l (p + w)) 0 n then some (row_on classes' (types_at l (p + t)) (words_at l (p + w)) 0 n) else none)
  part-values n a b = values-read classes' (types_at l (p + t)) (words_at l (p + w)) n 0 _ _ (part-types n b) (part-words n a)

  part-cells : (n : ℕ) → w + 4 * n ≤ width → t + n ≤ width
      → read_row (read_cell classes') n (drop w (take width (drop p l))) (drop t (take width (drop p l)))
      ≡ (If row_reads classes' (types_at l (p + t)) (words_at l (p + w)) 0 n then some (cell_row classes' (types_at l (p + t)) (words_at l (p + w)) 0 n) else none)
  part-cells n a b = cells-read classes' (types_at l (p + t)) (words_at l (p + w)) n 0 _ _ (part-types n b) (part-words n a)

keep-if-some : {A B : Type 0} (a : Bool) (x : A) (f : A → Option B) → keep (If a then some x else none) f ≡ (If a then f x else none)
keep-if-some true x f = refl
keep-if-some false x f = refl

-- ── records ──
abbrev pub field_count : List ℕ → List ℕ → ℕ → ℕ
field_count c l k = byte_at c (class_place c (class_in l k) + 2)

module _ (c l : List ℕ) where
  abbrev pub fields_read : ℕ → Bool
  fields_read k = row_reads (classes c) (types_at l (entry_at k + 36)) (words_at l (entry_at k + 4)) 0 (field_count c l k)

  abbrev pub fields_on : ℕ → List Value
  fields_on k = row_on (classes c) (types_at l (entry_at k + 36)) (words_at l (entry_at k + 4)) 0 (field_count c l k)

  unfoldable pub record_on : ℕ → Made
  record_on k = record { class = class_in l k; fields = fields_on k }

  abbrev pub record_reads : ℕ → Bool
  record_reads k = ltb (class_in l k) (classes c) && fields_read k

-- ── activations ──
abbrev pub cell_count : List ℕ → List ℕ → ℕ → ℕ
cell_count c l k = byte_at c (body_place c (body_in l k) + 6)

module _ (c l : List ℕ) where
  abbrev pub cells_read : ℕ → Bool
  cells_read k = row_reads (classes c) (types_at l (frame_at k + cell_types_at)) (words_at l (frame_at k + cell_words_at)) 0 (cell_count c l k)

  abbrev pub cells_on : ℕ → List Cell
  cells_on k = cell_row (classes c) (types_at l (frame_at k + cell_types_at)) (words_at l (frame_at k + cell_words_at)) 0 (cell_count c l k)

  abbrev pub operands_read : ℕ → Bool
  operands_read k = row_reads (classes c) (types_at l (frame_at k + operand_types_at)) (words_at l (frame_at k + operand_words_at)) 0 (depth_in l k)

  abbrev pub operands_on : ℕ → List Value
  operands_on k = row_on (classes c) (types_at l (frame_at k + operand_types_at)) (words_at l (frame_at k + operand_words_at)) 0 (depth_in l k)

  -- the holds of activation k, the first taken first
  abbrev pub holds_on : ℕ → List ℕ
  holds_on k = take (open_in l k) (drop (held l k) (part holds_at 512 l))

  unfoldable pub frame_on : ℕ → Activation
  frame_on k = record { body = body_in l k; address = address_in l k; cells = cells_on k; operands = reverse (operands_on k); holds = reverse (holds_on k) }

  abbrev pub frame_reads : ℕ → Bool
  frame_reads k =
      ltb (body_in l k) (bodies c) && ((leb (cell_count c l k) 32 && (leb (depth_in l k) 32 && leb (open_in l k) 16)) && (cells_read k && operands_read k))

class-few : (c : List ℕ) → Well c → (k : ℕ) → k < classes c → byte_at c (class_place c k + 2) ≤ 8
unfolding bad_class
class-few c W k h =
    let a = past false (no_mark c (class_place c k) 3 67 76) _ (W.of-classes k h) in
    let b = past false (ltb (byte_at c (class_place c k + 2)) 1) _ a.1 in
    let d = past false (ltb 8 (byte_at c (class_place c k + 2))) _ b.1 in
    ltb-false 8 (byte_at c (class_place c k + 2)) d.0

module _ (c l : List ℕ) (W : Well c) where
  abbrev m : Macro
  m = view c

  record-read : (k : ℕ) → read_record m (part 0 44 (drop (entry_at k) l)) ≡ (If record_reads c l k then some (record_on c l k) else none)
  unfolding read_record record_on
  record-read k =
      let x = take 44 (drop (entry_at k) l) in
      let e : byte_at x 0 ≡ class_in l k = part-number one l (entry_at k) 44 0 0 (omega arith) ∙ ap (λ (z : ℕ). byte_at l z) (let z : entry_at k + 0 + 0 ≡ entry_at k = omega arith in z) in
      rw (e, class-at c (class_in l k), class-count c)
      (by-test (ltb (class_in l k) (classes c))
      (λ p. rw (
        p,
        span-length,
        part-values l (classes c) (entry_at k) 44 4 36 (field_count c l k)
            (omega (arith, class-few c W (class_in l k) (ltb-true _ _ p))) (omega (arith, class-few c W (class_in l k) (ltb-true _ _ p))),
      )
      (keep-if-some (fields_read c l k) _ _))
      (λ p. rw p))

  pub records-read : (n k : ℕ) → read_records m n (drop (entry_at k) l) ≡ (If each (record_reads c l) k n then some (span (record_on c l) k n) else none)
  unfolding read_records each span
  records-read zero k = refl
  records-read (suc n) k =
      let e : drop 44 (drop (entry_at k) l) ≡ drop (entry_at (suc k)) l = drop-drop 44 (entry_at k) l ∙ ap (λ (z : ℕ). drop z l) (let z : entry_at k + 44 ≡ entry_at (suc k) = omega arith in z) in
      rw (record-read k, e, records-read n (suc k)) (join (record_reads c l k) (each (record_reads c l) (suc k) n) _ _)
    where
      join : (a b : Bool) (v : Made) (vs : List Made)
          → keep (If a then some v else none) (λ x. keep (If b then some vs else none) (λ xs. some (x ∷ xs))) ≡ (If a && b then some (v ∷ vs) else none)
      join true true v vs = refl
      join true false v vs = refl
      join false b v vs = refl

  activation-read : (k : ℕ) → read_activation m (part 0 activation_length (drop (frame_at k) l)) (drop (held l k) (part holds_at 512 l)) ≡ (If frame_reads c l k then some (frame_on c l k) else none)
  unfolding read_activation frame_on
  activation-read k =
      let x = take activation_length (drop (frame_at k) l) in
      let e0 : byte_at x 0 ≡ body_in l k = part-number one l (frame_at k) activation_length 0 0 (omega arith) ∙ ap (λ (z : ℕ). byte_at l z) (let z : frame_at k + 0 + 0 ≡ frame_at k = omega arith in z) in
      let e1 : byte_at x 1 ≡ depth_in l k = part-number one l (frame_at k) activation_length 0 1 (omega arith) ∙ rw add-zero in
      let e2 : byte_at x 2 ≡ open_in l k = part-number one l (frame_at k) activation_length 0 2 (omega arith) ∙ rw add-zero in
      let e4 : half_at x 4 ≡ address_in l k = part-number two l (frame_at k) activation_length 0 4 (omega arith) ∙ ap (λ (z : ℕ). half_at l (z + 4)) (add-zero (frame_at k)) in
      rw (e0, e1, e2, e4, body-at c (body_in l k), class-count c)
      (by-test (ltb (body_in l k) (bodies c))
      (λ p. rw (p, span-length)
      (by-test (leb (cell_count c l k) 32 && (leb (depth_in l k) 32 && leb (open_in l k) 16))
      (λ q.
      let a = halves (leb (cell_count c l k) 32) _ q in
      let b = halves (leb (depth_in l k) 32) _ a.1 in
      let ca : cell_count c l k ≤ 32 = leb-true _ _ a.0 in
      let da : depth_in l k ≤ 32 = leb-true _ _ b.0 in
      rw (
        q,
        part-cells l (classes c) (frame_at k) activation_length cell_words_at cell_types_at (cell_count c l k) (omega arith) (omega arith),
        part-values l (classes c) (frame_at k) activation_length operand_words_at operand_types_at (depth_in l k) (omega arith) (omega arith),
      )
      (pair (cells_read c l k) (operands_read c l k) _ _ _))
      (λ q. rw q)))
      (λ p. rw p))
    where
      pair : (a b : Bool) (x : List Cell) (y : List Value) (f : List Cell → List Value → Activation)
          → keep (If a then some x else none) (λ u. keep (If b then some y else none) (λ v. some (f u v))) ≡ (If a && b then some (f x y) else none)
      pair true true x y f = refl
      pair true false x y f = refl
      pair false b x y f = refl

  pub activations-read : (n k : ℕ) (below : List Activation)
      → read_activations m n (drop (frame_at k) l) (drop (held l k) (part holds_at 512 l)) below
      ≡ (If each (frame_reads c l) k n then some (reverse_aux (span (frame_on c l) k n) below) else none)
  unfolding read_activations each span held
  activations-read zero k below = refl
  activations-read (suc n) k below =
      let e : drop activation_length (drop (frame_at k) l) ≡ drop (frame_at (suc k)) l = drop-drop activation_length (frame_at k) l
      ∙ ap (λ (z : ℕ). drop z l) (let z : frame_at k + activation_length ≡ frame_at (suc k) = omega arith in z) in
      let o : byte_at (drop (frame_at k) l) 2 ≡ open_in l k = get_or-drop (frame_at k) l 2 0 in
      let h : drop (byte_at (drop (frame_at k) l) 2) (drop (held l k) (part holds_at 512 l)) ≡ drop (held l (suc k)) (part holds_at 512 l) =
      rw o (drop-drop (open_in l k) (held l k) (part holds_at 512 l)) in
      rw (activation-read k, keep-if-some (frame_reads c l k) (frame_on c l k), e, h, activations-read n (suc k) (frame_on c l k ∷ below)) (join (frame_reads c l k) (each (frame_reads c l) (suc k) n) _)
    where
      join : (a b : Bool) (x : List Activation) → (If a then (If b then some x else none) else none) ≡ (If a && b then some x else none)
      join true b x = refl
      join false b x = refl
