-- An activation without operands and with at most eight cells: to make blank what it may use makes all of it blank.
use Rattle.std.specs.Prelude.{◌≡◌, refl, Bool, true, false, List, [], ◌∷◌, ◌++◌, map, ℕ, zero, suc, ◌+◌, ◌≤◌, eqb, length}
use Rattle.std.proofs.Common.{sym, ap, ◌∙◌, arith, eqb-true}
use Rattle.std.proofs.Math.Option.{some}
use Rattle.std.proofs.Math.ListN.{get_elem?}
use Rattle.std.proofs.lemmas.List.{length-map}
use Rattle.std.proofs.lemmas.List.Edits.{sets}
use Rattle.std.proofs.lemmas.Bool.{eqb-false}
use Rattle.words.specs.Numbers.{byte_at, half, word}
use Rattle.words.specs.Laws.{one, bytes_of}
use Rattle.values.specs.Types.{Ty, ty_byte, integer, logical, bits, reference}
use Rattle.values.specs.Values.{Cell, assigned, ty_of}
use Rattle.bytecode.specs.Machine.{Activation, Shared}
use Rattle.bytecode.specs.State.{pad, zeros, word_of_cell, byte_of_cell, activation_length, cell_types_at}
use Rattle.bytecode_layout.specs.Rows.{pad-pad}
use Rattle.bytecode_layout.specs.Blank.{wipe-row}
use Rattle.bytecode_layout.specs.Focus.{Focus, within, part-sets, as_bytes, flat-bytes}
use Rattle.bytecode_layout.specs.Parts.{Frame, frame_bytes, parts_bytes, no_frame, frame_of, wide_word, wide-frame, blank-frame}
use Rattle.bytecode_layout.specs.Places.{frame_place, with_cells, cell-words, cell-types}
use Rattle.bytecode_layout.specs.Edits.{raw_on, encode-raw, raw-focus}
use Rattle.bytecode_layout.specs.Steps.{activation}
use Rattle.machine_frames.specs.Bytes.{trimmed, left, Left}
use Rattle.machine_frames.specs.On.{On, read-cell}

-- ── how many cells: a type byte is never 0 ──
some-type : (t : Ty) → ty_byte t ≡ 0 → ⊥
some-type integer e = omega arith
some-type logical e = omega arith
some-type bits e = omega arith
some-type (reference c) e = omega arith

cell-type : (c : Cell) → byte_of_cell c ≡ 0 → ⊥
cell-type (assigned v) e = some-type (ty_of v) e

-- the cells from n on are none, or there is one at n
few-or : (cs : List Cell) (n : ℕ) → ((c : Cell) → get_elem? cs n ≡ some c → ⊥) → length cs ≤ n
few-or [] n f = omega arith
few-or (c ∷ cs) zero f = absurd (f c refl)
few-or (c ∷ cs) (suc n) f = omega (arith, few-or cs n f)

-- ── the rows ──
blank-word : zeros 4 ≡ word 0
unfolding zeros
blank-word = refl

blank-byte : zeros 1 ≡ bytes_of one 0
unfolding zeros
blank-byte = refl

abbrev head_of : Frame → List ℕ
head_of a = (a.body ∷ a.depth ∷ a.open' ∷ 0 ∷ []) ++ (half a.address ++ (0 ∷ 0 ∷ []))

abbrev headed : Frame → Frame → Frame
headed a h = record {
  body = h.body;
  depth = h.depth;
  open' = h.open';
  address = h.address;
  cell_words = a.cell_words;
  operand_words = a.operand_words;
  cell_types = a.cell_types;
  operand_types = a.operand_types;
}

head : (a : Frame) → Focus head_of (λ (h : Frame). frame_bytes (headed a h)) (frame_bytes a) a 0
unfolding frame_bytes
head a = record { pre = []; post = _; place = refl; split = λ h. refl; now = refl }

blank-head : zeros 8 ≡ head_of no_frame
unfolding zeros
blank-head = refl

module _ {l : List ℕ} {f : ℕ} {rs : Shared} {us fs : List Activation} {b i : ℕ} {cs : List Cell} {gs : List ℕ} (p : On l f rs us (activation b i cs [] gs) fs) where
  abbrev top : Activation
  top = activation b i cs [] gs

  abbrev raw : Frame → List ℕ
  raw a = parts_bytes (raw_on rs us top fs a)

  abbrev place : ℕ
  place = frame_place (length fs)

  -- without a head, then without the words of the cells
  abbrev second : Frame
  second = headed (frame_of top) no_frame

  abbrev third : Frame
  third = with_cells (pad 32 0 []) second.cell_types second

  few : byte_at l (f + (cell_types_at + 8)) ≡ 0 → length cs ≤ 8
  few z = few-or cs 8 (λ c e. cell-type c (sym (read-cell p 8 c e (omega arith)).1 ∙ z))

  no-head : sets (raw (frame_of top)) place (zeros 8) ≡ raw second
  no-head =
      let e : place + 0 ≡ place = omega arith in
      rw (blank-head, ← e) (part-sets (within (headed (frame_of top)) (raw-focus rs us top fs p.few (frame_of top)) (head (frame_of top))) no_frame refl)

  no_words : length cs ≤ 8 → sets (raw second) (place + 8) (zeros 32) ≡ raw third
  no_words h =
      wipe-row 0 word 4 wide_word blank-word 8 32
      (within (λ (ws : List ℕ). with_cells ws second.cell_types second) (raw-focus rs us top fs p.few second) (cell-words second))
      (map word_of_cell cs) (pad-pad 0 32 (map word_of_cell cs)) (rw (length-map cs word_of_cell) h) (omega arith)

  no-types : length cs ≤ 8 → sets (raw third) (place + 264) (zeros 8) ≡ raw no_frame
  no-types h =
      wipe-row 0 (bytes_of one) 1 (λ n. refl) blank-byte 8 32
      (as_bytes (pad 32 0) (λ c. flat-bytes (pad 32 0 c))
      (within (λ (ts : List ℕ). with_cells third.cell_words ts third) (raw-focus rs us top fs p.few third) (cell-types third)))
      (map byte_of_cell cs) (pad-pad 0 32 (map byte_of_cell cs)) (rw (length-map cs byte_of_cell) h) (omega arith)

  all-blank : sets (raw (frame_of top)) place (zeros 328) ≡ raw no_frame
  all-blank = rw blank-frame (part-sets (raw-focus rs us top fs p.few (frame_of top)) no_frame (wide-frame (frame_of top) ∙ sym (wide-frame no_frame)))

  on-trim : byte_at l (f + (cell_types_at + 8)) ≡ 0 → trimmed l f ≡ sets l f (zeros activation_length)
  on-trim z =
      let h = few z in
      rw (p.bytes, p.place, encode-raw rs us top fs, no-head, no_words h, no-types h, all-blank)

  -- whichever way it was made blank
  pub left_is : (k : ℕ) (l' : List ℕ) → Left l f k l' → l' ≡ left l f k
  left_is k l' L = L.bytes ∙ ap (λ (x : List ℕ). sets x 2 (k ∷ [])) (by (eqb (byte_at l (f + (cell_types_at + 8))) 0) refl)
    where
      by : (t : Bool) → eqb (byte_at l (f + (cell_types_at + 8))) 0 ≡ t → L.wiped ≡ sets l f (zeros activation_length)
      by true e = L.is-wiped.0 (eqb-true _ 0 e) ∙ on-trim (eqb-true _ 0 e)
      by false e = L.is-wiped.1 (eqb-false _ 0 e)
