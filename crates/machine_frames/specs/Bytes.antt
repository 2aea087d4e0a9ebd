-- The bytes after each store, as the code makes them: an activation stands at f.
use Rattle.std.specs.Prelude.{◌≡◌, List, [], ◌∷◌, ℕ, ◌+◌, ◌*◌, ◌-◌, ◌≤◌, ◌<◌, length}
use Rattle.std.proofs.lemmas.List.Edits.{sets}
use Rattle.words.specs.Numbers.{byte_at, half_at, half, word}
use Rattle.bytecode.specs.State.{state_length, activations_at, activation_length, holds_at, records_at, record_length, cell_words_at, operand_words_at, cell_types_at, operand_types_at}
use Rattle.bytecode.specs.State.{field_words_at, field_types_at, zeros}

-- f is the place of an activation, and k is one of its cells or operands
pub record Framed (l : List ℕ) (f k : ℕ) : Type 0 where
  pub long : length l ≡ state_length
  pub place : f ≤ 10200
  pub slot : k < 32

-- r is a record, and x is one of its fields
pub record Recorded (l : List ℕ) (r x : ℕ) : Type 0 where
  pub long : length l ≡ state_length
  pub place : r < 256
  pub slot : x < 8

-- ── values ──
abbrev pub valued : List ℕ → ℕ → ℕ → ℕ → ℕ → List ℕ
valued l p q w t = sets (sets l p (word w)) q (t ∷ [])

abbrev pub went_to : List ℕ → ℕ → ℕ → List ℕ
went_to l f i = sets l (f + 4) (half i)

abbrev pub operand_set : List ℕ → ℕ → ℕ → ℕ → ℕ → List ℕ
operand_set l f k w t = valued l (f + (operand_words_at + 4 * k)) (f + (operand_types_at + k)) w t

abbrev pub cell_set : List ℕ → ℕ → ℕ → ℕ → ℕ → List ℕ
cell_set l f j w t = valued l (f + (cell_words_at + 4 * j)) (f + (cell_types_at + j)) w t

abbrev pub field_set : List ℕ → ℕ → ℕ → ℕ → ℕ → List ℕ
field_set l r x w t = valued l (records_at + record_length * r + (field_words_at + 4 * x)) (records_at + record_length * r + (field_types_at + x)) w t

abbrev pub pushed : List ℕ → ℕ → ℕ → ℕ → ℕ → List ℕ
pushed l f n w t = sets (operand_set l f n w t) (f + 1) ((n + 1) ∷ [])

abbrev pub popped : List ℕ → ℕ → ℕ → List ℕ
popped l f n = sets (operand_set l f n 0 0) (f + 1) (n ∷ [])

-- ── holds ──
abbrev pub hold_taken : List ℕ → ℕ → ℕ → List ℕ
hold_taken l f g = sets (sets (sets l (holds_at + half_at l 6) (g ∷ [])) 6 (half (half_at l 6 + 1))) (f + 2) ((byte_at l (f + 2) + 1) ∷ [])

abbrev pub hold_let : List ℕ → ℕ → List ℕ
hold_let l f = sets (sets (sets l (holds_at + (half_at l 6 - 1)) (0 ∷ [])) 6 (half (half_at l 6 - 1))) (f + 2) ((byte_at l (f + 2) - 1) ∷ [])

abbrev pub released : List ℕ → ℕ → List ℕ
released l h = sets (sets l (holds_at + h) (0 ∷ [])) 6 (half h)

-- ── activations and records ──
abbrev pub entered : List ℕ → ℕ → ℕ → ℕ → ℕ → List ℕ
entered l f k b i = sets (sets (sets l f (b ∷ [])) (f + 4) (half i)) 2 ((k + 1) ∷ [])

abbrev pub left : List ℕ → ℕ → ℕ → List ℕ
left l f k = sets (sets l f (zeros activation_length)) 2 (k ∷ [])

-- of an activation without operands: what stands before its cells, and eight of them
abbrev pub trimmed : List ℕ → ℕ → List ℕ
trimmed l f = sets (sets (sets l f (zeros 8)) (f + cell_words_at) (zeros 32)) (f + cell_types_at) (zeros 8)

-- all of it, or that alone, where there is no ninth cell
abbrev pub Wiped : List ℕ → ℕ → List ℕ → Type 0
Wiped l f l' = (byte_at l (f + (cell_types_at + 8)) ≡ 0 → l' ≡ trimmed l f) × ((byte_at l (f + (cell_types_at + 8)) ≡ 0 → ⊥) → l' ≡ sets l f (zeros activation_length))

-- and one activation less
pub record Left (l : List ℕ) (f k : ℕ) (l' : List ℕ) : Type 0 where
  pub wiped : List ℕ
  pub is-wiped : Wiped l f wiped
  pub bytes : l' ≡ sets wiped 2 (k ∷ [])

abbrev pub record_made : List ℕ → ℕ → ℕ → List ℕ
record_made l r c = sets (sets l (records_at + record_length * r) (c ∷ [])) 4 (half (r + 1))

-- ── phases ──
abbrev pub wiped_all : List ℕ → List ℕ
wiped_all l = sets (sets l activations_at (zeros (activation_length * byte_at l 2))) records_at (zeros (record_length * half_at l 4))

abbrev pub conditioned : List ℕ → ℕ → List ℕ
conditioned l c = sets (sets (sets (sets (wiped_all l) 0 (1 ∷ [])) 1 (c ∷ [])) 2 (0 ∷ [])) 4 (half 0)

abbrev pub finished : List ℕ → List ℕ
finished l = sets (sets (sets (wiped_all l) 0 (2 ∷ [])) 2 (0 ∷ [])) 4 (half 0)
