-- The stores by which code moves a state in place: an activation's address, operands, cells and holds; entering and leaving.
use Rattle.std.specs.Prelude.{◌≡◌, ℕ, suc, ◌<◌, length, set as replace}
use Rattle.std.proofs.Math.Path.{refl}
use Rattle.std.proofs.Common.{sym, ◌∙◌, length-append}
use mathlib.Core.List.{List, [], ◌∷◌, ◌++◌}
use Rattle.bytecode.specs.Words.{value_word}
use Rattle.values.specs.Values.{Value, Cell, assigned}
use Rattle.bytecode.specs.Machine.{Activation, Shared, running, all_holds}
use Rattle.bytecode.specs.State.{type_byte, word_of_cell, byte_of_cell, encode}
use Rattle.bytecode_layout.specs.Rows.{alter-alter}
use Rattle.bytecode_layout.specs.Places.{activations, holds, group, in_frame, body, depth, open', address, cell_word, operand_word, cell_type, operand_type}
use Rattle.bytecode_layout.specs.Stores.{Store, ◌≔◌, stores, turns, next-altered}
use Rattle.bytecode_layout.specs.Slots.{operand-put, operand-pushed, operand-popped, field-put, field_next, group-pushed, group-popped}
use Rattle.bytecode_layout.specs.Edits.{on, activation-altered, Edit, ◌↤◌, inside, written, edit-law}

abbrev pub activation : ℕ → ℕ → List Cell → List Value → List ℕ → Activation
activation b i cs vs gs = record { body = b; address = i; cells = cs; operands = vs; holds = gs }

-- ── the stores: within an activation ──
abbrev pub goes_to : ℕ → List Edit
goes_to i = address ↤ i ∷ []

-- operand n, counted from the bottom
abbrev pub operand_is : ℕ → Value → List Edit
operand_is n v = operand_word n ↤ value_word v ∷ operand_type n ↤ type_byte v ∷ []

abbrev pub pushes : ℕ → Value → List Edit
pushes n v = operand_word n ↤ value_word v ∷ operand_type n ↤ type_byte v ∷ depth ↤ suc n ∷ []

abbrev pub pops : ℕ → List Edit
pops n = operand_word n ↤ 0 ∷ operand_type n ↤ 0 ∷ depth ↤ n ∷ []

abbrev pub cell_is : ℕ → Value → List Edit
cell_is j v = cell_word j ↤ value_word v ∷ cell_type j ↤ type_byte v ∷ []

-- ── and in the state: activation k ──
-- a hold of group g onto h others, n of them the activation's own; and the last taken of h + 1
abbrev pub takes : ℕ → ℕ → ℕ → ℕ → List Store
takes k h n g = group h ≔ g ∷ holds ≔ suc h ∷ inside k (open' ↤ suc n ∷ [])

abbrev pub lets : ℕ → ℕ → ℕ → List Store
lets k h n = group h ≔ 0 ∷ holds ≔ h ∷ inside k (open' ↤ n ∷ [])

-- activation k, of body b, at address i, with no cells yet, becomes the top; and it is taken off
abbrev pub enters : ℕ → ℕ → ℕ → List Store
enters k b i = in_frame k body ≔ b ∷ in_frame k address ≔ i ∷ activations ≔ suc k ∷ []

abbrev pub leaves : ℕ → List Store
leaves k = in_frame k body ≔ 0 ∷ in_frame k address ≔ 0 ∷ activations ≔ k ∷ []

-- ── the laws, for an activation with us above it and fs below it ──
module _ (rs : Shared) (us fs : List Activation) (few : length fs < 32) (b i : ℕ) (cs : List Cell) (vs : List Value) (gs : List ℕ) where
  pub goes-law : (j : ℕ) → written rs us (activation b i cs vs gs) fs (goes_to j) ≡ encode (on rs us (activation b j cs vs gs) fs)
  goes-law j = edit-law rs us (activation b i cs vs gs) fs few (goes_to j) (tt, tt) (activation b j cs vs gs) refl refl

  pub push-law : (v : Value) → length vs < 32 → written rs us (activation b i cs vs gs) fs (pushes (length vs) v) ≡ encode (on rs us (activation b i cs (v ∷ vs) gs) fs)
  push-law v h =
      edit-law rs us (activation b i cs vs gs) fs few (pushes (length vs) v) (h, (h, (tt, tt))) (activation b i cs (v ∷ vs) gs)
      (rw (operand-pushed 32 value_word v vs h, operand-pushed 32 type_byte v vs h)) refl

  pub pop-law : (v : Value) → length vs < 32 → written rs us (activation b i cs (v ∷ vs) gs) fs (pops (length vs)) ≡ encode (on rs us (activation b i cs vs gs) fs)
  pop-law v h =
      edit-law rs us (activation b i cs (v ∷ vs) gs) fs few (pops (length vs)) (h, (h, (tt, tt))) (activation b i cs vs gs)
      (rw (operand-popped 32 value_word v vs h, operand-popped 32 type_byte v vs h)) refl

  -- an operand exchanged, with ws above it
  pub operand-law : (ws : List Value) (v w : Value) → length vs < 32 → written rs us (activation b i cs (ws ++ (v ∷ vs)) gs) fs
      (operand_is (length vs) w) ≡ encode (on rs us (activation b i cs (ws ++ (w ∷ vs)) gs) fs)
  operand-law ws v w h =
      let n : length (ws ++ (w ∷ vs)) ≡ length (ws ++ (v ∷ vs)) = length-append ws (w ∷ vs) ∙ sym (length-append ws (v ∷ vs)) in
      edit-law rs us (activation b i cs (ws ++ (v ∷ vs)) gs) fs few (operand_is (length vs) w) (h, (h, tt)) (activation b i cs (ws ++ (w ∷ vs)) gs)
      (rw (operand-put 32 value_word ws v w vs h, operand-put 32 type_byte ws v w vs h, n)) refl

  pub cell-law : (j : ℕ) (v : Value) → j < length cs → j < 32 → written rs us (activation b i cs vs gs) fs (cell_is j v) ≡ encode (on rs us (activation b i (replace cs j (assigned v)) vs gs) fs)
  cell-law j v h k =
      edit-law rs us (activation b i cs vs gs) fs few (cell_is j v) (k, (k, tt)) (activation b i (replace cs j (assigned v)) vs gs)
      (rw (field-put 32 word_of_cell (assigned v) cs j h k, field-put 32 byte_of_cell (assigned v) cs j h k)) refl

  -- a cell behind the last, and the last taken off
  pub cell-next-law : (v : Value) → length cs < 32 → written rs us (activation b i cs vs gs) fs (cell_is (length cs) v) ≡ encode (on rs us (activation b i (cs ++ (assigned v ∷ [])) vs gs) fs)
  cell-next-law v h =
      edit-law rs us (activation b i cs vs gs) fs few (cell_is (length cs) v) (h, (h, tt)) (activation b i (cs ++ (assigned v ∷ [])) vs gs)
      (rw (field_next 32 word_of_cell (assigned v) cs h, field_next 32 byte_of_cell (assigned v) cs h)) refl

-- ── holds, of the top ──
module _ (rs : Shared) (fs : List Activation) (few : length fs < 32) (b i : ℕ) (cs : List Cell) (vs : List Value) (g : ℕ) (gs : List ℕ) (room : length (gs ++ all_holds fs) < 512) where
  pub take-law : stores (encode (running rs (activation b i cs vs gs) fs)) (takes (length fs) (length (gs ++ all_holds fs)) (length gs) g) ≡ encode (running rs (activation b i cs vs (g ∷ gs)) fs)
  unfolding all_holds
  take-law =
      turns _ _ (takes (length fs) (length (gs ++ all_holds fs)) (length gs) g) (room, (tt, ((few, tt), tt)))
      (rw (activation-altered [] fs few _ (activation b i cs vs gs) (activation b i cs vs (g ∷ gs)) refl, group-pushed g (gs ++ all_holds fs) room))

  pub let-law : stores (encode (running rs (activation b i cs vs (g ∷ gs)) fs)) (lets (length fs) (length (gs ++ all_holds fs)) (length gs)) ≡ encode (running rs (activation b i cs vs gs) fs)
  unfolding all_holds
  let-law =
      turns _ _ (lets (length fs) (length (gs ++ all_holds fs)) (length gs)) (room, (tt, ((few, tt), tt)))
      (rw (activation-altered [] fs few _ (activation b i cs vs (g ∷ gs)) (activation b i cs vs gs) refl, group-popped g (gs ++ all_holds fs) room))

-- ── entering and leaving ──
module _ (rs : Shared) (f : Activation) (fs : List Activation) (few : length (f ∷ fs) < 32) (b i : ℕ) where
  pub enter-law : stores (encode (running rs f fs)) (enters (length (f ∷ fs)) b i) ≡ encode (running rs (activation b i [] [] []) (f ∷ fs))
  unfolding all_holds
  enter-law =
      turns _ _ (enters (length (f ∷ fs)) b i) ((few, tt), ((few, tt), (tt, tt))) (simp alter-alter (rw (next-altered _ (activation b i [] [] []) (f ∷ fs) few refl)))
