-- Whether bytes hold a sound state of a macro, by tests of numbers at places: c has the macro's bytes, l the state's.
-- (docs/STATE.md has the places; decode and sound of bytecode say what is meant.)
use Rattle.std.specs.Prelude.{Bool, true, false, cond, ◌&&◌, ◌||◌, List, ◌++◌, ℕ, zero, suc, ◌+◌, ◌*◌, ◌-◌, eqb, leb, ltb, length}
use Rattle.words.specs.Numbers.{byte_at, half_at, word_at}
use Rattle.values.specs.Ends.{is_condition}
use Rattle.bytecode.specs.Machine.{max_operands, max_holds, max_activations, max_open_holds, max_records}
use Rattle.bytecode.specs.State.{state_length, activations_at, activation_length, holds_at, records_at, record_length, cell_words_at, operand_words_at, cell_types_at, operand_types_at, field_words_at, field_types_at}
use Rattle.load_places.specs.Search.{tops, alike}
use Rattle.load_places.specs.Records.{classes, bodies, count, class_place, body_place, code_place, no_type}
use Rattle.load_places.specs.Rules.{Flow, goes, ends, bad, body_of, found, into}
use Rattle.state_sound.specs.Each.{each}

-- ── places in a state ──
abbrev pub frame_at : ℕ → ℕ
frame_at k = activations_at + activation_length * k

abbrev pub entry_at : ℕ → ℕ
entry_at k = records_at + record_length * k

-- of activation k; of record k
abbrev pub body_in : List ℕ → ℕ → ℕ
body_in l k = byte_at l (frame_at k)

abbrev pub depth_in : List ℕ → ℕ → ℕ
depth_in l k = byte_at l (frame_at k + 1)

abbrev pub open_in : List ℕ → ℕ → ℕ
open_in l k = byte_at l (frame_at k + 2)

abbrev pub address_in : List ℕ → ℕ → ℕ
address_in l k = half_at l (frame_at k + 4)

abbrev pub class_in : List ℕ → ℕ → ℕ
class_in l k = byte_at l (entry_at k)

-- ── values ──
-- w is null or one of r records, of the class of type t
unfoldable pub points_to : List ℕ → ℕ → ℕ → ℕ → Bool
points_to l r t w = cond (eqb w 0) true (cond (ltb (w - 1) r) (eqb (class_in l (w - 1)) (t - 16)) false)

-- the word w is a value of type t
unfoldable pub value_fits : List ℕ → List ℕ → ℕ → ℕ → ℕ → Bool
value_fits c l r t w = cond (no_type (classes c) t) false (cond (ltb t 16) (cond (eqb t 2) (ltb w 2) true) (points_to l r t w))

-- the j-th value of a row of type bytes at t and words at w
abbrev pub value_in : List ℕ → List ℕ → ℕ → ℕ → ℕ → ℕ → Bool
value_in c l r t w j = value_fits c l r (byte_at l (t + j)) (word_at l (w + 4 * j))

-- n values, of the types that stand in e at q
unfoldable pub row_fits : List ℕ → List ℕ → ℕ → List ℕ → ℕ → ℕ → ℕ → ℕ → Bool
row_fits c l r e q t w n = each (λ j. eqb (byte_at l (t + j)) (byte_at e (q + j)) && value_in c l r t w j) 0 n

-- ── records ──
unfoldable pub record_fits : List ℕ → List ℕ → ℕ → ℕ → Bool
record_fits c l r k =
    let p = class_place c (class_in l k) in
    cond (ltb (class_in l k) (classes c)) (row_fits c l r c (p + 3) (entry_at k + field_types_at) (entry_at k + field_words_at) (byte_at c (p + 2))) false

-- ── activations, by what does not depend on the state found ──
-- activation k, of n, stands at a call of the next, if there is a next
unfoldable pub calls : List ℕ → List ℕ → ℕ → ℕ → Bool
calls c l n k =
    let p = code_place c (address_in l k) in
    cond (ltb (k + 1) n) (cond (eqb (byte_at c (p + 2)) 10) (cond (eqb (byte_at c (p + 3)) 0) (eqb (word_at c (p + 4)) (body_in l (k + 1))) false) false) true

-- the cells of activation k
abbrev pub cells_fit : List ℕ → List ℕ → ℕ → ℕ → Bool
cells_fit c l r k = let p = body_place c (body_in l k) in row_fits c l r c (p + 7) (frame_at k + cell_types_at) (frame_at k + cell_words_at) (byte_at c (p + 6))

unfoldable pub frame_fits : List ℕ → List ℕ → ℕ → ℕ → ℕ → Bool
frame_fits c l r n k =
    cond (ltb (body_in l k) (bodies c))
    (cond (leb (byte_at c (body_place c (body_in l k) + 6)) 32)
    (cond (leb (depth_in l k) max_operands)
    (cond (leb (open_in l k) max_holds)
    (cond (ltb (address_in l k) (count c))
    (cond (calls c l n k) (cells_fit c l r k) false)
    false) false) false) false) false

-- ── holds ──
-- the open holds of the first k activations
unfoldable pub held : List ℕ → ℕ → ℕ
held l zero = 0
held l (suc k) = held l k + open_in l k

unfoldable pub groups_fit : List ℕ → ℕ → Bool
groups_fit l h = cond (leb h max_open_holds) (each (λ j. leb (byte_at l (holds_at + j)) 63) 0 h) false

-- ── a state, but for the states found ──
-- n activations, r records, h holds
unfoldable pub running_fits : List ℕ → List ℕ → ℕ → ℕ → ℕ → Bool
running_fits c l n r h =
    cond (leb 1 n)
    (cond (leb n max_activations)
    (cond (leb r max_records)
    (cond (eqb (body_in l 0) 0)
    (cond (eqb (held l n) h)
    (cond (groups_fit l h)
    (cond (each (record_fits c l r) 0 r) (each (frame_fits c l r n) 0 n) false)
    false) false) false) false) false) false

unfoldable pub plain_fits : List ℕ → List ℕ → Bool
plain_fits c l =
    cond (eqb (byte_at l 0) 0) (running_fits c l (byte_at l 2) (half_at l 4) (half_at l 6))
    (cond (eqb (byte_at l 0) 1) (cond (is_condition (byte_at l 1)) (groups_fit l (half_at l 6)) false)
    (cond (eqb (byte_at l 0) 2) (eqb (byte_at l 1) 0 || is_condition (byte_at l 1)) false))

-- ── activations, by the state found at their address ──
-- how many arguments the call took at which activation k of n waits
abbrev pub taken_in : List ℕ → List ℕ → ℕ → ℕ → ℕ
taken_in c l n k = cond (ltb (k + 1) n) (byte_at c (body_place c (body_in l (k + 1)) + 4)) 0

-- the operands of activation k and, above them, the arguments that were taken
abbrev pub operands_in : List ℕ → List ℕ → ℕ → ℕ → List ℕ
operands_in c l n k = tops c (body_place c (body_in l (k + 1)) + 7) (taken_in c l n k) ++ tops l (frame_at k + operand_types_at) (depth_in l k)

-- h holds and operands of the types s are found where activation k stands, in body b
unfoldable pub stands_in : List ℕ → List ℕ → ℕ → ℕ → ℕ → ℕ → ℕ → List ℕ → Bool
stands_in c l r n k b h s =
    cond (eqb (body_in l k) b)
    (cond (eqb (open_in l k) h)
    (cond (alike (operands_in c l n k) s) (each (value_in c l r (frame_at k + operand_types_at) (frame_at k + operand_words_at)) 0 (depth_in l k)) false)
    false) false

abbrev pub stands_by : List ℕ → List ℕ → ℕ → ℕ → ℕ → ℕ → Flow → Bool
stands_by c l r n k b (goes h s) = stands_in c l r n k b h s
stands_by c l r n k b ends = false
stands_by c l r n k b bad = false

unfoldable pub stands : List ℕ → List ℕ → ℕ → ℕ → ℕ → Bool
stands c l r n k = let i = address_in l k in stands_by c l r n k (body_of c i) (found c i (into c i))

-- as many activations stand at an address
abbrev pub activations_in : List ℕ → ℕ
activations_in l = cond (eqb (byte_at l 0) 0) (byte_at l 2) 0

-- ── the whole ──
unfoldable pub sound_bytes : List ℕ → List ℕ → Bool
sound_bytes c l =
    cond (eqb (length l) state_length)
    (cond (plain_fits c l) (each (stands c l (half_at l 4) (byte_at l 2)) 0 (activations_in l)) false)
    false
