-- The bytes after the loops that move operands, and what the calls may take for granted.
use Rattle.std.specs.Prelude.{◌≡◌, List, ℕ, zero, suc, ◌+◌, ◌*◌, ◌-◌, ◌≤◌, ◌<◌, length}
use Rattle.words.specs.Numbers.{byte_at, half_at, word_at}
use Rattle.values.specs.Ends.{accepted}
use Rattle.bytecode.specs.Macro.{Macro, read_macro}
use Rattle.bytecode.specs.Machine.{Activation, Shared, Here, Stepped}
use Rattle.machine_frames.specs.Bytes.{popped, valued, cell_set, entered}
use Rattle.machine_ops.specs.declared.Out.{Out}
use Rattle.machine_ops.specs.Acts.{here, Now, Told}
use Rattle.bytecode.specs.State.{state_length, activations_at, activation_length, cell_words_at, cell_types_at, operand_words_at, operand_types_at}

-- the topmost c of n operands popped
unfoldable pub dropped : List ℕ → ℕ → ℕ → ℕ → List ℕ
dropped l f n zero = l
dropped l f n (suc c) = dropped (popped l f (n - 1)) f (n - 1) c

-- operands from k on, of the activation at f, in the first of a row of values with words from p and type bytes from q on
unfoldable pub filled : List ℕ → ℕ → ℕ → ℕ → ℕ → ℕ → List ℕ
filled l f k p q zero = l
filled l f k p q (suc j) =
    let m = filled l f k p q j in
    valued m (p + 4 * j) (q + j) (word_at m (f + (operand_words_at + 4 * (k + j)))) (byte_at m (f + (operand_types_at + (k + j))))

-- d cells from j on begun, of the types at q
unfoldable pub begun : List ℕ → ℕ → List ℕ → ℕ → ℕ → ℕ → List ℕ
begun code q l g j zero = l
begun code q l g j (suc d) = begun code q (cell_set l g j 0 (byte_at code (q + j))) g (j + 1) d

-- ── a call: the record of the body stands at q ──
abbrev pub given : List ℕ → ℕ → ℕ
given code q = byte_at code (q + 4)

abbrev pub cells : List ℕ → ℕ → ℕ
cells code q = byte_at code (q + 6)

pub record CallRoom (code : List ℕ) (q : ℕ) (l : List ℕ) (f n : ℕ) : Type 0 where
  pub long : length l ≡ state_length
  pub place : f + activation_length ≤ 10200
  pub count : byte_at l 2 < 32
  pub depth : n ≤ 32
  pub inside : q + 7 + byte_at code (q + 6) ≤ length code
  pub arguments : byte_at code (q + 4) ≤ n
  pub parameters : byte_at code (q + 4) ≤ byte_at code (q + 6)
  pub few : byte_at code (q + 6) ≤ 32

abbrev pub entered_by : List ℕ → ℕ → List ℕ → ℕ → ℕ → List ℕ
entered_by code q l f b = entered l (f + activation_length) (byte_at l 2) b (half_at code (q + 2))

abbrev pub Entered : List ℕ → ℕ → List ℕ → ℕ → ℕ → ℕ → List ℕ → Type 0
Entered code q l f n b k =
    let g = f + activation_length in
    let taken = filled (entered_by code q l f b) f (n - given code q) (g + cell_words_at) (g + cell_types_at) (given code q) in
    k ≡ begun code (q + 7) (dropped taken f n (given code q)) g (given code q) (cells code q - given code q)

-- an op that looks into the macro
abbrev pub TellsOf : List ℕ → (Macro → Here → Stepped) → List ℕ → ℕ → ℕ → ℕ → List ℕ → Out → Type 0
TellsOf code does l f n i k o =
    (m : Macro) → read_macro code ≡ accepted m → (rs : Shared) (t : Activation) (fs : List Activation) → Now m l f n i rs t fs → Told (does m (here rs t fs)) k o

-- ── a return: an activation below finds room for the result ──
pub record ReturnRoom (l : List ℕ) (f n : ℕ) : Type 0 where
  pub long : length l ≡ state_length
  pub low : activations_at + activation_length ≤ f
  pub high : f ≤ 10200
  pub count : 2 ≤ byte_at l 2
  pub one-result : n ≤ 1
  pub below-depth : byte_at l (f - activation_length + 1) + n ≤ 32
  pub below-address : half_at l (f - activation_length + 4) < 65535

-- ── records ──
-- the reference w is to a record, and x is one of its fields
pub record FieldRoom (w x : ℕ) : Type 0 where
  pub made : w ≤ 256
  pub field : x < 8

pub record MakeRoom (code : List ℕ) (q : ℕ) (n : ℕ) : Type 0 where
  pub inside : q + 3 ≤ length code
  pub arguments : byte_at code (q + 2) ≤ n
  pub few : byte_at code (q + 2) ≤ 8
  pub room : n < 32 + byte_at code (q + 2)
