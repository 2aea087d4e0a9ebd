-- The 24,576 bytes of a run state: a machine state written into them, and read back from the bytes in use. (docs/STATE.md)
use Rattle.std.specs.Prelude.{◌&&◌, List, [], ◌∷◌, ◌++◌, reverse, map, ℕ, zero, suc, eqb, leb, length, take, drop, replicate}
use Rattle.std.proofs.Math.Option.{Option, none, some}
use Rattle.std.proofs.Math.ListN.{get_elem?}
use Rattle.bytecode.specs.Words.{value_word, valid_word, word_value}
use Rattle.logic.specs.Choice.{If◌then◌else◌}
use Rattle.logic.specs.Options.{keep}
use Rattle.words.specs.Numbers.{byte_at, half_at, word_at, half, word}
use Rattle.values.specs.Types.{ty_byte}
use Rattle.values.specs.Values.{Value, ty_of, Cell, assigned}
use Rattle.bytecode.specs.Macro.{Macro, ty_of_byte}
use Rattle.bytecode.specs.Instructions.{body_at}
use Rattle.bytecode.specs.Machine.{Activation, Made, end_by, Machine, running, unwinding, ended, all_holds, max_operands, max_holds, max_activations, max_open_holds, max_records}

-- "A run state is 24,576 lent bytes"
abbrev pub state_length : ℕ
state_length = 24576

-- where its parts begin, and how long they are: the header, 32 activations, 512 holds, 256 records
abbrev pub activations_at : ℕ
activations_at = 32

abbrev pub activation_length : ℕ
activation_length = 328

abbrev pub holds_at : ℕ
holds_at = 10528

abbrev pub records_at : ℕ
records_at = 11040

abbrev pub record_length : ℕ
record_length = 44

-- in an activation: the words of 32 cells and 32 operands, then their type bytes; in a record: those of 8 fields
abbrev pub cell_words_at : ℕ
cell_words_at = 8

abbrev pub operand_words_at : ℕ
operand_words_at = 136

abbrev pub cell_types_at : ℕ
cell_types_at = 264

abbrev pub operand_types_at : ℕ
operand_types_at = 296

abbrev pub field_words_at : ℕ
field_words_at = 4

abbrev pub field_types_at : ℕ
field_types_at = 36

-- ── a value, and a cell: a word and a type byte ──
abbrev pub type_byte : Value → ℕ
type_byte v = ty_byte (ty_of v)

unfoldable pub read_value : ℕ → ℕ → ℕ → Option Value
read_value classes t w = keep (ty_of_byte classes t) (λ ty. If valid_word ty w then some (word_value ty w) else none)

abbrev pub word_of_cell : Cell → ℕ
word_of_cell (assigned v) = value_word v

abbrev pub byte_of_cell : Cell → ℕ
byte_of_cell (assigned v) = type_byte v

unfoldable pub read_cell : ℕ → ℕ → ℕ → Option Cell
read_cell classes t w = keep (read_value classes t w) (λ v. some (assigned v))

-- ── writing ──
unfoldable pub zeros : ℕ → List ℕ
zeros n = replicate n 0

-- a list cut or filled up to n elements
unfoldable pub pad : {A : Type 0} → ℕ → A → List A → List A
pad zero z xs = []
pad (suc n) z [] = z ∷ pad n z []
pad (suc n) z (x ∷ xs) = x ∷ pad n z xs

unfoldable pub flat : {A : Type 0} → (A → List ℕ) → List A → List ℕ
flat f [] = []
flat f (x ∷ xs) = f x ++ flat f xs

-- room for n: the words in one row, the type bytes in another
abbrev pub words_of : ℕ → List ℕ → List ℕ
words_of n ws = flat word (pad n 0 ws)

abbrev pub types_of : ℕ → List ℕ → List ℕ
types_of n ts = pad n 0 ts

unfoldable pub activation_bytes : Activation → List ℕ
activation_bytes f =
    let operands = reverse f.operands in
    (f.body ∷ length f.operands ∷ length f.holds ∷ 0 ∷ [])
    ++ (half f.address
    ++ ((0 ∷ 0 ∷ [])
    ++ (words_of 32 (map word_of_cell f.cells)
    ++ (words_of 32 (map value_word operands) ++ (types_of 32 (map byte_of_cell f.cells) ++ types_of 32 (map type_byte operands))))))

unfoldable pub record_bytes : Made → List ℕ
record_bytes r = (r.class ∷ 0 ∷ 0 ∷ 0 ∷ []) ++ (words_of 8 (map value_word r.fields) ++ types_of 8 (map type_byte r.fields))

-- phase, code, activations, records, open holds
unfoldable pub header_bytes : ℕ → ℕ → ℕ → ℕ → ℕ → List ℕ
header_bytes phase code activations records holds =
    (phase ∷ code ∷ activations ∷ 0 ∷ []) ++ (half records ++ (half holds ++ zeros 24))

-- the parts one after the other: header, activations from the root up, holds with the first taken first, records
unfoldable pub state_bytes : List ℕ → List (List ℕ) → List ℕ → List (List ℕ) → List ℕ
state_bytes header activations holds records =
    header
    ++ (flat (λ x. x) (pad max_activations (zeros activation_length) activations)
    ++ (pad max_open_holds 0 holds ++ (flat (λ x. x) (pad max_records (zeros record_length) records) ++ zeros 2272)))

unfoldable pub encode : Machine → List ℕ
encode (running s f fs) =
    let rs = s.records in let gs = all_holds (f ∷ fs) in
    state_bytes (header_bytes 0 0 (length (f ∷ fs)) (length rs) (length gs)) (map activation_bytes (reverse (f ∷ fs))) (reverse gs) (map record_bytes rs)
encode (unwinding gs (end_by c)) = state_bytes (header_bytes 1 c 0 0 (length gs)) [] (reverse gs) []
encode (ended c) = state_bytes (header_bytes 2 c 0 0 0) [] [] []

-- ── reading ──
abbrev pub part : ℕ → ℕ → List ℕ → List ℕ
part from n l = take n (drop from l)

-- n values or cells, each from its type byte and its word, from the rows of the words and of the type bytes
unfoldable pub read_row : {A : Type 0} → (ℕ → ℕ → Option A) → ℕ → List ℕ → List ℕ → Option (List A)
read_row f zero ws ts = some []
read_row f (suc n) ws ts =
    keep (f (byte_at ts 0) (word_at ws 0)) (λ v. keep (read_row f n (drop 4 ws) (drop 1 ts)) (λ vs. some (v ∷ vs)))

-- an activation's bytes, and the holds from its own first on
unfoldable pub read_activation : Macro → List ℕ → List ℕ → Option Activation
read_activation m l holds =
    let classes = length m.classes in let depth = byte_at l 1 in let open' = byte_at l 2 in
    keep (body_at m (byte_at l 0)) (λ b.
    If leb (length b.cells) 32 && (leb depth max_operands && leb open' max_holds) then
    keep (read_row (read_cell classes) (length b.cells) (drop cell_words_at l) (drop cell_types_at l)) (λ cells.
    keep (read_row (read_value classes) depth (drop operand_words_at l) (drop operand_types_at l)) (λ operands.
    some (record { body = byte_at l 0; address = half_at l 4; cells = cells; operands = reverse operands; holds = reverse (take open' holds) })))
    else none)

-- n activations from the root up, onto those below them; l begins with the first of them, holds with its holds
unfoldable pub read_activations : Macro → ℕ → List ℕ → List ℕ → List Activation → Option (List Activation)
read_activations m zero l holds below = some below
read_activations m (suc n) l holds below =
    keep (read_activation m (part 0 activation_length l) holds) (λ f.
    read_activations m n (drop activation_length l) (drop (byte_at l 2) holds) (f ∷ below))

unfoldable pub read_record : Macro → List ℕ → Option Made
read_record m l =
    keep (get_elem? m.classes (byte_at l 0)) (λ ts.
    keep (read_row (read_value (length m.classes)) (length ts) (drop field_words_at l) (drop field_types_at l)) (λ vs.
    some (record { class = byte_at l 0; fields = vs })))

unfoldable pub read_records : Macro → ℕ → List ℕ → Option (List Made)
read_records m zero l = some []
read_records m (suc n) l = keep (read_record m (part 0 record_length l)) (λ r. keep (read_records m n (drop record_length l)) (λ rs. some (r ∷ rs)))

-- the header's open holds are the sum of the activations'
abbrev pub assemble : ℕ → List Made → List Activation → Option Machine
assemble holds rs [] = none
assemble holds rs (f ∷ fs) = If eqb (length (all_holds (f ∷ fs))) holds then some (running (record { records = rs }) f fs) else none

unfoldable pub read_running : Macro → List ℕ → Option Machine
read_running m l =
    let n = byte_at l 2 in let r = half_at l 4 in
    If leb n max_activations && leb r max_records then
    keep (read_activations m n (drop activations_at l) (part holds_at max_open_holds l) []) (λ fs.
    keep (read_records m r (drop records_at l)) (λ rs. assemble (half_at l 6) rs fs))
    else none

unfoldable pub read_unwinding : List ℕ → Option Machine
read_unwinding l =
    let n = half_at l 6 in
    If leb n max_open_holds then some (unwinding (reverse (part holds_at n l)) (end_by (byte_at l 1))) else none

-- the state that the bytes in use stand for
unfoldable pub decode : Macro → List ℕ → Option Machine
decode m l =
    If eqb (byte_at l 0) 0 then read_running m l else
    If eqb (byte_at l 0) 1 then read_unwinding l else
    If eqb (byte_at l 0) 2 then some (ended (byte_at l 1)) else none
