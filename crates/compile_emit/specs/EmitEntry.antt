-- What entries add themselves to the code of their operands, near the code: their instructions and shapes, and the types of their results.
use Rattle.std.specs.Prelude.{Bool, true, false, List, [], ◌∷◌, ℕ, zero, suc, ◌+◌, ◌-◌, ◌%◌, eqb, ltb, get_or, drop, take}
use Rattle.logic.specs.Choice.{If◌then◌else◌}
use Rattle.words.specs.Numbers.{half_at}
use Rattle.table_scopes.specs.Environment.{Item}
use Rattle.compile_symbols.specs.Numbers.{type_in, first_in, second_in}
use Rattle.compile_symbols.specs.Meaning.{meaning_of}
use Rattle.compile_output.specs.declared.Cursor.{Cursor}
use Rattle.compile_output.specs.EmitRecord.{moved, cursor_shaped, emit_op, emit_shape}
use Rattle.compile_output.specs.EmitCode.{lets, cursor_after, emitted}
use Rattle.compile_emit.specs.declared.Way.{Way}
use Rattle.compile_emit.specs.declared.Way.TheVariants.{Plain, Marked, IfTrue, IfFalse}

-- ── entries with no operands, or expressions only ──
-- whether an entry names a definition
unfoldable pub names : ℕ → Bool
names k =
    If eqb k 27 then true else
    If eqb k 43 then true else
    If eqb k 44 then true else
    If eqb k 45 then true else
    If eqb k 46 then true else
    If eqb k 47 then true else false

abbrev pub known_for : ℕ → ℕ → List Item → List ℕ → ℕ
known_for k a v known = If names k then meaning_of a v known else 0

-- whose cell: in the root's code, the root's variables are its own
abbrev pub owner_by : Bool → ℕ → ℕ
owner_by inside known = If inside then first_in known else 0

-- the instruction of an expression with nothing below it
unfoldable pub emit_leaf : ℕ → ℕ → ℕ → Cursor → List ℕ → List ℕ
emit_leaf k b known p l =
    If eqb k 40 then emit_op p l 1 0 b else
    If eqb k 41 then emit_op p l 2 0 b else
    If eqb k 42 then emit_op p l 3 0 b else
    If eqb k 43 then emit_op p l 4 (first_in known) 0 else emit_op p l 5 (owner_by p.inside known) (second_in known)

unfoldable pub leaf_type : ℕ → ℕ → ℕ
leaf_type k known = If eqb k 40 then 1 else If eqb k 41 then 2 else If eqb k 42 then 3 else type_in known

-- the expressions below an entry that has no other operands
unfoldable pub operands_by : ℕ → ℕ → ℕ
operands_by k b =
    If eqb k 26 then 1 else
    If eqb k 27 then b else
    If eqb k 28 then 2 else
    If eqb k 45 then b else
    If eqb k 46 then 1 else
    If eqb k 47 then b else
    If eqb k 48 then 1 else
    If eqb k 51 then 1 else 0

-- the instruction of an entry with expressions only below it
unfoldable pub emit_last : ℕ → ℕ → ℕ → Cursor → List ℕ → List ℕ
emit_last k a known p l =
    If eqb k 26 then emit_op p l 19 0 0 else
    If eqb k 27 then emit_op p l 10 0 (second_in known) else
    If eqb k 28 then emit_op p l 15 0 0 else
    If eqb k 45 then emit_op p l 10 0 (second_in known) else
    If eqb k 46 then emit_op p l 13 (first_in known) (second_in known) else
    If eqb k 47 then emit_op p l 12 (first_in known) 0 else
    If eqb k 48 then emit_op p l 7 (a % 256) 0 else emit_op p l 16 0 0

unfoldable pub last_type : ℕ → ℕ → ℕ → ℕ → ℕ
last_type k a known first =
    If eqb k 45 then type_in known else
    If eqb k 46 then type_in known else
    If eqb k 47 then type_in known else
    If eqb k 48 then (If eqb a 22 then first else 1) else 1

-- ── heads ──
abbrev pub emit_initial : ℕ → Cursor → List ℕ → List ℕ
emit_initial t p l = If ltb t 16 then emit_op p l t 0 0 else emit_op p l 4 (t - 16) 0

unfoldable pub cursor_declared : ℕ → Cursor → Cursor
cursor_declared k p = If eqb k 10 then moved (moved p) else If eqb k 14 then moved p else p

unfoldable pub emit_declared : ℕ → ℕ → ℕ → Cursor → List ℕ → List ℕ
emit_declared k a known p l =
    If eqb k 10 then emit_op (moved p) (emit_initial (type_in known) p l) 6 0 (second_in known) else
    If eqb k 14 then emit_op p l 17 0 a else l

-- the declarations that begin a part, of which the first stands at a place: the cursor after them, the output, and the ends of their code
unfoldable pub cursor_head : List ℕ → ℕ → Cursor → Cursor
cursor_head part zero p = p
cursor_head part (suc n) p = cursor_head (drop 8 part) n (cursor_declared (half_at part 0) p)

unfoldable pub emit_head : List ℕ → List ℕ → ℕ → ℕ → Cursor → List ℕ → List ℕ
emit_head part known at zero p l = l
emit_head part known at (suc n) p l =
    emit_head (drop 8 part) known (at + 1) n (cursor_declared (half_at part 0) p) (emit_declared (half_at part 0) (half_at part 2) (get_or known at 0) p l)

unfoldable pub finishes : List ℕ → ℕ → Cursor → List ℕ
finishes part zero p = []
finishes part (suc n) p = let q = cursor_declared (half_at part 0) p in q.address ∷ finishes (drop 8 part) n q

abbrev pub holds_by : ℕ → ℕ
holds_by k = If eqb k 14 then 1 else 0

unfoldable pub holds_head : List ℕ → ℕ → ℕ
holds_head part zero = 0
holds_head part (suc n) = holds_by (half_at part 0) + holds_head (drop 8 part) n

-- ── operators ──
-- how the second operand follows the first: 0 plainly, 1 marked (`and`, `or` of bits), 2 if the first is true, 3 if it is false
unfoldable pub way_by : ℕ → ℕ → ℕ
way_by o t = If eqb o 12 then (If eqb t 2 then 2 else 1) else If eqb o 13 then (If eqb t 2 then 3 else 1) else 0

-- the number of what the code answers
abbrev pub number_of_way : Way → ℕ
number_of_way Plain = 0
number_of_way Marked = 1
number_of_way IfTrue = 2
number_of_way IfFalse = 3

abbrev pub waiting_by : ℕ → ℕ
waiting_by w = If ltb w 2 then 1 else 0

unfoldable pub cursor_between : ℕ → ℕ → Cursor → Cursor
cursor_between w d p =
    If eqb w 0 then p else
    If eqb w 1 then cursor_shaped (d + 1) p else
    If eqb w 2 then moved p else cursor_shaped d (moved (moved (moved p)))

unfoldable pub emit_between : ℕ → ℕ → ℕ → List ℕ → ℕ → Cursor → List ℕ → List ℕ
emit_between w end h st d p l =
    If eqb w 0 then l else
    If eqb w 1 then emit_shape p l h (d + 1) (take (d + 1) st) else
    If eqb w 2 then emit_op p l 9 0 (end + 1) else
    emit_shape (moved (moved (moved p))) (emit_op (moved (moved p)) (emit_op (moved p) (emit_op p l 9 0 (p.address + 3)) 2 0 1) 8 0 end) h d (take d st)

unfoldable pub cursor_behind : ℕ → ℕ → Cursor → Cursor
cursor_behind w d p =
    If eqb w 2 then cursor_shaped (d + 1) (moved (cursor_shaped d (moved p))) else
    If eqb w 3 then cursor_shaped (d + 1) p else moved p

unfoldable pub emit_behind : ℕ → ℕ → ℕ → ℕ → List ℕ → ℕ → Cursor → List ℕ → List ℕ
emit_behind w o end h st d p l =
    If eqb w 2
    then (let q = cursor_shaped d (moved p) in
    emit_shape (moved q) (emit_op q (emit_shape (moved p) (emit_op p l 8 0 (end + 2)) h d (take d st)) 2 0 0) h (d + 1) (take (d + 1) st))
    else If eqb w 3 then emit_shape p l h (d + 1) (take (d + 1) st) else emit_op p l 7 (o % 256) 0

unfoldable pub pair_type : ℕ → ℕ → ℕ
pair_type o t = If ltb o 6 then 1 else If ltb o 12 then 2 else t

-- ── cases ──
abbrev pub cursor_before : Cursor → Cursor
cursor_before p = moved (moved (moved (moved p)))

abbrev pub emit_before : ℕ → ℕ → ℕ → Cursor → List ℕ → List ℕ
emit_before c i end p l =
    emit_op (moved (moved (moved p))) (emit_op (moved (moved p)) (emit_op (moved p) (emit_op p l 5 0 c) 1 0 (i + 1)) 7 10 0) 9 0 (end + 1)

abbrev pub cursor_behind_arm : ℕ → Cursor → Cursor
cursor_behind_arm d p = cursor_shaped d (moved p)

abbrev pub emit_behind_arm : ℕ → ℕ → List ℕ → ℕ → Cursor → List ℕ → List ℕ
emit_behind_arm end h st d p l = emit_shape (moved p) (emit_op p l 8 0 end) h d (take d st)

-- ── gotos: n holds are passed ──
abbrev pub cursor_goto : ℕ → ℕ → Cursor → Cursor
cursor_goto n d p = cursor_shaped d (moved (cursor_after (lets n) p))

abbrev pub emit_goto : ℕ → ℕ → ℕ → List ℕ → ℕ → Cursor → List ℕ → List ℕ
emit_goto n target h st d p l =
    let q = cursor_after (lets n) p in
    emit_shape (moved q) (emit_op q (emitted (lets n) p l) 8 0 target) h d (take d st)
