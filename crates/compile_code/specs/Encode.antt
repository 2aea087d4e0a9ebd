-- The macro of a tree, and its bytes.
use Rattle.std.specs.Prelude.{List, [], ◌∷◌, ◌++◌, map, reverse, ℕ, suc, length}
use Rattle.std.proofs.Math.Option.{none}
use Rattle.bytecode.specs.Words.{value_word}
use Rattle.words.specs.Numbers.{half, word}
use Rattle.values.specs.Types.{Ty, ty_byte}
use Rattle.values.specs.Operators.{Operator, unary, binary, unary_code, binary_code}
use Rattle.values.specs.Values.{int, log, bit, ref}
use Rattle.language.specs.Tree.{Typed, Decl, declare, holding, Global, Tree, locals}
use Rattle.language.specs.Tree.{Body as TreeBody, proper, function}
use Rattle.language.specs.Names.{types, procedure_of, root_of}
use Rattle.language.specs.Names.{results as results_of}
use Rattle.bytecode.specs.Macro.{Body, Placed, Macro}
use Rattle.bytecode.specs.Macro.{Code as Record}
use Rattle.bytecode.specs.Instructions.{Owner, own, root, Instr, end, push, load, store, operate, go, go_unless, call, return, make, get_field, put_field, set_level}
use Rattle.bytecode.specs.Instructions.{read_fader, take_hold, let_hold, assert, stop}
use Rattle.compile_code.specs.Code.{Code, op, ◌▸◌, At, at, after, Line, lay, cells_in, placed}
use Rattle.compile_code.specs.Compile.{Class, classes_of, Proc, procs_of, Around, inside, outermost, bound, global, labels, code_head, code_s, code_e, code_items, ty_in}

-- ── bodies ──
-- the root's variables, as the procedures know them
unfoldable pub root_variables : List Decl → ℕ → List Around → List Around
root_variables [] n Γ = Γ
root_variables (declare x ∷ ds) n Γ = root_variables ds (suc n) (global root x.name n ∷ Γ)
root_variables (holding g ∷ ds) n Γ = root_variables ds n Γ

-- the parameters, in their order
unfoldable pub parameter_cells : List Typed → ℕ → List Around → List Around
parameter_cells [] n Γ = Γ
parameter_cells (x ∷ xs) n Γ = bound x.name n ∷ parameter_cells xs (suc n) Γ

abbrev pub start_of_root : Tree → List Around
start_of_root t = outermost (root_of t) ∷ []

abbrev pub around_body : Tree → List Typed → List Around
around_body t xs = parameter_cells xs 0 (inside (procedure_of xs) ∷ root_variables (locals t.head) 0 (start_of_root t))

abbrev pub code_root : Tree → Code
code_root t =
    code_head t.head (global own) (locals t.head) (start_of_root t) (at 0 0)
    (λ Δ q. code_items t.head t.items (labels t.items q.address ∷ Δ) [] q) ▸ op end

abbrev pub code_body : List Global → TreeBody → List Around → At → Code
code_body gs (proper s) Γ p = code_s gs s Γ [] p
code_body gs (function t e) Γ p = code_e gs e Γ [] p

abbrev pub code_proc : Tree → Proc → ℕ → Code
code_proc t p a = code_body t.head p.body (around_body t p.parameters) (at a (length p.parameters)) ▸ op return

-- a body's head and code
pub record Part : Type 0 where
  pub head : Body
  pub code : Code

abbrev pub root_part : Tree → Part
root_part t = record { head = record { first = 0; parameters = 0; results = []; cells = cells_in (code_root t) [] }; code = code_root t }

abbrev pub proc_part : Tree → Proc → ℕ → Part
proc_part t p a =
    let x = code_proc t p a in
    record {
      head = record { first = a; parameters = length p.parameters; results = map (ty_in t.head) (results_of p.body); cells = map (ty_in t.head) (types p.parameters) ++ cells_in x [] };
      code = x;
    }

unfoldable pub proc_parts : Tree → List Proc → ℕ → List Part
proc_parts t [] a = []
proc_parts t (p ∷ ps) a = proc_part t p a ∷ proc_parts t ps (after (code_proc t p a) (at a 0)).address

unfoldable pub parts : Tree → List Part
parts t = root_part t ∷ proc_parts t (procs_of t.head) (after (code_root t) (at 0 0)).address

-- ── records ──
abbrev pub operator_code : Operator → ℕ
operator_code (unary o) = unary_code o
operator_code (binary o) = binary_code o

abbrev pub rec : ℕ → ℕ → ℕ → Record
rec k a b = record { op = k; a = a; b = b }

abbrev pub owner_code : Owner → ℕ
owner_code own = 0
owner_code root = 1

unfoldable pub record_of : Instr → Record
record_of end = rec 0 0 0
record_of (push (int z)) = rec 1 0 (value_word (int z))
record_of (push (log b)) = rec 2 0 (value_word (log b))
record_of (push (bit n)) = rec 3 0 n
record_of (push (ref c r)) = rec 4 c 0
record_of (load o x) = rec 5 (owner_code o) x
record_of (store o x) = rec 6 (owner_code o) x
record_of (operate o) = rec 7 (operator_code o) 0
record_of (go t) = rec 8 0 t
record_of (go_unless t) = rec 9 0 t
record_of (call k) = rec 10 0 k
record_of return = rec 11 0 0
record_of (make c) = rec 12 c 0
record_of (get_field c x) = rec 13 c x
record_of (put_field c x) = rec 14 c x
record_of set_level = rec 15 0 0
record_of read_fader = rec 16 0 0
record_of (take_hold g) = rec 17 0 g
record_of let_hold = rec 18 0 0
record_of assert = rec 19 0 0
record_of (stop c) = rec 20 c 0

unfoldable pub lines_of : List Part → List Line
lines_of [] = []
lines_of (p ∷ ps) = lay p.code none (λ o. lines_of ps)

unfoldable pub heads_of : List Part → List Body
heads_of [] = []
heads_of (p ∷ ps) = p.head ∷ heads_of ps

unfoldable pub records_of : List Line → List Record
records_of [] = []
records_of (l ∷ ls) = record_of l.instr ∷ records_of ls

unfoldable pub field_types : List Global → List Class → List (List Ty)
field_types gs [] = []
field_types gs (c ∷ cs) = map (ty_in gs) (types c.fields) ∷ field_types gs cs

unfoldable pub compiled : Tree → Macro
compiled t =
    let ls = lines_of (parts t) in
    record { classes = field_types t.head (classes_of t.head); bodies = heads_of (parts t); code = records_of ls; shapes = placed 0 ls }

-- ── bytes ──
abbrev pub class_bytes : List Ty → List ℕ
class_bytes ts = 67 ∷ 76 ∷ length ts ∷ map ty_byte ts

abbrev pub result_byte : List Ty → ℕ
result_byte [] = 0
result_byte (t ∷ ts) = ty_byte t

abbrev pub body_bytes : Body → List ℕ
body_bytes b = 66 ∷ 68 ∷ (half b.first ++ (b.parameters ∷ result_byte b.results ∷ length b.cells ∷ map ty_byte b.cells))

abbrev pub code_bytes : Record → List ℕ
code_bytes c = 73 ∷ 78 ∷ c.op ∷ c.a ∷ word c.b

abbrev pub shape_bytes : Placed → List ℕ
shape_bytes s =
    83 ∷ 72 ∷ (half s.address ++ (s.found.holds ∷ length s.found.operands ∷ map ty_byte (reverse s.found.operands)))

-- one after the other, before others
unfoldable pub each : {A : Type 0} → (A → List ℕ) → List A → List ℕ → List ℕ
each f [] l = l
each f (x ∷ xs) l = f x ++ each f xs l

unfoldable pub macro_bytes : Macro → List ℕ
macro_bytes m =
    72 ∷ 68 ∷ length m.classes ∷ length m.bodies ∷ (half (length m.code) ++ (half (length m.shapes)
    ++ each class_bytes m.classes (each body_bytes m.bodies (each code_bytes m.code (each shape_bytes m.shapes (90 ∷ 90 ∷ []))))))

unfoldable pub macro_of : Tree → List ℕ
macro_of t = macro_bytes (compiled t)
