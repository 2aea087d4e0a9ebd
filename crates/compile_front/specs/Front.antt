-- What the functions write, and what they ask: the classes, the root and the procedures of the tree that a table holds.
use Rattle.std.specs.Prelude.{◌≡◌, List, [], ◌∷◌, ◌++◌, map, ℕ, ◌+◌, ◌/◌, ◌%◌, ◌≤◌, ◌<◌, eqb, length, drop, get_or}
use Rattle.language.specs.Program.{flat_decl, flat_items, flat_global, flat_head, flatten}
use Rattle.logic.specs.Choice.{If◌then◌else◌}
use Rattle.words.specs.Numbers.{half, word_of}
use Rattle.language.specs.Tree.{Global, local, class, procedure, Tree, locals}
use Rattle.language.specs.Table.{Entry}
use Rattle.bytecode.specs.Macro.{Body}
use Rattle.language_laws.specs.Claims.{entries_of}
use Rattle.table_entries.specs.Entries.{entry_at}
use Rattle.logic.specs.Lists.{Each}
use Rattle.compile_code.specs.Code.{at, after}
use Rattle.compile_code.specs.Compile.{classes_of, class_names, procs_of}
use Rattle.compile_code.specs.Encode.{code_root, code_proc, proc_parts, heads_of, field_types, compiled, class_bytes, body_bytes, each}
use Rattle.compile_bytes.specs.Whole.{front}
use Rattle.compile_symbols.specs.Numbers.{numbers_of}
use Rattle.compile_symbols.specs.Tabled.{Tabled, the_tree, classes_in, between, part_at}
use Rattle.compile_symbols.specs.Whole.{kind_of}
use Rattle.compile_front.specs.Types.{types_of}
use Rattle.compile_front.specs.Bodies.{body_of}

-- ── from the entries of a declaration ──
-- a BD record up to its cell types
abbrev pub body_head : ℕ → ℕ → ℕ → ℕ → List ℕ
body_head first parameters result cells = 66 ∷ 68 ∷ (half first ++ (parameters ∷ result ∷ cells ∷ []))

unfoldable pub class_part : List ℕ → List Entry → List ℕ
class_part cs [] = []
class_part cs (e ∷ us) = If eqb e.kind 11 then 67 ∷ 76 ∷ length us ∷ types_of cs us [] else []

unfoldable pub body_part : List ℕ → ℕ → List Entry → List ℕ
body_part cs a [] = []
body_part cs a (e ∷ us) = If eqb e.kind 12 then body_of a (word_of e.b / 256) (word_of e.b % 256) (types_of cs us []) else []

-- of the entries at a place of a table, or between two
abbrev pub type_at : List ℕ → ℕ → List ℕ
type_at l i = types_of (classes_in l) (entry_at l i ∷ []) []

abbrev pub types_between : List ℕ → ℕ → ℕ → List ℕ
types_between l from to = types_of (classes_in l) (between from to (entries_of l)) []

abbrev pub class_at : List ℕ → List ℕ → ℕ → List ℕ
class_at l sizes place = class_part (classes_in l) (part_at l sizes place)

abbrev pub body_at : List ℕ → List ℕ → ℕ → ℕ → List ℕ
body_at l sizes place first = body_part (classes_in l) first (part_at l sizes place)

-- the numbers of a procedure are bytes
unfoldable pub Brief : List ℕ → List Entry → Type 0
Brief l [] = Unit {0}
Brief l (e ∷ us) = (word_of e.b < 65536) × (length (types_of (classes_in l) us []) ≤ 255)

-- the place of the body after an entry of this kind
abbrev pub first_after : ℕ → ℕ → ℕ → ℕ
first_after k e a = If eqb k 12 then e else a

-- ── of the declarations that are left ──
unfoldable pub classes_from : Tree → List Global → List ℕ
classes_from t gs = each class_bytes (field_types t.head (classes_of gs)) []

unfoldable pub variables_from : Tree → List Global → List ℕ
variables_from t gs = types_of (class_names (classes_of t.head)) (map flat_decl (locals gs)) []

unfoldable pub procs_from : Tree → List Global → ℕ → List ℕ
procs_from t gs a = each body_bytes (heads_of (proc_parts t (procs_of gs) a)) []

-- where the code of a declaration ends, if it has any, and where each begins
unfoldable pub next_first : Tree → Global → ℕ → ℕ
next_first t (local d) a = a
next_first t (class c xs) a = a
next_first t (procedure n xs b) a = (after (code_proc t (record { name = n; parameters = xs; body = b }) a) (at a 0)).address

-- the ends of the procedures, by their entries
unfoldable pub Firsts : Tree → List ℕ → List Global → ℕ → ℕ → Type 0
Firsts t ends [] place a = Unit {0}
Firsts t ends (g ∷ gs) place a = (kind_of g ≡ 12 → get_or ends place 0 ≡ next_first t g a) × Firsts t ends gs (place + length (flat_global g)) (next_first t g a)

abbrev pub root_end : Tree → ℕ
root_end t = (after (code_root t) (at 0 0)).address

-- ── of a table ──
abbrev pub classes_front : List ℕ → List ℕ
classes_front l = classes_from (the_tree l) (the_tree l).head

abbrev pub variables_front : List ℕ → List ℕ
variables_front l = variables_from (the_tree l) (the_tree l).head

abbrev pub procs_front : List ℕ → List ℕ
procs_front l = procs_from (the_tree l) (the_tree l).head (root_end (the_tree l))

abbrev pub root_types : List ℕ → List ℕ
root_types l = types_of (classes_in l) (map flat_decl (locals (the_tree l).head)) (types_of (classes_in l) (flat_items (the_tree l).items) [])

abbrev pub after_head : List ℕ → ℕ
after_head l = 1 + length (flat_head (the_tree l).head)

-- bodies have few cells
abbrev pub Few : List Body → Type 0
Few bs = Each (λ b. length b.cells ≤ 255) bs

pub record Ended (l ends : List ℕ) : Type 0 where
  pub wide : length l / 8 ≤ length ends
  pub root : get_or ends 0 0 ≡ root_end (the_tree l)
  pub firsts : Firsts (the_tree l) ends (the_tree l).head 1 (root_end (the_tree l))
  pub few : Few (heads_of (proc_parts (the_tree l) (procs_of (the_tree l).head) (root_end (the_tree l))))

-- ── what the callers show, for some tree, and are told for every tree ──
pub record Measuring (t : Tree) (l : List ℕ) (classes bodies : ℕ) : Type 0 where
  pub short : length l ≤ 16384
  pub same : entries_of l ≡ flatten t
  pub classes-are : classes ≡ length (classes_of t.head)
  pub bodies-are : bodies ≡ 1 + length (procs_of t.head)

pub record Fronted (t : Tree) (l : List ℕ) (count after : ℕ) (sizes known ends : List ℕ) (classes bodies instructions shapes room : ℕ) : Type 0 where
  pub tabled : Tabled l sizes t
  pub counted : count ≡ length t.head
  pub items : after ≡ 1 + length (flat_head t.head)
  -- the numbers stand after the root's
  pub wide-known : length l / 8 ≤ length known
  pub more : List ℕ
  pub numbered : drop 1 known ≡ numbers_of t ++ more
  -- and the ends of the bodies at the root's entry and the procedures'
  pub wide-ends : length l / 8 ≤ length ends
  pub root-end : get_or ends 0 0 ≡ root_end t
  pub firsts : Firsts t ends t.head 1 (root_end t)
  -- the macro's numbers
  pub classes-are : classes ≡ length (compiled t).classes
  pub bodies-are : bodies ≡ length (compiled t).bodies
  pub instructions-are : instructions ≡ length (compiled t).code
  pub shapes-are : shapes ≡ length (compiled t).shapes
  pub few-instructions : instructions < 65536
  pub few-shapes : shapes < 65536
  pub few-cells : Few (compiled t).bodies
  pub fits : length (front (compiled t)) ≤ room
