-- What a program of the subset is, stated apart from the check: a tree written as a table, its nesting, and the rules that it keeps (Formed).
use Rattle.std.specs.Prelude.{◌≡◌, Bool, true, false, ◌&&◌, List, [], ◌∷◌, ◌++◌, map, ℕ, suc, ◌+◌, ◌*◌, ◌≤◌, max, ltb, ℤ, pos, length}
use Rattle.std.specs.Int.Signed.{mag}
use Rattle.logic.specs.Lists.{all}
use Rattle.words.specs.Numbers.{half, word, word_of}
use Rattle.values.specs.Types.{ty_code}
use Rattle.values.specs.Operators.{unary_code, binary_code}
use Rattle.language.specs.Tree.{Typed, Decl, declare, holding, Stmt, block, assign, when, choose, while, goto, assert, call, set_level, select, for, Items, no_item, label}
use Rattle.language.specs.Tree.{item, Arms, last_arm, arm, Target, to_variable, to_field, Expr, number, truth, pattern, null, variable, invoke, field, make, operate1}
use Rattle.language.specs.Tree.{operate2, conditional, fader, block_expr, Exprs, no_expr, expr, Body, proper, function, Global, local, class, procedure, Tree}
use Rattle.language.specs.Tree.{count_items, count_arms, count_exprs}
use Rattle.language.specs.Measure.{Measure, measure_s, measure_items, measure_arms, measure_target, measure_e, measure_es}
use Rattle.language.specs.Table.{Entry, entry, in_layout, class_count, procedure_count}
use Rattle.language.specs.Formed.{WellFormed, KeepsLimits}

-- ── writing: the entries of a tree, in prefix order ──
unfoldable pub flat_typed : Typed → Entry
flat_typed x = entry 10 x.name (pos (ty_code x.type))

unfoldable pub flat_decl : Decl → Entry
flat_decl (declare x) = flat_typed x
flat_decl (holding g) = entry 14 g (pos 0)

abbrev pub flag : Bool → ℤ
flag false = pos 0
flag true = pos 1

unfoldable mutual
  pub flat_s : Stmt → List Entry
  flat_s (block ds is) = entry 1 (length ds) (pos (count_items is)) ∷ (map flat_decl ds ++ flat_items is)
  flat_s (assign x e) = entry 21 0 (pos 0) ∷ (flat_target x ++ flat_e e)
  flat_s (when e s) = entry 22 0 (pos 0) ∷ (flat_e e ++ flat_s s)
  flat_s (choose e s t) = entry 23 0 (pos 0) ∷ (flat_e e ++ (flat_s s ++ flat_s t))
  flat_s (while e s) = entry 24 0 (pos 0) ∷ (flat_e e ++ flat_s s)
  flat_s (goto a) = entry 25 a (pos 0) ∷ []
  flat_s (assert e) = entry 26 0 (pos 0) ∷ flat_e e
  flat_s (call a es) = entry 27 a (pos (count_exprs es)) ∷ flat_es es
  flat_s (set_level e f) = entry 28 0 (pos 0) ∷ (flat_e e ++ flat_e f)
  flat_s (select e r) = entry 30 (count_arms r) (pos 0) ∷ (flat_e e ++ flat_arms r)
  flat_s (for a e f g s) = entry 31 a (pos 0) ∷ (flat_e e ++ (flat_e f ++ (flat_e g ++ flat_s s)))

  pub flat_items : Items → List Entry
  flat_items no_item = []
  flat_items (label a is) = entry 20 a (pos 0) ∷ flat_items is
  flat_items (item s is) = flat_s s ++ flat_items is

  pub flat_arms : Arms → List Entry
  flat_arms (last_arm s) = flat_s s
  flat_arms (arm s r) = flat_s s ++ flat_arms r

  pub flat_target : Target → List Entry
  flat_target (to_variable a) = entry 44 a (pos 0) ∷ []
  flat_target (to_field a e) = entry 46 a (pos 0) ∷ flat_e e

  pub flat_e : Expr → List Entry
  flat_e (number z) = entry 40 0 z ∷ []
  flat_e (truth b) = entry 41 0 (flag b) ∷ []
  flat_e (pattern z) = entry 42 0 z ∷ []
  flat_e (null c) = entry 43 c (pos 0) ∷ []
  flat_e (variable a) = entry 44 a (pos 0) ∷ []
  flat_e (invoke a es) = entry 45 a (pos (count_exprs es)) ∷ flat_es es
  flat_e (field a e) = entry 46 a (pos 0) ∷ flat_e e
  flat_e (make c es) = entry 47 c (pos (count_exprs es)) ∷ flat_es es
  flat_e (operate1 o e) = entry 48 (unary_code o) (pos 0) ∷ flat_e e
  flat_e (operate2 o e f) = entry 49 (binary_code o) (pos 0) ∷ (flat_e e ++ flat_e f)
  flat_e (conditional e f g) = entry 50 0 (pos 0) ∷ (flat_e e ++ (flat_e f ++ flat_e g))
  flat_e (fader e) = entry 51 0 (pos 0) ∷ flat_e e
  flat_e (block_expr ds is e) = entry 53 (length ds) (pos (count_items is)) ∷ (map flat_decl ds ++ (flat_items is ++ flat_e e))

  pub flat_es : Exprs → List Entry
  flat_es no_expr = []
  flat_es (expr e es) = flat_e e ++ flat_es es

-- "b = 256 × parameters (0 to 8) + result"
abbrev pub result_code : Body → ℕ
result_code (proper s) = 0
result_code (function t e) = ty_code t

unfoldable pub flat_body : Body → List Entry
flat_body (proper s) = flat_s s
flat_body (function t e) = flat_e e

unfoldable pub flat_global : Global → List Entry
flat_global (local d) = flat_decl d ∷ []
flat_global (class c xs) = entry 11 c (pos (length xs)) ∷ map flat_typed xs
flat_global (procedure a xs b) = entry 12 a (pos (256 * length xs + result_code b)) ∷ (map flat_typed xs ++ flat_body b)

unfoldable pub flat_head : List Global → List Entry
flat_head [] = []
flat_head (g ∷ gs) = flat_global g ++ flat_head gs

unfoldable pub flatten : Tree → List Entry
flatten t = entry 1 (length t.head) (pos (count_items t.items)) ∷ (flat_head t.head ++ flat_items t.items)

-- the bytes of entries
unfoldable pub table_bytes : List Entry → List ℕ
table_bytes [] = []
table_bytes (e ∷ es) = half e.kind ++ (half e.a ++ (word (word_of e.b) ++ table_bytes es))

-- ── nesting: "nesting at most 64 deep; the root, a block (kind 1), is depth 1" ──
abbrev pub deep_head : List Decl → ℕ
deep_head [] = 0
deep_head (d ∷ ds) = 1

abbrev pub by_depth : Measure
by_depth =
    record { of_none = 0; of_parts = max; of_entry = suc; of_label = max 1; of_case = suc; of_loop = suc; of_block = λ ds n. suc (max (deep_head ds) n); stacked = false }

abbrev pub deep_s : Stmt → ℕ
deep_s s = measure_s by_depth s

abbrev pub deep_items : Items → ℕ
deep_items is = measure_items by_depth is

abbrev pub deep_arms : Arms → ℕ
deep_arms r = measure_arms by_depth r

abbrev pub deep_target : Target → ℕ
deep_target x = measure_target by_depth x

abbrev pub deep_e : Expr → ℕ
deep_e e = measure_e by_depth e

abbrev pub deep_es : Exprs → ℕ
deep_es es = measure_es by_depth 0 es

abbrev pub deep_list : List Typed → ℕ
deep_list [] = 0
deep_list (x ∷ xs) = 1

abbrev pub deep_body : Body → ℕ
deep_body (proper s) = deep_s s
deep_body (function t e) = deep_e e

abbrev pub deep_global : Global → ℕ
deep_global (local d) = 1
deep_global (class c xs) = suc (deep_list xs)
deep_global (procedure a xs b) = suc (max (deep_list xs) (deep_body b))

unfoldable pub deep_globals : List Global → ℕ
deep_globals [] = 0
deep_globals (g ∷ gs) = max (deep_global g) (deep_globals gs)

unfoldable pub nesting : Tree → ℕ
nesting t = suc (max (deep_globals t.head) (deep_items t.items))

-- ── programs ──
unfoldable pub total : {A : Type 0} → (A → ℕ) → List A → ℕ
total f [] = 0
total f (x ∷ xs) = f x + total f xs

-- "kind (u16), a (u16), b (32 bits, signed)"
abbrev pub in_fields : Entry → Bool
in_fields e = ltb e.kind 65536 && (ltb e.a 65536 && ltb (mag e.b) 2147483648)

-- a table is a program of the subset if some tree is written by it that keeps to the layout, is well formed and keeps its bodies' limits
pub record Program (l : List ℕ) : Type 0 where
  pub tree : Tree
  pub written : table_bytes (flatten tree) ≡ l
  pub fields : all in_fields (flatten tree) ≡ true
  pub layout : all in_layout (flatten tree) ≡ true
  pub entries : length (flatten tree) ≤ 2048  -- "At most 2,048 entries"
  pub depth : nesting tree ≤ 64  -- "nesting at most 64 deep"
  pub classes : total class_count tree.head ≤ 16  -- "Kinds 11 and 12 stand only in the root's head, at most 16 and 63."
  pub procedures : total procedure_count tree.head ≤ 63
  pub well-formed : WellFormed tree  -- names, types and reach: 3, 4, 5
  pub keeps-limits : KeepsLimits tree  -- room in a body: 6
