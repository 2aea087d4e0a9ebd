-- What a walker asks where it stands, and what it has done: for every statement, expression or label that stands there, and all that lies around it.
use Rattle.std.specs.Prelude.{◌≡◌, false, List, [], ◌∷◌, map, reverse, ℕ, suc, ◌+◌, ◌*◌, ◌≤◌, pos, length, get_or, take}
use Rattle.std.proofs.lemmas.List.Edits.{sets}
use Rattle.language.specs.Program.{flat_s, flat_items, flat_arms, flat_e, flat_es, deep_s, deep_items, deep_arms, deep_e, deep_es}
use Rattle.values.specs.Types.{Ty, ty_byte}
use Rattle.language.specs.Tree.{Stmt, Expr, Items, Arms, last_arm, arm, Exprs, no_expr, Global, count_items, count_arms, count_exprs}
use Rattle.language.specs.Tree.{expr as more}
use Rattle.language.specs.Table.{Entry, entry}
use Rattle.language.specs.Limits.{holds_s, holds_e, holds_items, holds_arms, holds_es, need_s, need_e, need_items, need_arms}
use Rattle.language.specs.Names.{Scope}
use Rattle.language_laws.specs.Claims.{entries_of}
use Rattle.table_scopes.specs.Environment.{env_of}
use Rattle.table_entries.specs.Stands.{Stands}
use Rattle.table_scopes.specs.Sees.{Sees}
use Rattle.table_scopes.specs.Defines.{bulk}
use Rattle.table_forms.specs.Forms.{Form, head_f, form_s, form_e, labelled}
use Rattle.table_forms.specs.Walk.{Table}
use Rattle.bytecode.specs.Instructions.{own, push, load, operate, go, go_unless}
use Rattle.values.specs.Operators.{binary, equal}
use Rattle.values.specs.Values.{int}
use Rattle.compile_code.specs.Code.{Code, op, mark, ◌▸◌, At, skip, after}
use Rattle.compile_code.specs.Compile.{Around, scopes_of, held_in, found, code_s, code_e, code_items, code_es, ty_e, classes_of, class_names}
use Rattle.compile_names.specs.Good.{GoodS, GoodE, GoodItems, GoodArms, GoodEs}
use Rattle.compile_symbols.specs.Numbers.{numbers_from, cells_within, second_in}
use Rattle.compile_output.specs.declared.Cursor.{Cursor}
use Rattle.compile_output.specs.EmitRecord.{Fits}
use Rattle.compile_output.specs.EmitCode.{cursor_after, emitted}
use Rattle.compile_nodes.specs.Ends.{ends_s, ends_e, ends_items, ends_arms, ends_es}
use Rattle.compile_nodes.specs.Knows.{Lies, Walk, Knows, Lands}

-- what stands at an entry
pub data Node : Type 0 where
  stmt : Stmt → Node
  expr : Expr → Node
  name : ℕ → Node  -- a label

abbrev pub flat_n : Node → List Entry
flat_n (stmt s) = flat_s s
flat_n (expr e) = flat_e e
flat_n (name a) = entry 20 a (pos 0) ∷ []

-- the kind of its entry
abbrev pub form_n : Node → Form
form_n (stmt s) = form_s s
form_n (expr e) = form_e e
form_n (name a) = labelled a

abbrev pub kind_n : Node → ℕ
kind_n n = (head_f (form_n n)).kind

-- how many items are pushed below it, at most; a label's is there already
abbrev pub room_n : Node → ℕ
room_n (stmt s) = length (flat_s s)
room_n (expr e) = length (flat_e e)
room_n (name a) = 0

abbrev pub deep_n : Node → ℕ
deep_n (stmt s) = deep_s s
deep_n (expr e) = deep_e e
deep_n (name a) = 1

abbrev pub holds_n : Node → ℕ
holds_n (stmt s) = holds_s s
holds_n (expr e) = holds_e e
holds_n (name a) = 0

abbrev pub need_n : Node → ℕ
need_n (stmt s) = need_s s
need_n (expr e) = need_e e
need_n (name a) = 1

abbrev pub GoodN : List Scope → Node → Type 0
GoodN ss (stmt s) = GoodS ss s
GoodN ss (expr e) = GoodE ss e
GoodN ss (name a) = Unit {0}

module _ (gs : List Global) where
  abbrev pub code_n : Node → List Around → List Ty → At → Code
  code_n (stmt s) Γ st p = code_s gs s Γ st p
  code_n (expr e) Γ st p = code_e gs e Γ st p
  code_n (name a) Γ st p = mark (found Γ st)

  abbrev pub ends_n : Node → List Around → List Ty → At → List ℕ
  ends_n (stmt s) Γ st p = ends_s gs s Γ st p
  ends_n (expr e) Γ st p = ends_e gs e Γ st p
  ends_n (name a) Γ st p = p.address ∷ []

-- where a part is, in the terms of the definition: what lies around it, the types on the working stack, where its code begins
pub record Place : Type 0 where
  pub around : List Around
  pub types : List Ty
  pub start : At

-- the lent numbers and bytes as a walker finds or leaves them
pub record Lent : Type 0 where
  pub env : List ℕ
  pub ends : List ℕ
  pub stack : List ℕ
  pub out : List ℕ

-- the numbers and entries of a part of a table, whose code starts there: us are its entries, es the ends of their code
pub record Laid (W : Walk) (l : List ℕ) (at : ℕ) (start : At) (us : List Entry) (es : List ℕ) : Type 0 where
  pub stands : Stands (entries_of l) at us
  pub cells : start.cell + cells_within us ≤ 32
  pub numbered : Lies W.known at (numbers_from (class_names (classes_of W.globals)) start.cell us)
  pub aimed : W.dry ≡ false → Lies W.aims at es

-- what is lent agrees with a place
pub record Stood (W : Walk) (X : Place) (l : List ℕ) (L : Lent) (top holds depth : ℕ) (cursor : Cursor) : Type 0 where
  pub sees : Sees l (env_of L.env top) (scopes_of X.around)
  pub knows : Knows W (env_of L.env top) X.around
  pub held : holds ≡ length (held_in X.around)
  pub deep : depth ≡ length X.types
  pub typed : map ty_byte (reverse X.types) ≡ take depth L.stack
  pub stacked : 32 ≤ length L.stack
  pub address : cursor.address ≡ X.start.address
  pub dryness : cursor.dry ≡ W.dry
  pub inside : cursor.inside ≡ W.within

-- what holds after any call, whatever stood there
pub record Kept (L M : Lent) (top depth : ℕ) : Type 0 where
  pub env : env_of M.env top ≡ env_of L.env top
  pub same-env : length M.env ≡ length L.env
  pub same_ends : length M.ends ≡ length L.ends
  pub stack : take depth M.stack ≡ take depth L.stack
  pub same-stack : length M.stack ≡ length L.stack
  pub same_out : length M.out ≡ length L.out

-- code is written
pub record Wrote (before later : List ℕ) (cursor r : Cursor) (x : Code) : Type 0 where
  pub advanced : r ≡ cursor_after x cursor
  pub written : later ≡ emitted x cursor before

-- ── a statement, an expression or a label ──
abbrev pub LandsN : Walk → List ℕ → ℕ → List Around → Node → Type 0
LandsN W env top Γ (stmt s) = Lands W (env_of env top) Γ
LandsN W env top Γ (expr e) = Unit {0}
LandsN W env top Γ (name a) = Unit {0}

pub record Ready (n : Node) (W : Walk) (X : Place) (l part : List ℕ) (nesting at : ℕ) (sizes : List ℕ) (L : Lent) (top holds depth : ℕ) (cursor : Cursor) : Type 0 where
  pub table : Table l part sizes at
  pub laid : Laid W l at X.start (flat_n n) (ends_n W.globals n X.around X.types X.start)
  pub stood : Stood W X l L top holds depth cursor
  pub room : 4 * (top + room_n n) ≤ length L.env
  pub ending : at + length (flat_n n) ≤ length L.ends
  pub fits : Fits (cursor_after (code_n W.globals n X.around X.types X.start) cursor) (length L.out)
  pub deep : deep_n n ≤ nesting
  pub good : GoodN (scopes_of X.around) n
  pub lands : LandsN W L.env top X.around n
  pub few-holds : holds + holds_n n ≤ 16
  pub few-values : depth + need_n n ≤ 32

-- the type that an expression leaves on the stack
abbrev pub LeavesN : List Global → Node → List Around → List ℕ → ℕ → Type 0
LeavesN gs (stmt s) Γ stack depth = Unit {0}
LeavesN gs (expr e) Γ stack depth = get_or stack depth 0 ≡ ty_byte (ty_e gs Γ e)
LeavesN gs (name a) Γ stack depth = Unit {0}

pub record Done (n : Node) (W : Walk) (X : Place) (at : ℕ) (L M : Lent) (depth : ℕ) (cursor r : Cursor) : Type 0 where
  pub wrote : Wrote L.out M.out cursor r (code_n W.globals n X.around X.types X.start)
  pub ended : M.ends ≡ sets L.ends at (ends_n W.globals n X.around X.types X.start)
  pub leaves : LeavesN W.globals n X.around M.stack depth

-- a walker of nodes with P asks that one of them stands there, ready …
pub record Asks (P : Node → Type 0) (known aims l part : List ℕ) (nesting at : ℕ) (sizes : List ℕ) (L : Lent) (top holds depth : ℕ) (cursor : Cursor) : Type 0 where
  pub node : Node
  pub walk : Walk
  pub place : Place
  pub such : P node
  pub same_known : walk.known ≡ known
  pub same-aims : walk.aims ≡ aims
  pub ready : Ready node walk place l part nesting at sizes L top holds depth cursor

-- … and for each that is, has done its code
pub record Answers (P : Node → Type 0) (known aims l part : List ℕ) (nesting at : ℕ) (sizes : List ℕ) (L M : Lent) (top holds depth : ℕ) (cursor r : Cursor) : Type 0 where
  pub kept : Kept L M top depth
  pub done : (n : Node) (W : Walk) (X : Place) → P n → W.known ≡ known → W.aims ≡ aims → Ready n W X l part nesting at sizes L top holds depth cursor → Done n W X at L M depth cursor r

-- ── expressions one after the other ──
-- the stack after them
unfoldable pub pushed : List Global → List Around → Exprs → List Ty → List Ty
pushed gs Γ no_expr st = st
pushed gs Γ (more e es) st = pushed gs Γ es (ty_e gs Γ e ∷ st)

-- each finds room on the stack
unfoldable pub ValuesEs : ℕ → Exprs → Type 0
ValuesEs d no_expr = Unit {0}
ValuesEs d (more e es) = (d + need_e e ≤ 32) × ValuesEs (suc d) es

pub record ReadyEs (es : Exprs) (W : Walk) (X : Place) (l part : List ℕ) (count nesting at : ℕ) (sizes : List ℕ) (L : Lent) (top holds depth : ℕ) (cursor : Cursor) : Type 0 where
  pub table : Table l part sizes at
  pub laid : Laid W l at X.start (flat_es es) (ends_es W.globals es X.around X.types X.start)
  pub stood : Stood W X l L top holds depth cursor
  pub room : 4 * (top + length (flat_es es)) ≤ length L.env
  pub ending : at + length (flat_es es) ≤ length L.ends
  pub fits : Fits (cursor_after (code_es W.globals es X.around X.types X.start) cursor) (length L.out)
  pub deep : deep_es es ≤ nesting
  pub good : GoodEs (scopes_of X.around) es
  pub few-holds : holds + holds_es es ≤ 16
  pub few-values : ValuesEs depth es
  pub many : count ≡ count_exprs es

pub record DoneEs (es : Exprs) (W : Walk) (X : Place) (at : ℕ) (L M : Lent) (depth : ℕ) (cursor r : Cursor) : Type 0 where
  pub wrote : Wrote L.out M.out cursor r (code_es W.globals es X.around X.types X.start)
  pub ended : M.ends ≡ sets L.ends at (ends_es W.globals es X.around X.types X.start)
  pub typed : map ty_byte (reverse (pushed W.globals X.around es X.types)) ≡ take (depth + count_exprs es) M.stack

pub record AsksEs (known aims l part : List ℕ) (count nesting at : ℕ) (sizes : List ℕ) (L : Lent) (top holds depth : ℕ) (cursor : Cursor) : Type 0 where
  pub exprs : Exprs
  pub walk : Walk
  pub place : Place
  pub same_known : walk.known ≡ known
  pub same-aims : walk.aims ≡ aims
  pub ready : ReadyEs exprs walk place l part count nesting at sizes L top holds depth cursor

pub record AnswersEs (known aims l part : List ℕ) (count nesting at : ℕ) (sizes : List ℕ) (L M : Lent) (top holds depth : ℕ) (cursor r : Cursor) : Type 0 where
  pub kept : Kept L M top depth
  pub done : (es : Exprs) (W : Walk) (X : Place) → W.known ≡ known → W.aims ≡ aims → ReadyEs es W X l part count nesting at sizes L top holds depth cursor → DoneEs es W X at L M depth cursor r

-- ── labels and statements one after the other ──
pub record ReadyItems (is : Items) (W : Walk) (X : Place) (l part : List ℕ) (count nesting at : ℕ) (sizes : List ℕ) (L : Lent) (top holds depth : ℕ) (cursor : Cursor) : Type 0 where
  pub table : Table l part sizes at
  pub laid : Laid W l at X.start (flat_items is) (ends_items W.globals is X.around X.types X.start)
  pub stood : Stood W X l L top holds depth cursor
  pub room : 4 * (top + bulk is) ≤ length L.env
  pub ending : at + length (flat_items is) ≤ length L.ends
  pub fits : Fits (cursor_after (code_items W.globals is X.around X.types X.start) cursor) (length L.out)
  pub deep : deep_items is ≤ nesting
  pub good : GoodItems (scopes_of X.around) is
  pub lands : Lands W (env_of L.env top) X.around
  pub few-holds : holds + holds_items is ≤ 16
  pub few-values : depth + need_items is ≤ 32
  pub many : count ≡ count_items is

pub record DoneItems (is : Items) (W : Walk) (X : Place) (at : ℕ) (L M : Lent) (depth : ℕ) (cursor r : Cursor) : Type 0 where
  pub wrote : Wrote L.out M.out cursor r (code_items W.globals is X.around X.types X.start)
  pub ended : M.ends ≡ sets L.ends at (ends_items W.globals is X.around X.types X.start)

pub record AsksItems (known aims l part : List ℕ) (count nesting at : ℕ) (sizes : List ℕ) (L : Lent) (top holds depth : ℕ) (cursor : Cursor) : Type 0 where
  pub items : Items
  pub walk : Walk
  pub place : Place
  pub same_known : walk.known ≡ known
  pub same-aims : walk.aims ≡ aims
  pub ready : ReadyItems items walk place l part count nesting at sizes L top holds depth cursor

pub record AnswersItems (known aims l part : List ℕ) (count nesting at : ℕ) (sizes : List ℕ) (L M : Lent) (top holds depth : ℕ) (cursor r : Cursor) : Type 0 where
  pub kept : Kept L M top depth
  pub done : (is : Items) (W : Walk) (X : Place) → W.known ≡ known → W.aims ≡ aims → ReadyItems is W X l part count nesting at sizes L top holds depth cursor → DoneItems is W X at L M depth cursor r

-- ── the statements of a case: its index is in cell c, z is the address after it ──
-- their code from the i-th on, without the stop behind the last
module _ (gs : List Global) where
  unfoldable pub code_cases : Arms → ℕ → ℕ → ℕ → List Around → List Ty → At → Code
  code_cases (last_arm s) c i z Γ st p =
      let q = skip 4 p in let y = code_s gs s Γ st q in
      op (load own c) ▸ (op (push (int (pos i))) ▸ (op (operate (binary equal)) ▸ (op (go_unless (suc (after y q).address))
      ▸ (y ▸ (op (go z) ▸ mark (found Γ st))))))
  code_cases (arm s r) c i z Γ st p =
      let q = skip 4 p in let y = code_s gs s Γ st q in let n = skip 1 (after y q) in
      op (load own c) ▸ (op (push (int (pos i))) ▸ (op (operate (binary equal)) ▸ (op (go_unless n.address)
      ▸ (y ▸ (op (go z) ▸ (mark (found Γ st) ▸ code_cases r c (suc i) z Γ st n))))))

pub record ReadyArms (r : Arms) (c i z : ℕ) (W : Walk) (X : Place) (l part : List ℕ) (count nesting at : ℕ) (sizes : List ℕ) (L : Lent) (top holds depth : ℕ) (cursor : Cursor) : Type 0 where
  pub table : Table l part sizes at
  pub laid : Laid W l at X.start (flat_arms r) (ends_arms W.globals r X.around X.types X.start)
  pub stood : Stood W X l L top holds depth cursor
  pub room : 4 * (top + length (flat_arms r)) ≤ length L.env
  pub ending : at + length (flat_arms r) ≤ length L.ends
  pub fits : Fits (cursor_after (code_cases W.globals r c i z X.around X.types X.start) cursor) (length L.out)
  pub deep : deep_arms r ≤ nesting
  pub good : GoodArms (scopes_of X.around) r
  pub lands : Lands W (env_of L.env top) X.around
  pub few-holds : holds + holds_arms r ≤ 16
  pub few-values : depth + need_arms r ≤ 32
  pub many : count ≡ count_arms r
  pub few : i + count ≤ 65536

pub record DoneArms (r : Arms) (c i z : ℕ) (W : Walk) (X : Place) (at : ℕ) (L M : Lent) (depth : ℕ) (cursor q : Cursor) : Type 0 where
  pub wrote : Wrote L.out M.out cursor q (code_cases W.globals r c i z X.around X.types X.start)
  pub ended : M.ends ≡ sets L.ends at (ends_arms W.globals r X.around X.types X.start)

-- the case's own entry is at `owner`: what is known of it is its cell, where it ends is where its statements go on
pub record Owner (W : Walk) (owner c z : ℕ) : Type 0 where
  pub celled : second_in (get_or W.known owner 0) ≡ c
  pub leaving : W.dry ≡ false → get_or W.aims owner 0 ≡ z

pub record AsksArms (known aims l part : List ℕ) (owner count nesting at : ℕ) (sizes : List ℕ) (L : Lent) (top holds depth : ℕ) (cursor : Cursor) : Type 0 where
  pub arms : Arms
  pub cell : ℕ
  pub exit : ℕ
  pub walk : Walk
  pub place : Place
  pub same_known : walk.known ≡ known
  pub same-aims : walk.aims ≡ aims
  pub owned : Owner walk owner cell exit
  pub ready : ReadyArms arms cell 1 exit walk place l part count nesting at sizes L top holds depth cursor

pub record AnswersArms (known aims l part : List ℕ) (owner count nesting at : ℕ) (sizes : List ℕ) (L M : Lent) (top holds depth : ℕ) (cursor q : Cursor) : Type 0 where
  pub kept : Kept L M top depth
  pub done : (r : Arms) (c z : ℕ) (W : Walk) (X : Place) → W.known ≡ known → W.aims ≡ aims → Owner W owner c z → ReadyArms r c 1 z W X l part count nesting at sizes L top holds depth cursor
      → DoneArms r c 1 z W X at L M depth cursor q
