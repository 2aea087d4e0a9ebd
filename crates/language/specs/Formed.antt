-- What is well formed, by rules: the types that expressions have, well-formed statements, blocks and trees, trees that keep their bodies'
-- limits. A constructor is a rule: what stands before the last arrow is enough for what stands after it, and nothing is so but by a rule.
-- There is no place and no order of tests here: which refusal is given, and where, is the matter of Faults.
-- (paper 01, The syntax table; Names, types and room in a body)
use Rattle.std.specs.Prelude.{◌≡◌, Bool, true, false, List, [], ◌∷◌, ℕ, ◌≤◌, ℤ}
use Rattle.std.proofs.Math.Option.{some}
use Rattle.std.proofs.Math.ListN.{get_elem?}
use Rattle.values.specs.Types.{Ty, integer, logical, bits, reference, fits}
use Rattle.values.specs.Operators.{Unary, Binary, unary, binary, op_type}
use Rattle.language.specs.Tree.{Typed, Decl, Stmt, block, assign, when, choose, while, goto, assert, call, set_level, select, for, Items, no_item, label, item, Arms}
use Rattle.language.specs.Tree.{last_arm, arm, Target, to_variable, to_field, Expr, number, truth, pattern, null, variable, invoke, field, make, operate1, operate2}
use Rattle.language.specs.Tree.{conditional, fader, block_expr, Exprs, no_expr, expr, Body, proper, function, Global, procedure, Tree}
use Rattle.language.specs.Names.{Sort, is_variable, is_label, is_class, is_field, is_procedure, is_control, Definition, Scope, definitions, block_of, expression_of, procedure_of}
use Rattle.language.specs.Names.{loop_of, root_of, nowhere, found, first_of, lookup}
use Rattle.language.specs.Limits.{Usage, body_usage, root_usage}

-- ── names ──
-- the blocks around a part, the innermost first
abbrev pub Blocks : Type 0
Blocks = List Scope

-- "Names follow section 3 of 000": among these blocks the name a stands for s
pub record Denotes (ss : Blocks) (a : ℕ) (s : Sort) : Type 0 where
  pub across : Bool  -- whether it is seen from inside a procedure or a block expression matters to a goto only
  pub is_found : lookup a ss ≡ found s across

-- "A goto may reach a label of its own block or an enclosing one, within its body and not out of a block expression."
abbrev pub Reachable : Blocks → ℕ → Type 0
Reachable ss a = lookup a ss ≡ found is_label false

-- "Types: 1 integer, 2 logical, 3 bits, 65,536 + class name for a reference."
pub data IsType (ss : Blocks) : Ty → Type 0 where
  integer-type : IsType ss integer
  logical-type : IsType ss logical
  bits-type : IsType ss bits
  reference-type : {c : ℕ} {ts : List Ty} → Denotes ss c (is_class ts) → IsType ss (reference c)

-- a variable, a parameter and a field are defined with a type; its class is looked up from the block that defines them (N9)
abbrev pub Declared : Blocks → Sort → Type 0
Declared ss (is_variable t) = IsType ss t
Declared ss is_label = Unit {0}
Declared ss (is_class ts) = Unit {0}
Declared ss (is_field c t) = IsType ss t
Declared ss (is_procedure ts us) = Unit {0}
Declared ss is_control = Unit {0}

-- a block's definitions: no name "twice in a block", whatever the two define (N4, N7)
pub data Defines (ss : Blocks) : List Definition → Type 0 where
  d-none : Defines ss []
  d-more : {d : Definition} {ds : List Definition} → first_of d.name ds ≡ nowhere → Declared ss d.sort → Defines ss ds → Defines ss (d ∷ ds)

-- those of the innermost block
abbrev pub Opens : Scope → Blocks → Type 0
Opens s ss = Defines (s ∷ ss) (definitions s)

-- ── expressions and statements ──
-- "Types must be identical": where two are to be so, a rule has one letter for both. A value that is assigned, passed or put in a record `fits`.
mutual
  -- among these blocks the expression has the type
  pub data HasType : Blocks → Expr → Ty → Type 0 where
    -- "40 integer b; 41 logical b (0 or 1); 42 bits b; 43 null of class a; 44 variable a"
    t-number : {ss : Blocks} {z : ℤ} → HasType ss (number z) integer
    t-truth : {ss : Blocks} {b : Bool} → HasType ss (truth b) logical
    t-pattern : {ss : Blocks} {z : ℤ} → HasType ss (pattern z) bits
    t_null : {ss : Blocks} {c : ℕ} {ts : List Ty} → Denotes ss c (is_class ts) → HasType ss (null c) (reference c)
    t-variable : {ss : Blocks} {a : ℕ} {t : Ty} → Denotes ss a (is_variable t) → HasType ss (variable a) t
    t-control : {ss : Blocks} {a : ℕ} → Denotes ss a is_control → HasType ss (variable a) integer
    -- "45 function a with b arguments": a procedure with a result (N12)
    t-invoke : {ss : Blocks} {a : ℕ} {es : Exprs} {ts : List Ty} {t : Ty} → Denotes ss a (is_procedure ts (t ∷ [])) → Fit ss es ts → HasType ss (invoke a es) t
    -- "46 field a of (E)": of a reference to the class that owns the field (N16)
    t-field : {ss : Blocks} {a c : ℕ} {e : Expr} {t : Ty} → Denotes ss a (is_field c t) → HasType ss e (reference c) → HasType ss (field a e) t
    -- "47 record of class a from b values"
    t-make : {ss : Blocks} {c : ℕ} {es : Exprs} {ts : List Ty} → Denotes ss c (is_class ts) → Fit ss es ts → HasType ss (make c es) (reference c)
    -- "48 unary a (E)", "49 binary a (E, E)"
    t-operate1 : {ss : Blocks} {o : Unary} {e : Expr} {t r : Ty} → HasType ss e t → op_type (unary o) (t ∷ []) ≡ some r → HasType ss (operate1 o e) r
    t-operate2 : {ss : Blocks} {o : Binary} {e f : Expr} {t u r : Ty} → HasType ss e t → HasType ss f u → op_type (binary o) (t ∷ u ∷ []) ≡ some r
        → HasType ss (operate2 o e f) r
    -- "50 if-expression (E, E, E)" (N22, N23)
    t-conditional : {ss : Blocks} {e f g : Expr} {t : Ty} → HasType ss e logical → HasType ss f t → HasType ss g t → HasType ss (conditional e f g) t
    -- "51 fader (E)" (N24)
    t-fader : {ss : Blocks} {e : Expr} → HasType ss e integer → HasType ss (fader e) integer
    -- "53 block expression (a declarations, b statements, then E)"
    t_block : {ss : Blocks} {ds : List Decl} {is : Items} {e : Expr} {t : Ty} → Opens (expression_of ds is) ss → ItemsFormed (expression_of ds is ∷ ss) is
        → HasType (expression_of ds is ∷ ss) e t → HasType ss (block_expr ds is e) t

  -- as many values as places of these types, each fitting its own (N13)
  pub data Fit : Blocks → Exprs → List Ty → Type 0 where
    f-none : {ss : Blocks} → Fit ss no_expr []
    f-more : {ss : Blocks} {e : Expr} {es : Exprs} {t u : Ty} {us : List Ty} → HasType ss e t → fits t u ≡ true → Fit ss es us → Fit ss (expr e es) (u ∷ us)

  -- a target is of the type: "assign (variable or field E, value E)"; a control name "cannot be assigned" (ticket 1)
  pub data Assignable : Blocks → Target → Ty → Type 0 where
    a-variable : {ss : Blocks} {a : ℕ} {t : Ty} → Denotes ss a (is_variable t) → Assignable ss (to_variable a) t
    a-field : {ss : Blocks} {a c : ℕ} {e : Expr} {t : Ty} → Denotes ss a (is_field c t) → HasType ss e (reference c) → Assignable ss (to_field a e) t

  -- among these blocks the statement is well formed
  pub data Formed : Blocks → Stmt → Type 0 where
    -- "1 block (a declarations, b statements)"
    s-block : {ss : Blocks} {ds : List Decl} {is : Items} → Opens (block_of ds is) ss → ItemsFormed (block_of ds is ∷ ss) is → Formed ss (block ds is)
    s-assign : {ss : Blocks} {x : Target} {e : Expr} {t u : Ty} → Assignable ss x u → HasType ss e t → fits t u ≡ true → Formed ss (assign x e)
    -- "22 if (E, S); 23 if-else (E, S, S); 24 while (E, S)", "26 assert (E)": the tests are logical (N23)
    s-when : {ss : Blocks} {e : Expr} {s : Stmt} → HasType ss e logical → Formed ss s → Formed ss (when e s)
    s-choose : {ss : Blocks} {e : Expr} {s t : Stmt} → HasType ss e logical → Formed ss s → Formed ss t → Formed ss (choose e s t)
    s-while : {ss : Blocks} {e : Expr} {s : Stmt} → HasType ss e logical → Formed ss s → Formed ss (while e s)
    s-assert : {ss : Blocks} {e : Expr} → HasType ss e logical → Formed ss (assert e)
    s-goto : {ss : Blocks} {a : ℕ} → Reachable ss a → Formed ss (goto a)
    -- "27 call a with b arguments": a procedure without a result (N12)
    s_call : {ss : Blocks} {a : ℕ} {es : Exprs} {ts : List Ty} → Denotes ss a (is_procedure ts []) → Fit ss es ts → Formed ss (call a es)
    -- "28 set (channel E, level E); 30 case (E, then a statements, a at least 1)" (N24)
    s-set : {ss : Blocks} {e f : Expr} → HasType ss e integer → HasType ss f integer → Formed ss (set_level e f)
    s-case : {ss : Blocks} {e : Expr} {r : Arms} → HasType ss e integer → ArmsFormed ss r → Formed ss (select e r)
    -- "Kind 31, a the control name, takes start, step and limit expressions and a statement." (ticket 1)
    s-for : {ss : Blocks} {a : ℕ} {e f g : Expr} {s : Stmt} → HasType ss e integer → HasType ss f integer → HasType ss g integer
        → Formed (loop_of a ∷ ss) s → Formed ss (for a e f g s)

  -- each of a block's statements
  pub data ItemsFormed : Blocks → Items → Type 0 where
    i-none : {ss : Blocks} → ItemsFormed ss no_item
    i-label : {ss : Blocks} {a : ℕ} {is : Items} → ItemsFormed ss is → ItemsFormed ss (label a is)
    i-item : {ss : Blocks} {s : Stmt} {is : Items} → Formed ss s → ItemsFormed ss is → ItemsFormed ss (item s is)

  -- each of a case's
  pub data ArmsFormed : Blocks → Arms → Type 0 where
    r_last : {ss : Blocks} {s : Stmt} → Formed ss s → ArmsFormed ss (last_arm s)
    r-more : {ss : Blocks} {s : Stmt} {r : Arms} → Formed ss s → ArmsFormed ss r → ArmsFormed ss (arm s r)

-- ── the whole tree ──
-- "its body: S when result is 0, E when result is 1, 2 or 3"
pub data BodyFormed (ss : Blocks) : Body → Type 0 where
  b-proper : {s : Stmt} → Formed ss s → BodyFormed ss (proper s)
  b-function : {t : Ty} {e : Expr} → HasType ss e t → BodyFormed ss (function t e)

-- something holds of the parameters and the body of every procedure of a head
abbrev pub EveryProcedure : List Global → (List Typed → Body → Type 0) → Type 0
EveryProcedure gs P = (i a : ℕ) (xs : List Typed) (b : Body) → get_elem? gs i ≡ some (procedure a xs b) → P xs b

-- "a procedure sees its own names and the root's"; "parameters [belong] to one around the body"
pub record ProcedureFormed (root : Blocks) (xs : List Typed) (b : Body) : Type 0 where
  pub parameters : Opens (procedure_of xs) root
  pub body : BodyFormed (procedure_of xs ∷ root) b

-- "All names of a head are visible throughout it."
pub record WellFormed (t : Tree) : Type 0 where
  pub names : Opens (root_of t) []
  pub procedures : EveryProcedure t.head (ProcedureFormed (root_of t ∷ []))
  pub items : ItemsFormed (root_of t ∷ []) t.items

-- ── limits ──
-- "A body has at most 32 cells (…), 16 holds open together, and a working need of 32."
pub record InLimits (u : Usage) : Type 0 where
  pub cells : u.cells ≤ 32
  pub holds : u.holds ≤ 16
  pub need : u.need ≤ 32

-- "A body is the root or a procedure"
pub record KeepsLimits (t : Tree) : Type 0 where
  pub procedures : EveryProcedure t.head (λ xs b. InLimits (body_usage xs b))
  pub root : InLimits (root_usage t)
