-- The compiler on trees. No reader need believe it: demands 2 and 3 say what it comes to.
use Rattle.std.specs.Prelude.{Bool, true, false, ◌||◌, List, [], ◌∷◌, ℕ, suc, ◌+◌, eqb, ℤ, pos, negsuc, length}
use Rattle.std.proofs.Math.Option.{Option, none, some}
use Rattle.logic.specs.Choice.{If◌then◌else◌}
use Rattle.words.specs.Numbers.{word_of}
use Rattle.values.specs.Types.{Ty, integer, logical, bits, reference}
use Rattle.values.specs.Operators.{unary, binary, Binary, plus, minus, times, divide, remainder, less, at_most, greater, at_least, equal, unequal, both, either, shift_left, shift_right}
use Rattle.values.specs.Ends.{case_index, step_zero}
use Rattle.values.specs.Values.{int, log, bit, ref, initial}
use Rattle.language.specs.Tree.{Typed, Decl, declare, holding, Stmt, block, assign, when, choose, while, goto, assert, call, set_level, select, for, Items, no_item, label, item}
use Rattle.language.specs.Tree.{Arms, last_arm, arm, Target, to_variable, to_field, Expr, number, truth, pattern, null, variable, invoke, field, make, operate1, operate2}
use Rattle.language.specs.Tree.{conditional, fader, block_expr, Exprs, no_expr, expr, Body, Global, local, class, procedure}
use Rattle.language.specs.Names.{Scope, block_of, expression_of, loop_of}
use Rattle.language.specs.Faults.{type_e, is_ty}
use Rattle.bytecode.specs.Macro.{Shape, shape}
use Rattle.bytecode.specs.Instructions.{Owner, own, Instr, push, load, store, operate, go, go_unless, get_field, put_field, read_fader, take_hold, let_hold, stop}
use Rattle.bytecode.specs.Instructions.{call as call_op, make as make_op, set_level as set_op, assert as assert_op}
use Rattle.compile_code.specs.Code.{Code, nil, op, mark, cell, ◌▸◌, At, at, ahead, skip, after}

-- ── numbers of classes, procedures and fields ──
-- the place of the first that is a
unfoldable pub index_of : ℕ → List ℕ → ℕ
index_of a [] = 0
index_of a (b ∷ bs) = If eqb b a then 0 else suc (index_of a bs)

unfoldable pub among_names : ℕ → List ℕ → Bool
among_names a [] = false
among_names a (b ∷ bs) = eqb b a || among_names a bs

unfoldable pub names_of : List Typed → List ℕ
names_of [] = []
names_of (x ∷ xs) = x.name ∷ names_of xs

pub record Class : Type 0 where
  pub name : ℕ
  pub fields : List Typed

unfoldable pub classes_of : List Global → List Class
classes_of [] = []
classes_of (local d ∷ gs) = classes_of gs
classes_of (class c xs ∷ gs) = record { name = c; fields = xs } ∷ classes_of gs
classes_of (procedure a xs b ∷ gs) = classes_of gs

unfoldable pub class_names : List Class → List ℕ
class_names [] = []
class_names (c ∷ cs) = c.name ∷ class_names cs

pub record Proc : Type 0 where
  pub name : ℕ
  pub parameters : List Typed
  pub body : Body

unfoldable pub procs_of : List Global → List Proc
procs_of [] = []
procs_of (local d ∷ gs) = procs_of gs
procs_of (class c xs ∷ gs) = procs_of gs
procs_of (procedure a xs b ∷ gs) = record { name = a; parameters = xs; body = b } ∷ procs_of gs

unfoldable pub proc_names : List Proc → List ℕ
proc_names [] = []
proc_names (p ∷ ps) = p.name ∷ proc_names ps

-- a class by its number, a field by its place in the class
pub record Field : Type 0 where
  pub class : ℕ
  pub index : ℕ

unfoldable pub field_in : ℕ → ℕ → List Class → Field
field_in a k [] = record { class = k; index = 0 }
field_in a k (c ∷ cs) =
    If among_names a (names_of c.fields) then record { class = k; index = index_of a (names_of c.fields) } else field_in a (suc k) cs

abbrev pub numbered : List ℕ → Ty → Ty
numbered cs integer = integer
numbered cs logical = logical
numbered cs bits = bits
numbered cs (reference c) = reference (index_of c cs)

-- ── what lies around a part of a body, innermost first ──
pub data Around : Type 0 where
  inside : Scope → Around  -- a block, a block expression or a procedure's parameters begin
  outermost : Scope → Around  -- the root begins
  bound : ℕ → ℕ → Around  -- a variable or parameter, and its cell
  global : Owner → ℕ → ℕ → Around  -- a variable of the root, and its cell: own in the root's body, the root's elsewhere
  held : ℕ → Around  -- a hold is open
  labels : Items → ℕ → Around  -- the labels of a block whose statements begin at an address

unfoldable pub scopes_of : List Around → List Scope
scopes_of [] = []
scopes_of (inside s ∷ Γ) = s ∷ scopes_of Γ
scopes_of (outermost s ∷ Γ) = s ∷ scopes_of Γ
scopes_of (bound a c ∷ Γ) = scopes_of Γ
scopes_of (global o a c ∷ Γ) = scopes_of Γ
scopes_of (held g ∷ Γ) = scopes_of Γ
scopes_of (labels is x ∷ Γ) = scopes_of Γ

-- the open holds, the latest first
unfoldable pub held_in : List Around → List ℕ
held_in [] = []
held_in (inside s ∷ Γ) = held_in Γ
held_in (outermost s ∷ Γ) = held_in Γ
held_in (bound a c ∷ Γ) = held_in Γ
held_in (global o a c ∷ Γ) = held_in Γ
held_in (held g ∷ Γ) = g ∷ held_in Γ
held_in (labels is x ∷ Γ) = held_in Γ

abbrev pub found : List Around → List Ty → Shape
found Γ st = shape (length (held_in Γ)) st

-- where a variable is kept: innermost block first, the root last
pub data Cell : Type 0 where
  kept : Owner → ℕ → Cell

abbrev pub or_cell : Option Cell → Option Cell → Option Cell
or_cell none y = y
or_cell (some c) y = some c

unfoldable pub bound_at : ℕ → List Around → Option Cell
bound_at a [] = none
bound_at a (inside s ∷ Γ) = bound_at a Γ
bound_at a (outermost s ∷ Γ) = bound_at a Γ
bound_at a (bound b c ∷ Γ) = If eqb b a then some (kept own c) else bound_at a Γ
bound_at a (global o b c ∷ Γ) = bound_at a Γ
bound_at a (held g ∷ Γ) = bound_at a Γ
bound_at a (labels is x ∷ Γ) = bound_at a Γ

unfoldable pub global_at : ℕ → List Around → Option Cell
global_at a [] = none
global_at a (inside s ∷ Γ) = global_at a Γ
global_at a (outermost s ∷ Γ) = global_at a Γ
global_at a (bound b c ∷ Γ) = global_at a Γ
global_at a (global o b c ∷ Γ) = If eqb b a then some (kept o c) else global_at a Γ
global_at a (held g ∷ Γ) = global_at a Γ
global_at a (labels is x ∷ Γ) = global_at a Γ

abbrev pub cell_of : ℕ → List Around → Option Cell
cell_of a Γ = or_cell (bound_at a Γ) (global_at a Γ)

abbrev pub loading : Option Cell → Instr
loading none = load own 0
loading (some (kept o c)) = load o c

abbrev pub storing : Option Cell → Instr
storing none = store own 0
storing (some (kept o c)) = store o c

-- ── sizes: the number of ops of a part, by what a goto in it passes on its way ──
pub data Passing : Type 0 where
  a_hold : Passing
  the_labels : Items → Passing

unfoldable pub passing : List Around → List Passing
passing [] = []
passing (inside s ∷ Γ) = passing Γ
passing (outermost s ∷ Γ) = passing Γ
passing (bound a c ∷ Γ) = passing Γ
passing (global o a c ∷ Γ) = passing Γ
passing (held g ∷ Γ) = a_hold ∷ passing Γ
passing (labels is x ∷ Γ) = the_labels is ∷ passing Γ

unfoldable pub has_label : ℕ → Items → Bool
has_label a no_item = false
has_label a (label b is) = If eqb a b then true else has_label a is
has_label a (item s is) = has_label a is

-- a release for each hold, and the jump
unfoldable pub size_goto : List Passing → ℕ → ℕ
size_goto [] a = 1
size_goto (a_hold ∷ Θ) a = suc (size_goto Θ a)
size_goto (the_labels is ∷ Θ) a = If has_label a is then 1 else size_goto Θ a

-- a variable: push and store; a hold: hold and release
unfoldable pub size_head : List Decl → List Passing → (List Passing → ℕ) → ℕ
size_head [] Θ f = f Θ
size_head (declare x ∷ ds) Θ f = suc (suc (size_head ds Θ f))
size_head (holding g ∷ ds) Θ f = suc (suc (size_head ds (a_hold ∷ Θ) f))

-- how the second operand follows the first
pub data Way : Type 0 where
  plainly : Way
  marked : Way  -- `and` or `or` of bits: both operands are evaluated
  if_true : Way  -- logical `and`
  if_false : Way  -- logical `or`

abbrev pub size_way : Way → ℕ
size_way plainly = 1
size_way marked = 1
size_way if_true = 3
size_way if_false = 3

abbrev pub logically : Bool → Way → Way
logically b w = If b then w else marked

abbrev pub way_of : Binary → Bool → Way
way_of plus b = plainly
way_of minus b = plainly
way_of times b = plainly
way_of divide b = plainly
way_of remainder b = plainly
way_of less b = plainly
way_of at_most b = plainly
way_of greater b = plainly
way_of at_least b = plainly
way_of equal b = plainly
way_of unequal b = plainly
way_of both b = logically b if_true
way_of either b = logically b if_false
way_of shift_left b = plainly
way_of shift_right b = plainly

unfoldable mutual
  pub ops_s : Stmt → List Scope → List Passing → ℕ
  ops_s (block ds is) ss Θ = size_head ds Θ (λ Φ. ops_items is (block_of ds is ∷ ss) (the_labels is ∷ Φ))
  ops_s (assign x e) ss Θ = suc (ops_target x ss Θ + ops_e e ss Θ)
  ops_s (when e s) ss Θ = suc (ops_e e ss Θ + ops_s s ss Θ)
  ops_s (choose e s t) ss Θ = 2 + (ops_e e ss Θ + (ops_s s ss Θ + ops_s t ss Θ))
  ops_s (while e s) ss Θ = 2 + (ops_e e ss Θ + ops_s s ss Θ)
  ops_s (goto a) ss Θ = size_goto Θ a
  ops_s (assert e) ss Θ = suc (ops_e e ss Θ)
  ops_s (call a es) ss Θ = suc (ops_es es ss Θ)
  ops_s (set_level e f) ss Θ = suc (ops_e e ss Θ + ops_e f ss Θ)
  ops_s (select e r) ss Θ = suc (ops_e e ss Θ + ops_arms r ss Θ)
  ops_s (for a e f g s) ss Θ = 61 + (ops_e e ss Θ + (ops_e f ss Θ + (ops_e g ss Θ + ops_s s (loop_of a ∷ ss) Θ)))

  pub ops_items : Items → List Scope → List Passing → ℕ
  ops_items no_item ss Θ = 0
  ops_items (label a is) ss Θ = ops_items is ss Θ
  ops_items (item s is) ss Θ = ops_s s ss Θ + ops_items is ss Θ

  -- four to test, one to leave; a stop at the end
  pub ops_arms : Arms → List Scope → List Passing → ℕ
  ops_arms (last_arm s) ss Θ = 6 + ops_s s ss Θ
  ops_arms (arm s r) ss Θ = 5 + (ops_s s ss Θ + ops_arms r ss Θ)

  pub ops_target : Target → List Scope → List Passing → ℕ
  ops_target (to_variable a) ss Θ = 0
  ops_target (to_field a e) ss Θ = ops_e e ss Θ

  pub ops_e : Expr → List Scope → List Passing → ℕ
  ops_e (number z) ss Θ = 1
  ops_e (truth b) ss Θ = 1
  ops_e (pattern z) ss Θ = 1
  ops_e (null c) ss Θ = 1
  ops_e (variable a) ss Θ = 1
  ops_e (invoke a es) ss Θ = suc (ops_es es ss Θ)
  ops_e (field a e) ss Θ = suc (ops_e e ss Θ)
  ops_e (make c es) ss Θ = suc (ops_es es ss Θ)
  ops_e (operate1 o e) ss Θ = suc (ops_e e ss Θ)
  ops_e (operate2 o e f) ss Θ = size_way (way_of o (is_ty logical (type_e ss e))) + (ops_e e ss Θ + ops_e f ss Θ)
  ops_e (conditional e f g) ss Θ = 2 + (ops_e e ss Θ + (ops_e f ss Θ + ops_e g ss Θ))
  ops_e (fader e) ss Θ = suc (ops_e e ss Θ)
  ops_e (block_expr ds is e) ss Θ =
      let inner = expression_of ds is ∷ ss in
      size_head ds Θ (λ Φ. ops_items is inner (the_labels is ∷ Φ) + ops_e e inner Φ)

  pub ops_es : Exprs → List Scope → List Passing → ℕ
  ops_es no_expr ss Θ = 0
  ops_es (expr e es) ss Θ = ops_e e ss Θ + ops_es es ss Θ

-- the address of a label among statements that begin at an address
unfoldable pub label_at : Items → List Scope → List Passing → ℕ → ℕ → ℕ
label_at no_item ss Θ x a = x
label_at (label b is) ss Θ x a = If eqb a b then x else label_at is ss Θ x a
label_at (item s is) ss Θ x a = label_at is ss Θ (x + ops_s s ss Θ) a

-- ── code ──
abbrev pub or_integer : Option Ty → Ty
or_integer none = integer
or_integer (some t) = t

-- "It leaves exactly the blocks that do not contain the label."
unfoldable pub code_goto : List Around → ℕ → Code
code_goto [] a = op (go 0)
code_goto (inside s ∷ Γ) a = code_goto Γ a
code_goto (outermost s ∷ Γ) a = code_goto Γ a
code_goto (bound b c ∷ Γ) a = code_goto Γ a
code_goto (global o b c ∷ Γ) a = code_goto Γ a
code_goto (held g ∷ Γ) a = op let_hold ▸ code_goto Γ a
code_goto (labels is x ∷ Γ) a =
    If has_label a is then op (go (label_at is (scopes_of Γ) (the_labels is ∷ passing Γ) x a)) else code_goto Γ a

-- the second operand, by its way; f gives its code for a stack and a place
abbrev pub code_way : Way → Binary → List Around → List Ty → Ty → Code → At → (List Ty → At → Code) → Code
code_way plainly o Γ st t x p f = x ▸ (f (t ∷ st) (after x p) ▸ op (operate (binary o)))
code_way marked o Γ st t x p f = x ▸ (mark (found Γ (t ∷ st)) ▸ (f (t ∷ st) (after x p) ▸ op (operate (binary o))))
code_way if_true o Γ st t x p f =
    let q = skip 1 (after x p) in let y = f st q in let d = suc (after y q).address in
    x ▸ (op (go_unless d) ▸ (y ▸ (op (go (suc d)) ▸ (mark (found Γ st) ▸ (op (push (log false)) ▸ mark (found Γ (logical ∷ st)))))))
code_way if_false o Γ st t x p f =
    let q = skip 3 (after x p) in let y = f st q in
    x ▸ (op (go_unless q.address) ▸ (op (push (log true)) ▸ (op (go (after y q).address) ▸ (mark (found Γ st) ▸ (y ▸ mark (found Γ (logical ∷ st)))))))

-- ── loops: the value, the step and the limit are in cells c, c + 1 and c + 2 ──
-- a for begins at x, with limit, step and start on the stack; z is the address after it, m the shape that is found around it. The limit's cell is made a
-- bound: after a turn the next value is due exactly if the value is at most the bound, or above it where the step is negative. No sum leaves 32 bits.
abbrev pub most_integer : ℤ
most_integer = pos 2147483647

abbrev pub least_integer : ℤ
least_integer = negsuc 2147483647

-- from 0 on: the three are stored, and a step that is zero stops
unfoldable pub code_stored : ℕ → ℕ → Shape → Code
code_stored c x m =
    op (store own (suc (suc c))) ▸ (op (store own (suc c)) ▸ (op (store own c)
    ▸ (op (load own (suc c)) ▸ (op (push (int (pos 0))) ▸ (op (operate (binary equal)) ▸ (op (go_unless (ahead 8 x)) ▸ (op (stop step_zero) ▸ mark m)))))))

-- from 8 on: where the step is negative, the limit is at most the value, and the bound limit − step − 1, if it is of 32 bits
unfoldable pub code_downward : ℕ → ℕ → ℕ → Shape → Code
code_downward c x z m =
    op (load own (suc c)) ▸ (op (push (int (pos 0))) ▸ (op (operate (binary less)) ▸ (op (go_unless (ahead 29 x))
    ▸ (op (load own c) ▸ (op (load own (suc (suc c))) ▸ (op (operate (binary at_least)) ▸ (op (go_unless z)
    ▸ (op (load own (suc (suc c))) ▸ (op (push (int most_integer)) ▸ (op (load own (suc c)) ▸ (op (operate (binary plus)) ▸ (op (operate (binary at_most)) ▸ (op (go_unless (ahead 44 x))
    ▸ (op (load own (suc (suc c))) ▸ (op (load own (suc c)) ▸ (op (operate (binary minus)) ▸ (op (push (int (pos 1))) ▸ (op (operate (binary minus))
    ▸ (op (store own (suc (suc c))) ▸ (op (go (ahead 48 x)) ▸ mark m))))))))))))))))))))

-- from 29 on: where it is positive, the value is at most the limit, and the bound limit − step, if it is of 32 bits
unfoldable pub code_upward : ℕ → ℕ → ℕ → Shape → Code
code_upward c x z m =
    op (load own c) ▸ (op (load own (suc (suc c))) ▸ (op (operate (binary at_most)) ▸ (op (go_unless z)
    ▸ (op (load own (suc (suc c))) ▸ (op (push (int least_integer)) ▸ (op (load own (suc c)) ▸ (op (operate (binary plus)) ▸ (op (operate (binary at_least)) ▸ (op (go_unless (ahead 44 x))
    ▸ (op (load own (suc (suc c))) ▸ (op (load own (suc c)) ▸ (op (operate (binary minus)) ▸ (op (store own (suc (suc c))) ▸ (op (go (ahead 48 x)) ▸ mark m))))))))))))))

-- from 44 on: else there is one turn only, which a step of −1 and the largest bound say
unfoldable pub code_once : ℕ → Shape → Code
code_once c m =
    op (push (int (negsuc 0))) ▸ (op (store own (suc c)) ▸ (op (push (int most_integer)) ▸ (op (store own (suc (suc c))) ▸ mark m)))

abbrev pub code_entered : ℕ → ℕ → ℕ → Shape → Code
code_entered c x z m = code_stored c x m ▸ (code_downward c x z m ▸ (code_upward c x z m ▸ code_once c m))

-- after a turn, which began at b: whether the next value is due
unfoldable pub code_turned : ℕ → ℕ → ℕ → Shape → Code
code_turned c b z m =
    op (load own (suc c)) ▸ (op (push (int (pos 0))) ▸ (op (operate (binary less)) ▸ (op (load own c) ▸ (op (load own (suc (suc c))) ▸ (op (operate (binary greater))
    ▸ (op (operate (binary equal)) ▸ (op (go_unless z)
    ▸ (op (load own c) ▸ (op (load own (suc c)) ▸ (op (operate (binary plus)) ▸ (op (store own c) ▸ (op (go b) ▸ mark m))))))))))))

module _ (gs : List Global) where
  abbrev pub class_number : ℕ → ℕ
  class_number c = index_of c (class_names (classes_of gs))

  abbrev pub ty_in : Ty → Ty
  ty_in t = numbered (class_names (classes_of gs)) t

  abbrev pub body_number : ℕ → ℕ
  body_number a = suc (index_of a (proc_names (procs_of gs)))

  abbrev pub field_number : ℕ → Field
  field_number a = field_in a 0 (classes_of gs)

  abbrev pub ty_e : List Around → Expr → Ty
  ty_e Γ e = ty_in (or_integer (type_e (scopes_of Γ) e))

  -- what an assignment leaves on the stack before its value, and its last op
  abbrev pub ty_target : List Around → Target → List Ty → List Ty
  ty_target Γ (to_variable a) st = st
  ty_target Γ (to_field a e) st = ty_e Γ e ∷ st

  abbrev pub op_target : List Around → Target → Instr
  op_target Γ (to_variable a) = storing (cell_of a Γ)
  op_target Γ (to_field a e) = put_field (field_number a).class (field_number a).index

  -- a head: variables are set to their initial values and holds taken in order; holds are let go last first.
  -- `name` is how a variable is known inside
  unfoldable pub code_head : (ℕ → ℕ → Around) → List Decl → List Around → At → (List Around → At → Code) → Code
  code_head name [] Γ p f = f Γ p
  code_head name (declare x ∷ ds) Γ p f =
      cell (ty_in x.type) ▸ (op (push (initial (ty_in x.type))) ▸ (op (store own p.cell)
      ▸ code_head name ds (name x.name p.cell ∷ Γ) (at (suc (suc p.address)) (suc p.cell)) f))
  code_head name (holding g ∷ ds) Γ p f = op (take_hold g) ▸ (code_head name ds (held g ∷ Γ) (skip 1 p) f ▸ op let_hold)

  unfoldable mutual
    pub code_s : Stmt → List Around → List Ty → At → Code
    code_s (block ds is) Γ st p =
        code_head bound ds (inside (block_of ds is) ∷ Γ) p (λ Δ q. code_items is (labels is q.address ∷ Δ) st q)
    code_s (assign x e) Γ st p =
        let y = code_target x Γ st p in
        y ▸ (code_e e Γ (ty_target Γ x st) (after y p) ▸ op (op_target Γ x))
    code_s (when e s) Γ st p =
        let x = code_e e Γ st p in let q = skip 1 (after x p) in let y = code_s s Γ st q in
        x ▸ (op (go_unless (after y q).address) ▸ (y ▸ mark (found Γ st)))
    code_s (choose e s t) Γ st p =
        let x = code_e e Γ st p in let q = skip 1 (after x p) in let y = code_s s Γ st q in
        let r = skip 1 (after y q) in let z = code_s t Γ st r in
        x ▸ (op (go_unless r.address) ▸ (y ▸ (op (go (after z r).address) ▸ (mark (found Γ st) ▸ (z ▸ mark (found Γ st))))))
    code_s (while e s) Γ st p =
        let x = code_e e Γ st p in let q = skip 1 (after x p) in let y = code_s s Γ st q in
        mark (found Γ st) ▸ (x ▸ (op (go_unless (suc (after y q).address)) ▸ (y ▸ (op (go p.address) ▸ mark (found Γ st)))))
    code_s (goto a) Γ st p = code_goto Γ a ▸ mark (found Γ st)
    code_s (assert e) Γ st p = code_e e Γ st p ▸ op assert_op
    code_s (call a es) Γ st p = code_es es Γ st p ▸ op (call_op (body_number a))
    code_s (set_level e f) Γ st p =
        let x = code_e e Γ st p in
        x ▸ (code_e f Γ (ty_e Γ e ∷ st) (after x p) ▸ op set_op)
    code_s (select e r) Γ st p =
        let q = at p.address (suc p.cell) in let x = code_e e Γ st q in let b = skip 1 (after x q) in
        cell integer ▸ (x ▸ (op (store own p.cell)
        ▸ (code_arms r p.cell 1 (b.address + ops_arms r (scopes_of Γ) (passing Γ)) Γ st b ▸ mark (found Γ st))))
    code_s (for a e f g s) Γ st p =
        let q = at p.address (suc (suc (suc p.cell))) in let x = code_e e Γ st q in let ts = ty_e Γ e ∷ st in
        let y = code_e f Γ ts (after x q) in let us = ty_e Γ f ∷ ts in let z = code_e g Γ us (after y (after x q)) in
        let h = after z (after y (after x q)) in let b = skip 48 h in
        let w = code_s s (bound a p.cell ∷ inside (loop_of a) ∷ Γ) st b in let n = after w b in
        cell integer ▸ (cell integer ▸ (cell integer ▸ (x ▸ (y ▸ (z ▸ (mark (found Γ (ty_e Γ g ∷ us))
        ▸ (code_entered p.cell h.address (ahead 13 n.address) (found Γ st) ▸ (w
        ▸ code_turned p.cell b.address (ahead 13 n.address) (found Γ st)))))))))

    pub code_items : Items → List Around → List Ty → At → Code
    code_items no_item Γ st p = nil
    code_items (label a is) Γ st p = mark (found Γ st) ▸ code_items is Γ st p
    code_items (item s is) Γ st p = let x = code_s s Γ st p in x ▸ code_items is Γ st (after x p)

    -- the alternatives from the i-th on: the index is in cell c, z is the address after them
    pub code_arms : Arms → ℕ → ℕ → ℕ → List Around → List Ty → At → Code
    code_arms (last_arm s) c i z Γ st p =
        let q = skip 4 p in let y = code_s s Γ st q in
        op (load own c) ▸ (op (push (int (pos i))) ▸ (op (operate (binary equal)) ▸ (op (go_unless (suc (after y q).address))
        ▸ (y ▸ (op (go z) ▸ (mark (found Γ st) ▸ op (stop case_index)))))))
    code_arms (arm s r) c i z Γ st p =
        let q = skip 4 p in let y = code_s s Γ st q in let n = skip 1 (after y q) in
        op (load own c) ▸ (op (push (int (pos i))) ▸ (op (operate (binary equal)) ▸ (op (go_unless n.address)
        ▸ (y ▸ (op (go z) ▸ (mark (found Γ st) ▸ code_arms r c (suc i) z Γ st n))))))

    pub code_target : Target → List Around → List Ty → At → Code
    code_target (to_variable a) Γ st p = nil
    code_target (to_field a e) Γ st p = code_e e Γ st p

    pub code_e : Expr → List Around → List Ty → At → Code
    code_e (number z) Γ st p = op (push (int z))
    code_e (truth b) Γ st p = op (push (log b))
    code_e (pattern z) Γ st p = op (push (bit (word_of z)))
    code_e (null c) Γ st p = op (push (ref (class_number c) none))
    code_e (variable a) Γ st p = op (loading (cell_of a Γ))
    code_e (invoke a es) Γ st p = code_es es Γ st p ▸ op (call_op (body_number a))
    code_e (field a e) Γ st p = code_e e Γ st p ▸ op (get_field (field_number a).class (field_number a).index)
    code_e (make c es) Γ st p = code_es es Γ st p ▸ op (make_op (class_number c))
    code_e (operate1 o e) Γ st p = code_e e Γ st p ▸ op (operate (unary o))
    code_e (operate2 o e f) Γ st p =
        code_way (way_of o (is_ty logical (type_e (scopes_of Γ) e))) o Γ st (ty_e Γ e) (code_e e Γ st p) p (λ ts q. code_e f Γ ts q)
    code_e (conditional e f g) Γ st p =
        let x = code_e e Γ st p in let q = skip 1 (after x p) in let y = code_e f Γ st q in
        let r = skip 1 (after y q) in let z = code_e g Γ st r in
        x ▸ (op (go_unless r.address) ▸ (y ▸ (op (go (after z r).address) ▸ (mark (found Γ st) ▸ (z ▸ mark (found Γ (ty_e Γ f ∷ st)))))))
    code_e (fader e) Γ st p = code_e e Γ st p ▸ op read_fader
    code_e (block_expr ds is e) Γ st p =
        code_head bound ds (inside (expression_of ds is) ∷ Γ) p
        (λ Δ q. let y = code_items is (labels is q.address ∷ Δ) st q in y ▸ code_e e Δ st (after y q))

    pub code_es : Exprs → List Around → List Ty → At → Code
    code_es no_expr Γ st p = nil
    code_es (expr e es) Γ st p = let x = code_e e Γ st p in x ▸ code_es es Γ (ty_e Γ e ∷ st) (after x p)
