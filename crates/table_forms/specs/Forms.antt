-- Statements and expressions by the shape of what is below their entries: expressions only, an expression and statements, three expressions and a
-- statement in a scope of its own (a for), a block, a block expression, a label. Each says of a tree what the definitions say of it.
use Rattle.std.specs.Prelude.{◌≡◌, refl, Bool, true, false, not, ◌&&◌, List, [], ◌∷◌, ◌++◌, map, ℕ, suc, ◌+◌, ◌≤◌, max, eqb, pos, length}
use Rattle.std.proofs.Common.{ap, sym, ◌∙◌, append_assoc, append-nil, arith}
use Rattle.std.proofs.Math.Option.{Option, none, some}
use Rattle.std.proofs.Math.Decide.{ℕ_discrete}
use Rattle.logic.specs.Choice.{If◌then◌else◌}
use Rattle.language.specs.Measure.{measure_s}
use Rattle.language.specs.Program.{flat_decl, flag, flat_s, flat_items, flat_arms, flat_target, flat_e, flat_es, deep_head, deep_s, deep_items, deep_arms, deep_target, deep_e, deep_es}
use Rattle.values.specs.Types.{Ty, integer, logical}
use Rattle.values.specs.Ends.{Refusal}
use Rattle.values.specs.Operators.{unary, binary, op_type}
use Rattle.language.specs.Tree.{Decl, Stmt, block, assign, when, choose, while, goto, assert, call, set_level, select, for, Items, no_item, label, item, Arms, last_arm, arm}
use Rattle.language.specs.Tree.{Target, to_variable, to_field, Expr, number, truth, pattern, null, variable, invoke, field, make, operate1, operate2, conditional, fader}
use Rattle.language.specs.Tree.{block_expr, Exprs, no_expr, expr, count_items, count_arms, count_exprs}
use Rattle.language.specs.Table.{Entry, entry}
use Rattle.language.specs.Names.{Scope, block_of, expression_of, loop_of, lookup}
use Rattle.language.specs.Faults.{with_ty, type_e, types_e, type_target, is_ty, fits_ty, fault_if, mistyped_unless, twice, size_s, size_items, size_target, size_e, size_es, faults_head}
use Rattle.language.specs.Faults.{names_head, faults_s, faults_items, faults_arms, faults_target, faults_e, faults_es, cons_ty}
use Rattle.logic.specs.Tests.{clash}
use Rattle.table_scopes.specs.Environment.{Item}
use Rattle.table_scopes.specs.Flaws.{once_flaw}
use Rattle.table_scopes.specs.Defines.{OnceItems}
use Rattle.table_types.specs.Operations as op
use Rattle.table_types.specs.Operations.{Operation, kind_op, entry_op, Takes, sequence, oper_ty, gives, own}
use Rattle.table_types.specs.Settles.{controlled, target-named}

pub data Guard : Type 0 where
  if_only if_else loops cases : Guard

pub data Form : Type 0 where
  simple : Operation → Exprs → Form
  guard : Guard → Expr → Items → Form
  counted : ℕ → Expr → Expr → Expr → Stmt → Form
  blocked : List Decl → Items → Form
  bodied : List Decl → Items → Expr → Form
  labelled : ℕ → Form

abbrev pub kind_g : Guard → ℕ
kind_g if_only = 22
kind_g if_else = 23
kind_g loops = 24
kind_g cases = 30

abbrev pub count_g : Guard → ℕ → ℕ
count_g if_only n = 0
count_g if_else n = 0
count_g loops n = 0
count_g cases n = n

abbrev pub TakesG : Guard → ℕ → Type 0
TakesG if_only n = n ≡ 1
TakesG if_else n = n ≡ 2
TakesG loops n = n ≡ 1
TakesG cases n = Unit {0}

abbrev pub ask_g : Guard → Ty
ask_g if_only = logical
ask_g if_else = logical
ask_g loops = logical
ask_g cases = integer

abbrev pub one : Expr → Exprs
one e = expr e no_expr

abbrev pub two : Expr → Expr → Exprs
two e f = expr e (one f)

abbrev pub three : Expr → Expr → Expr → Exprs
three e f g = expr e (two f g)

unfoldable pub Unlabelled : Items → Type 0
Unlabelled no_item = Unit {0}
Unlabelled (label a is) = ⊥
Unlabelled (item s is) = Unlabelled is

abbrev pub head_f : Form → Entry
head_f (simple o es) = entry_op o (count_exprs es)
head_f (guard g e is) = entry (kind_g g) (count_g g (count_items is)) (pos 0)
head_f (counted a e f g s) = entry 31 a (pos 0)
head_f (blocked ds is) = entry 1 (length ds) (pos (count_items is))
head_f (bodied ds is e) = entry 53 (length ds) (pos (count_items is))
head_f (labelled a) = entry 20 a (pos 0)

abbrev pub tail_f : Form → List Entry
tail_f (simple o es) = flat_es es
tail_f (guard g e is) = flat_e e ++ flat_items is
tail_f (counted a e f g s) = flat_es (three e f g) ++ flat_s s
tail_f (blocked ds is) = map flat_decl ds ++ flat_items is
tail_f (bodied ds is e) = map flat_decl ds ++ (flat_items is ++ flat_e e)
tail_f (labelled a) = []

abbrev pub flat_f : Form → List Entry
flat_f f = head_f f ∷ tail_f f

abbrev pub deep_f : Form → ℕ
deep_f (simple o es) = suc (deep_es es)
deep_f (guard g e is) = suc (max (deep_e e) (deep_items is))
deep_f (counted a e f g s) = suc (max (deep_es (three e f g)) (deep_s s))
deep_f (blocked ds is) = suc (max (deep_head ds) (deep_items is))
deep_f (bodied ds is e) = suc (max (deep_head ds) (max (deep_items is) (deep_e e)))
deep_f (labelled a) = 1

abbrev pub Valid : Form → Type 0
Valid (simple o es) = Takes o (count_exprs es)
Valid (guard g e is) = TakesG g (count_items is) × Unlabelled is
Valid (counted a e f g s) = Unit {0}
Valid (blocked ds is) = Unit {0}
Valid (bodied ds is e) = Unit {0}
Valid (labelled a) = Unit {0}

unfoldable pub types_of : List Scope → Exprs → List (Option Ty)
types_of ss no_expr = []
types_of ss (expr e es) = type_e ss e ∷ types_of ss es

abbrev pub type_f : List Scope → Form → Option Ty
type_f ss (simple o es) = gives ss o (types_of ss es)
type_f ss (guard g e is) = none
type_f ss (counted a e f g s) = none
type_f ss (blocked ds is) = none
type_f ss (bodied ds is e) = type_e (expression_of ds is ∷ ss) e
type_f ss (labelled a) = none

-- the fault of a target that is a control name: it stands before all others of the assignment
abbrev pub fixed_e : List Scope → Expr → ℕ → List Refusal
fixed_e ss (number z) p = []
fixed_e ss (truth b) p = []
fixed_e ss (pattern z) p = []
fixed_e ss (null c) p = []
fixed_e ss (variable a) p = fault_if (controlled (lookup a ss)) 4 p
fixed_e ss (invoke a es) p = []
fixed_e ss (field a e) p = []
fixed_e ss (make c es) p = []
fixed_e ss (operate1 o e) p = []
fixed_e ss (operate2 o e f) p = []
fixed_e ss (conditional e f g) p = []
fixed_e ss (fader e) p = []
fixed_e ss (block_expr ds is e) p = []

abbrev pub fixed_es : List Scope → Exprs → ℕ → List Refusal
fixed_es ss no_expr p = []
fixed_es ss (expr e es) p = fixed_e ss e p

abbrev pub fixed : List Scope → Operation → Exprs → ℕ → List Refusal
fixed ss o es p = If eqb (kind_op o) 21 then fixed_es ss es p else []

abbrev pub faults_f : List Scope → List ℕ → ℕ → Form → List Refusal
faults_f ss seen p (simple o es) = fixed ss o es (suc p) ++ (faults_es ss (suc p) es ++ own ss o (types_of ss es) p)
faults_f ss seen p (guard g e is) = faults_e ss (suc p) e ++ (faults_items ss [] (suc p + size_e e) is ++ mistyped_unless (is_ty (ask_g g) (type_e ss e)) p)
faults_f ss seen p (counted a e f g s) =
    faults_es ss (suc p) (three e f g)
    ++ (faults_s (loop_of a ∷ ss) (suc p + size_es (three e f g)) s
    ++ mistyped_unless (is_ty integer (type_e ss e) && (is_ty integer (type_e ss f) && is_ty integer (type_e ss g))) p)
faults_f ss seen p (blocked ds is) = faults_head (block_of ds is ∷ ss) [] (suc p) ds ++ faults_items (block_of ds is ∷ ss) (names_head ds) (suc p + length ds) is
faults_f ss seen p (bodied ds is e) =
    faults_head (expression_of ds is ∷ ss) [] (suc p) ds
    ++ (faults_items (expression_of ds is ∷ ss) (names_head ds) (suc p + length ds) is ++ faults_e (expression_of ds is ∷ ss) (suc p + length ds + size_items is) e)
faults_f ss seen p (labelled a) = twice a seen p

abbrev pub OnceF : List Item → List ℕ → ℕ → Form → Type 0
OnceF v seen p (simple o es) = Unit {0}
OnceF v seen p (guard g e is) = Unit {0}
OnceF v seen p (counted a e f g s) = Unit {0}
OnceF v seen p (blocked ds is) = Unit {0}
OnceF v seen p (bodied ds is e) = Unit {0}
OnceF v seen p (labelled a) = once_flaw v a p ≡ twice a seen p

-- ── the forms of statements and expressions ──
abbrev pub as_expr : Target → Expr
as_expr (to_variable a) = variable a
as_expr (to_field a e) = field a e

unfoldable pub arm_items : Arms → Items
arm_items (last_arm s) = item s no_item
arm_items (arm s r) = item s (arm_items r)

abbrev pub form_s : Stmt → Form
form_s (block ds is) = blocked ds is
form_s (assign x e) = simple op.assigns (two (as_expr x) e)
form_s (when e s) = guard if_only e (item s no_item)
form_s (choose e s t) = guard if_else e (item s (item t no_item))
form_s (while e s) = guard loops e (item s no_item)
form_s (goto a) = simple (op.goes_to a) no_expr
form_s (assert e) = simple op.asserts (one e)
form_s (call a es) = simple (op.calls a) es
form_s (set_level e f) = simple op.sets (two e f)
form_s (select e r) = guard cases e (arm_items r)
form_s (for a e f g s) = counted a e f g s

abbrev pub form_e : Expr → Form
form_e (number z) = simple (op.numeral z) no_expr
form_e (truth b) = simple (op.truth (flag b)) no_expr
form_e (pattern z) = simple (op.pattern z) no_expr
form_e (null c) = simple (op.null_of c) no_expr
form_e (variable a) = simple (op.variable_of a) no_expr
form_e (invoke a es) = simple (op.invokes a) es
form_e (field a e) = simple (op.field_at a) (one e)
form_e (make c es) = simple (op.makes c) es
form_e (operate1 o e) = simple (op.unary_op o) (one e)
form_e (operate2 o e f) = simple (op.binary_op o) (two e f)
form_e (conditional e f g) = simple op.chooses (expr e (two f g))
form_e (fader e) = simple op.reads (one e)
form_e (block_expr ds is e) = bodied ds is e

abbrev pub ExprForm : Form → Type 0
ExprForm (simple o es) = Unit {0}
ExprForm (guard g e is) = ⊥
ExprForm (counted a e f g s) = ⊥
ExprForm (blocked ds is) = ⊥
ExprForm (bodied ds is e) = Unit {0}
ExprForm (labelled a) = ⊥

abbrev pub StmtForm : Form → Type 0
StmtForm (simple o es) = Unit {0}
StmtForm (guard g e is) = Unit {0}
StmtForm (counted a e f g s) = Unit {0}
StmtForm (blocked ds is) = Unit {0}
StmtForm (bodied ds is e) = ⊥
StmtForm (labelled a) = Unit {0}

abbrev pub SimpleForm : Form → Type 0
SimpleForm (simple o es) = Unit {0}
SimpleForm (guard g e is) = ⊥
SimpleForm (counted a e f g s) = ⊥
SimpleForm (blocked ds is) = ⊥
SimpleForm (bodied ds is e) = ⊥
SimpleForm (labelled a) = ⊥

abbrev pub GuardForm : Form → Type 0
GuardForm (simple o es) = ⊥
GuardForm (guard g e is) = Unit {0}
GuardForm (counted a e f g s) = ⊥
GuardForm (blocked ds is) = ⊥
GuardForm (bodied ds is e) = ⊥
GuardForm (labelled a) = ⊥

abbrev pub CountForm : Form → Type 0
CountForm (simple o es) = ⊥
CountForm (guard g e is) = ⊥
CountForm (counted a e f g s) = Unit {0}
CountForm (blocked ds is) = ⊥
CountForm (bodied ds is e) = ⊥
CountForm (labelled a) = ⊥

abbrev pub BlockForm : Form → Type 0
BlockForm (simple o es) = ⊥
BlockForm (guard g e is) = ⊥
BlockForm (counted a e f g s) = ⊥
BlockForm (blocked ds is) = Unit {0}
BlockForm (bodied ds is e) = ⊥
BlockForm (labelled a) = ⊥

abbrev pub BodyForm : Form → Type 0
BodyForm (simple o es) = ⊥
BodyForm (guard g e is) = ⊥
BodyForm (counted a e f g s) = ⊥
BodyForm (blocked ds is) = ⊥
BodyForm (bodied ds is e) = Unit {0}
BodyForm (labelled a) = ⊥

abbrev pub LabelForm : Form → Type 0
LabelForm (simple o es) = ⊥
LabelForm (guard g e is) = ⊥
LabelForm (counted a e f g s) = ⊥
LabelForm (blocked ds is) = ⊥
LabelForm (bodied ds is e) = ⊥
LabelForm (labelled a) = Unit {0}

-- ── which form it is, by the kind ──
abbrev plain : ℕ → Bool
plain k = not (eqb k 1) && (not (eqb k 20) && (not (eqb k 22) && (not (eqb k 23) && (not (eqb k 24) && (not (eqb k 30) && (not (eqb k 31) && not (eqb k 53)))))))

op-plain : (o : Operation) → plain (kind_op o) ≡ true
op-plain (op.numeral z) = refl
op-plain (op.truth z) = refl
op-plain (op.pattern z) = refl
op-plain (op.null_of c) = refl
op-plain (op.variable_of a) = refl
op-plain (op.invokes a) = refl
op-plain (op.field_at a) = refl
op-plain (op.makes c) = refl
op-plain (op.calls a) = refl
op-plain (op.goes_to a) = refl
op-plain (op.unary_op o) = refl
op-plain (op.binary_op o) = refl
op-plain op.chooses = refl
op-plain op.reads = refl
op-plain op.assigns = refl
op-plain op.asserts = refl
op-plain op.sets = refl

unlike : (o : Operation) (k : ℕ) → plain k ≡ false → ¬ (kind_op o ≡ k)
unlike o k e z = clash (let w : plain k ≡ true = rw z at (op-plain o) in let y : true ≡ false = sym w ∙ e in cc)

pub is_body : (f : Form) → ExprForm f → (head_f f).kind ≡ 53 → BodyForm f
is_body (simple o es) h e = absurd (unlike o 53 refl e)
is_body (guard g x is) h e = absurd h
is_body (counted a x y z s) h e = absurd h
is_body (blocked ds is) h e = absurd h
is_body (bodied ds is x) h e = tt
is_body (labelled a) h e = absurd h

pub is-simple : (f : Form) → ExprForm f → ¬ ((head_f f).kind ≡ 53) → SimpleForm f
is-simple (simple o es) h e = tt
is-simple (guard g x is) h e = absurd h
is-simple (counted a x y z s) h e = absurd h
is-simple (blocked ds is) h e = absurd h
is-simple (bodied ds is x) h e = absurd (e refl)
is-simple (labelled a) h e = absurd h

guard-kind : (g : Guard) (k : ℕ) → kind_g g ≡ k → ((k ≡ 1) → ⊥) × ((k ≡ 20) → ⊥) × ((k ≡ 31) → ⊥)
guard-kind if_only k e = (λ z. omega arith, λ z. omega arith, λ z. omega arith)
guard-kind if_else k e = (λ z. omega arith, λ z. omega arith, λ z. omega arith)
guard-kind loops k e = (λ z. omega arith, λ z. omega arith, λ z. omega arith)
guard-kind cases k e = (λ z. omega arith, λ z. omega arith, λ z. omega arith)

pub is_block : (f : Form) → StmtForm f → (head_f f).kind ≡ 1 → BlockForm f
is_block (simple o es) h e = absurd (unlike o 1 refl e)
is_block (guard g x is) h e = absurd ((guard-kind g 1 e).0 refl)
is_block (counted a x y z s) h e = absurd (omega arith)
is_block (blocked ds is) h e = tt
is_block (bodied ds is x) h e = absurd h
is_block (labelled a) h e = absurd (omega arith)

pub is-label : (f : Form) → StmtForm f → (head_f f).kind ≡ 20 → LabelForm f
is-label (simple o es) h e = absurd (unlike o 20 refl e)
is-label (guard g x is) h e = absurd ((guard-kind g 20 e).1 refl)
is-label (counted a x y z s) h e = absurd (omega arith)
is-label (blocked ds is) h e = absurd (omega arith)
is-label (bodied ds is x) h e = absurd h
is-label (labelled a) h e = tt

pub is-count : (f : Form) → StmtForm f → (head_f f).kind ≡ 31 → CountForm f
is-count (simple o es) h e = absurd (unlike o 31 refl e)
is-count (guard g x is) h e = absurd ((guard-kind g 31 e).2 refl)
is-count (counted a x y z s) h e = tt
is-count (blocked ds is) h e = absurd (omega arith)
is-count (bodied ds is x) h e = absurd h
is-count (labelled a) h e = absurd (omega arith)

pub is-guard : (f : Form) (k : ℕ) → StmtForm f → (head_f f).kind ≡ k → plain k ≡ false → ¬ (k ≡ 1) → ¬ (k ≡ 20) → ¬ (k ≡ 31) → GuardForm f
is-guard (simple o es) k h e p i j n = absurd (unlike o k p e)
is-guard (guard g x is) k h e p i j n = tt
is-guard (counted a x y z s) k h e p i j n = absurd (n (sym e))
is-guard (blocked ds is) k h e p i j n = absurd (i (sym e))
is-guard (bodied ds is x) k h e p i j n = absurd h
is-guard (labelled a) k h e p i j n = absurd (j (sym e))

pub is-other : (f : Form) → StmtForm f → ¬ ((head_f f).kind ≡ 1) → ¬ ((head_f f).kind ≡ 20) → ¬ ((head_f f).kind ≡ 22) → ¬ ((head_f f).kind ≡ 23)
    → ¬ ((head_f f).kind ≡ 24) → ¬ ((head_f f).kind ≡ 30) → ¬ ((head_f f).kind ≡ 31) → SimpleForm f
is-other (simple o es) h a b c d e f g = tt
is-other (guard if_only x is) h a b c d e f g = absurd (c refl)
is-other (guard if_else x is) h a b c d e f g = absurd (d refl)
is-other (guard loops x is) h a b c d e f g = absurd (e refl)
is-other (guard cases x is) h a b c d e f g = absurd (f refl)
is-other (counted n x y z s) h a b c d e f g = absurd (g refl)
is-other (blocked ds is) h a b c d e f g = absurd (a refl)
is-other (bodied ds is x) h a b c d e f g = absurd h
is-other (labelled x) h a b c d e f g = absurd (b refl)

-- the same of a kind that was read
pub is_guard : (f : Form) (k : ℕ) → StmtForm f → (head_f f).kind ≡ k → (¬ (k ≡ 22) → ¬ (k ≡ 23) → ¬ (k ≡ 24) → k ≡ 30) → GuardForm f
is_guard f k h e w =
    elim (ℕ_discrete k 22) [
      | yes x ↦ is-guard f 22 h (e ∙ x) refl (λ z. omega arith) (λ z. omega arith) (λ z. omega arith)
      | no x ↦ elim (ℕ_discrete k 23) [
        | yes y ↦ is-guard f 23 h (e ∙ y) refl (λ z. omega arith) (λ z. omega arith) (λ z. omega arith)
        | no y ↦ elim (ℕ_discrete k 24) [
          | yes u ↦ is-guard f 24 h (e ∙ u) refl (λ z. omega arith) (λ z. omega arith) (λ z. omega arith)
          | no u ↦ is-guard f 30 h (e ∙ w x y u) refl (λ z. omega arith) (λ z. omega arith) (λ z. omega arith)
        ]
      ]
    ]

pub is_other : (f : Form) (k : ℕ) → StmtForm f → (head_f f).kind ≡ k → ¬ (k ≡ 1) → ¬ (k ≡ 20) → ¬ (k ≡ 22) → ¬ (k ≡ 23) → ¬ (k ≡ 24) → ¬ (k ≡ 30) → ¬ (k ≡ 31) → SimpleForm f
is_other f k h e n1 n2 n3 n4 n5 n6 n7 =
    is-other f h (λ z. n1 (sym e ∙ z)) (λ z. n2 (sym e ∙ z)) (λ z. n3 (sym e ∙ z)) (λ z. n4 (sym e ∙ z)) (λ z. n5 (sym e ∙ z)) (λ z. n6 (sym e ∙ z)) (λ z. n7 (sym e ∙ z))

-- ── what the definitions say ──
target-flat : (x : Target) → flat_target x ≡ flat_e (as_expr x)
unfolding flat_target flat_e
target-flat (to_variable a) = refl
target-flat (to_field a e) = refl

target-size : (x : Target) → size_target x ≡ size_e (as_expr x)
unfolding measure_s
target-size (to_variable a) = refl
target-size (to_field a e) = refl

target-deep : (x : Target) → deep_target x ≡ deep_e (as_expr x)
unfolding measure_s
target-deep (to_variable a) = refl
target-deep (to_field a e) = refl

target-type : (ss : List Scope) (x : Target) → type_target ss x ≡ type_e ss (as_expr x)
unfolding type_e
target-type ss (to_variable a) = refl
target-type ss (to_field a e) = refl

target-faults : (ss : List Scope) (p : ℕ) (x : Target) → faults_target ss p x ≡ fixed_e ss (as_expr x) p ++ faults_e ss p (as_expr x)
unfolding faults_target faults_e
target-faults ss p (to_variable a) = target-named (lookup a ss) p
target-faults ss p (to_field a e) = refl

arms-flat : (r : Arms) → flat_arms r ≡ flat_items (arm_items r)
unfolding flat_arms flat_items arm_items
arms-flat (last_arm s) = sym (append-nil (flat_s s))
arms-flat (arm s r) = ap (λ (us : List Entry). flat_s s ++ us) (arms-flat r)

arms-count : (r : Arms) → count_arms r ≡ count_items (arm_items r)
unfolding count_arms count_items arm_items
arms-count (last_arm s) = refl
arms-count (arm s r) = ap suc (arms-count r)

arms-deep : (r : Arms) → deep_items (arm_items r) ≤ deep_arms r
unfolding measure_s arm_items
arms-deep (last_arm s) = omega arith
arms-deep (arm s r) = omega (arith, arms-deep r)

arms-faults : (ss : List Scope) (p : ℕ) (r : Arms) → faults_arms ss p r ≡ faults_items ss [] p (arm_items r)
unfolding faults_arms faults_items arm_items
arms-faults ss p (last_arm s) = sym (append-nil (faults_s ss p s))
arms-faults ss p (arm s r) = ap (λ (us : List Refusal). faults_s ss p s ++ us) (arms-faults ss (p + size_s s) r)

arms-unlabelled : (r : Arms) → Unlabelled (arm_items r)
unfolding Unlabelled arm_items
arms-unlabelled (last_arm s) = tt
arms-unlabelled (arm s r) = arms-unlabelled r

pub flat-S : (s : Stmt) → flat_s s ≡ flat_f (form_s s)
unfolding flat_s flat_es flat_items count_exprs count_items
flat-S (block ds is) = refl
flat-S (assign x e) = rw (target-flat x, append-nil (flat_e e))
flat-S (when e s) = rw (append-nil (flat_s s))
flat-S (choose e s t) = rw (append-nil (flat_s t))
flat-S (while e s) = rw (append-nil (flat_s s))
flat-S (goto a) = refl
flat-S (assert e) = rw (append-nil (flat_e e))
flat-S (call a es) = refl
flat-S (set_level e f) = rw (append-nil (flat_e f))
flat-S (select e r) = rw (arms-flat r, arms-count r)
flat-S (for a e f g s) =
    rw (append-nil (flat_e g), append_assoc (flat_e e) (flat_e f ++ flat_e g) (flat_s s), append_assoc (flat_e f) (flat_e g) (flat_s s))

pub flat-E : (e : Expr) → flat_e e ≡ flat_f (form_e e)
unfolding flat_e flat_es count_exprs
flat-E (number z) = refl
flat-E (truth b) = refl
flat-E (pattern z) = refl
flat-E (null c) = refl
flat-E (variable a) = refl
flat-E (invoke a es) = refl
flat-E (field a e) = rw (append-nil (flat_e e))
flat-E (make c es) = refl
flat-E (operate1 o e) = rw (append-nil (flat_e e))
flat-E (operate2 o e f) = rw (append-nil (flat_e f))
flat-E (conditional e f g) = rw (append-nil (flat_e g))
flat-E (fader e) = rw (append-nil (flat_e e))
flat-E (block_expr ds is e) = refl

more : (a m n : ℕ) → m ≤ n → max a m ≤ max a n
more a m n h = omega arith

regroup : (a m n : ℕ) → max (max a m) n ≤ max a (max m n)
regroup a m n = omega arith

deep-four : (a b c n : ℕ) → max (max a (max b (max c 0))) n ≤ max a (max b (max c n))
deep-four a b c n =
    let k : max (max c 0) n ≤ max c n = omega arith in
    let i = more b (max (max c 0) n) (max c n) k in
    let j = more a (max (max b (max c 0)) n) (max b (max c n)) (omega (arith, i, regroup b (max c 0) n)) in
    omega (arith, j, regroup a (max b (max c 0)) n)

pub deep-S : (s : Stmt) → deep_f (form_s s) ≤ deep_s s
unfolding measure_s
deep-S (block ds is) = omega arith
deep-S (assign x e) = omega (arith, target-deep x)
deep-S (when e s) = omega arith
deep-S (choose e s t) = omega arith
deep-S (while e s) = omega arith
deep-S (goto a) = omega arith
deep-S (assert e) = omega arith
deep-S (call a es) = omega arith
deep-S (set_level e f) = omega arith
deep-S (select e r) = omega (arith, arms-deep r)
deep-S (for a e f g s) = omega (arith, deep-four (deep_e e) (deep_e f) (deep_e g) (deep_s s))

pub deep-E : (e : Expr) → deep_f (form_e e) ≤ deep_e e
unfolding measure_s
deep-E (number z) = omega arith
deep-E (truth b) = omega arith
deep-E (pattern z) = omega arith
deep-E (null c) = omega arith
deep-E (variable a) = omega arith
deep-E (invoke a es) = omega arith
deep-E (field a e) = omega arith
deep-E (make c es) = omega arith
deep-E (operate1 o e) = omega arith
deep-E (operate2 o e f) = omega arith
deep-E (conditional e f g) = omega arith
deep-E (fader e) = omega arith
deep-E (block_expr ds is e) = omega arith

pub valid-S : (s : Stmt) → Valid (form_s s)
unfolding count_exprs count_items Unlabelled
valid-S (block ds is) = tt
valid-S (assign x e) = refl
valid-S (when e s) = (refl, tt)
valid-S (choose e s t) = (refl, tt)
valid-S (while e s) = (refl, tt)
valid-S (goto a) = refl
valid-S (assert e) = refl
valid-S (call a es) = tt
valid-S (set_level e f) = refl
valid-S (select e r) = (tt, arms-unlabelled r)
valid-S (for a e f g s) = tt

pub valid-E : (e : Expr) → Valid (form_e e)
unfolding count_exprs
valid-E (number z) = refl
valid-E (truth b) = refl
valid-E (pattern z) = refl
valid-E (null c) = refl
valid-E (variable a) = refl
valid-E (invoke a es) = tt
valid-E (field a e) = refl
valid-E (make c es) = tt
valid-E (operate1 o e) = refl
valid-E (operate2 o e f) = refl
valid-E (conditional e f g) = refl
valid-E (fader e) = refl
valid-E (block_expr ds is e) = tt

pub sequence-types : (ss : List Scope) (es : Exprs) → types_e ss es ≡ sequence (types_of ss es)
unfolding types_e sequence types_of
sequence-types ss no_expr = refl
sequence-types ss (expr e es) = ap (cons_ty (type_e ss e)) (sequence-types ss es)

unary_type : (o : _) (t : Option Ty) → with_ty t (λ x. op_type (unary o) (x ∷ [])) ≡ oper_ty (unary o) (t ∷ [])
unfolding sequence
unary_type o none = refl
unary_type o (some t) = refl

binary-type : (o : _) (t u : Option Ty) → with_ty t (λ x. with_ty u (λ y. op_type (binary o) (x ∷ y ∷ []))) ≡ oper_ty (binary o) (t ∷ u ∷ [])
unfolding sequence
binary-type o none u = refl
binary-type o (some t) none = refl
binary-type o (some t) (some u) = refl

pub type-E : (ss : List Scope) (e : Expr) → type_e ss e ≡ type_f ss (form_e e)
unfolding type_e types_of
type-E ss (number z) = refl
type-E ss (truth b) = refl
type-E ss (pattern z) = refl
type-E ss (null c) = refl
type-E ss (variable a) = refl
type-E ss (invoke a es) = refl
type-E ss (field a e) = refl
type-E ss (make c es) = refl
type-E ss (operate1 o e) = unary_type o (type_e ss e)
type-E ss (operate2 o e f) = binary-type o (type_e ss e) (type_e ss f)
type-E ss (conditional e f g) = refl
type-E ss (fader e) = refl
type-E ss (block_expr ds is e) = refl

pub faults-S : (ss : List Scope) (seen : List ℕ) (p : ℕ) (s : Stmt) → faults_s ss p s ≡ faults_f ss seen p (form_s s)
unfolding faults_s faults_es faults_items types_of measure_s
faults-S ss seen p (block ds is) = refl
faults-S ss seen p (assign x e) =
    let us = faults_e ss (suc p) (as_expr x) in
    let vs = faults_e ss (suc p + size_e (as_expr x)) e in
    let own = mistyped_unless (fits_ty (type_e ss e) (type_e ss (as_expr x))) p in
    rw (target-faults ss (suc p) x, target-size x, target-type ss x, append-nil vs)
    (append_assoc (fixed_e ss (as_expr x) (suc p)) us (vs ++ own) ∙ ap (λ (ws : List Refusal). fixed_e ss (as_expr x) (suc p) ++ ws) (sym (append_assoc us vs own)))
faults-S ss seen p (when e s) = rw (append-nil (faults_s ss (suc p + size_e e) s))
faults-S ss seen p (choose e s t) =
    rw (
      append-nil (faults_s ss (suc p + size_e e + size_s s) t),
      append_assoc (faults_s ss (suc p + size_e e) s)
          (faults_s ss (suc p + size_e e + size_s s) t) (mistyped_unless (is_ty logical (type_e ss e)) p),
    )
faults-S ss seen p (while e s) = rw (append-nil (faults_s ss (suc p + size_e e) s))
faults-S ss seen p (goto a) = refl
faults-S ss seen p (assert e) = rw (append-nil (faults_e ss (suc p) e))
faults-S ss seen p (call a es) = rw (sequence-types ss es)
faults-S ss seen p (set_level e f) = rw (append-nil (faults_e ss (suc p + size_e e) f)) (sym (append_assoc (faults_e ss (suc p) e) (faults_e ss (suc p + size_e e) f) _))
faults-S ss seen p (select e r) = rw (arms-faults ss (suc p + size_e e) r)
faults-S ss seen p (for a e f g s) =
    let us = faults_e ss (suc p) e in
    let vs = faults_e ss (suc p + size_e e) f in
    let ws = faults_e ss (suc p + size_e e + size_e f) g in
    let n : suc p + (size_e e + (size_e f + (size_e g + 0))) ≡ suc p + size_e e + size_e f + size_e g = omega arith in
    rw (n, append-nil ws, append_assoc us (vs ++ ws) _, append_assoc vs ws _)

pub faults-E : (ss : List Scope) (seen : List ℕ) (p : ℕ) (e : Expr) → faults_e ss p e ≡ faults_f ss seen p (form_e e)
unfolding faults_e faults_es types_of
faults-E ss seen p (number z) = refl
faults-E ss seen p (truth b) = refl
faults-E ss seen p (pattern z) = refl
faults-E ss seen p (null c) = refl
faults-E ss seen p (variable a) = refl
faults-E ss seen p (invoke a es) = rw (sequence-types ss es)
faults-E ss seen p (field a e) = rw (append-nil (faults_e ss (suc p) e))
faults-E ss seen p (make c es) = rw (sequence-types ss es)
faults-E ss seen p (operate1 o e) = rw (append-nil (faults_e ss (suc p) e), type-E ss (operate1 o e))
faults-E ss seen p (operate2 o e f) = rw (append-nil (faults_e ss (suc p + size_e e) f), type-E ss (operate2 o e f)) (sym (append_assoc (faults_e ss (suc p) e) (faults_e ss (suc p + size_e e) f) _))
faults-E ss seen p (conditional e f g) =
    rw (append-nil (faults_e ss (suc p + size_e e + size_e f) g))
    (ap (λ (us : List Refusal). faults_e ss (suc p) e ++ us) (sym (append_assoc (faults_e ss (suc p + size_e e) f) (faults_e ss (suc p + size_e e + size_e f) g) _))
    ∙ sym (append_assoc (faults_e ss (suc p) e) (faults_e ss (suc p + size_e e) f ++ faults_e ss (suc p + size_e e + size_e f) g) _))
faults-E ss seen p (fader e) = rw (append-nil (faults_e ss (suc p) e))
faults-E ss seen p (block_expr ds is e) = refl

pub form-expr : (e : Expr) → ExprForm (form_e e)
form-expr (number z) = tt
form-expr (truth b) = tt
form-expr (pattern z) = tt
form-expr (null c) = tt
form-expr (variable a) = tt
form-expr (invoke a es) = tt
form-expr (field a e) = tt
form-expr (make c es) = tt
form-expr (operate1 o e) = tt
form-expr (operate2 o e f) = tt
form-expr (conditional e f g) = tt
form-expr (fader e) = tt
form-expr (block_expr ds is e) = tt

pub form-stmt : (s : Stmt) → StmtForm (form_s s)
form-stmt (block ds is) = tt
form-stmt (assign x e) = tt
form-stmt (when e s) = tt
form-stmt (choose e s t) = tt
form-stmt (while e s) = tt
form-stmt (goto a) = tt
form-stmt (assert e) = tt
form-stmt (call a es) = tt
form-stmt (set_level e f) = tt
form-stmt (select e r) = tt
form-stmt (for a e f g s) = tt

pub once-S : (v : List Item) (seen : List ℕ) (p : ℕ) (s : Stmt) → OnceF v seen p (form_s s)
once-S v seen p (block ds is) = tt
once-S v seen p (assign x e) = tt
once-S v seen p (when e s) = tt
once-S v seen p (choose e s t) = tt
once-S v seen p (while e s) = tt
once-S v seen p (goto a) = tt
once-S v seen p (assert e) = tt
once-S v seen p (call a es) = tt
once-S v seen p (set_level e f) = tt
once-S v seen p (select e r) = tt
once-S v seen p (for a e f g s) = tt

pub once-E : (v : List Item) (seen : List ℕ) (p : ℕ) (f : Form) → ExprForm f → OnceF v seen p f
once-E v seen p (simple o es) h = tt
once-E v seen p (guard g e is) h = tt
once-E v seen p (counted a e f g s) h = tt
once-E v seen p (blocked ds is) h = tt
once-E v seen p (bodied ds is e) h = tt
once-E v seen p (labelled a) h = absurd h

pub unlabelled-once : (v : List Item) (seen : List ℕ) (p : ℕ) (is : Items) → Unlabelled is → OnceItems v seen p is
unfolding Unlabelled OnceItems
unlabelled-once v seen p no_item h = tt
unlabelled-once v seen p (label a is) h = absurd h
unlabelled-once v seen p (item s is) h = unlabelled-once v seen (p + size_s s) is h
