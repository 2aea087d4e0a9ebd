-- Types of expressions, and the faults 3, 4 and 5 of every entry, in postorder.
-- "Table entries are judged inner before outer, left to right, after 1 and 2; at one entry 3, 4, 5 in that order"
use Rattle.std.specs.Prelude.{Bool, true, false, not, ◌&&◌, List, [], ◌∷◌, ◌++◌, ℕ, suc, ◌+◌, eqb, length}
use Rattle.std.proofs.Math.Option.{Option, none, some}
use Rattle.logic.specs.Options.{is_some}
use Rattle.logic.specs.Choice.{If◌then◌else◌}
use Rattle.logic.specs.Lists.{among}
use Rattle.values.specs.Types.{Ty, integer, logical, bits, reference, same, fits, all_fit}
use Rattle.values.specs.Ends.{Refusal, refusal}
use Rattle.values.specs.Operators.{unary, binary, op_type}
use Rattle.language.specs.Tree.{Typed, Decl, declare, holding, Stmt, block, assign, when, choose, while, goto, assert, call, set_level, select, for, Items, no_item, label}
use Rattle.language.specs.Tree.{item, Arms, last_arm, arm, Target, to_variable, to_field, Expr, number, truth, pattern, null, variable, invoke, field, make, operate1}
use Rattle.language.specs.Tree.{operate2, conditional, fader, block_expr, Exprs, no_expr, expr, Body, proper, function, Global, local, class, procedure, Tree}
use Rattle.language.specs.Measure.{Measure, measure_s, measure_items, measure_arms, measure_target, measure_e, measure_es}
use Rattle.language.specs.Names.{Sort, as_variable, as_assignable, as_label, as_class, as_field, as_procedure, Scope, block_of, expression_of, procedure_of, loop_of, root_of, Found, nowhere, found, lookup}

-- ── what is found ──
-- what a name was found as, if as one of this sort
abbrev pub found_as : {A : Type 0} → (Sort → Option A) → Found → Option A
found_as f nowhere = none
found_as f (found s w) = f s

-- there is something, and this holds of it
abbrev pub holds : {A : Type 0} → Option A → (A → Bool) → Bool
holds none f = false
holds (some x) f = f x

-- ── types ──
abbrev pub with_ty : {A : Type 0} → Option A → (A → Option Ty) → Option Ty
with_ty none f = none
with_ty (some x) f = f x

abbrev pub only_ty : List Ty → Option Ty
only_ty [] = none
only_ty (t ∷ []) = some t
only_ty (t ∷ (u ∷ us)) = none

abbrev pub variable_ty : Found → Option Ty
variable_ty f = found_as as_variable f

abbrev pub result_ty : Found → Option Ty
result_ty f = with_ty (found_as as_procedure f) (λ x. only_ty x.1)

abbrev pub field_ty : Found → Option Ty
field_ty f = with_ty (found_as as_field f) (λ x. some x.1)

unfoldable pub type_e : List Scope → Expr → Option Ty
type_e ss (number z) = some integer
type_e ss (truth b) = some logical
type_e ss (pattern z) = some bits
type_e ss (null c) = some (reference c)
type_e ss (variable a) = variable_ty (lookup a ss)
type_e ss (invoke a es) = result_ty (lookup a ss)
type_e ss (field a e) = field_ty (lookup a ss)
type_e ss (make c es) = some (reference c)
type_e ss (operate1 o e) = with_ty (type_e ss e) (λ t. op_type (unary o) (t ∷ []))
type_e ss (operate2 o e f) = let r = type_e ss f in with_ty (type_e ss e) (λ t. with_ty r (λ u. op_type (binary o) (t ∷ u ∷ [])))
type_e ss (conditional e f g) = type_e ss f
type_e ss (fader e) = some integer
type_e ss (block_expr ds is e) = type_e (expression_of ds is ∷ ss) e

abbrev pub type_target : List Scope → Target → Option Ty
type_target ss (to_variable a) = variable_ty (lookup a ss)
type_target ss (to_field a e) = field_ty (lookup a ss)

-- the types of a list; none where one has none
abbrev pub cons_ty : Option Ty → Option (List Ty) → Option (List Ty)
cons_ty none ts = none
cons_ty (some t) none = none
cons_ty (some t) (some ts) = some (t ∷ ts)

unfoldable pub types_e : List Scope → Exprs → Option (List Ty)
types_e ss no_expr = some []
types_e ss (expr e es) = cons_ty (type_e ss e) (types_e ss es)

-- ── tests on types; an operand that has none is at fault before ──
abbrev pub is_ty : Ty → Option Ty → Bool
is_ty u o = holds o (λ t. same t u)

abbrev pub same_ty : Option Ty → Option Ty → Bool
same_ty o r = holds o (λ t. is_ty t r)

abbrev pub fits_ty : Option Ty → Option Ty → Bool
fits_ty o r = holds o (λ t. holds r (λ u. fits t u))

abbrev pub fit_tys : Option (List Ty) → List Ty → Bool
fit_tys o us = holds o (λ ts. all_fit ts us)

-- ── the faults at one entry ──
abbrev pub fault_if : Bool → ℕ → ℕ → List Refusal
fault_if b n p = If b then refusal n p ∷ [] else []

-- 4: "wrong type", at the entry that has the operand (N14)
abbrev pub mistyped_unless : Bool → ℕ → List Refusal
mistyped_unless b p = fault_if (not b) 4 p

-- 3: "name undefined"; 4: wrong "sort of name". The test asks whether the sort will do, and what it asks of the operands
abbrev pub named : Found → (Sort → Bool) → ℕ → List Refusal
named nowhere f p = refusal 3 p ∷ []
named (found s w) f p = mistyped_unless (f s) p

abbrev pub variable_sort : Sort → Bool
variable_sort s = is_some (as_variable s)

abbrev pub assignable_sort : Sort → Bool
assignable_sort s = is_some (as_assignable s)

abbrev pub class_sort : Sort → Bool
class_sort s = is_some (as_class s)

-- a record of a class from values of these types
abbrev pub class_from : Option (List Ty) → Sort → Bool
class_from vs s = holds (as_class s) (λ ts. fit_tys vs ts)

-- a field of a reference of this type (N16)
abbrev pub field_of : Option Ty → Sort → Bool
field_of r s = holds (as_field s) (λ x. is_ty (reference x.0) r)

-- a procedure with as many results (N12), called with arguments of these types (N13)
abbrev pub call_of : ℕ → Option (List Ty) → Sort → Bool
call_of n vs s = holds (as_procedure s) (λ x. eqb (length x.1) n && fit_tys vs x.0)

-- 5: "label out of a goto's reach" (N17 to N20)
abbrev pub aimed : Found → ℕ → List Refusal
aimed nowhere p = refusal 3 p ∷ []
aimed (found s w) p = If as_label s then fault_if w 5 p else refusal 4 p ∷ []

-- 3: "twice in a block", at "the second of two", whatever the two define (N7)
abbrev pub twice : ℕ → List ℕ → ℕ → List Refusal
twice a seen p = fault_if (among a seen) 3 p

-- the class that a declared type names, looked up from the block of the declaration (N9); undefined 3, of another sort 4 (N10)
abbrev pub type_faults : List Scope → Ty → ℕ → List Refusal
type_faults ss integer p = []
type_faults ss logical p = []
type_faults ss bits p = []
type_faults ss (reference c) p = named (lookup c ss) class_sort p

-- ── how many entries a part has, so that each has its place ──
abbrev pub by_size : Measure
by_size =
    record { of_none = 0; of_parts = ◌+◌; of_entry = suc; of_label = suc; of_case = suc; of_loop = suc; of_block = λ ds n. suc (length ds + n); stacked = false }

abbrev pub size_s : Stmt → ℕ
size_s s = measure_s by_size s

abbrev pub size_items : Items → ℕ
size_items is = measure_items by_size is

abbrev pub size_arms : Arms → ℕ
size_arms r = measure_arms by_size r

abbrev pub size_target : Target → ℕ
size_target x = measure_target by_size x

abbrev pub size_e : Expr → ℕ
size_e e = measure_e by_size e

abbrev pub size_es : Exprs → ℕ
size_es es = measure_es by_size 0 es

-- ── the faults of a part whose first entry is p; `seen` are the names that its block defines before ──
unfoldable pub faults_typed : List Scope → List ℕ → ℕ → List Typed → List Refusal
faults_typed ss seen p [] = []
faults_typed ss seen p (x ∷ xs) = twice x.name seen p ++ (type_faults ss x.type p ++ faults_typed ss (x.name ∷ seen) (suc p) xs)

unfoldable pub faults_head : List Scope → List ℕ → ℕ → List Decl → List Refusal
faults_head ss seen p [] = []
faults_head ss seen p (declare x ∷ ds) = faults_typed ss seen p (x ∷ []) ++ faults_head ss (x.name ∷ seen) (suc p) ds
faults_head ss seen p (holding g ∷ ds) = faults_head ss seen (suc p) ds

unfoldable pub names_head : List Decl → List ℕ
names_head [] = []
names_head (declare x ∷ ds) = x.name ∷ names_head ds
names_head (holding g ∷ ds) = names_head ds

unfoldable mutual
  pub faults_s : List Scope → ℕ → Stmt → List Refusal
  faults_s ss p (block ds is) =
      let inner = block_of ds is ∷ ss in
      faults_head inner [] (suc p) ds ++ faults_items inner (names_head ds) (suc p + length ds) is
  faults_s ss p (assign x e) =
      faults_target ss (suc p) x ++ (faults_e ss (suc p + size_target x) e ++ mistyped_unless (fits_ty (type_e ss e) (type_target ss x)) p)
  faults_s ss p (when e s) = faults_e ss (suc p) e ++ (faults_s ss (suc p + size_e e) s ++ mistyped_unless (is_ty logical (type_e ss e)) p)
  faults_s ss p (choose e s t) =
      faults_e ss (suc p) e
      ++ (faults_s ss (suc p + size_e e) s ++ (faults_s ss (suc p + size_e e + size_s s) t ++ mistyped_unless (is_ty logical (type_e ss e)) p))
  faults_s ss p (while e s) = faults_e ss (suc p) e ++ (faults_s ss (suc p + size_e e) s ++ mistyped_unless (is_ty logical (type_e ss e)) p)
  faults_s ss p (goto a) = aimed (lookup a ss) p
  faults_s ss p (assert e) = faults_e ss (suc p) e ++ mistyped_unless (is_ty logical (type_e ss e)) p
  faults_s ss p (call a es) = faults_es ss (suc p) es ++ named (lookup a ss) (call_of 0 (types_e ss es)) p
  faults_s ss p (set_level e f) =
      faults_e ss (suc p) e
      ++ (faults_e ss (suc p + size_e e) f ++ mistyped_unless (is_ty integer (type_e ss e) && is_ty integer (type_e ss f)) p)
  faults_s ss p (select e r) = faults_e ss (suc p) e ++ (faults_arms ss (suc p + size_e e) r ++ mistyped_unless (is_ty integer (type_e ss e)) p)
  faults_s ss p (for a e f g s) =
      faults_e ss (suc p) e
      ++ (faults_e ss (suc p + size_e e) f
      ++ (faults_e ss (suc p + size_e e + size_e f) g
      ++ (faults_s (loop_of a ∷ ss) (suc p + size_e e + size_e f + size_e g) s
      ++ mistyped_unless (is_ty integer (type_e ss e) && (is_ty integer (type_e ss f) && is_ty integer (type_e ss g))) p)))

  pub faults_items : List Scope → List ℕ → ℕ → Items → List Refusal
  faults_items ss seen p no_item = []
  faults_items ss seen p (label a is) = twice a seen p ++ faults_items ss (a ∷ seen) (suc p) is
  faults_items ss seen p (item s is) = faults_s ss p s ++ faults_items ss seen (p + size_s s) is

  pub faults_arms : List Scope → ℕ → Arms → List Refusal
  faults_arms ss p (last_arm s) = faults_s ss p s
  faults_arms ss p (arm s r) = faults_s ss p s ++ faults_arms ss (p + size_s s) r

  pub faults_target : List Scope → ℕ → Target → List Refusal
  faults_target ss p (to_variable a) = named (lookup a ss) assignable_sort p
  faults_target ss p (to_field a e) = faults_e ss (suc p) e ++ named (lookup a ss) (field_of (type_e ss e)) p

  pub faults_e : List Scope → ℕ → Expr → List Refusal
  faults_e ss p (number z) = []
  faults_e ss p (truth b) = []
  faults_e ss p (pattern z) = []
  faults_e ss p (null c) = named (lookup c ss) class_sort p
  faults_e ss p (variable a) = named (lookup a ss) variable_sort p
  faults_e ss p (invoke a es) = faults_es ss (suc p) es ++ named (lookup a ss) (call_of 1 (types_e ss es)) p
  faults_e ss p (field a e) = faults_e ss (suc p) e ++ named (lookup a ss) (field_of (type_e ss e)) p
  faults_e ss p (make c es) = faults_es ss (suc p) es ++ named (lookup c ss) (class_from (types_e ss es)) p
  faults_e ss p (operate1 o e) = faults_e ss (suc p) e ++ mistyped_unless (is_some (type_e ss (operate1 o e))) p
  faults_e ss p (operate2 o e f) =
      faults_e ss (suc p) e ++ (faults_e ss (suc p + size_e e) f ++ mistyped_unless (is_some (type_e ss (operate2 o e f))) p)
  faults_e ss p (conditional e f g) =
      faults_e ss (suc p) e
      ++ (faults_e ss (suc p + size_e e) f
      ++ (faults_e ss (suc p + size_e e + size_e f) g
      ++ mistyped_unless (is_ty logical (type_e ss e) && same_ty (type_e ss f) (type_e ss g)) p))
  faults_e ss p (fader e) = faults_e ss (suc p) e ++ mistyped_unless (is_ty integer (type_e ss e)) p
  faults_e ss p (block_expr ds is e) =
      let inner = expression_of ds is ∷ ss in
      faults_head inner [] (suc p) ds
      ++ (faults_items inner (names_head ds) (suc p + length ds) is ++ faults_e inner (suc p + length ds + size_items is) e)

  pub faults_es : List Scope → ℕ → Exprs → List Refusal
  faults_es ss p no_expr = []
  faults_es ss p (expr e es) = faults_e ss p e ++ faults_es ss (p + size_e e) es

-- ── the root ──
abbrev pub size_body : Body → ℕ
size_body (proper s) = size_s s
size_body (function t e) = size_e e

abbrev pub size_global : Global → ℕ
size_global (local d) = 1
size_global (class c xs) = suc (length xs)
size_global (procedure a xs b) = suc (length xs + size_body b)

-- "E when result is 1, 2 or 3": the body's type is the result (N15)
abbrev pub faults_body : List Scope → ℕ → Body → List Refusal
faults_body ss p (proper s) = faults_s ss p s
faults_body ss p (function t e) = faults_e ss p e

abbrev pub body_fits : List Scope → Body → Bool
body_fits ss (proper s) = true
body_fits ss (function t e) = is_ty t (type_e ss e)

-- the names that a declaration of the root's head defines, the last first
unfoldable pub names_typed : List Typed → List ℕ → List ℕ
names_typed [] seen = seen
names_typed (x ∷ xs) seen = names_typed xs (x.name ∷ seen)

abbrev pub names_global : Global → List ℕ → List ℕ
names_global (local d) seen = names_head (d ∷ []) ++ seen
names_global (class c xs) seen = names_typed xs (c ∷ seen)
names_global (procedure a xs b) seen = a ∷ seen

abbrev pub faults_global : List Scope → List ℕ → ℕ → Global → List Refusal
faults_global ss seen p (local d) = faults_head ss seen p (d ∷ [])
faults_global ss seen p (class c xs) = faults_typed ss (c ∷ seen) (suc p) xs ++ twice c seen p
faults_global ss seen p (procedure a xs b) =
    let inner = procedure_of xs ∷ ss in
    faults_typed inner [] (suc p) xs
    ++ (faults_body inner (suc p + length xs) b ++ (twice a seen p ++ mistyped_unless (body_fits inner b) p))

unfoldable pub faults_globals : List Scope → List ℕ → ℕ → List Global → (List ℕ → ℕ → List Refusal) → List Refusal
faults_globals ss seen p [] k = k seen p
faults_globals ss seen p (g ∷ gs) k = faults_global ss seen p g ++ faults_globals ss (names_global g seen) (p + size_global g) gs k

-- all faults of a tree, in postorder (N1)
unfoldable pub faults : Tree → List Refusal
faults t =
    let ss = root_of t ∷ [] in
    faults_globals ss [] 1 t.head (λ seen p. faults_items ss seen p t.items)
