-- The entries of a tree: how many they are, and that each part is spanned from its first.
use Rattle.std.specs.Prelude.{◌≡◌, refl, List, [], ◌∷◌, ◌++◌, map, suc, ◌+◌, ◌*◌, ◌/◌, ◌<◌, pos, length}
use Rattle.std.proofs.Common.{ap, arith, length-append}
use Rattle.language.specs.Measure.{measure_s}
use Rattle.language.specs.Program.{flat_typed, flat_decl, flat_s, flat_items, flat_arms, flat_target, flat_e, flat_es, result_code, flat_body, flat_global, flat_head, total}
use Rattle.language.specs.Tree.{Typed, Decl, declare, holding, Stmt, block, assign, when, choose, while, goto, assert, call, set_level, select, for, Items, no_item, label, item}
use Rattle.language.specs.Tree.{Arms, last_arm, arm, Target, to_variable, to_field, Expr, number, truth, pattern, null, variable, invoke, field, make, operate1, operate2}
use Rattle.language.specs.Tree.{conditional, fader, block_expr, Exprs, no_expr, expr, Body, proper, function, Global, local, class, procedure, count_items, count_arms}
use Rattle.language.specs.Tree.{count_exprs}
use Rattle.language.specs.Table.{Entry, entry}
use Rattle.language.specs.Faults.{size_s, size_items, size_arms, size_target, size_e, size_es, size_body, size_global}
use Rattle.table_entries.specs.Arity.{parts}
use Rattle.table_entries.specs.Spans.{Spans, spans-none, spans-then, spans-as, spans-one}

pub length-map : {A B : Type 0} (f : A → B) (xs : List A) → length (map f xs) ≡ length xs
length-map f [] = refl
length-map f (x ∷ xs) = ap suc (length-map f xs)

mutual
  unfolding flat_s flat_items flat_arms flat_target flat_e flat_es measure_s

  pub length-S : (s : Stmt) → length (flat_s s) ≡ size_s s
  length-S (block ds is) = omega (arith, length-append (map flat_decl ds) (flat_items is), length-map flat_decl ds, length-Items is)
  length-S (assign x e) = omega (arith, length-append (flat_target x) (flat_e e), length-Target x, length-E e)
  length-S (when e s) = omega (arith, length-append (flat_e e) (flat_s s), length-E e, length-S s)
  length-S (choose e s t) = omega (arith, length-append (flat_e e) (flat_s s ++ flat_s t), length-append (flat_s s) (flat_s t), length-E e, length-S s, length-S t)
  length-S (while e s) = omega (arith, length-append (flat_e e) (flat_s s), length-E e, length-S s)
  length-S (goto a) = refl
  length-S (assert e) = ap suc (length-E e)
  length-S (call a es) = ap suc (length-Es es)
  length-S (set_level e f) = omega (arith, length-append (flat_e e) (flat_e f), length-E e, length-E f)
  length-S (select e r) = omega (arith, length-append (flat_e e) (flat_arms r), length-E e, length-Arms r)
  length-S (for a e f g s) =
      omega (
        arith,
        length-append (flat_e e) (flat_e f ++ (flat_e g ++ flat_s s)),
        length-append (flat_e f) (flat_e g ++ flat_s s),
        length-append (flat_e g) (flat_s s),
        length-E e,
        length-E f,
        length-E g,
        length-S s,
      )

  pub length-Items : (is : Items) → length (flat_items is) ≡ size_items is
  length-Items no_item = refl
  length-Items (label a is) = ap suc (length-Items is)
  length-Items (item s is) = omega (arith, length-append (flat_s s) (flat_items is), length-S s, length-Items is)

  pub length-Arms : (r : Arms) → length (flat_arms r) ≡ size_arms r
  length-Arms (last_arm s) = length-S s
  length-Arms (arm s r) = omega (arith, length-append (flat_s s) (flat_arms r), length-S s, length-Arms r)

  pub length-Target : (x : Target) → length (flat_target x) ≡ size_target x
  length-Target (to_variable a) = refl
  length-Target (to_field a e) = ap suc (length-E e)

  pub length-E : (e : Expr) → length (flat_e e) ≡ size_e e
  length-E (number z) = refl
  length-E (truth b) = refl
  length-E (pattern z) = refl
  length-E (null c) = refl
  length-E (variable a) = refl
  length-E (invoke a es) = ap suc (length-Es es)
  length-E (field a e) = ap suc (length-E e)
  length-E (make c es) = ap suc (length-Es es)
  length-E (operate1 o e) = ap suc (length-E e)
  length-E (operate2 o e f) = omega (arith, length-append (flat_e e) (flat_e f), length-E e, length-E f)
  length-E (conditional e f g) = omega (arith, length-append (flat_e e) (flat_e f ++ flat_e g), length-append (flat_e f) (flat_e g), length-E e, length-E f, length-E g)
  length-E (fader e) = ap suc (length-E e)
  length-E (block_expr ds is e) = omega (arith, length-append (map flat_decl ds) (flat_items is ++ flat_e e), length-append (flat_items is) (flat_e e), length-map flat_decl ds, length-Items is, length-E e)

  pub length-Es : (es : Exprs) → length (flat_es es) ≡ size_es es
  length-Es no_expr = refl
  length-Es (expr e es) = omega (arith, length-append (flat_e e) (flat_es es), length-E e, length-Es es)

pub spans-decls : (ds : List Decl) → Spans (length ds) (map flat_decl ds)
unfolding flat_decl flat_typed parts
spans-decls [] = spans-none
spans-decls (declare x ∷ ds) =
    spans-as (1 + length ds) (suc (length ds)) _ (spans-then 1 (length ds) (flat_decl (declare x) ∷ []) (map flat_decl ds)
    (spans-one (flat_decl (declare x)) [] spans-none) (spans-decls ds)) (omega arith)
spans-decls (holding g ∷ ds) =
    spans-as (1 + length ds) (suc (length ds)) _ (spans-then 1 (length ds) (flat_decl (holding g) ∷ []) (map flat_decl ds)
    (spans-one (flat_decl (holding g)) [] spans-none) (spans-decls ds)) (omega arith)

mutual
  unfolding flat_s flat_items flat_arms flat_target flat_e flat_es count_items count_arms count_exprs parts

  pub spans-S : (s : Stmt) → Spans 1 (flat_s s)
  spans-S (block ds is) = spans-one _ _ (spans-then (length ds) (count_items is) (map flat_decl ds) (flat_items is) (spans-decls ds) (spans-Items is))
  spans-S (assign x e) = spans-one _ _ (spans-then 1 1 (flat_target x) (flat_e e) (spans-Target x) (spans-E e))
  spans-S (when e s) = spans-one _ _ (spans-then 1 1 (flat_e e) (flat_s s) (spans-E e) (spans-S s))
  spans-S (choose e s t) = spans-one _ _ (spans-then 1 2 (flat_e e) (flat_s s ++ flat_s t) (spans-E e) (spans-then 1 1 (flat_s s) (flat_s t) (spans-S s) (spans-S t)))
  spans-S (while e s) = spans-one _ _ (spans-then 1 1 (flat_e e) (flat_s s) (spans-E e) (spans-S s))
  spans-S (goto a) = spans-one _ _ spans-none
  spans-S (assert e) = spans-one _ _ (spans-E e)
  spans-S (call a es) = spans-one _ _ (spans-Es es)
  spans-S (set_level e f) = spans-one _ _ (spans-then 1 1 (flat_e e) (flat_e f) (spans-E e) (spans-E f))
  spans-S (select e r) =
      spans-one _ _ (spans-as (1 + count_arms r) (count_arms r + 1) (flat_e e ++ flat_arms r)
      (spans-then 1 (count_arms r) (flat_e e) (flat_arms r) (spans-E e) (spans-Arms r)) (omega arith))
  spans-S (for a e f g s) =
      spans-one _ _ (spans-then 1 3 (flat_e e) (flat_e f ++ (flat_e g ++ flat_s s)) (spans-E e)
      (spans-then 1 2 (flat_e f) (flat_e g ++ flat_s s) (spans-E f) (spans-then 1 1 (flat_e g) (flat_s s) (spans-E g) (spans-S s))))

  pub spans-Items : (is : Items) → Spans (count_items is) (flat_items is)
  spans-Items no_item = spans-none
  spans-Items (label a is) =
      spans-as (1 + count_items is) (suc (count_items is)) _ (spans-then 1 (count_items is) (entry 20 a (pos 0) ∷ []) (flat_items is)
      (spans-one _ _ spans-none) (spans-Items is)) (omega arith)
  spans-Items (item s is) = spans-as (1 + count_items is) (suc (count_items is)) _ (spans-then 1 (count_items is) (flat_s s) (flat_items is) (spans-S s) (spans-Items is)) (omega arith)

  pub spans-Arms : (r : Arms) → Spans (count_arms r) (flat_arms r)
  spans-Arms (last_arm s) = spans-S s
  spans-Arms (arm s r) = spans-as (1 + count_arms r) (suc (count_arms r)) _ (spans-then 1 (count_arms r) (flat_s s) (flat_arms r) (spans-S s) (spans-Arms r)) (omega arith)

  pub spans-Target : (x : Target) → Spans 1 (flat_target x)
  spans-Target (to_variable a) = spans-one _ _ spans-none
  spans-Target (to_field a e) = spans-one _ _ (spans-E e)

  pub spans-E : (e : Expr) → Spans 1 (flat_e e)
  spans-E (number z) = spans-one _ _ spans-none
  spans-E (truth b) = spans-one _ _ spans-none
  spans-E (pattern z) = spans-one _ _ spans-none
  spans-E (null c) = spans-one _ _ spans-none
  spans-E (variable a) = spans-one _ _ spans-none
  spans-E (invoke a es) = spans-one _ _ (spans-Es es)
  spans-E (field a e) = spans-one _ _ (spans-E e)
  spans-E (make c es) = spans-one _ _ (spans-Es es)
  spans-E (operate1 o e) = spans-one _ _ (spans-E e)
  spans-E (operate2 o e f) = spans-one _ _ (spans-then 1 1 (flat_e e) (flat_e f) (spans-E e) (spans-E f))
  spans-E (conditional e f g) = spans-one _ _ (spans-then 1 2 (flat_e e) (flat_e f ++ flat_e g) (spans-E e) (spans-then 1 1 (flat_e f) (flat_e g) (spans-E f) (spans-E g)))
  spans-E (fader e) = spans-one _ _ (spans-E e)
  spans-E (block_expr ds is e) =
      spans-one _ _ (spans-as (length ds + (count_items is + 1)) (length ds + count_items is + 1) (map flat_decl ds ++ (flat_items is ++ flat_e e))
      (spans-then (length ds) (count_items is + 1) (map flat_decl ds) (flat_items is ++ flat_e e) (spans-decls ds)
      (spans-then (count_items is) 1 (flat_items is) (flat_e e) (spans-Items is) (spans-E e))) (omega arith))

  pub spans-Es : (es : Exprs) → Spans (count_exprs es) (flat_es es)
  spans-Es no_expr = spans-none
  spans-Es (expr e es) = spans-as (1 + count_exprs es) (suc (count_exprs es)) _ (spans-then 1 (count_exprs es) (flat_e e) (flat_es es) (spans-E e) (spans-Es es)) (omega arith)

-- parameters and fields as a head
pub typed-decls : (xs : List Typed) → map flat_typed xs ≡ map flat_decl (map declare xs)
unfolding flat_decl
typed-decls [] = refl
typed-decls (x ∷ xs) = ap (λ (es : List Entry). flat_typed x ∷ es) (typed-decls xs)

pub spans-typed : (xs : List Typed) → Spans (length xs) (map flat_typed xs)
spans-typed xs = rw (typed-decls xs, ← length-map declare xs) (spans-decls (map declare xs))

pub length-Body : (b : Body) → length (flat_body b) ≡ size_body b
unfolding flat_body
length-Body (proper s) = length-S s
length-Body (function t e) = length-E e

pub spans-Body : (b : Body) → Spans 1 (flat_body b)
unfolding flat_body
spans-Body (proper s) = spans-S s
spans-Body (function t e) = spans-E e

pub length-Global : (g : Global) → length (flat_global g) ≡ size_global g
unfolding flat_global
length-Global (local d) = refl
length-Global (class c xs) = ap suc (length-map flat_typed xs)
length-Global (procedure a xs b) = omega (arith, length-append (map flat_typed xs) (flat_body b), length-map flat_typed xs, length-Body b)

-- a procedure's heading has its result in the low byte
unfoldable pub Heads : Global → Type 0
Heads (local d) = Unit {0}
Heads (class c xs) = Unit {0}
Heads (procedure a xs b) = result_code b < 256

pub spans-Global : (g : Global) → Heads g → Spans 1 (flat_global g)
unfolding flat_global flat_decl flat_typed parts Heads
spans-Global (local (declare x)) h = spans-one _ _ spans-none
spans-Global (local (holding g)) h = spans-one _ _ spans-none
spans-Global (class c xs) h = spans-one _ _ (spans-typed xs)
spans-Global (procedure a xs b) h =
    let e : length xs + 1 ≡ (256 * length xs + result_code b) / 256 + 1 = omega arith in
    spans-one _ _ (spans-as (length xs + 1) ((256 * length xs + result_code b) / 256 + 1) (map flat_typed xs ++ flat_body b)
    (spans-then (length xs) 1 (map flat_typed xs) (flat_body b) (spans-typed xs) (spans-Body b)) e)

pub length-head : (gs : List Global) → length (flat_head gs) ≡ total size_global gs
unfolding flat_head total
length-head [] = refl
length-head (g ∷ gs) = omega (arith, length-append (flat_global g) (flat_head gs), length-Global g, length-head gs)
