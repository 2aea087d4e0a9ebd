-- The faults of a part are met where its entries are judged in postorder.
use Rattle.std.specs.Prelude.{◌≡◌, Bool, true, false, not, ◌&&◌, List, [], ◌∷◌, ◌++◌, ℕ, suc, ◌+◌, ◌≤◌, ◌<◌, length}
use Rattle.std.proofs.Common.{append_assoc, append-nil, arith}
use Rattle.language.specs.Program.{total}
use Rattle.logic.specs.Choice.{If◌then◌else◌}
use Rattle.logic.specs.Lists.{among}
use Rattle.logic.specs.Options.{is_some}
use Rattle.values.specs.Types.{Ty, integer, logical, bits, reference}
use Rattle.values.specs.Ends.{Refusal, refusal}
use Rattle.language.specs.Tree.{Typed, Decl, declare, holding, Stmt, block, assign, when, choose, while, goto, assert, call, set_level, select, for, Items, no_item, label, item}
use Rattle.language.specs.Tree.{Arms, last_arm, arm, Target, to_variable, to_field, Expr, number, truth, pattern, null, variable, invoke, field, make, operate1, operate2}
use Rattle.language.specs.Tree.{conditional, fader, block_expr, Exprs, no_expr, expr, Body, proper, function, Global, local, class, procedure, Tree}
use Rattle.language.specs.Names.{Sort, as_label, Scope, block_of, expression_of, procedure_of, loop_of, root_of, Found, nowhere, found, lookup}
use Rattle.language.specs.Faults.{type_e, types_e, is_ty, same_ty, fits_ty, type_target, fault_if, named, variable_sort, assignable_sort, class_sort, class_from, field_of, call_of, aimed, type_faults}
use Rattle.language.specs.Faults.{size_s, size_items, size_target, size_e, faults_typed, faults_head, names_head, faults_s, faults_items, faults_arms, faults_target, faults_e}
use Rattle.language.specs.Faults.{faults_es, size_global, faults_body, body_fits, names_global, faults_global, faults_globals, faults}
use Rattle.language_laws.specs.Claims.{Walk, end, pass}
use Rattle.language_laws.specs.Outline.{Outline, leaf, none, under, ◌beside◌, size, postorder, leaves_of, outline_s, outline_items, outline_arms, outline_target}
use Rattle.language_laws.specs.Outline.{outline_e, outline_es, outline_body, outline_global, outline_head, outline}
use Rattle.language_laws.specs.Sizes.{size-leaves, size-stmt, size-items, size-target, size-expr, size-global, size-tree}
use Rattle.language_laws.specs.Walks.{walk-append, walk-one, walk-if, three-first, walk_first, within-postorder}

-- what is met where the entries of an outline are judged, the first of them p
record Met (o : Outline) (p : ℕ) (rs : List Refusal) : Type 0 where
  walk : Walk 3 (postorder p o) rs

met-none : {p : ℕ} → Met none p []
unfolding postorder
met-none = record { walk = end }

met-beside : {p q : ℕ} {a b : Outline} {xs ys : List Refusal} → Met a p xs → Met b q ys → p + size a ≡ q → Met (a beside b) p (xs ++ ys)
unfolding postorder
met-beside h k e = record { walk = walk-append h.walk (rw e k.walk) }

met-leaf : {p : ℕ} {own : List Refusal} → Walk 3 (p ∷ []) own → Met leaf p own
unfolding postorder
met-leaf w = record { walk = w }

met-regroup : {p : ℕ} {a b c : Outline} {xs : List Refusal} → Met (a beside b beside c) p xs → Met ((a beside b) beside c) p xs
unfolding size postorder
met-regroup {p} {a} {b} {c} h =
    let e : p + size a + size b ≡ p + (size a + size b) = omega arith in
    record { walk = rw (append_assoc (postorder p a) (postorder (p + size a) b) (postorder (p + (size a + size b)) c), ← e) h.walk }

-- the faults of the parts of an entry p, and then its own
post : {p : ℕ} {a : Outline} {xs own : List Refusal} → Met a (suc p) xs → Walk 3 (p ∷ []) own → Met (under a) p (xs ++ own)
unfolding postorder
post h w = record { walk = walk-append h.walk w }

post-none : {p : ℕ} {a : Outline} {xs : List Refusal} → Met a (suc p) xs → Met (under a) p xs
post-none {xs = xs} h = rw (append-nil xs) at (post h (pass end))

post-two : {p q : ℕ} {a b : Outline} {xs ys own : List Refusal} → Met a (suc p) xs → Met b q ys → suc p + size a ≡ q → Walk 3 (p ∷ []) own
    → Met (under (a beside b)) p (xs ++ (ys ++ own))
post-two {xs = xs} {ys = ys} {own = own} h k e w = rw (← append_assoc xs ys own) (post (met-beside h k e) w)

post-three : {p q r : ℕ} {a b c : Outline} {xs ys zs own : List Refusal} → Met a (suc p) xs → Met b q ys → Met c r zs → suc p + size a ≡ q → q + size b ≡ r
    → Walk 3 (p ∷ []) own → Met (under (a beside b beside c)) p (xs ++ (ys ++ (zs ++ own)))
post-three {ys = ys} {zs = zs} {own = own} h k l e f w = rw (← append_assoc ys zs own) (post-two h (met-beside k l f) e w)

post-four : {p q r s : ℕ} {a b c d : Outline} {xs ys zs ws own : List Refusal} → Met a (suc p) xs → Met b q ys → Met c r zs → Met d s ws → suc p + size a ≡ q → q + size b ≡ r
    → r + size c ≡ s → Walk 3 (p ∷ []) own → Met (under (a beside b beside c beside d)) p (xs ++ (ys ++ (zs ++ (ws ++ own))))
post-four {zs = zs} {ws = ws} {own = own} h k l m e f g w = rw (← append_assoc zs ws own) (post-three h k (met-beside l m g) e f w)

-- ── the faults at one entry ──
wrong : (b : Bool) (p : ℕ) → Walk 3 (p ∷ []) (fault_if b 4 p)
wrong b p = walk-if b 4 p (omega arith)

at_named : (f : Found) (g : Sort → Bool) (p : ℕ) → Walk 3 (p ∷ []) (named f g p)
at_named nowhere g p = walk-one 3 p (omega arith)
at_named (found s w) g p = wrong (not (g s)) p

at-aimed : (f : Found) (p : ℕ) → Walk 3 (p ∷ []) (aimed f p)
at-aimed nowhere p = walk-one 3 p (omega arith)
at-aimed (found s w) p = go (as_label s)
  where
    go : (b : Bool) → Walk 3 (p ∷ []) (If b then fault_if w 5 p else refusal 4 p ∷ [])
    go true = walk-if w 5 p (omega arith)
    go false = walk-one 4 p (omega arith)

-- a declaration with a type: its name twice, and then its class
at-declared : (ss : List Scope) (b : Bool) (t : Ty) (p : ℕ) → Walk 3 (p ∷ []) (fault_if b 3 p ++ type_faults ss t p)
at-declared ss b integer p = three-first b p (pass end)
at-declared ss b logical p = three-first b p (pass end)
at-declared ss b bits p = three-first b p (pass end)
at-declared ss b (reference c) p = three-first b p (at_named (lookup c ss) class_sort p)

-- ── heads ──
met-typed : (xs : List Typed) (ss : List Scope) (seen : List ℕ) (p : ℕ) → Met (leaves_of xs) p (faults_typed ss seen p xs)
unfolding size leaves_of faults_typed
met-typed [] ss seen p = met-none
met-typed (x ∷ xs) ss seen p =
    rw (← append_assoc (fault_if (among x.name seen) 3 p) (type_faults ss x.type p) (faults_typed ss (x.name ∷ seen) (suc p) xs))
    (met-beside (met-leaf (at-declared ss (among x.name seen) x.type p)) (met-typed xs ss (x.name ∷ seen) (suc p)) (omega arith))

met-one : (x : Typed) (ss : List Scope) (seen : List ℕ) (p : ℕ) → Met leaf p (faults_typed ss seen p (x ∷ []))
unfolding faults_typed
met-one x ss seen p = rw (append-nil (type_faults ss x.type p)) (met-leaf (at-declared ss (among x.name seen) x.type p))

met-head : (ds : List Decl) (ss : List Scope) (seen : List ℕ) (p : ℕ) → Met (leaves_of ds) p (faults_head ss seen p ds)
unfolding size leaves_of faults_head
met-head [] ss seen p = met-none
met-head (declare x ∷ ds) ss seen p = met-beside (met-one x ss seen p) (met-head ds ss (x.name ∷ seen) (suc p)) (omega arith)
met-head (holding g ∷ ds) ss seen p = met-beside (met-leaf (pass end)) (met-head ds ss seen (suc p)) (omega arith)

-- ── statements and expressions ──
mutual
  unfolding size outline_s faults_s

  met-stmt : (s : Stmt) (ss : List Scope) (p : ℕ) → Met (outline_s s) p (faults_s ss p s)
  met-stmt (block ds is) ss p =
      let inner = block_of ds is ∷ ss in
      post-none (met-beside (met-head ds inner [] (suc p)) (met-items is inner (names_head ds) (suc p + length ds)) (omega (arith, size-leaves ds)))
  met-stmt (assign x e) ss p =
      post-two (met-target x ss (suc p)) (met-expr e ss (suc p + size_target x)) (omega (arith, size-target x)) (wrong (not (fits_ty (type_e ss e) (type_target ss x))) p)
  met-stmt (when e s) ss p =
      post-two (met-expr e ss (suc p)) (met-stmt s ss (suc p + size_e e)) (omega (arith, size-expr e)) (wrong (not (is_ty logical (type_e ss e))) p)
  met-stmt (choose e s t) ss p =
      post-three (met-expr e ss (suc p)) (met-stmt s ss (suc p + size_e e)) (met-stmt t ss (suc p + size_e e + size_s s)) (omega (arith, size-expr e)) (omega (arith, size-stmt s))
      (wrong (not (is_ty logical (type_e ss e))) p)
  met-stmt (while e s) ss p =
      post-two (met-expr e ss (suc p)) (met-stmt s ss (suc p + size_e e)) (omega (arith, size-expr e)) (wrong (not (is_ty logical (type_e ss e))) p)
  met-stmt (goto a) ss p = met-leaf (at-aimed (lookup a ss) p)
  met-stmt (assert e) ss p = post (met-expr e ss (suc p)) (wrong (not (is_ty logical (type_e ss e))) p)
  met-stmt (call a es) ss p = post (met-exprs es ss (suc p)) (at_named (lookup a ss) (call_of 0 (types_e ss es)) p)
  met-stmt (set_level e f) ss p =
      post-two (met-expr e ss (suc p)) (met-expr f ss (suc p + size_e e)) (omega (arith, size-expr e))
      (wrong (not (is_ty integer (type_e ss e) && is_ty integer (type_e ss f))) p)
  met-stmt (select e r) ss p =
      post-two (met-expr e ss (suc p)) (met-arms r ss (suc p + size_e e)) (omega (arith, size-expr e)) (wrong (not (is_ty integer (type_e ss e))) p)
  met-stmt (for a e f g s) ss p =
      post-four (met-expr e ss (suc p)) (met-expr f ss (suc p + size_e e)) (met-expr g ss (suc p + size_e e + size_e f)) (met-stmt s (loop_of a ∷ ss) (suc p + size_e e + size_e f + size_e g))
      (omega (arith, size-expr e)) (omega (arith, size-expr f)) (omega (arith, size-expr g))
      (wrong (not (is_ty integer (type_e ss e) && (is_ty integer (type_e ss f) && is_ty integer (type_e ss g)))) p)

  met-items : (is : Items) (ss : List Scope) (seen : List ℕ) (p : ℕ) → Met (outline_items is) p (faults_items ss seen p is)
  met-items no_item ss seen p = met-none
  met-items (label a is) ss seen p = met-beside (met-leaf (walk-if (among a seen) 3 p (omega arith))) (met-items is ss (a ∷ seen) (suc p)) (omega arith)
  met-items (item s is) ss seen p = met-beside (met-stmt s ss p) (met-items is ss seen (p + size_s s)) (omega (arith, size-stmt s))

  met-arms : (r : Arms) (ss : List Scope) (p : ℕ) → Met (outline_arms r) p (faults_arms ss p r)
  met-arms (last_arm s) ss p = met-stmt s ss p
  met-arms (arm s r) ss p = met-beside (met-stmt s ss p) (met-arms r ss (p + size_s s)) (omega (arith, size-stmt s))

  met-target : (x : Target) (ss : List Scope) (p : ℕ) → Met (outline_target x) p (faults_target ss p x)
  met-target (to_variable a) ss p = met-leaf (at_named (lookup a ss) assignable_sort p)
  met-target (to_field a e) ss p = post (met-expr e ss (suc p)) (at_named (lookup a ss) (field_of (type_e ss e)) p)

  met-expr : (e : Expr) (ss : List Scope) (p : ℕ) → Met (outline_e e) p (faults_e ss p e)
  met-expr (number z) ss p = met-leaf (pass end)
  met-expr (truth b) ss p = met-leaf (pass end)
  met-expr (pattern z) ss p = met-leaf (pass end)
  met-expr (null c) ss p = met-leaf (at_named (lookup c ss) class_sort p)
  met-expr (variable a) ss p = met-leaf (at_named (lookup a ss) variable_sort p)
  met-expr (invoke a es) ss p = post (met-exprs es ss (suc p)) (at_named (lookup a ss) (call_of 1 (types_e ss es)) p)
  met-expr (field a e) ss p = post (met-expr e ss (suc p)) (at_named (lookup a ss) (field_of (type_e ss e)) p)
  met-expr (make c es) ss p = post (met-exprs es ss (suc p)) (at_named (lookup c ss) (class_from (types_e ss es)) p)
  met-expr (operate1 o e) ss p = post (met-expr e ss (suc p)) (wrong (not (is_some (type_e ss (operate1 o e)))) p)
  met-expr (operate2 o e f) ss p =
      post-two (met-expr e ss (suc p)) (met-expr f ss (suc p + size_e e)) (omega (arith, size-expr e)) (wrong (not (is_some (type_e ss (operate2 o e f)))) p)
  met-expr (conditional e f g) ss p =
      post-three (met-expr e ss (suc p)) (met-expr f ss (suc p + size_e e)) (met-expr g ss (suc p + size_e e + size_e f)) (omega (arith, size-expr e)) (omega (arith, size-expr f))
      (wrong (not (is_ty logical (type_e ss e) && same_ty (type_e ss f) (type_e ss g))) p)
  met-expr (fader e) ss p = post (met-expr e ss (suc p)) (wrong (not (is_ty integer (type_e ss e))) p)
  met-expr (block_expr ds is e) ss p =
      let inner = expression_of ds is ∷ ss in
      let k = suc p + length ds in
      post-none (met-beside (met-head ds inner [] (suc p)) (met-beside (met-items is inner (names_head ds) k) (met-expr e inner (k + size_items is)) (omega (arith, size-items is)))
      (omega (arith, size-leaves ds)))

  met-exprs : (es : Exprs) (ss : List Scope) (p : ℕ) → Met (outline_es es) p (faults_es ss p es)
  met-exprs no_expr ss p = met-none
  met-exprs (expr e es) ss p = met-beside (met-expr e ss p) (met-exprs es ss (p + size_e e)) (omega (arith, size-expr e))

-- ── the root ──
met-body : (b : Body) (ss : List Scope) (p : ℕ) → Met (outline_body b) p (faults_body ss p b)
met-body (proper s) ss p = met-stmt s ss p
met-body (function t e) ss p = met-expr e ss p

met-global : (g : Global) (ss : List Scope) (seen : List ℕ) (p : ℕ) → Met (outline_global g) p (faults_global ss seen p g)
unfolding faults_head
met-global (local (declare x)) ss seen p = rw (append-nil (faults_typed ss seen p (x ∷ []))) (met-one x ss seen p)
met-global (local (holding h)) ss seen p = met-leaf (pass end)
met-global (class c xs) ss seen p = post (met-typed xs ss (c ∷ seen) (suc p)) (walk-if (among c seen) 3 p (omega arith))
met-global (procedure a xs b) ss seen p =
    let inner = procedure_of xs ∷ ss in
    post-two (met-typed xs inner [] (suc p)) (met-body b inner (suc p + length xs)) (omega (arith, size-leaves xs))
    (three-first (among a seen) p (wrong (not (body_fits inner b)) p))

met-globals : (gs : List Global) (ss : List Scope) (seen : List ℕ) (p : ℕ) (o : Outline) (k : List ℕ → ℕ → List Refusal)
    → ((names : List ℕ) (q : ℕ) → Met o q (k names q)) → Met (outline_head gs beside o) p (faults_globals ss seen p gs k)
unfolding size outline_head faults_globals
met-globals [] ss seen p o k h = met-beside met-none (h seen p) (omega arith)
met-globals (g ∷ gs) ss seen p o k h =
    met-regroup (met-beside (met-global g ss seen p) (met-globals gs ss (names_global g seen) (p + size_global g) o k h) (omega (arith, size-global g)))

pub walk-faults : (t : Tree) → Walk 3 (postorder 0 (outline t)) (faults t)
unfolding outline faults
walk-faults t = (post-none (met-globals t.head (root_of t ∷ []) [] 1 (outline_items t.items) _ (λ names q. met-items t.items (root_of t ∷ []) names q))).walk

-- the first fault: 3, 4 or 5, at an entry of the tree
pub first-fault : (t : Tree) (r : Refusal) (rs : List Refusal) → faults t ≡ r ∷ rs
    → (r.number ≤ 5) × (r.place < 1 + (total size_global t.head + size_items t.items))
first-fault t r rs e =
    let h = walk_first (rw e at (walk-faults t)) (within-postorder (outline t) 0) in
    (h.0, omega (arith, h.1, size-tree t))
