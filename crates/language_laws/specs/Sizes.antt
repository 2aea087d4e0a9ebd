-- An outline has as many entries as the part that it is of, and is nested as deep.
use Rattle.std.specs.Prelude.{◌≡◌, refl, List, [], ◌∷◌, ◌++◌, ℕ, suc, ◌+◌, ◌≤◌, max, length}
use Rattle.std.proofs.Common.{arith, length-append}
use Rattle.language.specs.Measure.{measure_s}
use Rattle.language.specs.Program.{deep_s, deep_items, deep_arms, deep_target, deep_e, deep_es, deep_body, deep_global, deep_globals, nesting, total}
use Rattle.language.specs.Tree.{Stmt, block, assign, when, choose, while, goto, assert, call, set_level, select, for, Items, no_item, label, item, Arms, last_arm, arm, Target}
use Rattle.language.specs.Tree.{to_variable, to_field, Expr, number, truth, pattern, null, variable, invoke, field, make, operate1, operate2, conditional, fader, block_expr}
use Rattle.language.specs.Tree.{Exprs, no_expr, expr, Body, proper, function, Global, local, class, procedure, Tree}
use Rattle.language.specs.Faults.{size_s, size_items, size_arms, size_target, size_e, size_es, size_body, size_global}
use Rattle.language_laws.specs.Outline.{Outline, none, under, ◌beside◌, size, depths, deepest, leaves_of, outline_s, outline_items, outline_arms, outline_target}
use Rattle.language_laws.specs.Outline.{outline_e, outline_es, outline_body, outline_global, outline_head, outline}
use Rattle.language_laws.specs.ReadBack.{leaves, deep-head}
use Rattle.language_laws.specs.Roots.{deep-list}

unfoldable pub height : Outline → ℕ
height none = 0
height (under o) = suc (height o)
height (a beside b) = max (height a) (height b)

pub record Sized (o : Outline) (n h : ℕ) : Type 0 where
  pub entries : size o ≡ n
  pub nested : height o ≡ h

pub size-leaves : {A : Type 0} (xs : List A) → Sized (leaves_of xs) (length xs) (leaves xs)
unfolding size height leaves_of
size-leaves [] = omega arith
size-leaves (x ∷ []) = omega arith
size-leaves (x ∷ y ∷ xs) = omega (arith, size-leaves (y ∷ xs))

mutual
  unfolding size height outline_s measure_s

  pub size-stmt : (s : Stmt) → Sized (outline_s s) (size_s s) (deep_s s)
  size-stmt (block ds is) = omega (arith, size-leaves ds, deep-head ds, size-items is)
  size-stmt (assign x e) = omega (arith, size-target x, size-expr e)
  size-stmt (when e s) = omega (arith, size-expr e, size-stmt s)
  size-stmt (choose e s t) = omega (arith, size-expr e, size-stmt s, size-stmt t)
  size-stmt (while e s) = omega (arith, size-expr e, size-stmt s)
  size-stmt (goto a) = omega arith
  size-stmt (assert e) = omega (arith, size-expr e)
  size-stmt (call a es) = omega (arith, size-exprs es)
  size-stmt (set_level e f) = omega (arith, size-expr e, size-expr f)
  size-stmt (select e r) = omega (arith, size-expr e, size-arms r)
  size-stmt (for a e f g s) = omega (arith, size-expr e, size-expr f, size-expr g, size-stmt s)

  pub size-items : (is : Items) → Sized (outline_items is) (size_items is) (deep_items is)
  size-items no_item = omega arith
  size-items (label a is) = omega (arith, size-items is)
  size-items (item s is) = omega (arith, size-stmt s, size-items is)

  size-arms : (r : Arms) → Sized (outline_arms r) (size_arms r) (deep_arms r)
  size-arms (last_arm s) = size-stmt s
  size-arms (arm s r) = omega (arith, size-stmt s, size-arms r)

  pub size-target : (x : Target) → Sized (outline_target x) (size_target x) (deep_target x)
  size-target (to_variable a) = omega arith
  size-target (to_field a e) = omega (arith, size-expr e)

  pub size-expr : (e : Expr) → Sized (outline_e e) (size_e e) (deep_e e)
  size-expr (number z) = omega arith
  size-expr (truth b) = omega arith
  size-expr (pattern z) = omega arith
  size-expr (null c) = omega arith
  size-expr (variable a) = omega arith
  size-expr (invoke a es) = omega (arith, size-exprs es)
  size-expr (field a e) = omega (arith, size-expr e)
  size-expr (make c es) = omega (arith, size-exprs es)
  size-expr (operate1 o e) = omega (arith, size-expr e)
  size-expr (operate2 o e f) = omega (arith, size-expr e, size-expr f)
  size-expr (conditional e f g) = omega (arith, size-expr e, size-expr f, size-expr g)
  size-expr (fader e) = omega (arith, size-expr e)
  size-expr (block_expr ds is e) = omega (arith, size-leaves ds, deep-head ds, size-items is, size-expr e)

  size-exprs : (es : Exprs) → Sized (outline_es es) (size_es es) (deep_es es)
  size-exprs no_expr = omega arith
  size-exprs (expr e es) = omega (arith, size-expr e, size-exprs es)

size-body : (b : Body) → Sized (outline_body b) (size_body b) (deep_body b)
size-body (proper s) = size-stmt s
size-body (function t e) = size-expr e

pub size-global : (g : Global) → Sized (outline_global g) (size_global g) (deep_global g)
unfolding size height
size-global (local d) = omega arith
size-global (class c xs) = omega (arith, size-leaves xs, deep-list xs)
size-global (procedure a xs b) = omega (arith, size-leaves xs, deep-list xs, size-body b)

size-head : (gs : List Global) → Sized (outline_head gs) (total size_global gs) (deep_globals gs)
unfolding size height outline_head total deep_globals
size-head [] = omega arith
size-head (g ∷ gs) = omega (arith, size-global g, size-head gs)

pub size-tree : (t : Tree) → Sized (outline t) (1 + (total size_global t.head + size_items t.items)) (nesting t)
unfolding size height outline nesting
size-tree t = omega (arith, size-head t.head, size-items t.items)

-- ── as many depths as entries, and the deepest ──
pub length-depths : (o : Outline) (d : ℕ) → length (depths d o) ≡ size o
unfolding size depths
length-depths none d = refl
length-depths (under o) d = omega (arith, length-depths o (suc d))
length-depths (a beside b) d = omega (arith, length-append (depths d a) (depths d b), length-depths a d, length-depths b d)

deepest-append : (ds es : List ℕ) → deepest (ds ++ es) ≡ max (deepest ds) (deepest es)
unfolding deepest
deepest-append [] es = omega arith
deepest-append (d ∷ ds) es = omega (arith, deepest-append ds es)

-- the deepest of depths m, where the outermost entries of an outline that is h high have depth c + 1
data Deepest (c h m : ℕ) : Type 0 where
  no-entry : h ≡ 0 → m ≡ 0 → Deepest c h m
  some-entry : 1 ≤ h → m ≡ c + h → Deepest c h m

deepest-depths : (o : Outline) (c : ℕ) → Deepest c (height o) (deepest (depths (suc c) o))
unfolding height depths deepest
deepest-depths none c = no-entry refl refl
deepest-depths (under o) c = go (deepest-depths o (suc c))
  where
    go : {h m : ℕ} → Deepest (suc c) h m → Deepest c (suc h) (max (suc c) m)
    go (no-entry p q) = some-entry (omega arith) (omega arith)
    go (some-entry p q) = some-entry (omega arith) (omega arith)
deepest-depths (a beside b) c = rw (deepest-append (depths (suc c) a) (depths (suc c) b)) (go (deepest-depths a c) (deepest-depths b c))
  where
    go : {h m k n : ℕ} → Deepest c h m → Deepest c k n → Deepest c (max h k) (max m n)
    go (no-entry p q) (no-entry r s) = no-entry (omega arith) (omega arith)
    go (no-entry p q) (some-entry r s) = some-entry (omega arith) (omega arith)
    go (some-entry p q) (no-entry r s) = some-entry (omega arith) (omega arith)
    go (some-entry p q) (some-entry r s) = some-entry (omega arith) (omega arith)

pub nesting-deepest : (t : Tree) → nesting t ≡ deepest (depths 1 (outline t))
nesting-deepest t = go (deepest-depths (outline t) 0)
  where
    go : {m : ℕ} → Deepest 0 (height (outline t)) m → nesting t ≡ m
    go (no-entry p q) = omega (arith, size-tree t)
    go (some-entry p q) = omega (arith, size-tree t)
