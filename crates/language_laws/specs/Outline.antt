-- Which entry of a tree stands under which, and from it the depth of each entry and the order in which entries are judged.
use Rattle.std.specs.Prelude.{List, [], ◌∷◌, ◌++◌, ℕ, suc, ◌+◌, max}
use Rattle.language.specs.Tree.{Stmt, block, assign, when, choose, while, goto, assert, call, set_level, select, for, Items, no_item, label, item, Arms, last_arm, arm, Target}
use Rattle.language.specs.Tree.{to_variable, to_field, Expr, number, truth, pattern, null, variable, invoke, field, make, operate1, operate2, conditional, fader, block_expr}
use Rattle.language.specs.Tree.{Exprs, no_expr, expr, Body, proper, function, Global, local, class, procedure, Tree}

infixr 60 ◌beside◌
-- "Each entry's operands are the part of the table that follows it."
pub data Outline : Type 0 where
  none : Outline
  under : Outline → Outline  -- an entry, and its operands under it
  ◌beside◌ : Outline → Outline → Outline  -- one part, and the other after it

-- how many entries
unfoldable pub size : Outline → ℕ
size none = 0
size (under o) = suc (size o)
size (a beside b) = size a + size b

-- the depth of each entry, in the order of the table, where the outermost have depth d
unfoldable pub depths : ℕ → Outline → List ℕ
depths d none = []
depths d (under o) = d ∷ depths (suc d) o
depths d (a beside b) = depths d a ++ depths d b

unfoldable pub deepest : List ℕ → ℕ
deepest [] = 0
deepest (d ∷ ds) = max d (deepest ds)

-- the places of the entries, "inner before outer, left to right", where the first entry has place p
unfoldable pub postorder : ℕ → Outline → List ℕ
postorder p none = []
postorder p (under o) = postorder (suc p) o ++ (p ∷ [])
postorder p (a beside b) = postorder p a ++ postorder (p + size a) b

-- ── the outline of a tree ──
abbrev pub leaf : Outline
leaf = under none

-- an entry for each, with nothing under it
unfoldable pub leaves_of : {A : Type 0} → List A → Outline
leaves_of [] = none
leaves_of (x ∷ xs) = leaf beside leaves_of xs

unfoldable mutual
  pub outline_s : Stmt → Outline
  outline_s (block ds is) = under (leaves_of ds beside outline_items is)
  outline_s (assign x e) = under (outline_target x beside outline_e e)
  outline_s (when e s) = under (outline_e e beside outline_s s)
  outline_s (choose e s t) = under (outline_e e beside outline_s s beside outline_s t)
  outline_s (while e s) = under (outline_e e beside outline_s s)
  outline_s (goto a) = leaf
  outline_s (assert e) = under (outline_e e)
  outline_s (call a es) = under (outline_es es)
  outline_s (set_level e f) = under (outline_e e beside outline_e f)
  outline_s (select e r) = under (outline_e e beside outline_arms r)
  outline_s (for a e f g s) = under (outline_e e beside outline_e f beside outline_e g beside outline_s s)

  pub outline_items : Items → Outline
  outline_items no_item = none
  outline_items (label a is) = leaf beside outline_items is
  outline_items (item s is) = outline_s s beside outline_items is

  pub outline_arms : Arms → Outline
  outline_arms (last_arm s) = outline_s s
  outline_arms (arm s r) = outline_s s beside outline_arms r

  pub outline_target : Target → Outline
  outline_target (to_variable a) = leaf
  outline_target (to_field a e) = under (outline_e e)

  pub outline_e : Expr → Outline
  outline_e (number z) = leaf
  outline_e (truth b) = leaf
  outline_e (pattern z) = leaf
  outline_e (null c) = leaf
  outline_e (variable a) = leaf
  outline_e (invoke a es) = under (outline_es es)
  outline_e (field a e) = under (outline_e e)
  outline_e (make c es) = under (outline_es es)
  outline_e (operate1 o e) = under (outline_e e)
  outline_e (operate2 o e f) = under (outline_e e beside outline_e f)
  outline_e (conditional e f g) = under (outline_e e beside outline_e f beside outline_e g)
  outline_e (fader e) = under (outline_e e)
  outline_e (block_expr ds is e) = under (leaves_of ds beside outline_items is beside outline_e e)

  pub outline_es : Exprs → Outline
  outline_es no_expr = none
  outline_es (expr e es) = outline_e e beside outline_es es

abbrev pub outline_body : Body → Outline
outline_body (proper s) = outline_s s
outline_body (function t e) = outline_e e

abbrev pub outline_global : Global → Outline
outline_global (local d) = leaf
outline_global (class c xs) = under (leaves_of xs)
outline_global (procedure a xs b) = under (leaves_of xs beside outline_body b)

unfoldable pub outline_head : List Global → Outline
outline_head [] = none
outline_head (g ∷ gs) = outline_global g beside outline_head gs

unfoldable pub outline : Tree → Outline
outline t = under (outline_head t.head beside outline_items t.items)
