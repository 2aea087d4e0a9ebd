-- The cells of a part are counted alike over its entries (`cells_within`) and over its tree, as the limits count them (`cells_s`, …).
use Rattle.std.specs.Prelude.{◌≡◌, refl, List, [], ◌∷◌, ◌++◌, map, ◌+◌, length}
use Rattle.std.proofs.Common.{ap, arith}
use Rattle.language.specs.Measure.{measure_s}
use Rattle.language.specs.Program.{flat_typed, flat_decl, flat_s, flat_items, flat_arms, flat_target, flat_e, flat_es}
use Rattle.language.specs.Tree.{Typed, Decl, declare, holding, Stmt, block, assign, when, choose, while, goto, assert, call, set_level, select, for, Items, no_item, label, item}
use Rattle.language.specs.Tree.{Arms, last_arm, arm, Target, to_variable, to_field, Expr, number, truth, pattern, null, variable, invoke, field, make, operate1, operate2}
use Rattle.language.specs.Tree.{conditional, fader, block_expr, Exprs, no_expr, expr}
use Rattle.language.specs.Limits.{head_cells, cells_s, cells_items, cells_arms, cells_target, cells_e, cells_es}
use Rattle.compile_symbols.specs.Numbers.{cells_within}
use Rattle.compile_symbols.specs.Entries.{cells-append}

pub within-head : (ds : List Decl) → cells_within (map flat_decl ds) ≡ head_cells ds
unfolding cells_within flat_decl flat_typed head_cells
within-head [] = refl
within-head (declare x ∷ ds) = ap (λ n. 1 + n) (within-head ds)
within-head (holding g ∷ ds) = ap (λ n. 0 + n) (within-head ds)

pub within-typed : (xs : List Typed) → cells_within (map flat_typed xs) ≡ length xs
unfolding cells_within flat_typed
within-typed [] = refl
within-typed (x ∷ xs) = omega (arith, within-typed xs)

mutual
  unfolding cells_within flat_s measure_s

  pub within-S : (s : Stmt) → cells_within (flat_s s) ≡ cells_s s
  within-S (block ds is) = omega (arith, cells-append (map flat_decl ds) (flat_items is), within-head ds, within-items is)
  within-S (assign x e) = omega (arith, cells-append (flat_target x) (flat_e e), within-target x, within-E e)
  within-S (when e s) = omega (arith, cells-append (flat_e e) (flat_s s), within-E e, within-S s)
  within-S (choose e s t) = omega (arith, cells-append (flat_e e) (flat_s s ++ flat_s t), cells-append (flat_s s) (flat_s t), within-E e, within-S s, within-S t)
  within-S (while e s) = omega (arith, cells-append (flat_e e) (flat_s s), within-E e, within-S s)
  within-S (goto a) = refl
  within-S (assert e) = omega (arith, within-E e)
  within-S (call a es) = omega (arith, within-Es es)
  within-S (set_level e f) = omega (arith, cells-append (flat_e e) (flat_e f), within-E e, within-E f)
  within-S (select e r) = omega (arith, cells-append (flat_e e) (flat_arms r), within-E e, within-arms r)
  within-S (for a e f g s) =
      omega (
        arith,
        cells-append (flat_e e) (flat_e f ++ (flat_e g ++ flat_s s)),
        cells-append (flat_e f) (flat_e g ++ flat_s s),
        cells-append (flat_e g) (flat_s s),
        within-E e,
        within-E f,
        within-E g,
        within-S s,
      )

  pub within-items : (is : Items) → cells_within (flat_items is) ≡ cells_items is
  within-items no_item = refl
  within-items (label a is) = omega (arith, within-items is)
  within-items (item s is) = omega (arith, cells-append (flat_s s) (flat_items is), within-S s, within-items is)

  pub within-arms : (r : Arms) → cells_within (flat_arms r) ≡ cells_arms r
  within-arms (last_arm s) = within-S s
  within-arms (arm s r) = omega (arith, cells-append (flat_s s) (flat_arms r), within-S s, within-arms r)

  pub within-target : (x : Target) → cells_within (flat_target x) ≡ cells_target x
  within-target (to_variable a) = refl
  within-target (to_field a e) = omega (arith, within-E e)

  pub within-E : (e : Expr) → cells_within (flat_e e) ≡ cells_e e
  within-E (number z) = refl
  within-E (truth b) = refl
  within-E (pattern z) = refl
  within-E (null c) = refl
  within-E (variable a) = refl
  within-E (invoke a es) = omega (arith, within-Es es)
  within-E (field a e) = omega (arith, within-E e)
  within-E (make c es) = omega (arith, within-Es es)
  within-E (operate1 o e) = omega (arith, within-E e)
  within-E (operate2 o e f) = omega (arith, cells-append (flat_e e) (flat_e f), within-E e, within-E f)
  within-E (conditional e f g) = omega (arith, cells-append (flat_e e) (flat_e f ++ flat_e g), cells-append (flat_e f) (flat_e g), within-E e, within-E f, within-E g)
  within-E (fader e) = omega (arith, within-E e)
  within-E (block_expr ds is e) = omega (arith, cells-append (map flat_decl ds) (flat_items is ++ flat_e e), cells-append (flat_items is) (flat_e e), within-head ds, within-items is, within-E e)

  pub within-Es : (es : Exprs) → cells_within (flat_es es) ≡ cells_es es
  within-Es no_expr = refl
  within-Es (expr e es) = omega (arith, cells-append (flat_e e) (flat_es es), within-E e, within-Es es)
