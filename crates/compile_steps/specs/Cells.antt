-- The cells that a part's code takes are those of its entries; and there is an end for each entry.
use Rattle.std.specs.Prelude.{◌≡◌, Bool, true, false, ℕ, suc, ◌+◌, length}
use Rattle.std.proofs.Math.Path.{refl}
use Rattle.std.proofs.Common.{ap, sym, ◌∙◌, arith}
use mathlib.Core.List.{List, [], ◌∷◌, ◌++◌, map}
use Rattle.language.specs.Program.{flat_decl, flat_s, flat_items, flat_arms, flat_target, flat_e, flat_es}
use Rattle.logic.specs.Choice.{If◌then◌else◌}
use Rattle.values.specs.Types.{Ty, logical}
use Rattle.values.specs.Operators.{Binary}
use Rattle.bytecode.specs.Macro.{Shape}
use Rattle.bytecode.specs.Instructions.{go}
use Rattle.language.specs.Tree.{Decl, declare, holding, Stmt, block, assign, when, choose, while, goto, assert, call, set_level, select, for, Items, no_item, label, item, Arms}
use Rattle.language.specs.Tree.{last_arm, arm, Target, to_variable, to_field, Expr, number, truth, pattern, null, variable, invoke, field, make, operate1, operate2}
use Rattle.language.specs.Tree.{conditional, fader, block_expr, Exprs, no_expr, expr, Global}
use Rattle.language.specs.Names.{block_of, expression_of, loop_of}
use Rattle.language.specs.Faults.{type_e, is_ty}
use Rattle.table_scopes.specs.Trees.{length-S, length-E}
use Rattle.compile_code.specs.Code.{Code, op, ◌▸◌, At, at, skip, after}
use Rattle.compile_code.specs.Compile.{Around, inside, outermost, bound, global, held, labels, scopes_of, passing, the_labels, has_label, label_at, Way, plainly, marked}
use Rattle.compile_code.specs.Compile.{if_true, if_false, way_of, code_way, code_goto, code_head, code_s, code_items, code_arms, code_target, code_e, code_es, ops_arms, ty_target, ty_e}
use Rattle.compile_code.specs.Compile.{code_stored, code_downward, code_upward, code_once, code_entered, code_turned}
use Rattle.compile_symbols.specs.Numbers.{cells_within}
use Rattle.compile_nodes.specs.Ends.{around_head, at_head, ends_s, ends_e}
use Rattle.compile_scopes.specs.HeadOps.{head-cells}
use Rattle.compile_scopes.specs.Cells.{within-head}
use Rattle.compile_symbols.specs.Entries.{cells-append}
use Rattle.compile_scopes.specs.Lengths.{length-below, length-below_e}

goto-cell : (Γ : List Around) (a : ℕ) (p : At) → (after (code_goto Γ a) p).cell ≡ p.cell
unfolding after code_goto
goto-cell [] a p = refl
goto-cell (inside s ∷ Γ) a p = goto-cell Γ a p
goto-cell (outermost s ∷ Γ) a p = goto-cell Γ a p
goto-cell (bound b c ∷ Γ) a p = goto-cell Γ a p
goto-cell (global o b c ∷ Γ) a p = goto-cell Γ a p
goto-cell (held g ∷ Γ) a p = goto-cell Γ a (skip 1 p)
goto-cell (labels is x ∷ Γ) a p = pick (has_label a is) (goto-cell Γ a p)
  where
    pick : (b : Bool) → (after (code_goto Γ a) p).cell ≡ p.cell → (after (If b then op (go (label_at is (scopes_of Γ) (the_labels is ∷ passing Γ) x a)) else code_goto Γ a) p).cell ≡ p.cell
    pick true h = refl
    pick false h = h

-- ── a loop's own code: where it ends ──
pub after-entered : (c x z : ℕ) (m : Shape) (p : At) → after (code_entered c x z m) p ≡ skip 48 p
unfolding after code_stored code_downward code_upward code_once
after-entered c x z m p = refl

pub after-turned : (c b z : ℕ) (m : Shape) (p : At) → after (code_turned c b z m) p ≡ skip 13 p
unfolding after code_turned
after-turned c b z m p = refl

pub at-head-cell : (ds : List Decl) (p : At) → (at_head ds p).cell ≡ p.cell + cells_within (map flat_decl ds)
at-head-cell ds p = head-cells ds p ∙ ap (λ (n : ℕ). p.cell + n) (sym (within-head ds))

module _ (gs : List Global) where
  head-cell : (ds : List Decl) (Γ : List Around) (p : At) (f : List Around → At → Code)
      → (after (code_head gs bound ds Γ p f) p).cell ≡ (after (f (around_head bound ds Γ p) (at_head ds p)) (at_head ds p)).cell
  unfolding after code_head around_head at_head
  head-cell [] Γ p f = refl
  head-cell (declare x ∷ ds) Γ p f = head-cell ds (bound x.name p.cell ∷ Γ) (at (suc (suc p.address)) (suc p.cell)) f
  head-cell (holding g ∷ ds) Γ p f = head-cell ds (held g ∷ Γ) (skip 1 p) f

  way-cell : (w : Way) (o : Binary) (Γ : List Around) (st : List Ty) (t : Ty) (x : Code) (p : At) (f : List Ty → At → Code) (n k : ℕ)
      → (after x p).cell ≡ p.cell + n → ((us : List Ty) (q : At) → (after (f us q) q).cell ≡ q.cell + k)
      → (after (code_way w o Γ st t x p f) p).cell ≡ p.cell + (n + k)
  unfolding after
  way-cell plainly o Γ st t x p f n k h g = omega (arith, h, g (t ∷ st) (after x p))
  way-cell marked o Γ st t x p f n k h g = omega (arith, h, g (t ∷ st) (after x p))
  way-cell if_true o Γ st t x p f n k h g = omega (arith, h, g st (skip 1 (after x p)))
  way-cell if_false o Γ st t x p f n k h g = omega (arith, h, g st (skip 3 (after x p)))

  mutual
    unfolding after code_s flat_s cells_within code_stored code_downward code_upward code_once code_turned

    pub cell-S : (s : Stmt) (Γ : List Around) (st : List Ty) (p : At) → (after (code_s gs s Γ st p) p).cell ≡ p.cell + cells_within (flat_s s)
    cell-S (block ds is) Γ st p =
        let q = at_head ds p in let Δ = around_head bound ds (inside (block_of ds is) ∷ Γ) p in
        head-cell ds (inside (block_of ds is) ∷ Γ) p (λ Δ q. code_items gs is (labels is q.address ∷ Δ) st q)
        ∙ omega (arith, cell-items is (labels is q.address ∷ Δ) st q, at-head-cell ds p, cells-append (map flat_decl ds) (flat_items is))
    cell-S (assign x e) Γ st p =
        let q = after (code_target gs x Γ st p) p in
        omega (arith, cell-target x Γ st p, cell-E e Γ (ty_target gs Γ x st) q, cells-append (flat_target x) (flat_e e))
    cell-S (when e s) Γ st p =
        let q = skip 1 (after (code_e gs e Γ st p) p) in
        omega (arith, cell-E e Γ st p, cell-S s Γ st q, cells-append (flat_e e) (flat_s s))
    cell-S (choose e s t) Γ st p =
        let q = skip 1 (after (code_e gs e Γ st p) p) in let r = skip 1 (after (code_s gs s Γ st q) q) in
        omega (arith, cell-E e Γ st p, cell-S s Γ st q, cell-S t Γ st r, cells-append (flat_e e) (flat_s s ++ flat_s t), cells-append (flat_s s) (flat_s t))
    cell-S (while e s) Γ st p =
        let q = skip 1 (after (code_e gs e Γ st p) p) in
        omega (arith, cell-E e Γ st p, cell-S s Γ st q, cells-append (flat_e e) (flat_s s))
    cell-S (goto a) Γ st p = omega (arith, goto-cell Γ a p)
    cell-S (assert e) Γ st p = omega (arith, cell-E e Γ st p)
    cell-S (call a es) Γ st p = omega (arith, cell-Es es Γ st p)
    cell-S (set_level e f) Γ st p =
        let q = after (code_e gs e Γ st p) p in
        omega (arith, cell-E e Γ st p, cell-E f Γ (ty_e gs Γ e ∷ st) q, cells-append (flat_e e) (flat_e f))
    cell-S (select e r) Γ st p =
        let q = at p.address (suc p.cell) in let b = skip 1 (after (code_e gs e Γ st q) q) in
        omega (arith, cell-E e Γ st q, cell-arms r p.cell 1 (b.address + ops_arms r (scopes_of Γ) (passing Γ)) Γ st b, cells-append (flat_e e) (flat_arms r))
    cell-S (for a e f g s) Γ st p =
        let q = at p.address (suc (suc (suc p.cell))) in let r = after (code_e gs e Γ st q) q in let ts = ty_e gs Γ e ∷ st in
        let t = after (code_e gs f Γ ts r) r in let us = ty_e gs Γ f ∷ ts in let b = skip 48 (after (code_e gs g Γ us t) t) in
        omega (
          arith,
          cell-E e Γ st q,
          cell-E f Γ ts r,
          cell-E g Γ us t,
          cell-S s (bound a p.cell ∷ inside (loop_of a) ∷ Γ) st b,
          cells-append (flat_e e) (flat_e f ++ (flat_e g ++ flat_s s)),
          cells-append (flat_e f) (flat_e g ++ flat_s s),
          cells-append (flat_e g) (flat_s s),
        )

    pub cell-items : (is : Items) (Γ : List Around) (st : List Ty) (p : At) → (after (code_items gs is Γ st p) p).cell ≡ p.cell + cells_within (flat_items is)
    cell-items no_item Γ st p = omega arith
    cell-items (label a is) Γ st p = omega (arith, cell-items is Γ st p)
    cell-items (item s is) Γ st p = omega (arith, cell-S s Γ st p, cell-items is Γ st (after (code_s gs s Γ st p) p), cells-append (flat_s s) (flat_items is))

    pub cell-arms : (r : Arms) (c i z : ℕ) (Γ : List Around) (st : List Ty) (p : At) → (after (code_arms gs r c i z Γ st p) p).cell ≡ p.cell + cells_within (flat_arms r)
    cell-arms (last_arm s) c i z Γ st p = omega (arith, cell-S s Γ st (skip 4 p))
    cell-arms (arm s r) c i z Γ st p =
        let q = skip 4 p in
        omega (arith, cell-S s Γ st q, cell-arms r c (suc i) z Γ st (skip 1 (after (code_s gs s Γ st q) q)), cells-append (flat_s s) (flat_arms r))

    pub cell-target : (x : Target) (Γ : List Around) (st : List Ty) (p : At) → (after (code_target gs x Γ st p) p).cell ≡ p.cell + cells_within (flat_target x)
    cell-target (to_variable a) Γ st p = omega arith
    cell-target (to_field a e) Γ st p = omega (arith, cell-E e Γ st p)

    pub cell-E : (e : Expr) (Γ : List Around) (st : List Ty) (p : At) → (after (code_e gs e Γ st p) p).cell ≡ p.cell + cells_within (flat_e e)
    cell-E (number z) Γ st p = omega arith
    cell-E (truth b) Γ st p = omega arith
    cell-E (pattern z) Γ st p = omega arith
    cell-E (null c) Γ st p = omega arith
    cell-E (variable a) Γ st p = omega arith
    cell-E (invoke a es) Γ st p = omega (arith, cell-Es es Γ st p)
    cell-E (field a e) Γ st p = omega (arith, cell-E e Γ st p)
    cell-E (make c es) Γ st p = omega (arith, cell-Es es Γ st p)
    cell-E (operate1 o e) Γ st p = omega (arith, cell-E e Γ st p)
    cell-E (operate2 o e f) Γ st p =
        way-cell (way_of o (is_ty logical (type_e (scopes_of Γ) e))) o Γ st (ty_e gs Γ e) (code_e gs e Γ st p) p (λ ts q. code_e gs f Γ ts q)
        (cells_within (flat_e e)) (cells_within (flat_e f)) (cell-E e Γ st p) (λ us q. cell-E f Γ us q)
        ∙ omega (arith, cells-append (flat_e e) (flat_e f))
    cell-E (conditional e f g) Γ st p =
        let q = skip 1 (after (code_e gs e Γ st p) p) in let r = skip 1 (after (code_e gs f Γ st q) q) in
        omega (arith, cell-E e Γ st p, cell-E f Γ st q, cell-E g Γ st r, cells-append (flat_e e) (flat_e f ++ flat_e g), cells-append (flat_e f) (flat_e g))
    cell-E (fader e) Γ st p = omega (arith, cell-E e Γ st p)
    cell-E (block_expr ds is e) Γ st p =
        let q = at_head ds p in let Δ = around_head bound ds (inside (expression_of ds is) ∷ Γ) p in let y = code_items gs is (labels is q.address ∷ Δ) st q in
        head-cell ds (inside (expression_of ds is) ∷ Γ) p (λ Δ q. let y = code_items gs is (labels is q.address ∷ Δ) st q in y ▸ code_e gs e Δ st (after y q))
        ∙ omega (
          arith,
          cell-items is (labels is q.address ∷ Δ) st q,
          cell-E e Δ st (after y q),
          at-head-cell ds p,
          cells-append (map flat_decl ds) (flat_items is ++ flat_e e),
          cells-append (flat_items is) (flat_e e),
        )

    pub cell-Es : (es : Exprs) (Γ : List Around) (st : List Ty) (p : At) → (after (code_es gs es Γ st p) p).cell ≡ p.cell + cells_within (flat_es es)
    cell-Es no_expr Γ st p = omega arith
    cell-Es (expr e es) Γ st p = omega (arith, cell-E e Γ st p, cell-Es es Γ (ty_e gs Γ e ∷ st) (after (code_e gs e Γ st p) p), cells-append (flat_e e) (flat_es es))

  -- ── an end for each entry ──
  pub length-ends_e : (e : Expr) (Γ : List Around) (st : List Ty) (p : At) → length (ends_e gs e Γ st p) ≡ length (flat_e e)
  length-ends_e e Γ st p = length-below_e gs e Γ st p ∙ sym (length-E e)

  pub length-ends_s : (s : Stmt) (Γ : List Around) (st : List Ty) (p : At) → length (ends_s gs s Γ st p) ≡ length (flat_s s)
  length-ends_s s Γ st p = length-below gs s Γ st p ∙ sym (length-S s)
