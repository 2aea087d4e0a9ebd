-- There is an end, and a number, for each entry of a part.
use Rattle.std.specs.Prelude.{◌≡◌, refl, List, [], ◌∷◌, ◌++◌, ℕ, suc, ◌+◌, length}
use Rattle.std.proofs.Common.{ap, ◌∙◌, arith, length-append}
use Rattle.values.specs.Types.{Ty, logical}
use Rattle.language.specs.Tree.{Decl, declare, holding, Stmt, block, assign, when, choose, while, goto, assert, call, set_level, select, for, Items, no_item, label, item, Arms}
use Rattle.language.specs.Tree.{last_arm, arm, Target, to_variable, to_field, Expr, number, truth, pattern, null, variable, invoke, field, make, operate1, operate2}
use Rattle.language.specs.Tree.{conditional, fader, block_expr, Exprs, no_expr, expr, Global}
use Rattle.language.specs.Table.{Entry}
use Rattle.language.specs.Names.{block_of, expression_of, loop_of}
use Rattle.language.specs.Measure.{measure_s}
use Rattle.language.specs.Faults.{type_e, is_ty, size_s, size_items, size_arms, size_target, size_e, size_es}
use Rattle.compile_code.specs.Code.{At, at, skip, after}
use Rattle.compile_code.specs.Compile.{Around, inside, bound, labels, scopes_of, way_of, code_s, code_items, code_target, code_e, ty_e, ty_target}
use Rattle.compile_symbols.specs.Numbers.{numbers_from, cells_of, cells_within, number_of}
use Rattle.compile_nodes.specs.Ends.{around_head, at_head, ends_head, seconds, begins, below_s, ends_items, ends_arms, ends_target, below_e, ends_es}

pub length-head : (ds : List Decl) (p : At) → length (ends_head ds p) ≡ length ds
unfolding ends_head
length-head [] p = refl
length-head (declare x ∷ ds) p = ap suc (length-head ds (at (suc (suc p.address)) (suc p.cell)))
length-head (holding g ∷ ds) p = ap suc (length-head ds (skip 1 p))

module _ (gs : List Global) where
  mutual
    unfolding below_s measure_s

    pub length-below : (s : Stmt) (Γ : List Around) (st : List Ty) (p : At) → suc (length (below_s gs s Γ st p)) ≡ size_s s
    length-below (block ds is) Γ st p =
        let Δ = around_head bound ds (inside (block_of ds is) ∷ Γ) p in let q = at_head ds p in
        simp length-append (omega (arith, length-head ds p, length-items is (labels is q.address ∷ Δ) st q))
    length-below (assign x e) Γ st p =
        let q = after (code_target gs x Γ st p) p in
        simp length-append (omega (arith, length-target x Γ st p, length-below_e e Γ (ty_target gs Γ x st) q))
    length-below (when e s) Γ st p =
        let q = skip 1 (after (code_e gs e Γ st p) p) in
        simp length-append (omega (arith, length-below_e e Γ st p, length-below s Γ st q))
    length-below (choose e s t) Γ st p =
        let q = skip 1 (after (code_e gs e Γ st p) p) in let r = skip 1 (after (code_s gs s Γ st q) q) in
        simp length-append (omega (arith, length-below_e e Γ st p, length-below s Γ st q, length-below t Γ st r))
    length-below (while e s) Γ st p =
        let q = skip 1 (after (code_e gs e Γ st p) p) in
        simp length-append (omega (arith, length-below_e e Γ st p, length-below s Γ st q))
    length-below (goto a) Γ st p = refl
    length-below (assert e) Γ st p = ap suc (length-below_e e Γ st p)
    length-below (call a es) Γ st p = ap suc (length-es es Γ st p)
    length-below (set_level e f) Γ st p =
        let q = after (code_e gs e Γ st p) p in
        simp length-append (omega (arith, length-below_e e Γ st p, length-below_e f Γ (ty_e gs Γ e ∷ st) q))
    length-below (select e r) Γ st p =
        let q = at p.address (suc p.cell) in
        simp length-append (omega (arith, length-below_e e Γ st q, length-arms r Γ st (skip 1 (after (code_e gs e Γ st q) q))))
    length-below (for a e f g s) Γ st p =
        let q = at p.address (suc (suc (suc p.cell))) in let ts = ty_e gs Γ e ∷ st in let r = after (code_e gs e Γ st q) q in
        let us = ty_e gs Γ f ∷ ts in let t = after (code_e gs f Γ ts r) r in let b = skip 48 (after (code_e gs g Γ us t) t) in
        simp length-append
        (omega (arith, length-below_e e Γ st q, length-below_e f Γ ts r, length-below_e g Γ us t, length-below s (bound a p.cell ∷ inside (loop_of a) ∷ Γ) st b))

    pub length-items : (is : Items) (Γ : List Around) (st : List Ty) (p : At) → length (ends_items gs is Γ st p) ≡ size_items is
    length-items no_item Γ st p = refl
    length-items (label a is) Γ st p = ap suc (length-items is Γ st p)
    length-items (item s is) Γ st p = simp length-append (omega (arith, length-below s Γ st p, length-items is Γ st (after (code_s gs s Γ st p) p)))

    pub length-arms : (r : Arms) (Γ : List Around) (st : List Ty) (p : At) → length (ends_arms gs r Γ st p) ≡ size_arms r
    length-arms (last_arm s) Γ st p = length-below s Γ st (skip 4 p)
    length-arms (arm s r) Γ st p =
        let q = skip 4 p in
        simp length-append (omega (arith, length-below s Γ st q, length-arms r Γ st (skip 1 (after (code_s gs s Γ st q) q))))

    pub length-target : (x : Target) (Γ : List Around) (st : List Ty) (p : At) → length (ends_target gs x Γ st p) ≡ size_target x
    length-target (to_variable a) Γ st p = refl
    length-target (to_field a e) Γ st p = ap suc (length-below_e e Γ st p)

    pub length-below_e : (e : Expr) (Γ : List Around) (st : List Ty) (p : At) → suc (length (below_e gs e Γ st p)) ≡ size_e e
    length-below_e (number z) Γ st p = refl
    length-below_e (truth b) Γ st p = refl
    length-below_e (pattern z) Γ st p = refl
    length-below_e (null c) Γ st p = refl
    length-below_e (variable a) Γ st p = refl
    length-below_e (invoke a es) Γ st p = ap suc (length-es es Γ st p)
    length-below_e (field a e) Γ st p = ap suc (length-below_e e Γ st p)
    length-below_e (make c es) Γ st p = ap suc (length-es es Γ st p)
    length-below_e (operate1 o e) Γ st p = ap suc (length-below_e e Γ st p)
    length-below_e (operate2 o e f) Γ st p =
        let w = way_of o (is_ty logical (type_e (scopes_of Γ) e)) in let q = begins w (after (code_e gs e Γ st p) p) in
        simp length-append (omega (arith, length-below_e e Γ st p, length-below_e f Γ (seconds w (ty_e gs Γ e) st) q))
    length-below_e (conditional e f g) Γ st p =
        let q = skip 1 (after (code_e gs e Γ st p) p) in let r = skip 1 (after (code_e gs f Γ st q) q) in
        simp length-append (omega (arith, length-below_e e Γ st p, length-below_e f Γ st q, length-below_e g Γ st r))
    length-below_e (fader e) Γ st p = ap suc (length-below_e e Γ st p)
    length-below_e (block_expr ds is e) Γ st p =
        let Δ = around_head bound ds (inside (expression_of ds is) ∷ Γ) p in let q = at_head ds p in
        let r = after (code_items gs is (labels is q.address ∷ Δ) st q) q in
        simp length-append (omega (arith, length-head ds p, length-items is (labels is q.address ∷ Δ) st q, length-below_e e Δ st r))

    pub length-es : (es : Exprs) (Γ : List Around) (st : List Ty) (p : At) → length (ends_es gs es Γ st p) ≡ size_es es
    length-es no_expr Γ st p = refl
    length-es (expr e es) Γ st p =
        simp length-append (omega (arith, length-below_e e Γ st p, length-es es Γ (ty_e gs Γ e ∷ st) (after (code_e gs e Γ st p) p)))

-- ── numbers ──
pub length-numbers : (cs : List ℕ) (n : ℕ) (us : List Entry) → length (numbers_from cs n us) ≡ length us
unfolding numbers_from
length-numbers cs n [] = refl
length-numbers cs n (e ∷ us) = ap suc (length-numbers cs (n + cells_of e) us)

pub numbers-append : (cs : List ℕ) (n : ℕ) (us vs : List Entry) → numbers_from cs n (us ++ vs) ≡ numbers_from cs n us ++ numbers_from cs (n + cells_within us) vs
unfolding numbers_from cells_within
numbers-append cs n [] vs = ap (λ k. numbers_from cs k vs) (omega arith)
numbers-append cs n (e ∷ us) vs =
    let k : n + cells_of e + cells_within us ≡ n + (cells_of e + cells_within us) = omega arith in
    ap (λ ws. number_of cs 0 n e ∷ ws) (numbers-append cs (n + cells_of e) us vs ∙ rw k)
