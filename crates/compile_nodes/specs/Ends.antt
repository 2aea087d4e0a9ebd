-- Where the code of each entry of a part ends: an address an entry, in the table's order. A label's is its own address.
use Rattle.std.specs.Prelude.{List, [], ◌∷◌, ◌++◌, ℕ, suc}
use Rattle.values.specs.Types.{Ty, logical}
use Rattle.language.specs.Tree.{Decl, declare, holding, Stmt, block, assign, when, choose, while, goto, assert, call, set_level, select, for, Items, no_item, label, item}
use Rattle.language.specs.Tree.{Arms, last_arm, arm, Target, to_variable, to_field, Expr, number, truth, pattern, null, variable, invoke, field, make, operate1, operate2}
use Rattle.language.specs.Tree.{conditional, fader, block_expr, Exprs, no_expr, expr, Global}
use Rattle.language.specs.Names.{block_of, expression_of, loop_of}
use Rattle.language.specs.Faults.{type_e, is_ty}
use Rattle.compile_code.specs.Code.{Code, At, at, skip, after}
use Rattle.compile_code.specs.Compile.{Around, inside, bound, held, labels, scopes_of, Way, plainly, marked, if_true, if_false, way_of, code_s, code_items, code_target, code_e, ty_e, ty_target}

-- ── a head: what lies around after it, and where its block's statements begin ──
unfoldable pub around_head : (ℕ → ℕ → Around) → List Decl → List Around → At → List Around
around_head name [] Γ p = Γ
around_head name (declare x ∷ ds) Γ p = around_head name ds (name x.name p.cell ∷ Γ) (at (suc (suc p.address)) (suc p.cell))
around_head name (holding g ∷ ds) Γ p = around_head name ds (held g ∷ Γ) (skip 1 p)

unfoldable pub at_head : List Decl → At → At
at_head [] p = p
at_head (declare x ∷ ds) p = at_head ds (at (suc (suc p.address)) (suc p.cell))
at_head (holding g ∷ ds) p = at_head ds (skip 1 p)

unfoldable pub ends_head : List Decl → At → List ℕ
ends_head [] p = []
ends_head (declare x ∷ ds) p = suc (suc p.address) ∷ ends_head ds (at (suc (suc p.address)) (suc p.cell))
ends_head (holding g ∷ ds) p = suc p.address ∷ ends_head ds (skip 1 p)

-- ── the second operand: the stack that it begins with, and where ──
abbrev pub seconds : Way → Ty → List Ty → List Ty
seconds plainly t st = t ∷ st
seconds marked t st = t ∷ st
seconds if_true t st = st
seconds if_false t st = st

abbrev pub begins : Way → At → At
begins plainly p = p
begins marked p = p
begins if_true p = skip 1 p
begins if_false p = skip 3 p

-- an entry's own end, before those of the entries below it
abbrev pub ending : Code → At → List ℕ → List ℕ
ending x p below = (after x p).address ∷ below

module _ (gs : List Global) where
  unfoldable mutual
    -- the ends of the entries below a statement's own
    pub below_s : Stmt → List Around → List Ty → At → List ℕ
    below_s (block ds is) Γ st p =
        let Δ = around_head bound ds (inside (block_of ds is) ∷ Γ) p in let q = at_head ds p in
        ends_head ds p ++ ends_items is (labels is q.address ∷ Δ) st q
    below_s (assign x e) Γ st p =
        let q = after (code_target gs x Γ st p) p in let ts = ty_target gs Γ x st in
        ends_target x Γ st p ++ ending (code_e gs e Γ ts q) q (below_e e Γ ts q)
    below_s (when e s) Γ st p =
        let x = code_e gs e Γ st p in let q = skip 1 (after x p) in
        ending x p (below_e e Γ st p) ++ ending (code_s gs s Γ st q) q (below_s s Γ st q)
    below_s (choose e s t) Γ st p =
        let x = code_e gs e Γ st p in let q = skip 1 (after x p) in
        let y = code_s gs s Γ st q in let r = skip 1 (after y q) in
        ending x p (below_e e Γ st p) ++ (ending y q (below_s s Γ st q) ++ ending (code_s gs t Γ st r) r (below_s t Γ st r))
    below_s (while e s) Γ st p =
        let x = code_e gs e Γ st p in let q = skip 1 (after x p) in
        ending x p (below_e e Γ st p) ++ ending (code_s gs s Γ st q) q (below_s s Γ st q)
    below_s (goto a) Γ st p = []
    below_s (assert e) Γ st p = ending (code_e gs e Γ st p) p (below_e e Γ st p)
    below_s (call a es) Γ st p = ends_es es Γ st p
    below_s (set_level e f) Γ st p =
        let x = code_e gs e Γ st p in let q = after x p in let ts = ty_e gs Γ e ∷ st in
        ending x p (below_e e Γ st p) ++ ending (code_e gs f Γ ts q) q (below_e f Γ ts q)
    below_s (select e r) Γ st p =
        let q = at p.address (suc p.cell) in let x = code_e gs e Γ st q in
        ending x q (below_e e Γ st q) ++ ends_arms r Γ st (skip 1 (after x q))
    below_s (for a e f g s) Γ st p =
        let q = at p.address (suc (suc (suc p.cell))) in let x = code_e gs e Γ st q in let ts = ty_e gs Γ e ∷ st in
        let y = code_e gs f Γ ts (after x q) in let us = ty_e gs Γ f ∷ ts in let z = code_e gs g Γ us (after y (after x q)) in
        let b = skip 48 (after z (after y (after x q))) in let Δ = bound a p.cell ∷ inside (loop_of a) ∷ Γ in
        ending x q (below_e e Γ st q) ++ (ending y (after x q) (below_e f Γ ts (after x q)) ++ (ending z (after y (after x q)) (below_e g Γ us (after y (after x q)))
        ++ ending (code_s gs s Δ st b) b (below_s s Δ st b)))

    pub ends_items : Items → List Around → List Ty → At → List ℕ
    ends_items no_item Γ st p = []
    ends_items (label a is) Γ st p = p.address ∷ ends_items is Γ st p
    ends_items (item s is) Γ st p =
        let x = code_s gs s Γ st p in
        ending x p (below_s s Γ st p) ++ ends_items is Γ st (after x p)

    pub ends_arms : Arms → List Around → List Ty → At → List ℕ
    ends_arms (last_arm s) Γ st p = let q = skip 4 p in ending (code_s gs s Γ st q) q (below_s s Γ st q)
    ends_arms (arm s r) Γ st p =
        let q = skip 4 p in let x = code_s gs s Γ st q in
        ending x q (below_s s Γ st q) ++ ends_arms r Γ st (skip 1 (after x q))

    pub ends_target : Target → List Around → List Ty → At → List ℕ
    ends_target (to_variable a) Γ st p = p.address ∷ []
    ends_target (to_field a e) Γ st p =
        let x = code_e gs e Γ st p in
        ending x p (ending x p (below_e e Γ st p))

    -- the ends of the entries below an expression's own
    pub below_e : Expr → List Around → List Ty → At → List ℕ
    below_e (number z) Γ st p = []
    below_e (truth b) Γ st p = []
    below_e (pattern z) Γ st p = []
    below_e (null c) Γ st p = []
    below_e (variable a) Γ st p = []
    below_e (invoke a es) Γ st p = ends_es es Γ st p
    below_e (field a e) Γ st p = ending (code_e gs e Γ st p) p (below_e e Γ st p)
    below_e (make c es) Γ st p = ends_es es Γ st p
    below_e (operate1 o e) Γ st p = ending (code_e gs e Γ st p) p (below_e e Γ st p)
    below_e (operate2 o e f) Γ st p =
        let w = way_of o (is_ty logical (type_e (scopes_of Γ) e)) in let x = code_e gs e Γ st p in
        let q = begins w (after x p) in let ts = seconds w (ty_e gs Γ e) st in
        ending x p (below_e e Γ st p) ++ ending (code_e gs f Γ ts q) q (below_e f Γ ts q)
    below_e (conditional e f g) Γ st p =
        let x = code_e gs e Γ st p in let q = skip 1 (after x p) in
        let y = code_e gs f Γ st q in let r = skip 1 (after y q) in
        ending x p (below_e e Γ st p) ++ (ending y q (below_e f Γ st q) ++ ending (code_e gs g Γ st r) r (below_e g Γ st r))
    below_e (fader e) Γ st p = ending (code_e gs e Γ st p) p (below_e e Γ st p)
    below_e (block_expr ds is e) Γ st p =
        let Δ = around_head bound ds (inside (expression_of ds is) ∷ Γ) p in let q = at_head ds p in
        let y = code_items gs is (labels is q.address ∷ Δ) st q in let r = after y q in
        ends_head ds p ++ (ends_items is (labels is q.address ∷ Δ) st q ++ ending (code_e gs e Δ st r) r (below_e e Δ st r))

    pub ends_es : Exprs → List Around → List Ty → At → List ℕ
    ends_es no_expr Γ st p = []
    ends_es (expr e es) Γ st p =
        let x = code_e gs e Γ st p in
        ending x p (below_e e Γ st p) ++ ends_es es Γ (ty_e gs Γ e ∷ st) (after x p)

  abbrev pub ends_s : Stmt → List Around → List Ty → At → List ℕ
  ends_s s Γ st p = ending (code_s gs s Γ st p) p (below_s s Γ st p)

  abbrev pub ends_e : Expr → List Around → List Ty → At → List ℕ
  ends_e e Γ st p = ending (code_e gs e Γ st p) p (below_e e Γ st p)
