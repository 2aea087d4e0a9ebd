-- The sizes of parts are the lengths of their code.
use Rattle.std.specs.Prelude.{Bool, true, false, ◌≡◌, refl, ℕ, suc, ◌+◌, ◌≤◌}
use Rattle.std.proofs.Math.Path.{ap}
use Rattle.std.proofs.Common.{◌∙◌}
use mathlib.Core.List.{List, [], ◌∷◌}
use native.Mathlib.Omega.{arith}
use Rattle.logic.specs.Choice.{If◌then◌else◌}
use Rattle.values.specs.Types.{Ty, logical}
use Rattle.values.specs.Operators.{Binary}
use Rattle.language.specs.Tree.{Decl, declare, holding, Stmt, block, assign, when, choose, while, goto, assert, call, set_level, select, for, Items, no_item, label, item, Arms}
use Rattle.language.specs.Tree.{last_arm, arm, Target, to_variable, to_field, Expr, number, truth, pattern, null, variable, invoke, field, make, operate1, operate2}
use Rattle.language.specs.Tree.{conditional, fader, block_expr, Exprs, no_expr, expr, Global}
use Rattle.language.specs.Names.{Scope, block_of, expression_of, loop_of}
use Rattle.language.specs.Faults.{type_e, is_ty}
use Rattle.bytecode.specs.Instructions.{go}
use Rattle.compile_code.specs.Code.{Code, nil, op, mark, cell, ◌▸◌, At, at, skip, after}
use Rattle.compile_code.specs.Compile.{Around, inside, outermost, bound, global, held, labels, scopes_of, passing, Passing, the_labels, has_label, size_goto, size_head, Way}
use Rattle.compile_code.specs.Compile.{plainly, marked, if_true, if_false, size_way, way_of, ops_s, ops_items, ops_arms, ops_target, ops_e, ops_es, label_at, code_goto, code_way}
use Rattle.compile_code.specs.Compile.{code_head, code_stored, code_downward, code_upward, code_once, code_turned, code_s, code_items, code_arms, code_target, code_e, code_es, ty_e, ty_target}

-- cells are only ever added
pub more-cells : (x : Code) (p : At) → p.cell ≤ (after x p).cell
unfolding after
more-cells nil p = omega arith
more-cells (op i) p = omega arith
more-cells (mark s) p = omega arith
more-cells (cell t) p = omega arith
more-cells (x ▸ y) p = let q = more-cells x p in let r = more-cells y (after x p) in omega arith

pub len_goto : (Γ : List Around) (a : ℕ) (p : At) → (after (code_goto Γ a) p).address ≡ p.address + size_goto (passing Γ) a
unfolding after code_goto size_goto passing
len_goto [] a p = omega arith
len_goto (inside s ∷ Γ) a p = len_goto Γ a p
len_goto (outermost s ∷ Γ) a p = len_goto Γ a p
len_goto (bound b c ∷ Γ) a p = len_goto Γ a p
len_goto (global o b c ∷ Γ) a p = len_goto Γ a p
len_goto (held g ∷ Γ) a p = let q = len_goto Γ a (skip 1 p) in omega arith
len_goto (labels is x ∷ Γ) a p = pick (has_label a is) (len_goto Γ a p)
  where
    pick : (b : Bool) → (after (code_goto Γ a) p).address ≡ p.address + size_goto (passing Γ) a
        → (after (If b then op (go (label_at is (scopes_of Γ) (the_labels is ∷ passing Γ) x a)) else code_goto Γ a) p).address ≡ p.address + (If b then 1 else size_goto (passing Γ) a)
    pick true h = omega arith
    pick false h = h

len_way : (w : Way) (o : Binary) (Γ : List Around) (ts : List Ty) (t : Ty) (x : Code) (p : At) (f : List Ty → At → Code) (n k : ℕ) → (after x p).address ≡ p.address + n
    → ((us : List Ty) (q : At) → (after (f us q) q).address ≡ q.address + k) → (after (code_way w o Γ ts t x p f) p).address ≡ p.address + (size_way w + (n + k))
unfolding after
len_way plainly o Γ ts t x p f n k h g = let e = g (t ∷ ts) (after x p) in omega arith
len_way marked o Γ ts t x p f n k h g = let e = g (t ∷ ts) (after x p) in omega arith
len_way if_true o Γ ts t x p f n k h g = let e = g ts (skip 1 (after x p)) in omega arith
len_way if_false o Γ ts t x p f n k h g = let e = g ts (skip 3 (after x p)) in omega arith

module _ (gs : List Global) where
  -- how a variable is known does not matter
  pub len_head : (name : ℕ → ℕ → Around) → ((a c : ℕ) (Γ : List Around) → (passing (name a c ∷ Γ) ≡ passing Γ) × (scopes_of (name a c ∷ Γ) ≡ scopes_of Γ))
      → (ds : List Decl) (Γ : List Around) (p : At) (f : List Around → At → Code) (g : List Passing → ℕ) (ss : List Scope)
      → ((Δ : List Around) (q : At) → scopes_of Δ ≡ ss → (after (f Δ q) q).address ≡ q.address + g (passing Δ)) → scopes_of Γ ≡ ss
      → (after (code_head gs name ds Γ p f) p).address ≡ p.address + size_head ds (passing Γ) g
  unfolding code_head size_head after passing scopes_of
  len_head name w [] Γ p f g ss h e = h Γ p e
  len_head name w (declare x ∷ ds) Γ p f g ss h e =
      let q = len_head name w ds (name x.name p.cell ∷ Γ) (at (suc (suc p.address)) (suc p.cell)) f g ss h ((w x.name p.cell Γ).1 ∙ e) in
      let r : size_head ds (passing (name x.name p.cell ∷ Γ)) g ≡ size_head ds (passing Γ) g = ap (λ z. size_head ds z g) (w x.name p.cell Γ).0 in
      omega arith
  len_head name w (holding k ∷ ds) Γ p f g ss h e = let q = len_head name w ds (held k ∷ Γ) (skip 1 p) f g ss h e in omega arith

  by-bound : (a c : ℕ) (Γ : List Around) → (passing (bound a c ∷ Γ) ≡ passing Γ) × (scopes_of (bound a c ∷ Γ) ≡ scopes_of Γ)
  unfolding passing scopes_of
  by-bound a c Γ = (refl, refl)

  mutual
    unfolding code_s ops_s after passing scopes_of code_stored code_downward code_upward code_once code_turned

    pub len_s : (s : Stmt) (Γ : List Around) (ts : List Ty) (p : At) → (after (code_s gs s Γ ts p) p).address ≡ p.address + ops_s s (scopes_of Γ) (passing Γ)
    len_s (block ds is) Γ ts p = len_head bound by-bound ds (inside (block_of ds is) ∷ Γ) p (λ Δ q. code_items gs is (labels is q.address ∷ Δ) ts q)
        (λ Φ. ops_items is (block_of ds is ∷ scopes_of Γ) (the_labels is ∷ Φ)) (block_of ds is ∷ scopes_of Γ)
        (λ Δ q e. len_items is (labels is q.address ∷ Δ) ts q ∙ ap (λ z. q.address + ops_items is z (the_labels is ∷ passing Δ)) e) refl
    len_s (assign x e) Γ ts p = let q = len_target x Γ ts p in let r = len_e e Γ (ty_target gs Γ x ts) (after (code_target gs x Γ ts p) p) in omega arith
    len_s (when e s) Γ ts p = let q = len_e e Γ ts p in let r = len_s s Γ ts (skip 1 (after (code_e gs e Γ ts p) p)) in omega arith
    len_s (choose e s t) Γ ts p =
        let q = len_e e Γ ts p in let m = skip 1 (after (code_e gs e Γ ts p) p) in let r = len_s s Γ ts m in let u = len_s t Γ ts (skip 1 (after (code_s gs s Γ ts m) m)) in omega arith
    len_s (while e s) Γ ts p = let q = len_e e Γ ts p in let r = len_s s Γ ts (skip 1 (after (code_e gs e Γ ts p) p)) in omega arith
    len_s (goto a) Γ ts p = len_goto Γ a p
    len_s (assert e) Γ ts p = let q = len_e e Γ ts p in omega arith
    len_s (call a es) Γ ts p = let q = len_es es Γ ts p in omega arith
    len_s (set_level e f) Γ ts p = let q = len_e e Γ ts p in let r = len_e f Γ (ty_e gs Γ e ∷ ts) (after (code_e gs e Γ ts p) p) in omega arith
    len_s (select e r) Γ ts p =
        let m = at p.address (suc p.cell) in let q = len_e e Γ ts m in let b = skip 1 (after (code_e gs e Γ ts m) m) in
        let u = len_arms r p.cell 1 (b.address + ops_arms r (scopes_of Γ) (passing Γ)) Γ ts b in omega arith
    len_s (for a e f g s) Γ ts p =
        let m = at p.address (suc (suc (suc p.cell))) in let q = len_e e Γ ts m in let m₁ = after (code_e gs e Γ ts m) m in
        let us = ty_e gs Γ e ∷ ts in let r = len_e f Γ us m₁ in let m₂ = after (code_e gs f Γ us m₁) m₁ in
        let vs = ty_e gs Γ f ∷ us in let u = len_e g Γ vs m₂ in let m₃ = after (code_e gs g Γ vs m₂) m₂ in
        let v = len_s s (bound a p.cell ∷ inside (loop_of a) ∷ Γ) ts (skip 48 m₃) in omega arith

    pub len_items : (is : Items) (Γ : List Around) (ts : List Ty) (p : At) → (after (code_items gs is Γ ts p) p).address ≡ p.address + ops_items is (scopes_of Γ) (passing Γ)
    len_items no_item Γ ts p = omega arith
    len_items (label a is) Γ ts p = len_items is Γ ts p
    len_items (item s is) Γ ts p = let q = len_s s Γ ts p in let r = len_items is Γ ts (after (code_s gs s Γ ts p) p) in omega arith

    pub len_arms : (r : Arms) (c i z : ℕ) (Γ : List Around) (ts : List Ty) (p : At) → (after (code_arms gs r c i z Γ ts p) p).address ≡ p.address + ops_arms r (scopes_of Γ) (passing Γ)
    len_arms (last_arm s) c i z Γ ts p = let q = len_s s Γ ts (skip 4 p) in omega arith
    len_arms (arm s r) c i z Γ ts p = let m = skip 4 p in let q = len_s s Γ ts m in let u = len_arms r c (suc i) z Γ ts (skip 1 (after (code_s gs s Γ ts m) m)) in omega arith

    len_target : (x : Target) (Γ : List Around) (ts : List Ty) (p : At) → (after (code_target gs x Γ ts p) p).address ≡ p.address + ops_target x (scopes_of Γ) (passing Γ)
    len_target (to_variable a) Γ ts p = omega arith
    len_target (to_field a e) Γ ts p = len_e e Γ ts p

    pub len_e : (e : Expr) (Γ : List Around) (ts : List Ty) (p : At) → (after (code_e gs e Γ ts p) p).address ≡ p.address + ops_e e (scopes_of Γ) (passing Γ)
    len_e (number z) Γ ts p = omega arith
    len_e (truth b) Γ ts p = omega arith
    len_e (pattern z) Γ ts p = omega arith
    len_e (null c) Γ ts p = omega arith
    len_e (variable a) Γ ts p = omega arith
    len_e (invoke a es) Γ ts p = let q = len_es es Γ ts p in omega arith
    len_e (field a e) Γ ts p = let q = len_e e Γ ts p in omega arith
    len_e (make c es) Γ ts p = let q = len_es es Γ ts p in omega arith
    len_e (operate1 o e) Γ ts p = let q = len_e e Γ ts p in omega arith
    len_e (operate2 o e f) Γ ts p = len_way (way_of o (is_ty logical (type_e (scopes_of Γ) e))) o Γ ts (ty_e gs Γ e) (code_e gs e Γ ts p) p (λ us q. code_e gs f Γ us q)
        (ops_e e (scopes_of Γ) (passing Γ)) (ops_e f (scopes_of Γ) (passing Γ)) (len_e e Γ ts p) (λ us q. len_e f Γ us q)
    len_e (conditional e f g) Γ ts p =
        let q = len_e e Γ ts p in let m = skip 1 (after (code_e gs e Γ ts p) p) in let r = len_e f Γ ts m in let u = len_e g Γ ts (skip 1 (after (code_e gs f Γ ts m) m)) in omega arith
    len_e (fader e) Γ ts p = let q = len_e e Γ ts p in omega arith
    len_e (block_expr ds is e) Γ ts p = len_head bound by-bound ds (inside (expression_of ds is) ∷ Γ) p
        (λ Δ q. let y = code_items gs is (labels is q.address ∷ Δ) ts q in y ▸ code_e gs e Δ ts (after y q))
        (λ Φ. ops_items is (expression_of ds is ∷ scopes_of Γ) (the_labels is ∷ Φ) + ops_e e (expression_of ds is ∷ scopes_of Γ) Φ) (expression_of ds is ∷ scopes_of Γ)
        (λ Δ q d. let u = len_items is (labels is q.address ∷ Δ) ts q in let v = len_e e Δ ts (after (code_items gs is (labels is q.address ∷ Δ) ts q) q) in
        let w : ops_items is (scopes_of Δ) (the_labels is ∷ passing Δ) ≡ ops_items is (expression_of ds is ∷ scopes_of Γ) (the_labels is ∷ passing Δ) = ap (λ z. ops_items is z (the_labels is ∷ passing Δ)) d in
        let w' : ops_e e (scopes_of Δ) (passing Δ) ≡ ops_e e (expression_of ds is ∷ scopes_of Γ) (passing Δ) = ap (λ z. ops_e e z (passing Δ)) d in omega arith) refl

    len_es : (es : Exprs) (Γ : List Around) (ts : List Ty) (p : At) → (after (code_es gs es Γ ts p) p).address ≡ p.address + ops_es es (scopes_of Γ) (passing Γ)
    len_es no_expr Γ ts p = omega arith
    len_es (expr e es) Γ ts p = let q = len_e e Γ ts p in let r = len_es es Γ (ty_e gs Γ e ∷ ts) (after (code_e gs e Γ ts p) p) in omega arith
