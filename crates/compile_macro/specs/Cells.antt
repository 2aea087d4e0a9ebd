-- The cells of a body: as many as its limits count, each where its number says, each of a known type.
use Rattle.std.specs.Prelude.{Bool, ℕ, suc, ◌+◌, ◌<◌, drop}
use Rattle.std.proofs.Math.Bool.{true, false}
use Rattle.std.proofs.Math.Path.{◌≡◌, refl}
use Rattle.std.proofs.Common.{ap, ap₂, ◌∙◌}
use mathlib.Core.List.{List, [], ◌∷◌}
use Rattle.std.proofs.Math.Option.{some}
use native.Mathlib.Omega.{arith}
use Rattle.std.proofs.Math.Dec.{ltb}
use Rattle.std.proofs.Math.ListN.{length, get_elem?}
use borrow.Author.Tests.{ltb-true}
use Rattle.logic.specs.Choice.{If◌then◌else◌}
use Rattle.values.specs.Types.{Ty, integer, logical, bits, reference}
use Rattle.values.specs.Operators.{Binary}
use Rattle.values.specs.Values.{initial}
use Rattle.language.specs.Tree.{Decl, declare, holding, Stmt, block, assign, when, choose, while, goto, assert, call, set_level, select, for, Items, no_item, label, item, Arms}
use Rattle.language.specs.Tree.{last_arm, arm, Target, to_variable, to_field, Expr, number, truth, pattern, null, variable, invoke, field, make, operate1, operate2}
use Rattle.language.specs.Tree.{conditional, fader, block_expr, Exprs, no_expr, expr, Global}
use Rattle.language.specs.Names.{block_of, expression_of, loop_of}
use Rattle.language.specs.Measure.{measure_s}
use Rattle.language.specs.Faults.{type_e, is_ty}
use Rattle.language.specs.Limits.{head_cells, cells_s, cells_items, cells_arms, cells_target, cells_e, cells_es}
use Rattle.bytecode.specs.Macro.{Body, Shape, shape, Macro}
use Rattle.bytecode.specs.Instructions.{push, go, body_at, cells_of}
use Rattle.bytecode.specs.Rules.{plain, wrong, effect}
use Rattle.logic.specs.Lists.{Each}
use Rattle.bytecode_laws.specs.Terms.{Named}
use Rattle.compile_code.specs.Code.{Code, nil, op, mark, cell, ◌▸◌, At, at, ahead, skip, after, cells_in}
use Rattle.compile_code.specs.Compile.{Around, inside, outermost, bound, global, held, labels, scopes_of, passing, the_labels, has_label, label_at, Way, plainly, marked}
use Rattle.compile_code.specs.Compile.{if_true, if_false, way_of, code_way, code_goto, code_head, code_s, code_items, code_arms, code_target, code_e, code_es, ops_arms, ty_target, ty_e}
use Rattle.compile_code.specs.Compile.{found, code_stored, code_downward, code_upward, code_once, code_entered, code_turned}
use Rattle.compile_code.specs.Compile.{ty_in}
use Rattle.compile_rules.specs.Lines.{dropped}
use Rattle.compile_rules.specs.Pass.{Celled, OkHead, OkS, OkItems, OkArms, OkTarget, OkE, OkEs}

unfoldable pub new_cells : Code → ℕ
new_cells nil = 0
new_cells (op i) = 0
new_cells (mark s) = 0
new_cells (cell t) = 1
new_cells (x ▸ y) = new_cells x + new_cells y

pub cells-length : (x : Code) (ts : List Ty) → length (cells_in x ts) ≡ new_cells x + length ts
unfolding new_cells cells_in
cells-length nil ts = omega arith
cells-length (op i) ts = omega arith
cells-length (mark s) ts = omega arith
cells-length (cell t) ts = omega arith
cells-length (x ▸ y) ts = let q = cells-length x (cells_in y ts) in let r = cells-length y ts in omega arith

-- ── counted by the limits ──
none-goto : (Γ : List Around) (a : ℕ) → new_cells (code_goto Γ a) ≡ 0
unfolding new_cells code_goto
none-goto [] a = refl
none-goto (inside s ∷ Γ) a = none-goto Γ a
none-goto (outermost s ∷ Γ) a = none-goto Γ a
none-goto (bound b c ∷ Γ) a = none-goto Γ a
none-goto (global o b c ∷ Γ) a = none-goto Γ a
none-goto (held g ∷ Γ) a = let q = none-goto Γ a in omega arith
none-goto (labels is x ∷ Γ) a = pick (has_label a is) (none-goto Γ a)
  where
    pick : (b : Bool) → new_cells (code_goto Γ a) ≡ 0 → new_cells (If b then op (go (label_at is (scopes_of Γ) (the_labels is ∷ passing Γ) x a)) else code_goto Γ a) ≡ 0
    pick true h = refl
    pick false h = h

none-loop : (c x z b : ℕ) (m : Shape) → (new_cells (code_entered c x z m) ≡ 0) × (new_cells (code_turned c b z m) ≡ 0)
unfolding new_cells code_stored code_downward code_upward code_once code_turned
none-loop c x z b m = (refl, refl)

count-way : (w : Way) (o : Binary) (Γ : List Around) (ts : List Ty) (t : Ty) (x : Code) (p : At) (f : List Ty → At → Code) (n k : ℕ) → new_cells x ≡ n
    → ((us : List Ty) (q : At) → new_cells (f us q) ≡ k) → new_cells (code_way w o Γ ts t x p f) ≡ n + k
unfolding new_cells
count-way plainly o Γ ts t x p f n k h g = let e = g (t ∷ ts) (after x p) in omega arith
count-way marked o Γ ts t x p f n k h g = let e = g (t ∷ ts) (after x p) in omega arith
count-way if_true o Γ ts t x p f n k h g = let e = g ts (skip 1 (after x p)) in omega arith
count-way if_false o Γ ts t x p f n k h g = let e = g ts (skip 3 (after x p)) in omega arith

module _ (gs : List Global) where
  pub count_head : (name : ℕ → ℕ → Around) (ds : List Decl) (Γ : List Around) (p : At) (f : List Around → At → Code) (n : ℕ)
      → ((Δ : List Around) (q : At) → new_cells (f Δ q) ≡ n) → new_cells (code_head gs name ds Γ p f) ≡ head_cells ds + n
  unfolding new_cells code_head head_cells
  count_head name [] Γ p f n h = h Γ p ∙ omega arith
  count_head name (declare x ∷ ds) Γ p f n h = let q = count_head name ds (name x.name p.cell ∷ Γ) (at (suc (suc p.address)) (suc p.cell)) f n h in omega arith
  count_head name (holding k ∷ ds) Γ p f n h = let q = count_head name ds (held k ∷ Γ) (skip 1 p) f n h in omega arith

  mutual
    unfolding new_cells code_s measure_s after

    pub count_s : (s : Stmt) (Γ : List Around) (ts : List Ty) (p : At) → new_cells (code_s gs s Γ ts p) ≡ cells_s s
    count_s (block ds is) Γ ts p =
        count_head bound ds (inside (block_of ds is) ∷ Γ) p (λ Δ q. code_items gs is (labels is q.address ∷ Δ) ts q) (cells_items is)
        (λ Δ q. count_items is (labels is q.address ∷ Δ) ts q)
    count_s (assign x e) Γ ts p = let q = count_target x Γ ts p in let r = count_e e Γ (ty_target gs Γ x ts) (after (code_target gs x Γ ts p) p) in omega arith
    count_s (when e s) Γ ts p = let q = count_e e Γ ts p in let r = count_s s Γ ts (skip 1 (after (code_e gs e Γ ts p) p)) in omega arith
    count_s (choose e s t) Γ ts p =
        let q = count_e e Γ ts p in let m = skip 1 (after (code_e gs e Γ ts p) p) in let r = count_s s Γ ts m in let u = count_s t Γ ts (skip 1 (after (code_s gs s Γ ts m) m)) in omega arith
    count_s (while e s) Γ ts p = let q = count_e e Γ ts p in let r = count_s s Γ ts (skip 1 (after (code_e gs e Γ ts p) p)) in omega arith
    count_s (goto a) Γ ts p = let q = none-goto Γ a in omega arith
    count_s (assert e) Γ ts p = let q = count_e e Γ ts p in omega arith
    count_s (call a es) Γ ts p = let q = count_es es Γ ts p in omega arith
    count_s (set_level e f) Γ ts p = let q = count_e e Γ ts p in let r = count_e f Γ (ty_e gs Γ e ∷ ts) (after (code_e gs e Γ ts p) p) in omega arith
    count_s (select e r) Γ ts p =
        let m = at p.address (suc p.cell) in let q = count_e e Γ ts m in let b = skip 1 (after (code_e gs e Γ ts m) m) in
        let u = count_arms r p.cell 1 (b.address + ops_arms r (scopes_of Γ) (passing Γ)) Γ ts b in omega arith
    count_s (for a e f g s) Γ ts p =
        let m = at p.address (suc (suc (suc p.cell))) in let q = count_e e Γ ts m in let m₁ = after (code_e gs e Γ ts m) m in
        let us = ty_e gs Γ e ∷ ts in let r = count_e f Γ us m₁ in let m₂ = after (code_e gs f Γ us m₁) m₁ in
        let vs = ty_e gs Γ f ∷ us in let u = count_e g Γ vs m₂ in let m₃ = after (code_e gs g Γ vs m₂) m₂ in let b = skip 48 m₃ in
        let Δ = bound a p.cell ∷ inside (loop_of a) ∷ Γ in let v = count_s s Δ ts b in
        let w = none-loop p.cell m₃.address (ahead 13 (after (code_s gs s Δ ts b) b).address) b.address (found Γ ts) in omega (arith, q, r, u, v, w.0, w.1)

    pub count_items : (is : Items) (Γ : List Around) (ts : List Ty) (p : At) → new_cells (code_items gs is Γ ts p) ≡ cells_items is
    count_items no_item Γ ts p = refl
    count_items (label a is) Γ ts p = let q = count_items is Γ ts p in omega arith
    count_items (item s is) Γ ts p = let q = count_s s Γ ts p in let r = count_items is Γ ts (after (code_s gs s Γ ts p) p) in omega arith

    count_arms : (r : Arms) (c i z : ℕ) (Γ : List Around) (ts : List Ty) (p : At) → new_cells (code_arms gs r c i z Γ ts p) ≡ cells_arms r
    count_arms (last_arm s) c i z Γ ts p = let q = count_s s Γ ts (skip 4 p) in omega arith
    count_arms (arm s r) c i z Γ ts p = let m = skip 4 p in let q = count_s s Γ ts m in let u = count_arms r c (suc i) z Γ ts (skip 1 (after (code_s gs s Γ ts m) m)) in omega arith

    count_target : (x : Target) (Γ : List Around) (ts : List Ty) (p : At) → new_cells (code_target gs x Γ ts p) ≡ cells_target x
    count_target (to_variable a) Γ ts p = refl
    count_target (to_field a e) Γ ts p = count_e e Γ ts p

    pub count_e : (e : Expr) (Γ : List Around) (ts : List Ty) (p : At) → new_cells (code_e gs e Γ ts p) ≡ cells_e e
    count_e (number z) Γ ts p = refl
    count_e (truth b) Γ ts p = refl
    count_e (pattern z) Γ ts p = refl
    count_e (null c) Γ ts p = refl
    count_e (variable a) Γ ts p = refl
    count_e (invoke a es) Γ ts p = let q = count_es es Γ ts p in omega arith
    count_e (field a e) Γ ts p = let q = count_e e Γ ts p in omega arith
    count_e (make c es) Γ ts p = let q = count_es es Γ ts p in omega arith
    count_e (operate1 o e) Γ ts p = let q = count_e e Γ ts p in omega arith
    count_e (operate2 o e f) Γ ts p = count-way (way_of o (is_ty logical (type_e (scopes_of Γ) e))) o Γ ts (ty_e gs Γ e) (code_e gs e Γ ts p) p (λ us q. code_e gs f Γ us q)
        (cells_e e) (cells_e f) (count_e e Γ ts p) (λ us q. count_e f Γ us q)
    count_e (conditional e f g) Γ ts p =
        let q = count_e e Γ ts p in let m = skip 1 (after (code_e gs e Γ ts p) p) in let r = count_e f Γ ts m in let u = count_e g Γ ts (skip 1 (after (code_e gs f Γ ts m) m)) in omega arith
    count_e (fader e) Γ ts p = let q = count_e e Γ ts p in omega arith
    count_e (block_expr ds is e) Γ ts p = count_head bound ds (inside (expression_of ds is) ∷ Γ) p
        (λ Δ q. let y = code_items gs is (labels is q.address ∷ Δ) ts q in y ▸ code_e gs e Δ ts (after y q)) (cells_items is + cells_e e)
        (λ Δ q. ap₂ (λ a b. a + b) (count_items is (labels is q.address ∷ Δ) ts q) (count_e e Δ ts (after (code_items gs is (labels is q.address ∷ Δ) ts q) q)))

    count_es : (es : Exprs) (Γ : List Around) (ts : List Ty) (p : At) → new_cells (code_es gs es Γ ts p) ≡ cells_es es
    count_es no_expr Γ ts p = refl
    count_es (expr e es) Γ ts p = let q = count_e e Γ ts p in let r = count_es es Γ (ty_e gs Γ e ∷ ts) (after (code_e gs e Γ ts p) p) in omega arith

-- ── each where its number says ──
module _ (m : Macro) (k : ℕ) (gs : List Global) (B : Body) (there : body_at m k ≡ some B) where
  pub celled : (x : Code) (p : At) (rest : List Ty) → drop p.cell B.cells ≡ cells_in x rest → Celled m k gs x p × (drop (after x p).cell B.cells ≡ rest)
  unfolding Celled cells_in after
  celled nil p rest h = (tt, h)
  celled (op i) p rest h = (tt, h)
  celled (mark s) p rest h = (tt, h)
  celled (cell t) p rest h = let q = dropped B.cells p.cell t rest h in (ap (λ o. get_elem? (cells_of o) p.cell) there ∙ q.0, q.1)
  celled (x ▸ y) p rest h = let q = celled x p (cells_in y rest) h in let r = celled y (after x p) rest q.1 in ((q.0, r.0), r.1)

-- ── each of a known type ──
unfoldable pub Cells : (Ty → Type 0) → Code → Type 0
Cells P nil = Unit {0}
Cells P (op i) = Unit {0}
Cells P (mark s) = Unit {0}
Cells P (cell t) = P t
Cells P (x ▸ y) = Cells P x × Cells P y

pub each-cell : (P : Ty → Type 0) (x : Code) (ts : List Ty) → Cells P x → Each P ts → Each P (cells_in x ts)
unfolding Cells cells_in
each-cell P nil ts h g = g
each-cell P (op i) ts h g = g
each-cell P (mark s) ts h g = g
each-cell P (cell t) ts h g = (h, g)
each-cell P (x ▸ y) ts h g = each-cell P x (cells_in y ts) h.0 (each-cell P y ts h.1 g)

no_cells : (P : Ty → Type 0) (x : Code) → new_cells x ≡ 0 → Cells P x
unfolding Cells new_cells
no_cells P nil h = tt
no_cells P (op i) h = tt
no_cells P (mark s) h = tt
no_cells P (cell t) h = absurd (omega arith)
no_cells P (x ▸ y) h = (no_cells P x (omega arith), no_cells P y (omega arith))

-- the statement of a loop
pub celled-turn : (m : Macro) (k : ℕ) (gs : List Global) (c x z b : ℕ) (s : Shape) (p : At) (y : Code) → Celled m k gs (code_entered c x z s ▸ (y ▸ code_turned c b z s)) p
    → Celled m k gs y (skip 48 p)
unfolding Celled after code_stored code_downward code_upward code_once
celled-turn m k gs c x z b s p y h = h.1.0

module _ (m : Macro) (k : ℕ) (gs : List Global) where
  abbrev pub Known : Ty → Type 0
  Known t = Named (length m.classes) t

  -- a type whose initial value can be pushed is known
  pub of-initial : (t : Ty) → effect m k (push (initial t)) (shape 0 []) ≡ plain [] (t ∷ []) → Known t
  unfolding effect
  of-initial integer h = tt
  of-initial logical h = tt
  of-initial bits h = tt
  of-initial (reference c) h = go (ltb c (length m.classes)) refl h
    where
      go : (b : Bool) → ltb c (length m.classes) ≡ b → (If b then plain [] (reference c ∷ []) else wrong) ≡ plain [] (reference c ∷ []) → c < length m.classes
      go true e h = ltb-true c (length m.classes) e
      go false e h = let z : ◌≡◌ {A = ℕ} 0 1 = cc h in absurd (omega arith)

  cells-way : (w : Way) (o : Binary) (Γ : List Around) (ts : List Ty) (t : Ty) (x : Code) (p : At) (f : List Ty → At → Code)
      → Celled m k gs (code_way w o Γ ts t x p f) p → (Celled m k gs x p → Cells Known x)
      → ((us : List Ty) (q : At) → Celled m k gs (f us q) q → Cells Known (f us q)) → Cells Known (code_way w o Γ ts t x p f)
  unfolding Cells Celled after
  cells-way plainly o Γ ts t x p f c h g = (h c.0, (g (t ∷ ts) (after x p) c.1.0, tt))
  cells-way marked o Γ ts t x p f c h g = (h c.0, (tt, (g (t ∷ ts) (after x p) c.1.1.0, tt)))
  cells-way if_true o Γ ts t x p f c h g = (h c.0, (tt, (g ts (skip 1 (after x p)) c.1.1.0, (tt, (tt, (tt, tt))))))
  cells-way if_false o Γ ts t x p f c h g = (h c.0, (tt, (tt, (tt, (tt, (g ts (skip 3 (after x p)) c.1.1.1.1.1.0, tt))))))

  pub cells-head : (name : ℕ → ℕ → Around) (ds : List Decl) (Γ : List Around) (p : At) (P : List Around → Type 0) (f : List Around → At → Code)
      → ((Δ : List Around) (q : At) → P Δ → Celled m k gs (f Δ q) q → Cells Known (f Δ q))
      → OkHead m k gs name ds Γ P → Celled m k gs (code_head gs name ds Γ p f) p → Cells Known (code_head gs name ds Γ p f)
  unfolding OkHead code_head Cells Celled after
  cells-head name [] Γ p P f g o c = g Γ p o c
  cells-head name (declare x ∷ ds) Γ p P f g o c = (
    of-initial (ty_in gs x.type) (o.0 (shape 0 [])),
    (
      tt,
      (
        tt,
        cells-head name ds (name x.name p.cell ∷ Γ)
            (at (suc (suc p.address)) (suc p.cell)) P f g (o.1 p.cell c.0) c.1.1.1,
      ),
    ),
  )
  cells-head name (holding x ∷ ds) Γ p P f g o c = (tt, (cells-head name ds (held x ∷ Γ) (skip 1 p) P f g o c.1.0, tt))

  mutual
    unfolding OkS code_s Celled after Cells

    pub cells_ok_s : (s : Stmt) (Γ : List Around) (ts : List Ty) (p : At) → OkS m k gs s Γ → Celled m k gs (code_s gs s Γ ts p) p → Cells Known (code_s gs s Γ ts p)
    cells_ok_s (block ds is) Γ ts p o c =
        cells-head bound ds (inside (block_of ds is) ∷ Γ) p (λ Δ. (x : ℕ) → OkItems m k gs is (labels is x ∷ Δ)) (λ Δ q. code_items gs is (labels is q.address ∷ Δ) ts q)
        (λ Δ q o' c'. cells_ok_items is (labels is q.address ∷ Δ) ts q (o' q.address) c') o c
    cells_ok_s (assign x e) Γ ts p o c = (cells_ok_target x Γ ts p (ty_e gs Γ e) o.0 c.0, (cells_ok_e e Γ _ _ o.1 c.1.0, tt))
    cells_ok_s (when e s) Γ ts p o c = (cells_ok_e e Γ ts p o.0 c.0, (tt, (cells_ok_s s Γ ts _ o.2 c.1.1.0, tt)))
    cells_ok_s (choose e s t) Γ ts p o c = (cells_ok_e e Γ ts p o.0 c.0, (tt, (cells_ok_s s Γ ts _ o.2 c.1.1.0, (tt, (tt, (cells_ok_s t Γ ts _ o.3 c.1.1.1.1.1.0, tt))))))
    cells_ok_s (while e s) Γ ts p o c = (tt, (cells_ok_e e Γ ts p o.0 c.1.0, (tt, (cells_ok_s s Γ ts _ o.2 c.1.1.1.0, (tt, tt)))))
    cells_ok_s (goto a) Γ ts p o c = (no_cells Known (code_goto Γ a) (none-goto Γ a), tt)
    cells_ok_s (assert e) Γ ts p o c = (cells_ok_e e Γ ts p o.0 c.0, tt)
    cells_ok_s (call a es) Γ ts p o c = (cells_ok_es es Γ ts p o.0 c.0, tt)
    cells_ok_s (set_level e f) Γ ts p o c = (cells_ok_e e Γ ts p o.0 c.0, (cells_ok_e f Γ _ _ o.2 c.1.0, tt))
    cells_ok_s (select e r) Γ ts p o c = (tt, (cells_ok_e e Γ ts _ o.0 c.1.0, (tt, (cells_ok_arms r p.cell 1 _ Γ ts _ o.2 c.1.1.1.0, tt))))
    cells_ok_s (for a e f g s) Γ ts p o c =
        let q = at p.address (suc (suc (suc p.cell))) in let q₁ = after (code_e gs e Γ ts q) q in let us = ty_e gs Γ e ∷ ts in
        let q₂ = after (code_e gs f Γ us q₁) q₁ in let vs = ty_e gs Γ f ∷ us in let q₃ = after (code_e gs g Γ vs q₂) q₂ in let b = skip 48 q₃ in
        let Δ = bound a p.cell ∷ inside (loop_of a) ∷ Γ in let y = code_s gs s Δ ts b in let z = ahead 13 (after y b).address in let c₃ = c.1.1.1 in
        let none = none-loop p.cell q₃.address z b.address (found Γ ts) in (
          tt,
          (
            tt,
            (
              tt,
              (
                cells_ok_e e Γ ts q o.0 c₃.0,
                (
                  cells_ok_e f Γ us q₁ o.2 c₃.1.0,
                  (
                    cells_ok_e g Γ vs q₂ o.4 c₃.1.1.0,
                    (
                      tt,
                      (
                        no_cells Known _ none.0,
                        (
                          cells_ok_s s Δ ts b (o.6 p.cell c.0) (celled-turn m k gs p.cell q₃.address z b.address (found Γ ts) q₃ y c₃.1.1.1.1),
                          no_cells Known _ none.1,
                        ),
                      ),
                    ),
                  ),
                ),
              ),
            ),
          ),
        )

    pub cells_ok_items : (is : Items) (Γ : List Around) (ts : List Ty) (p : At) → OkItems m k gs is Γ → Celled m k gs (code_items gs is Γ ts p) p → Cells Known (code_items gs is Γ ts p)
    cells_ok_items no_item Γ ts p o c = tt
    cells_ok_items (label a is) Γ ts p o c = (tt, cells_ok_items is Γ ts p o c.1)
    cells_ok_items (item s is) Γ ts p o c = (cells_ok_s s Γ ts p o.0 c.0, cells_ok_items is Γ ts _ o.1 c.1)

    cells_ok_arms : (r : Arms) (x i z : ℕ) (Γ : List Around) (ts : List Ty) (p : At) → OkArms m k gs r Γ → Celled m k gs (code_arms gs r x i z Γ ts p) p → Cells Known (code_arms gs r x i z Γ ts p)
    cells_ok_arms (last_arm s) x i z Γ ts p o c = (tt, (tt, (tt, (tt, (cells_ok_s s Γ ts _ o c.1.1.1.1.0, (tt, (tt, tt)))))))
    cells_ok_arms (arm s r) x i z Γ ts p o c = (tt, (tt, (tt, (tt, (cells_ok_s s Γ ts _ o.0 c.1.1.1.1.0, (tt, (tt, cells_ok_arms r x (suc i) z Γ ts _ o.1 c.1.1.1.1.1.1.1)))))))

    cells_ok_target : (x : Target) (Γ : List Around) (ts : List Ty) (p : At) (t : Ty) → OkTarget m k gs x Γ t → Celled m k gs (code_target gs x Γ ts p) p → Cells Known (code_target gs x Γ ts p)
    cells_ok_target (to_variable a) Γ ts p t o c = tt
    cells_ok_target (to_field a e) Γ ts p t o c = cells_ok_e e Γ ts p o.0 c

    pub cells_ok_e : (e : Expr) (Γ : List Around) (ts : List Ty) (p : At) → OkE m k gs e Γ → Celled m k gs (code_e gs e Γ ts p) p → Cells Known (code_e gs e Γ ts p)
    cells_ok_e (number z) Γ ts p o c = tt
    cells_ok_e (truth b) Γ ts p o c = tt
    cells_ok_e (pattern z) Γ ts p o c = tt
    cells_ok_e (null x) Γ ts p o c = tt
    cells_ok_e (variable a) Γ ts p o c = tt
    cells_ok_e (invoke a es) Γ ts p o c = (cells_ok_es es Γ ts p o.0 c.0, tt)
    cells_ok_e (field a e) Γ ts p o c = (cells_ok_e e Γ ts p o.0 c.0, tt)
    cells_ok_e (make x es) Γ ts p o c = (cells_ok_es es Γ ts p o.0 c.0, tt)
    cells_ok_e (operate1 u e) Γ ts p o c = (cells_ok_e e Γ ts p o.0 c.0, tt)
    cells_ok_e (operate2 u e f) Γ ts p o c =
        cells-way (way_of u (is_ty logical (type_e (scopes_of Γ) e))) u Γ ts (ty_e gs Γ e) (code_e gs e Γ ts p) p (λ us q. code_e gs f Γ us q) c
        (λ c'. cells_ok_e e Γ ts p o.0 c') (λ us q c'. cells_ok_e f Γ us q o.1 c')
    cells_ok_e (conditional e f g) Γ ts p o c = (cells_ok_e e Γ ts p o.0 c.0, (tt, (cells_ok_e f Γ ts _ o.2 c.1.1.0, (tt, (tt, (cells_ok_e g Γ ts _ o.3 c.1.1.1.1.1.0, tt))))))
    cells_ok_e (fader e) Γ ts p o c = (cells_ok_e e Γ ts p o.0 c.0, tt)
    cells_ok_e (block_expr ds is e) Γ ts p o c =
        cells-head bound ds (inside (expression_of ds is) ∷ Γ) p (λ Δ. ((x : ℕ) → OkItems m k gs is (labels is x ∷ Δ)) × OkE m k gs e Δ
        × (ty_e gs Δ e ≡ ty_e gs Γ (block_expr ds is e)))
        (λ Δ q. let y = code_items gs is (labels is q.address ∷ Δ) ts q in y ▸ code_e gs e Δ ts (after y q))
        (λ Δ q o' c'. (cells_ok_items is (labels is q.address ∷ Δ) ts q (o'.0 q.address) c'.0, cells_ok_e e Δ ts _ o'.1 c'.1)) o c

    cells_ok_es : (es : Exprs) (Γ : List Around) (ts : List Ty) (p : At) → OkEs m k gs es Γ → Celled m k gs (code_es gs es Γ ts p) p → Cells Known (code_es gs es Γ ts p)
    cells_ok_es no_expr Γ ts p o c = tt
    cells_ok_es (expr e es) Γ ts p o c = (cells_ok_e e Γ ts p o.0 c.0, cells_ok_es es Γ _ _ o.1 c.1)
