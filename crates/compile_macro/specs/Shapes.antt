-- The shapes of compiled code: of known types, within the limits, by rising address.
use Rattle.std.specs.Prelude.{Bool, ◌≡◌, ℕ, suc, length}
use Rattle.std.proofs.Math.Bool.{true, false}
use Rattle.std.proofs.Common.{sym, subst}
use mathlib.Core.List.{List, [], ◌∷◌}
use Rattle.std.proofs.Math.Option.{none, some}
use Rattle.logic.specs.Options.{or_else}
use Rattle.logic.specs.Choice.{If◌then◌else◌}
use Rattle.values.specs.Types.{Ty, integer, logical, bits, reference, sames}
use Rattle.values.specs.Operators.{Operator, unary, binary, negate, absolute, complement, plus, minus, times, divide, remainder, less, at_most, greater, at_least, equal}
use Rattle.values.specs.Operators.{unequal, both, either, shift_left, shift_right, Binary, takes, logical_or_bits, any_one, op_type}
use Rattle.language.specs.Tree.{Decl, declare, holding, Stmt, block, assign, when, choose, while, goto, assert, call, set_level, select, for, Items, no_item, label, item, Arms}
use Rattle.language.specs.Tree.{last_arm, arm, Target, to_variable, to_field, Expr, number, truth, pattern, null, variable, invoke, field, make, operate1, operate2}
use Rattle.language.specs.Tree.{conditional, fader, block_expr, Exprs, no_expr, expr, Global}
use Rattle.language.specs.Names.{block_of, expression_of, loop_of}
use Rattle.language.specs.Faults.{type_e, is_ty}
use Rattle.bytecode.specs.Macro.{Body, Shape, shape, Macro}
use Rattle.bytecode.specs.Instructions.{Owner, go, cell_ty, field_ty, procedure_at}
use Rattle.logic.specs.Lists.{Each}
use Rattle.logic.specs.OptionLaws.{never-some, same_some}
use Rattle.logic.specs.ListLaws.{index_below}
use Rattle.bytecode_laws.specs.Terms.{Named}
use Rattle.compile_code.specs.Code.{Code, op, ◌▸◌, At, at, ahead, skip, after}
use Rattle.compile_code.specs.Compile.{Around, inside, outermost, bound, global, held, labels, scopes_of, passing, the_labels, has_label, label_at, Way, plainly, marked}
use Rattle.compile_code.specs.Compile.{if_true, if_false, way_of, code_way, code_goto, code_head, code_s, code_items, code_arms, code_target, code_e, code_es, ty_target, ty_e}
use Rattle.compile_code.specs.Compile.{found, code_stored, code_downward, code_upward, code_once, code_entered, code_turned}
use Rattle.compile_code.specs.Compile.{class_number, field_number, body_number}
use Rattle.compile_rules.specs.Flows.{Marks}
use Rattle.compile_rules.specs.Pass.{Celled, OkHead, OkS, OkItems, OkArms, OkTarget, OkE, OkEs, WayOk, tys_e}
use Rattle.compile_macro.specs.Cells.{Known, of-initial, celled-turn}

-- ── the types that operators give ──
of-takes : (n : ℕ) (asked : List Ty) (g : Ty) (ts : List Ty) (r : Ty) → Named n g → takes asked g ts ≡ some r → Named n r
of-takes n asked g ts r k h = pick (sames ts asked) h
  where
    pick : (b : Bool) → (If b then some g else none) ≡ some r → Named n r
    pick true e = subst (Named n) (same_some e) k
    pick false e = never-some e

of-both : (n : ℕ) (f : Ty → List Ty) (ts : List Ty) (r : Ty) → logical_or_bits f ts ≡ some r → Named n r
of-both n f ts r h = pick (sames ts (f logical)) (sames ts (f bits)) h
  where
    pick : (a b : Bool) → or_else (If a then some logical else none) (If b then some bits else none) ≡ some r → Named n r
    pick true b e = subst (Named n) (same_some e) tt
    pick false true e = subst (Named n) (same_some e) tt
    pick false false e = never-some e

of-any : (n : ℕ) (ts : List Ty) (r : Ty) → any_one ts ≡ some r → Named n r
of-any n [] r h = never-some h
of-any n (t ∷ ts) r h = of-takes n (t ∷ t ∷ []) logical (t ∷ ts) r tt h

of-operator : (n : ℕ) (o : Operator) (ts : List Ty) (r : Ty) → op_type o ts ≡ some r → Named n r
unfolding op_type
of-operator n (unary negate) ts r h = of-takes n (integer ∷ []) integer ts r tt h
of-operator n (unary absolute) ts r h = of-takes n (integer ∷ []) integer ts r tt h
of-operator n (unary complement) ts r h = of-both n (λ t. t ∷ []) ts r h
of-operator n (binary plus) ts r h = of-takes n (integer ∷ integer ∷ []) integer ts r tt h
of-operator n (binary minus) ts r h = of-takes n (integer ∷ integer ∷ []) integer ts r tt h
of-operator n (binary times) ts r h = of-takes n (integer ∷ integer ∷ []) integer ts r tt h
of-operator n (binary divide) ts r h = of-takes n (integer ∷ integer ∷ []) integer ts r tt h
of-operator n (binary remainder) ts r h = of-takes n (integer ∷ integer ∷ []) integer ts r tt h
of-operator n (binary less) ts r h = of-takes n (integer ∷ integer ∷ []) logical ts r tt h
of-operator n (binary at_most) ts r h = of-takes n (integer ∷ integer ∷ []) logical ts r tt h
of-operator n (binary greater) ts r h = of-takes n (integer ∷ integer ∷ []) logical ts r tt h
of-operator n (binary at_least) ts r h = of-takes n (integer ∷ integer ∷ []) logical ts r tt h
of-operator n (binary equal) ts r h = of-any n ts r h
of-operator n (binary unequal) ts r h = of-any n ts r h
of-operator n (binary both) ts r h = of-both n (λ t. t ∷ t ∷ []) ts r h
of-operator n (binary either) ts r h = of-both n (λ t. t ∷ t ∷ []) ts r h
of-operator n (binary shift_left) ts r h = of-takes n (bits ∷ integer ∷ []) bits ts r tt h
of-operator n (binary shift_right) ts r h = of-takes n (bits ∷ integer ∷ []) bits ts r tt h

-- what is known of the macro's heads: types of cells, results and fields are known
pub record Heads (m : Macro) : Type 0 where
  pub cells : (k : ℕ) (o : Owner) (c : ℕ) (t : Ty) → cell_ty m k o c ≡ some t → Named (length m.classes) t
  pub results : (b : ℕ) (B : Body) → procedure_at m b ≡ some B → Each (Named (length m.classes)) B.results
  pub fields : (c x : ℕ) (t : Ty) → field_ty m c x ≡ some t → Named (length m.classes) t

module _ (m : Macro) (k : ℕ) (gs : List Global) (H : Heads m) where
  abbrev KnownAll : List Ty → Type 0
  KnownAll ts = Each (Known m k gs) ts

  abbrev pub Typed! : ℕ → Shape → Type 0
  Typed! a s = KnownAll s.operands

  no-goto : (Γ : List Around) (a : ℕ) (p : At) → Marks m k Typed! (code_goto Γ a) p
  unfolding Marks code_goto
  no-goto [] a p = tt
  no-goto (inside s ∷ Γ) a p = no-goto Γ a p
  no-goto (outermost s ∷ Γ) a p = no-goto Γ a p
  no-goto (bound b c ∷ Γ) a p = no-goto Γ a p
  no-goto (global o b c ∷ Γ) a p = no-goto Γ a p
  no-goto (held g ∷ Γ) a p = (tt, no-goto Γ a (after (op _) p))
  no-goto (labels is x ∷ Γ) a p = pick (has_label a is) (no-goto Γ a p)
    where
      pick : (b : Bool) → Marks m k Typed! (code_goto Γ a) p → Marks m k Typed! (If b then op (go (label_at is (scopes_of Γ) (the_labels is ∷ passing Γ) x a)) else code_goto Γ a) p
      pick true h = tt
      pick false h = h

  way-type : (w : Way) (o : Binary) (t u r : Ty) → WayOk m k gs w o t u r → Known m k gs r
  way-type plainly o t u r h = of-operator (length m.classes) (binary o) (t ∷ u ∷ []) r h
  way-type marked o t u r h = of-operator (length m.classes) (binary o) (t ∷ u ∷ []) r h
  way-type if_true o t u r h = subst (Known m k gs) (sym h.2) tt
  way-type if_false o t u r h = subst (Known m k gs) (sym h.2) tt

  -- a loop, over the marks of its statement
  mark-loop : (Γ : List Around) (ts : List Ty) (c x z b : ℕ) (p : At) (y : Code) → KnownAll ts → Marks m k Typed! y (skip 48 p)
      → Marks m k Typed! (code_entered c x z (found Γ ts) ▸ (y ▸ code_turned c b z (found Γ ts))) p
  unfolding Marks after code_stored code_downward code_upward code_once code_turned
  mark-loop Γ ts c x z b p y n h = (
    (
      (tt, (tt, (tt, (tt, (tt, (tt, (tt, (tt, n)))))))),
      (
        (tt, (tt, (tt, (tt, (tt, (tt, (tt, (tt, (tt, (tt, (tt, (tt, (tt, (tt, (tt, (tt, (tt, (tt, (tt, (tt, (tt, n))))))))))))))))))))),
        (
          (tt, (tt, (tt, (tt, (tt, (tt, (tt, (tt, (tt, (tt, (tt, (tt, (tt, (tt, (tt, n))))))))))))))),
          (tt, (tt, (tt, (tt, n)))),
        ),
      ),
    ),
    (h, (tt, (tt, (tt, (tt, (tt, (tt, (tt, (tt, (tt, (tt, (tt, (tt, (tt, n)))))))))))))),
  )

  mark-way : (w : Way) (o : Binary) (Γ : List Around) (ts : List Ty) (t : Ty) (x : Code) (p : At) (f : List Ty → At → Code) → Celled m k gs (code_way w o Γ ts t x p f) p → KnownAll ts
      → (Celled m k gs x p → Marks m k Typed! x p × Known m k gs t) → ((us : List Ty) (q : At) → KnownAll us → Celled m k gs (f us q) q
      → Marks m k Typed! (f us q) q) → Marks m k Typed! (code_way w o Γ ts t x p f) p
  unfolding Marks Celled after
  mark-way plainly o Γ ts t x p f c n h g = let v = h c.0 in (v.0, (g (t ∷ ts) (after x p) (v.1, n) c.1.0, tt))
  mark-way marked o Γ ts t x p f c n h g = let v = h c.0 in (v.0, ((v.1, n), (g (t ∷ ts) (after x p) (v.1, n) c.1.1.0, tt)))
  mark-way if_true o Γ ts t x p f c n h g = ((h c.0).0, (tt, (g ts (skip 1 (after x p)) n c.1.1.0, (tt, (n, (tt, (tt, n)))))))
  mark-way if_false o Γ ts t x p f c n h g = ((h c.0).0, (tt, (tt, (tt, (n, (g ts (skip 3 (after x p)) n c.1.1.1.1.1.0, (tt, n)))))))

  pub mark-head : (name : ℕ → ℕ → Around) (R : Type 0) (ds : List Decl) (Γ : List Around) (p : At) (P : List Around → Type 0)
      (f : List Around → At → Code) → ((Δ : List Around) (q : At) → P Δ → Celled m k gs (f Δ q) q → Marks m k Typed! (f Δ q) q × R)
      → OkHead m k gs name ds Γ P → Celled m k gs (code_head gs name ds Γ p f) p → Marks m k Typed! (code_head gs name ds Γ p f) p × R
  unfolding OkHead code_head Marks Celled after
  mark-head name R [] Γ p P f g o c = g Γ p o c
  mark-head name R (declare x ∷ ds) Γ p P f g o c =
      let q = mark-head name R ds (name x.name p.cell ∷ Γ) (at (suc (suc p.address)) (suc p.cell)) P f g (o.1 p.cell c.0) c.1.1.1 in ((tt, (tt, (tt, q.0))), q.1)
  mark-head name R (holding x ∷ ds) Γ p P f g o c = let q = mark-head name R ds (held x ∷ Γ) (skip 1 p) P f g o c.1.0 in ((tt, (q.0, tt)), q.1)

  mutual
    unfolding OkS code_s Celled after Marks type_e tys_e

    pub mark_s : (s : Stmt) (Γ : List Around) (ts : List Ty) (p : At) → OkS m k gs s Γ → Celled m k gs (code_s gs s Γ ts p) p → KnownAll ts → Marks m k Typed! (code_s gs s Γ ts p) p
    mark_s (block ds is) Γ ts p o c n =
        (mark-head bound (Unit {0}) ds (inside (block_of ds is) ∷ Γ) p (λ Δ. (x : ℕ) → OkItems m k gs is (labels is x ∷ Δ))
        (λ Δ q. code_items gs is (labels is q.address ∷ Δ) ts q)
        (λ Δ q o' c'. (mark_items is (labels is q.address ∷ Δ) ts q (o' q.address) c' n, tt)) o c).0
    mark_s (assign x e) Γ ts p o c n = let u = mark_target x Γ ts p (ty_e gs Γ e) o.0 c.0 n in (u.0, ((mark_e e Γ _ _ o.1 c.1.0 u.1).0, tt))
    mark_s (when e s) Γ ts p o c n = ((mark_e e Γ ts p o.0 c.0 n).0, (tt, (mark_s s Γ ts _ o.2 c.1.1.0 n, n)))
    mark_s (choose e s t) Γ ts p o c n = ((mark_e e Γ ts p o.0 c.0 n).0, (tt, (mark_s s Γ ts _ o.2 c.1.1.0 n, (tt, (n, (mark_s t Γ ts _ o.3 c.1.1.1.1.1.0 n, n))))))
    mark_s (while e s) Γ ts p o c n = (n, ((mark_e e Γ ts p o.0 c.1.0 n).0, (tt, (mark_s s Γ ts _ o.2 c.1.1.1.0 n, (tt, n)))))
    mark_s (goto a) Γ ts p o c n = (no-goto Γ a p, n)
    mark_s (assert e) Γ ts p o c n = ((mark_e e Γ ts p o.0 c.0 n).0, tt)
    mark_s (call a es) Γ ts p o c n = (mark_es es Γ ts p o.0 c.0 n, tt)
    mark_s (set_level e f) Γ ts p o c n = let u = mark_e e Γ ts p o.0 c.0 n in (u.0, ((mark_e f Γ _ _ o.2 c.1.0 (u.1, n)).0, tt))
    mark_s (select e r) Γ ts p o c n = (tt, ((mark_e e Γ ts _ o.0 c.1.0 n).0, (tt, (mark_arms r p.cell 1 _ Γ ts _ o.2 c.1.1.1.0 n, n))))
    mark_s (for a e f g s) Γ ts p o c n =
        let q = at p.address (suc (suc (suc p.cell))) in let q₁ = after (code_e gs e Γ ts q) q in let us = ty_e gs Γ e ∷ ts in
        let q₂ = after (code_e gs f Γ us q₁) q₁ in let vs = ty_e gs Γ f ∷ us in let q₃ = after (code_e gs g Γ vs q₂) q₂ in let b = skip 48 q₃ in
        let Δ = bound a p.cell ∷ inside (loop_of a) ∷ Γ in let y = code_s gs s Δ ts b in let z = ahead 13 (after y b).address in let c₃ = c.1.1.1 in
        let u = mark_e e Γ ts q o.0 c₃.0 n in let v = mark_e f Γ us q₁ o.2 c₃.1.0 (u.1, n) in let w = mark_e g Γ vs q₂ o.4 c₃.1.1.0 (v.1, (u.1, n)) in (
          tt,
          (
            tt,
            (
              tt,
              (
                u.0,
                (
                  v.0,
                  (
                    w.0,
                    (
                      (w.1, (v.1, (u.1, n))),
                      mark-loop Γ ts p.cell q₃.address z b.address q₃ y n
                          (mark_s s Δ ts b (o.6 p.cell c.0) (celled-turn m k gs p.cell q₃.address z b.address (found Γ ts) q₃ y c₃.1.1.1.1) n),
                    ),
                  ),
                ),
              ),
            ),
          ),
        )

    pub mark_items : (is : Items) (Γ : List Around) (ts : List Ty) (p : At) → OkItems m k gs is Γ → Celled m k gs (code_items gs is Γ ts p) p → KnownAll ts → Marks m k Typed! (code_items gs is Γ ts p) p
    mark_items no_item Γ ts p o c n = tt
    mark_items (label a is) Γ ts p o c n = (n, mark_items is Γ ts p o c.1 n)
    mark_items (item s is) Γ ts p o c n = (mark_s s Γ ts p o.0 c.0 n, mark_items is Γ ts _ o.1 c.1 n)

    mark_arms : (r : Arms) (x i z : ℕ) (Γ : List Around) (ts : List Ty) (p : At) → OkArms m k gs r Γ → Celled m k gs (code_arms gs r x i z Γ ts p) p
        → KnownAll ts → Marks m k Typed! (code_arms gs r x i z Γ ts p) p
    mark_arms (last_arm s) x i z Γ ts p o c n = (tt, (tt, (tt, (tt, (mark_s s Γ ts _ o c.1.1.1.1.0 n, (tt, (n, tt)))))))
    mark_arms (arm s r) x i z Γ ts p o c n = (tt, (tt, (tt, (tt, (mark_s s Γ ts _ o.0 c.1.1.1.1.0 n, (tt, (n, mark_arms r x (suc i) z Γ ts _ o.1 c.1.1.1.1.1.1.1 n)))))))

    mark_target : (x : Target) (Γ : List Around) (ts : List Ty) (p : At) (t : Ty) → OkTarget m k gs x Γ t → Celled m k gs (code_target gs x Γ ts p) p
        → KnownAll ts → Marks m k Typed! (code_target gs x Γ ts p) p × KnownAll (ty_target gs Γ x ts)
    mark_target (to_variable a) Γ ts p t o c n = (tt, n)
    mark_target (to_field a e) Γ ts p t o c n = let u = mark_e e Γ ts p o.0 c n in (u.0, (u.1, n))

    pub mark_e : (e : Expr) (Γ : List Around) (ts : List Ty) (p : At) → OkE m k gs e Γ → Celled m k gs (code_e gs e Γ ts p) p → KnownAll ts
        → Marks m k Typed! (code_e gs e Γ ts p) p × Known m k gs (ty_e gs Γ e)
    mark_e (number z) Γ ts p o c n = (tt, tt)
    mark_e (truth b) Γ ts p o c n = (tt, tt)
    mark_e (pattern z) Γ ts p o c n = (tt, tt)
    mark_e (null x) Γ ts p o c n = (tt, of-initial m k gs (reference (class_number gs x)) (o (shape 0 [])))
    mark_e (variable a) Γ ts p o c n = (tt, H.cells k o.0 o.1 (ty_e gs Γ (variable a)) o.3)
    mark_e (invoke a es) Γ ts p o c n = ((mark_es es Γ ts p o.0 c.0 n, tt), (subst KnownAll o.1.3 (H.results (body_number gs a) o.1.0 o.1.1)).0)
    mark_e (field a e) Γ ts p o c n = (((mark_e e Γ ts p o.0 c.0 n).0, tt), H.fields (field_number gs a).class (field_number gs a).index (ty_e gs Γ (field a e)) o.2)
    mark_e (make x es) Γ ts p o c n = ((mark_es es Γ ts p o.0 c.0 n, tt), index_below m.classes (class_number gs x) (tys_e gs Γ es) o.1)
    mark_e (operate1 u e) Γ ts p o c n = (((mark_e e Γ ts p o.0 c.0 n).0, tt), of-operator (length m.classes) (unary u) (ty_e gs Γ e ∷ []) (ty_e gs Γ (operate1 u e)) o.1)
    mark_e (operate2 u e f) Γ ts p o c n = (
      mark-way (way_of u (is_ty logical (type_e (scopes_of Γ) e))) u Γ ts (ty_e gs Γ e) (code_e gs e Γ ts p) p (λ us q. code_e gs f Γ us q) c n
          (λ c'. mark_e e Γ ts p o.0 c' n) (λ us q n' c'. (mark_e f Γ us q o.1 c' n').0),
      way-type (way_of u (is_ty logical (type_e (scopes_of Γ) e))) u (ty_e gs Γ e) (ty_e gs Γ f) (ty_e gs Γ (operate2 u e f)) o.2,
    )
    mark_e (conditional e f g) Γ ts p o c n = let u = mark_e f Γ ts (skip 1 (after (code_e gs e Γ ts p) p)) o.2 c.1.1.0 n in
        (((mark_e e Γ ts p o.0 c.0 n).0, (tt, (u.0, (tt, (n, ((mark_e g Γ ts _ o.3 c.1.1.1.1.1.0 n).0, (u.1, n))))))), subst (Known m k gs) (sym o.5) u.1)
    mark_e (fader e) Γ ts p o c n = (((mark_e e Γ ts p o.0 c.0 n).0, tt), subst (Known m k gs) (sym o.2) tt)
    mark_e (block_expr ds is e) Γ ts p o c n =
        mark-head bound (Known m k gs (ty_e gs Γ (block_expr ds is e))) ds (inside (expression_of ds is) ∷ Γ) p
        (λ Δ. ((x : ℕ) → OkItems m k gs is (labels is x ∷ Δ)) × OkE m k gs e Δ × (ty_e gs Δ e ≡ ty_e gs Γ (block_expr ds is e)))
        (λ Δ q. let y = code_items gs is (labels is q.address ∷ Δ) ts q in y ▸ code_e gs e Δ ts (after y q))
        (λ Δ q o' c'. let u = mark_e e Δ ts (after (code_items gs is (labels is q.address ∷ Δ) ts q) q) o'.1 c'.1 n in
        ((mark_items is (labels is q.address ∷ Δ) ts q (o'.0 q.address) c'.0 n, u.0), subst (Known m k gs) o'.2 u.1)) o c

    mark_es : (es : Exprs) (Γ : List Around) (ts : List Ty) (p : At) → OkEs m k gs es Γ → Celled m k gs (code_es gs es Γ ts p) p → KnownAll ts → Marks m k Typed! (code_es gs es Γ ts p) p
    mark_es no_expr Γ ts p o c n = tt
    mark_es (expr e es) Γ ts p o c n = let u = mark_e e Γ ts p o.0 c.0 n in (u.0, mark_es es Γ _ _ o.1 c.1 (u.1, n))
