-- A part in order, within the limits, compiles to code through which the loading rules' state flows.
use Rattle.std.specs.Prelude.{Bool, ℕ, suc, ◌+◌, ◌≤◌, max, eqb, ℤ, pos, take}
use Rattle.std.proofs.Math.Bool.{true, false}
use Rattle.std.proofs.Math.Path.{◌≡◌, refl, ap, subst}
use Rattle.std.proofs.Common.{sym, ◌∙◌}
use mathlib.Core.List.{List, [], ◌∷◌, reverse_aux}
use Rattle.std.proofs.Math.Option.{none, some}
use native.Mathlib.Omega.{arith}
use Rattle.std.proofs.Math.ListN.{length, get_elem?}
use Rattle.logic.specs.Choice.{If◌then◌else◌}
use Rattle.words.specs.Numbers.{word_of}
use Rattle.values.specs.Types.{Ty, integer, logical, bits, reference, sames}
use Rattle.values.specs.Operators.{unary, binary, Binary, equal, op_type}
use Rattle.values.specs.Ends.{case_index}
use Rattle.values.specs.Values.{int, log, bit, ref, initial}
use Rattle.language.specs.Tree.{Decl, declare, holding, Stmt, block, assign, when, choose, while, goto, assert, call, set_level, select, for, Items, no_item, label, item, Arms}
use Rattle.language.specs.Tree.{last_arm, arm, Target, to_variable, to_field, Expr, number, truth, pattern, null, variable, invoke, field, make, operate1, operate2}
use Rattle.language.specs.Tree.{conditional, fader, block_expr, Exprs, no_expr, expr, Global}
use Rattle.language.specs.Names.{in_block, in_expression, in_procedure, in_loop, block_of, expression_of, loop_of}
use Rattle.language.specs.Measure.{measure_s}
use Rattle.language.specs.Faults.{type_e, is_ty}
use Rattle.language.specs.Limits.{head_holds, holds_s, holds_items, holds_arms, holds_target, holds_e, holds_es, need_s, need_items, need_arms, need_target, need_e, need_es}
use Rattle.bytecode.specs.Macro.{Body, Shape, shape, Macro}
use Rattle.bytecode.specs.Instructions.{Owner, own, push, go, let_hold, operate, cell_ty, field_ty, procedure_at}
use Rattle.bytecode.specs.Rules.{plain, effect}
use Rattle.compile_code.specs.Code.{Code, nil, op, mark, cell, ◌▸◌, At, at, ahead, skip, after}
use Rattle.compile_code.specs.Compile.{Around, inside, outermost, bound, global, held, labels, held_in, scopes_of, passing, the_labels, has_label, label_at, found, kept, Way}
use Rattle.compile_code.specs.Compile.{plainly, marked, if_true, if_false, way_of, code_way, code_goto, code_head, code_s, code_items, code_arms, code_target, code_e, code_es}
use Rattle.compile_code.specs.Compile.{ops_arms, op_target, ty_target, ty_e, ty_in, class_number, body_number, field_number, code_stored, code_downward, code_upward, code_once}
use Rattle.compile_code.specs.Compile.{code_entered, code_turned}
use Rattle.compile_code.specs.Compile.{cell_of as kept_of}
use Rattle.compile_simulation.specs.Sizes.{len_s, len_arms}
use Rattle.compile_simulation.specs.Placed.{LandsAt}
use Rattle.compile_simulation.specs.Blocks.{GotoOk}
use Rattle.compile_rules.specs.Flows.{Seg, Marks, pushes, loads, stores, operates, operates1, asserts, sets, fades, tests, goes, holds, frees, marks-on, marks-here}
use Rattle.compile_rules.specs.Flows.{joins, calls, makes, gets, puts, stopped}
use Rattle.compile_rules.specs.Loops.{pass-entered, pass-turned, marks-loop}

target-types : (gs : List Global) (x : Target) (Γ : List Around) (ts : List Ty) → length (ty_target gs Γ x ts) ≤ suc (length ts)
target-types gs (to_variable a) Γ ts = omega arith
target-types gs (to_field a e) Γ ts = omega arith

unfoldable pub tys_e : List Global → List Around → Exprs → List Ty
tys_e gs Γ no_expr = []
tys_e gs Γ (expr e es) = ty_e gs Γ e ∷ tys_e gs Γ es

module _ (m : Macro) (k : ℕ) (gs : List Global) where
  -- every new cell has its type in the body's head
  unfoldable pub Celled : Code → At → Type 0
  Celled nil p = Unit {0}
  Celled (op i) p = Unit {0}
  Celled (mark s) p = Unit {0}
  Celled (cell t) p = cell_ty m k own p.cell ≡ some t
  Celled (x ▸ y) p = Celled x p × Celled y (after x p)

  -- a head, and P of what then lies around; a variable is known inside as `name` says: `bound` in a block, `global own` in the root
  unfoldable pub OkHead : (ℕ → ℕ → Around) → List Decl → List Around → (List Around → Type 0) → Type 0
  OkHead name [] Γ P = P Γ
  OkHead name (declare x ∷ ds) Γ P = ((s : Shape) → effect m k (push (initial (ty_in gs x.type))) s ≡ plain [] (ty_in gs x.type ∷ []))
      × ((c : ℕ) → cell_ty m k own c ≡ some (ty_in gs x.type) → OkHead name ds (name x.name c ∷ Γ) P)
  OkHead name (holding g ∷ ds) Γ P = OkHead name ds (held g ∷ Γ) P

  abbrev pub WayOk : Way → Binary → Ty → Ty → Ty → Type 0
  WayOk plainly o t u r = op_type (binary o) (t ∷ u ∷ []) ≡ some r
  WayOk marked o t u r = op_type (binary o) (t ∷ u ∷ []) ≡ some r
  WayOk if_true o t u r = (t ≡ logical) × (u ≡ logical) × (r ≡ logical)
  WayOk if_false o t u r = (t ≡ logical) × (u ≡ logical) × (r ≡ logical)

  unfoldable mutual
    pub OkS : Stmt → List Around → Type 0
    OkS (block ds is) Γ = OkHead bound ds (inside (block_of ds is) ∷ Γ) (λ Δ. (x : ℕ) → OkItems is (labels is x ∷ Δ))
    OkS (assign x e) Γ = OkTarget x Γ (ty_e gs Γ e) × OkE e Γ
    OkS (when e s) Γ = OkE e Γ × (ty_e gs Γ e ≡ logical) × OkS s Γ
    OkS (choose e s t) Γ = OkE e Γ × (ty_e gs Γ e ≡ logical) × OkS s Γ × OkS t Γ
    OkS (while e s) Γ = OkE e Γ × (ty_e gs Γ e ≡ logical) × OkS s Γ
    OkS (goto a) Γ = GotoOk true Γ a
    OkS (assert e) Γ = OkE e Γ × (ty_e gs Γ e ≡ logical)
    OkS (call a es) Γ = OkEs es Γ × ((B : Body) × (procedure_at m (body_number gs a) ≡ some B) × (take B.parameters B.cells ≡ tys_e gs Γ es) × (B.results ≡ []))
    OkS (set_level e f) Γ = OkE e Γ × (ty_e gs Γ e ≡ integer) × OkE f Γ × (ty_e gs Γ f ≡ integer)
    OkS (select e r) Γ = OkE e Γ × (ty_e gs Γ e ≡ integer) × OkArms r Γ
    OkS (for a e f g s) Γ =
        OkE e Γ × (ty_e gs Γ e ≡ integer) × OkE f Γ × (ty_e gs Γ f ≡ integer) × OkE g Γ × (ty_e gs Γ g ≡ integer)
        × ((c : ℕ) → cell_ty m k own c ≡ some integer → OkS s (bound a c ∷ inside (loop_of a) ∷ Γ))

    pub OkItems : Items → List Around → Type 0
    OkItems no_item Γ = Unit {0}
    OkItems (label a is) Γ = OkItems is Γ
    OkItems (item s is) Γ = OkS s Γ × OkItems is Γ

    pub OkArms : Arms → List Around → Type 0
    OkArms (last_arm s) Γ = OkS s Γ
    OkArms (arm s r) Γ = OkS s Γ × OkArms r Γ

    pub OkEs : Exprs → List Around → Type 0
    OkEs no_expr Γ = Unit {0}
    OkEs (expr e es) Γ = OkE e Γ × OkEs es Γ

    pub OkTarget : Target → List Around → Ty → Type 0
    OkTarget (to_variable a) Γ t = (o : Owner) × (c : ℕ) × (kept_of a Γ ≡ some (kept o c)) × (cell_ty m k o c ≡ some t)
    OkTarget (to_field a e) Γ t = OkE e Γ × (ty_e gs Γ e ≡ reference (field_number gs a).class) × (field_ty m (field_number gs a).class (field_number gs a).index ≡ some t)

    pub OkE : Expr → List Around → Type 0
    OkE (number z) Γ = Unit {0}
    OkE (truth b) Γ = Unit {0}
    OkE (pattern z) Γ = Unit {0}
    OkE (null c) Γ = (s : Shape) → effect m k (push (ref (class_number gs c) none)) s ≡ plain [] (ty_e gs Γ (null c) ∷ [])
    OkE (variable a) Γ = (o : Owner) × (c : ℕ) × (kept_of a Γ ≡ some (kept o c)) × (cell_ty m k o c ≡ some (ty_e gs Γ (variable a)))
    OkE (invoke a es) Γ = OkEs es Γ × ((B : Body) × (procedure_at m (body_number gs a) ≡ some B) × (take B.parameters B.cells ≡ tys_e gs Γ es) × (B.results ≡ ty_e gs Γ (invoke a es) ∷ []))
    OkE (field a e) Γ = OkE e Γ × (ty_e gs Γ e ≡ reference (field_number gs a).class) × (field_ty m (field_number gs a).class (field_number gs a).index ≡ some (ty_e gs Γ (field a e)))
    OkE (make c es) Γ = OkEs es Γ × (get_elem? m.classes (class_number gs c) ≡ some (tys_e gs Γ es))
    OkE (operate1 o e) Γ = OkE e Γ × (op_type (unary o) (ty_e gs Γ e ∷ []) ≡ some (ty_e gs Γ (operate1 o e)))
    OkE (operate2 o e f) Γ = OkE e Γ × OkE f Γ × WayOk (way_of o (is_ty logical (type_e (scopes_of Γ) e))) o (ty_e gs Γ e) (ty_e gs Γ f) (ty_e gs Γ (operate2 o e f))
    OkE (conditional e f g) Γ = OkE e Γ × (ty_e gs Γ e ≡ logical) × OkE f Γ × OkE g Γ × (ty_e gs Γ g ≡ ty_e gs Γ f) × (ty_e gs Γ (conditional e f g) ≡ ty_e gs Γ f)
    OkE (fader e) Γ = OkE e Γ × (ty_e gs Γ e ≡ integer) × (ty_e gs Γ (fader e) ≡ integer)
    OkE (block_expr ds is e) Γ = OkHead bound ds (inside (expression_of ds is) ∷ Γ) (λ Δ. ((x : ℕ) → OkItems is (labels is x ∷ Δ)) × OkE e Δ × (ty_e gs Δ e ≡ ty_e gs Γ (block_expr ds is e)))

  module _ (Aim : ℕ → Shape → Type 0) where
    -- where the gotos of a place may land
    unfoldable pub Reaches : List Around → List Ty → Type 0
    Reaches [] ts = Unit {0}
    Reaches (inside (in_block ds) ∷ Γ) ts = Reaches Γ ts
    Reaches (inside (in_expression ds) ∷ Γ) ts = Unit {0}
    Reaches (inside (in_procedure ds) ∷ Γ) ts = Unit {0}
    Reaches (inside (in_loop d) ∷ Γ) ts = Reaches Γ ts
    Reaches (outermost s ∷ Γ) ts = Unit {0}
    Reaches (bound b c ∷ Γ) ts = Reaches Γ ts
    Reaches (global o b c ∷ Γ) ts = Reaches Γ ts
    Reaches (held g ∷ Γ) ts = Reaches Γ ts
    Reaches (labels is x ∷ Γ) ts = ((a : ℕ) → has_label a is ≡ true → Aim (label_at is (scopes_of Γ) (the_labels is ∷ passing Γ) x a) (found Γ ts)) × Reaches Γ ts

    pass_goto : (Γ : List Around) (exact : Bool) (a : ℕ) (ts : List Ty) → GotoOk exact Γ a → Reaches Γ ts → Seg m k Aim (code_goto Γ a) (some (found Γ ts)) none
    unfolding GotoOk Reaches code_goto held_in
    pass_goto [] exact a ts o r = absurd o
    pass_goto (inside (in_block ds) ∷ Γ) exact a ts o r = pass_goto Γ true a ts o r
    pass_goto (inside (in_expression ds) ∷ Γ) exact a ts o r = absurd o
    pass_goto (inside (in_procedure ds) ∷ Γ) exact a ts o r = absurd o
    pass_goto (inside (in_loop d) ∷ Γ) exact a ts o r = pass_goto Γ true a ts o r
    pass_goto (outermost s ∷ Γ) exact a ts o r = absurd o
    pass_goto (bound b c ∷ Γ) exact a ts o r = pass_goto Γ false a ts o r
    pass_goto (global q b c ∷ Γ) exact a ts o r = absurd o
    pass_goto (held g ∷ Γ) exact a ts o r =
        joins m k Aim (op let_hold) (code_goto Γ a) (some (found (held g ∷ Γ) ts)) (some (found Γ ts)) none (frees m k Aim (length (held_in Γ)) ts)
        (pass_goto Γ exact a ts o r)
    pass_goto (labels is x ∷ Γ) true a ts o r = pick (has_label a is) refl o (λ o'. pass_goto Γ true a ts o' r.1)
      where
        pick : (b : Bool) → has_label a is ≡ b → LandsAt b (Unit {0}) (GotoOk true Γ a) → (GotoOk true Γ a → Seg m k Aim (code_goto Γ a) (some (found Γ ts)) none)
            → Seg m k Aim (If b then op (go (label_at is (scopes_of Γ) (the_labels is ∷ passing Γ) x a)) else code_goto Γ a) (some (found Γ ts)) none
        pick true e o f = goes m k Aim (label_at is (scopes_of Γ) (the_labels is ∷ passing Γ) x a) (length (held_in Γ)) ts (r.0 a e)
        pick false e o f = f o
    pass_goto (labels is x ∷ Γ) false a ts o r = absurd o

    -- a variable matters neither to the holds nor to the gotos
    abbrev pub Quiet : (ℕ → ℕ → Around) → Type 0
    Quiet name = (b c : ℕ) (Γ : List Around) → (held_in (name b c ∷ Γ) ≡ held_in Γ) × ((ts : List Ty) → Reaches Γ ts → Reaches (name b c ∷ Γ) ts)

    quiet-bound : Quiet bound
    unfolding held_in Reaches
    quiet-bound b c Γ = (refl, λ ts r. r)

    pub quiet-global : Quiet (global own)
    unfolding held_in Reaches
    quiet-global b c Γ = (refl, λ ts r. r)

    pub pass_head : (name : ℕ → ℕ → Around) → Quiet name → (ds : List Decl) (Γ : List Around) (ts us : List Ty) (p : At) (P : List Around → Type 0) (f : List Around → At → Code) (n : ℕ)
        → ((Δ : List Around) (q : At) → P Δ → Reaches Δ ts → length (held_in Δ) + n ≤ 16 → Celled (f Δ q) q → Marks m k Aim (f Δ q) q → Seg m k Aim (f Δ q) (some (found Δ ts)) (some (found Δ us)))
        → OkHead name ds Γ P → Reaches Γ ts → length (held_in Γ) + (head_holds ds + n) ≤ 16 → suc (length ts) ≤ 32 → Celled (code_head gs name ds Γ p f) p → Marks m k Aim (code_head gs name ds Γ p f) p
        → Seg m k Aim (code_head gs name ds Γ p f) (some (found Γ ts)) (some (found Γ us))
    unfolding OkHead code_head head_holds Celled Marks after held_in Reaches Seg
    pass_head name quiet [] Γ ts us p P f n i o r l s c g = i Γ p o r (omega arith) c g
    pass_head name quiet (declare x ∷ ds) Γ ts us p P f n i o r l s c g =
        let t = ty_in gs x.type in let h = length (held_in Γ) in let q = at (suc (suc p.address)) (suc p.cell) in
        let Δ = name x.name p.cell ∷ Γ in let same = quiet x.name p.cell Γ in let e : length (held_in Δ) ≡ h = ap length same.0 in (
          some (shape h ts),
          refl,
          (
            some (shape h (t ∷ ts)),
            pushes m k Aim (push (initial t)) h t ts (o.0 _) (omega arith) s,
            (
              some (shape h ts),
              stores m k Aim own p.cell h t ts c.0 (omega arith) (omega arith),
              subst (λ j. Seg m k Aim (code_head gs name ds Δ q f) (some (shape j ts)) (some (shape j us))) e
                  (pass_head name quiet ds Δ ts us q P f n i (o.1 p.cell c.0) (same.1 ts r) (omega arith) s c.1.1.1 g.1.1.1),
            ),
          ),
        )
    pass_head name quiet (holding x ∷ ds) Γ ts us p P f n i o r l s c g = (
      some (found (held x ∷ Γ) ts),
      holds m k Aim x (length (held_in Γ)) ts (omega arith) (omega arith),
      (some (found (held x ∷ Γ) us), pass_head name quiet ds (held x ∷ Γ) ts us (skip 1 p) P f n i o r (omega arith) s c.1.0 g.1.0, frees m k Aim (length (held_in Γ)) us),
    )

    -- the labels of a block stand where its gotos aim
    labelled : (is : Items) (Γ : List Around) (ts : List Ty) (p : At) (a : ℕ) → Marks m k Aim (code_items gs is Γ ts p) p → has_label a is ≡ true
        → Aim (label_at is (scopes_of Γ) (passing Γ) p.address a) (found Γ ts)
    unfolding Marks code_s label_at has_label after
    labelled no_item Γ ts p a g e = let z : ◌≡◌ {A = ℕ} 0 1 = cc e in absurd (omega arith)
    labelled (label b is) Γ ts p a g e = pick (eqb a b) e (λ e'. labelled is Γ ts p a g.1 e')
      where
        pick : (t : Bool) → (If t then true else has_label a is) ≡ true
            → (has_label a is ≡ true → Aim (label_at is (scopes_of Γ) (passing Γ) p.address a) (found Γ ts))
            → Aim (If t then p.address else label_at is (scopes_of Γ) (passing Γ) p.address a) (found Γ ts)
        pick true e f = g.0
        pick false e f = f e
    labelled (item s is) Γ ts p a g e = subst (λ z. Aim (label_at is (scopes_of Γ) (passing Γ) z a) (found Γ ts)) (len_s gs s Γ ts p) (labelled is Γ ts (after (code_s gs s Γ ts p) p) a g.1 e)

    push-int : (z : ℤ) (s : Shape) → effect m k (push (int z)) s ≡ plain [] (integer ∷ [])
    unfolding effect
    push-int z s = refl

    push-log : (b : Bool) (s : Shape) → effect m k (push (log b)) s ≡ plain [] (logical ∷ [])
    unfolding effect
    push-log b s = refl

    push-bit : (x : ℕ) (s : Shape) → effect m k (push (bit x)) s ≡ plain [] (bits ∷ [])
    unfolding effect
    push-bit x s = refl

    some-needs : (i : ℕ) (es : Exprs) → 1 ≤ need_es i es
    unfolding measure_s
    some-needs i no_expr = omega arith
    some-needs i (expr e es) = let q = some-needs (suc i) es in omega arith

    pub some-need : (e : Expr) → 1 ≤ need_e e
    unfolding measure_s
    some-need (number z) = omega arith
    some-need (truth b) = omega arith
    some-need (pattern z) = omega arith
    some-need (null c) = omega arith
    some-need (variable a) = omega arith
    some-need (invoke a es) = some-needs 0 es
    some-need (field a e) = some-need e
    some-need (make c es) = some-needs 0 es
    some-need (operate1 o e) = some-need e
    some-need (operate2 o e f) = let q = some-need e in omega arith
    some-need (conditional e f g) = let q = some-need e in omega arith
    some-need (fader e) = some-need e
    some-need (block_expr ds is e) = let q = some-need e in omega arith

    pub items-need : (is : Items) → 1 ≤ need_items is
    unfolding measure_s
    items-need no_item = omega arith
    items-need (label a is) = items-need is
    items-need (item s is) = let q = items-need is in omega arith

    pass_way : (w : Way) (o : Binary) (Γ : List Around) (ts : List Ty) (t u r : Ty) (x : Code) (p : At) (F : List Ty → At → Code) → WayOk w o t u r → length (held_in Γ) ≤ 16 → suc (suc (length ts)) ≤ 32
        → Celled (code_way w o Γ ts t x p F) p → Marks m k Aim (code_way w o Γ ts t x p F) p
        → (Celled x p → Marks m k Aim x p → Seg m k Aim x (some (found Γ ts)) (some (found Γ (t ∷ ts))))
        → ((us : List Ty) (q : At) → length us ≤ suc (length ts) → Celled (F us q) q → Marks m k Aim (F us q) q → Seg m k Aim (F us q) (some (found Γ us)) (some (found Γ (u ∷ us))))
        → Seg m k Aim (code_way w o Γ ts t x p F) (some (found Γ ts)) (some (found Γ (r ∷ ts)))
    unfolding Celled Marks after Seg
    pass_way plainly o Γ ts t u r x p F e h s c g a b = (
      some (found Γ (t ∷ ts)),
      a c.0 g.0,
      (
        some (found Γ (u ∷ (t ∷ ts))),
        b (t ∷ ts) (after x p) (omega arith) c.1.0 g.1.0,
        operates m k Aim o (length (held_in Γ)) t u r ts e h (omega arith),
      ),
    )
    pass_way marked o Γ ts t u r x p F e h s c g a b = (
      some (found Γ (t ∷ ts)),
      a c.0 g.0,
      (
        some (found Γ (t ∷ ts)),
        marks-on m k Aim (length (held_in Γ)) (t ∷ ts) h (omega arith),
        (some (found Γ (u ∷ (t ∷ ts))), b (t ∷ ts) (after x p) (omega arith) c.1.1.0 g.1.1.0, operates m k Aim o (length (held_in Γ)) t u r ts e h (omega arith)),
      ),
    )
    pass_way if_true o Γ ts t u r x p F e h s c g a b =
        let q = skip 1 (after x p) in let n = length (held_in Γ) in
        rw e.2 (
          some (found Γ (t ∷ ts)),
          a c.0 g.0,
          (
            some (found Γ ts),
            tests m k Aim _ n t ts e.0 g.1.1.1.1.0,
            (
              some (found Γ (logical ∷ ts)),
              subst (λ z. Seg m k Aim (F ts q) (some (found Γ ts)) (some (found Γ (z ∷ ts)))) e.1 (b ts q (omega arith) c.1.1.0 g.1.1.0),
              (
                none,
                goes m k Aim _ n (logical ∷ ts) g.1.1.1.1.1.1,
                (
                  some (found Γ ts),
                  marks-here m k Aim n ts h (omega arith),
                  (some (found Γ (logical ∷ ts)), pushes m k Aim (push (log false)) n logical ts (push-log false _) h (omega arith), marks-on m k Aim n (logical ∷ ts) h (omega arith)),
                ),
              ),
            ),
          ),
        )
    pass_way if_false o Γ ts t u r x p F e h s c g a b =
        let q = skip 3 (after x p) in let n = length (held_in Γ) in
        rw e.2 (
          some (found Γ (t ∷ ts)),
          a c.0 g.0,
          (
            some (found Γ ts),
            tests m k Aim _ n t ts e.0 g.1.1.1.1.0,
            (
              some (found Γ (logical ∷ ts)),
              pushes m k Aim (push (log true)) n logical ts (push-log true _) h (omega arith),
              (
                none,
                goes m k Aim _ n (logical ∷ ts) g.1.1.1.1.1.1,
                (
                  some (found Γ ts),
                  marks-here m k Aim n ts h (omega arith),
                  (
                    some (found Γ (logical ∷ ts)),
                    subst (λ z. Seg m k Aim (F ts q) (some (found Γ ts)) (some (found Γ (z ∷ ts)))) e.1
                        (b ts q (omega arith) c.1.1.1.1.1.0 g.1.1.1.1.1.0),
                    marks-on m k Aim n (logical ∷ ts) h (omega arith),
                  ),
                ),
              ),
            ),
          ),
        )

    -- the labels of a block, from around its statements
    pub aims : (is : Items) (Δ : List Around) (ts : List Ty) (q : At) → Marks m k Aim (code_items gs is (labels is q.address ∷ Δ) ts q) q
        → (a : ℕ) → has_label a is ≡ true → Aim (label_at is (scopes_of Δ) (the_labels is ∷ passing Δ) q.address a) (found Δ ts)
    unfolding scopes_of passing held_in
    aims is Δ ts q g a e = labelled is (labels is q.address ∷ Δ) ts q a g e

    more_by : (x b i : ℕ) → x ≡ b + i → suc x ≡ b + suc i
    more_by x b i e = omega arith

    equals : (h : ℕ) (ts : List Ty) → h ≤ 16 → suc (length ts) ≤ 32 → Seg m k Aim (op (operate (binary equal))) (some (shape h (integer ∷ (integer ∷ ts)))) (some (shape h (logical ∷ ts)))
    unfolding op_type sames
    equals h ts p q = operates m k Aim equal h integer integer logical ts refl p q

    storing! : (x : Target) (Γ : List Around) (ts : List Ty) (t : Ty) → OkTarget x Γ t → length (held_in Γ) ≤ 16 → length ts ≤ 32
        → Seg m k Aim (op (op_target gs Γ x)) (some (found Γ (t ∷ ty_target gs Γ x ts))) (some (found Γ ts))
    unfolding OkS
    storing! (to_variable a) Γ ts t o p q = rw o.2 (stores m k Aim o.0 o.1 (length (held_in Γ)) t ts o.3 p q)
    storing! (to_field a e) Γ ts t o p q = puts m k Aim (field_number gs a).class (field_number gs a).index (length (held_in Γ)) (ty_e gs Γ e) t ts o.1 o.2 p q

    -- a loop, over the code of its statement
    pass_loop : (Γ : List Around) (ts : List Ty) (c : ℕ) (t u v : Ty) (p : At) (y : Code) → t ≡ integer → u ≡ integer → v ≡ integer → length (held_in Γ) ≤ 16 → 3 + length ts ≤ 32
        → cell_ty m k own c ≡ some integer → cell_ty m k own (suc c) ≡ some integer → cell_ty m k own (suc (suc c)) ≡ some integer
        → Celled (code_entered c p.address (ahead 13 (after y (skip 48 p)).address) (found Γ ts)
        ▸ (y ▸ code_turned c (ahead 48 p.address) (ahead 13 (after y (skip 48 p)).address) (found Γ ts))) p
        → Marks m k Aim (code_entered c p.address (ahead 13 (after y (skip 48 p)).address) (found Γ ts)
        ▸ (y ▸ code_turned c (ahead 48 p.address) (ahead 13 (after y (skip 48 p)).address) (found Γ ts))) p
        → (Celled y (skip 48 p) → Marks m k Aim y (skip 48 p) → Seg m k Aim y (some (found Γ ts)) (some (found Γ ts)))
        → Seg m k Aim (mark (found Γ (v ∷ (u ∷ (t ∷ ts)))) ▸ (code_entered c p.address (ahead 13 (after y (skip 48 p)).address) (found Γ ts)
        ▸ (y ▸ code_turned c (ahead 48 p.address) (ahead 13 (after y (skip 48 p)).address) (found Γ ts)))) (some (found Γ (v ∷ (u ∷ (t ∷ ts))))) (some (found Γ ts))
    unfolding Celled after Seg code_stored code_downward code_upward code_once
    pass_loop Γ ts c t u v p y et eu ev few room tv td tl cs g f =
        let h = length (held_in Γ) in let z = ahead 13 (after y (skip 48 p)).address in let a = marks-loop m k Aim c z (ahead 48 p.address) (found Γ ts) p y g in
        rw (et, eu, ev) (
          some (found Γ (integer ∷ (integer ∷ (integer ∷ ts)))),
          marks-on m k Aim h (integer ∷ (integer ∷ (integer ∷ ts))) few (omega arith),
          (
            some (found Γ ts),
            pass-entered m k Aim h ts few room c tv td tl p.address z a.0 a.1 a.5 a.2 a.3,
            (some (found Γ ts), f cs.1.0 a.4, pass-turned m k Aim h ts few room c tv td tl (ahead 48 p.address) z a.3 a.5),
          ),
        )

    mutual
      unfolding OkS code_s Celled Marks after Seg measure_s Reaches held_in type_e tys_e

      pub pass_s : (s : Stmt) (Γ : List Around) (ts : List Ty) (p : At) → OkS s Γ → Reaches Γ ts → length (held_in Γ) + holds_s s ≤ 16
          → length ts + need_s s ≤ 32 → Celled (code_s gs s Γ ts p) p → Marks m k Aim (code_s gs s Γ ts p) p
          → Seg m k Aim (code_s gs s Γ ts p) (some (found Γ ts)) (some (found Γ ts))
      pass_s (block ds is) Γ ts p o r l n c g =
          pass_head bound quiet-bound ds (inside (block_of ds is) ∷ Γ) ts ts p (λ Δ. (x : ℕ) → OkItems is (labels is x ∷ Δ)) (λ Δ q. code_items gs is (labels is q.address ∷ Δ) ts q) (holds_items is)
          (λ Δ q o' r' l' c' g'. pass_items is (labels is q.address ∷ Δ) ts q (o' q.address) (aims is Δ ts q g', r') l' n c' g') o r l (let z = items-need is in omega arith) c g
      pass_s (assign x e) Γ ts p o r l n c g =
          let y = code_target gs x Γ ts p in let q = after y p in (
            some (found Γ (ty_target gs Γ x ts)),
            pass_target x Γ ts p (ty_e gs Γ e) o.0 (omega arith) (omega arith) c.0 g.0,
            (
              some (found Γ (ty_e gs Γ e ∷ ty_target gs Γ x ts)),
              pass_e e Γ (ty_target gs Γ x ts) q o.1 (omega arith) (let z = target-types gs x Γ ts in omega arith) c.1.0 g.1.0,
              storing! x Γ ts (ty_e gs Γ e) o.0 (omega arith) (omega arith),
            ),
          )
      pass_s (when e s) Γ ts p o r l n c g =
          let x = code_e gs e Γ ts p in let q = skip 1 (after x p) in let h = length (held_in Γ) in (
            some (found Γ (ty_e gs Γ e ∷ ts)),
            pass_e e Γ ts p o.0 (omega arith) (omega arith) c.0 g.0,
            (
              some (found Γ ts),
              tests m k Aim _ h (ty_e gs Γ e) ts o.1 g.1.1.1,
              (some (found Γ ts), pass_s s Γ ts q o.2 r (omega arith) (omega arith) c.1.1.0 g.1.1.0, marks-on m k Aim h ts (omega arith) (omega arith)),
            ),
          )
      pass_s (choose e s t) Γ ts p o r l n c g =
          let x = code_e gs e Γ ts p in let q = skip 1 (after x p) in let y = code_s gs s Γ ts q in let v = skip 1 (after y q) in let h = length (held_in Γ) in (
            some (found Γ (ty_e gs Γ e ∷ ts)),
            pass_e e Γ ts p o.0 (omega arith) (omega arith) c.0 g.0,
            (
              some (found Γ ts),
              tests m k Aim _ h (ty_e gs Γ e) ts o.1 g.1.1.1.1.0,
              (
                some (found Γ ts),
                pass_s s Γ ts q o.2 r (omega arith) (omega arith) c.1.1.0 g.1.1.0,
                (
                  none,
                  goes m k Aim _ h ts g.1.1.1.1.1.1,
                  (
                    some (found Γ ts),
                    marks-here m k Aim h ts (omega arith) (omega arith),
                    (some (found Γ ts), pass_s t Γ ts v o.3 r (omega arith) (omega arith) c.1.1.1.1.1.0 g.1.1.1.1.1.0, marks-on m k Aim h ts (omega arith) (omega arith)),
                  ),
                ),
              ),
            ),
          )
      pass_s (while e s) Γ ts p o r l n c g =
          let x = code_e gs e Γ ts p in let q = skip 1 (after x p) in let h = length (held_in Γ) in (
            some (found Γ ts),
            marks-on m k Aim h ts (omega arith) (omega arith),
            (
              some (found Γ (ty_e gs Γ e ∷ ts)),
              pass_e e Γ ts p o.0 (omega arith) (omega arith) c.1.0 g.1.0,
              (
                some (found Γ ts),
                tests m k Aim _ h (ty_e gs Γ e) ts o.1 g.1.1.1.1.1,
                (
                  some (found Γ ts),
                  pass_s s Γ ts q o.2 r (omega arith) (omega arith) c.1.1.1.0 g.1.1.1.0,
                  (none, goes m k Aim _ h ts g.0, marks-here m k Aim h ts (omega arith) (omega arith)),
                ),
              ),
            ),
          )
      pass_s (goto a) Γ ts p o r l n c g = (none, pass_goto Γ true a ts o r, marks-here m k Aim (length (held_in Γ)) ts (omega arith) (omega arith))
      pass_s (assert e) Γ ts p o r l n c g = (
        some (found Γ (ty_e gs Γ e ∷ ts)),
        pass_e e Γ ts p o.0 l n c.0 g.0,
        asserts m k Aim (length (held_in Γ)) (ty_e gs Γ e) ts o.1 (omega arith) (omega arith),
      )
      pass_s (call a es) Γ ts p o r l n c g = (
        some (found Γ (reverse_aux (tys_e gs Γ es) ts)),
        pass_es es Γ ts p (length ts) 0 (omega arith) o.0 l n c.0 g.0,
        calls m k Aim (body_number gs a) (length (held_in Γ)) o.1.0 (tys_e gs Γ es) [] ts o.1.1 o.1.2 o.1.3 (omega arith) (omega arith),
      )
      pass_s (set_level e f) Γ ts p o r l n c g = let x = code_e gs e Γ ts p in (
        some (found Γ (ty_e gs Γ e ∷ ts)),
        pass_e e Γ ts p o.0 (omega arith) (omega arith) c.0 g.0,
        (
          some (found Γ (ty_e gs Γ f ∷ (ty_e gs Γ e ∷ ts))),
          pass_e f Γ (ty_e gs Γ e ∷ ts) (after x p) o.2 (omega arith) (omega arith) c.1.0 g.1.0,
          sets m k Aim (length (held_in Γ)) (ty_e gs Γ e) (ty_e gs Γ f) ts o.1 o.3 (omega arith) (omega arith),
        ),
      )
      pass_s (select e rs) Γ ts p o r l n c g =
          let q = at p.address (suc p.cell) in let x = code_e gs e Γ ts q in let b = skip 1 (after x q) in let h = length (held_in Γ) in (
            some (found Γ ts),
            refl,
            (
              some (found Γ (ty_e gs Γ e ∷ ts)),
              pass_e e Γ ts q o.0 (omega arith) (omega arith) c.1.0 g.1.0,
              (
                some (found Γ ts),
                stores m k Aim own p.cell h (ty_e gs Γ e) ts (c.0 ∙ ap some (sym o.1)) (omega arith) (omega arith),
                (
                  none,
                  pass_arms rs p.cell 1 (b.address + ops_arms rs (scopes_of Γ) (passing Γ)) Γ ts b c.0 o.2 r (omega arith) (omega arith) (omega arith) c.1.1.1.0
                      (subst (λ z. Aim z (found Γ ts)) (len_arms gs rs p.cell 1 (b.address + ops_arms rs (scopes_of Γ) (passing Γ)) Γ ts b) g.1.1.1.1) g.1.1.1.0,
                  marks-here m k Aim h ts (omega arith) (omega arith),
                ),
              ),
            ),
          )
      pass_s (for a e f w s) Γ ts p o r l n c g =
          let q = at p.address (suc (suc (suc p.cell))) in let x = code_e gs e Γ ts q in let q₁ = after x q in let us = ty_e gs Γ e ∷ ts in
          let y = code_e gs f Γ us q₁ in let q₂ = after y q₁ in let vs = ty_e gs Γ f ∷ us in let z = code_e gs w Γ vs q₂ in let q₃ = after z q₂ in
          let Δ = bound a p.cell ∷ inside (loop_of a) ∷ Γ in let need = some-need w in let c₃ = c.1.1.1 in let g₃ = g.1.1.1 in (
            some (found Γ ts),
            refl,
            (
              some (found Γ ts),
              refl,
              (
                some (found Γ ts),
                refl,
                (
                  some (found Γ us),
                  pass_e e Γ ts q o.0 (omega arith) (omega arith) c₃.0 g₃.0,
                  (
                    some (found Γ vs),
                    pass_e f Γ us q₁ o.2 (omega arith) (omega arith) c₃.1.0 g₃.1.0,
                    (
                      some (found Γ (ty_e gs Γ w ∷ vs)),
                      pass_e w Γ vs q₂ o.4 (omega arith) (omega arith) c₃.1.1.0 g₃.1.1.0,
                      pass_loop Γ ts p.cell (ty_e gs Γ e) (ty_e gs Γ f) (ty_e gs Γ w) q₃ (code_s gs s Δ ts (skip 48 q₃)) o.1 o.3 o.5 (omega arith) (omega arith)
                          c.0 c.1.0 c.1.1.0 c₃.1.1.1.1 g₃.1.1.1.1
                          (λ c' g'. pass_s s Δ ts (skip 48 q₃) (o.6 p.cell c.0) r (omega arith) (omega arith) c' g'),
                    ),
                  ),
                ),
              ),
            ),
          )

      pub pass_items : (is : Items) (Γ : List Around) (ts : List Ty) (p : At) → OkItems is Γ → Reaches Γ ts → length (held_in Γ) + holds_items is ≤ 16
          → length ts + need_items is ≤ 32 → Celled (code_items gs is Γ ts p) p → Marks m k Aim (code_items gs is Γ ts p) p
          → Seg m k Aim (code_items gs is Γ ts p) (some (found Γ ts)) (some (found Γ ts))
      pass_items no_item Γ ts p o r l n c g = refl
      pass_items (label a is) Γ ts p o r l n c g = (some (found Γ ts), marks-on m k Aim (length (held_in Γ)) ts (omega arith) (omega arith), pass_items is Γ ts p o r l n c.1 g.1)
      pass_items (item s is) Γ ts p o r l n c g = (
        some (found Γ ts),
        pass_s s Γ ts p o.0 r (omega arith) (omega arith) c.0 g.0,
        pass_items is Γ ts (after (code_s gs s Γ ts p) p) o.1 r (omega arith) (omega arith) c.1 g.1,
      )

      pub pass_e : (e : Expr) (Γ : List Around) (ts : List Ty) (p : At) → OkE e Γ → length (held_in Γ) + holds_e e ≤ 16 → length ts + need_e e ≤ 32
          → Celled (code_e gs e Γ ts p) p → Marks m k Aim (code_e gs e Γ ts p) p
          → Seg m k Aim (code_e gs e Γ ts p) (some (found Γ ts)) (some (found Γ (ty_e gs Γ e ∷ ts)))
      pass_e (number z) Γ ts p o l n c g = pushes m k Aim (push (int z)) (length (held_in Γ)) integer ts (push-int z _) (omega arith) (omega arith)
      pass_e (truth b) Γ ts p o l n c g = pushes m k Aim (push (log b)) (length (held_in Γ)) logical ts (push-log b _) (omega arith) (omega arith)
      pass_e (pattern z) Γ ts p o l n c g = pushes m k Aim (push (bit (word_of z))) (length (held_in Γ)) bits ts (push-bit (word_of z) _) (omega arith) (omega arith)
      pass_e (null x) Γ ts p o l n c g = pushes m k Aim (push (ref (class_number gs x) none)) (length (held_in Γ)) (ty_e gs Γ (null x)) ts (o _) (omega arith) (omega arith)
      pass_e (variable a) Γ ts p o l n c g = rw o.2 (loads m k Aim o.0 o.1 (length (held_in Γ)) (ty_e gs Γ (variable a)) ts o.3 (omega arith) (omega arith))
      pass_e (invoke a es) Γ ts p o l n c g = (
        some (found Γ (reverse_aux (tys_e gs Γ es) ts)),
        pass_es es Γ ts p (length ts) 0 (omega arith) o.0 l n c.0 g.0,
        calls m k Aim (body_number gs a) (length (held_in Γ)) o.1.0 (tys_e gs Γ es) (ty_e gs Γ (invoke a es) ∷ []) ts o.1.1 o.1.2 o.1.3
            (omega arith) (let z = some-needs 0 es in omega arith),
      )
      pass_e (field a e) Γ ts p o l n c g = (
        some (found Γ (ty_e gs Γ e ∷ ts)),
        pass_e e Γ ts p o.0 l n c.0 g.0,
        gets m k Aim (field_number gs a).class (field_number gs a).index (length (held_in Γ)) (ty_e gs Γ e) (ty_e gs Γ (field a e)) ts o.1
            o.2 (omega arith) (let z = some-need e in omega arith),
      )
      pass_e (make x es) Γ ts p o l n c g = (
        some (found Γ (reverse_aux (tys_e gs Γ es) ts)),
        pass_es es Γ ts p (length ts) 0 (omega arith) o.0 l n c.0 g.0,
        makes m k Aim (class_number gs x) (length (held_in Γ)) (tys_e gs Γ es) ts o.1 (omega arith) (let z = some-needs 0 es in omega arith),
      )
      pass_e (operate1 u e) Γ ts p o l n c g = (
        some (found Γ (ty_e gs Γ e ∷ ts)),
        pass_e e Γ ts p o.0 l n c.0 g.0,
        operates1 m k Aim u (length (held_in Γ)) (ty_e gs Γ e) (ty_e gs Γ (operate1 u e)) ts o.1 (omega arith) (let z = some-need e in omega arith),
      )
      pass_e (operate2 u e f) Γ ts p o l n c g =
          pass_way (way_of u (is_ty logical (type_e (scopes_of Γ) e))) u Γ ts (ty_e gs Γ e) (ty_e gs Γ f) (ty_e gs Γ (operate2 u e f)) (code_e gs e Γ ts p) p
          (λ us q. code_e gs f Γ us q) o.2 (omega arith) (let z = some-need f in omega arith) c g
          (λ c' g'. pass_e e Γ ts p o.0 (omega arith) (omega arith) c' g') (λ us q z c' g'. pass_e f Γ us q o.1 (omega arith) (omega arith) c' g')
      pass_e (conditional e f w) Γ ts p o l n c g =
          let x = code_e gs e Γ ts p in let q = skip 1 (after x p) in let y = code_e gs f Γ ts q in let v = skip 1 (after y q) in let h = length (held_in Γ) in let z = some-need f in
          rw o.5 (
            some (found Γ (ty_e gs Γ e ∷ ts)),
            pass_e e Γ ts p o.0 (omega arith) (omega arith) c.0 g.0,
            (
              some (found Γ ts),
              tests m k Aim _ h (ty_e gs Γ e) ts o.1 g.1.1.1.1.0,
              (
                some (found Γ (ty_e gs Γ f ∷ ts)),
                pass_e f Γ ts q o.2 (omega arith) (omega arith) c.1.1.0 g.1.1.0,
                (
                  none,
                  goes m k Aim _ h (ty_e gs Γ f ∷ ts) g.1.1.1.1.1.1,
                  (
                    some (found Γ ts),
                    marks-here m k Aim h ts (omega arith) (omega arith),
                    (
                      some (found Γ (ty_e gs Γ f ∷ ts)),
                      subst (λ t. Seg m k Aim (code_e gs w Γ ts v) (some (found Γ ts)) (some (found Γ (t ∷ ts))))
                          o.4 (pass_e w Γ ts v o.3 (omega arith) (omega arith) c.1.1.1.1.1.0 g.1.1.1.1.1.0),
                      marks-on m k Aim h (ty_e gs Γ f ∷ ts) (omega arith) (omega arith),
                    ),
                  ),
                ),
              ),
            ),
          )
      pass_e (fader e) Γ ts p o l n c g =
          rw o.2 (
            some (found Γ (ty_e gs Γ e ∷ ts)),
            pass_e e Γ ts p o.0 l n c.0 g.0,
            fades m k Aim (length (held_in Γ)) (ty_e gs Γ e) ts o.1 (omega arith) (let z = some-need e in omega arith),
          )
      pass_e (block_expr ds is e) Γ ts p o l n c g =
          pass_head bound quiet-bound ds (inside (expression_of ds is) ∷ Γ) ts (ty_e gs Γ (block_expr ds is e) ∷ ts) p
          (λ Δ. ((x : ℕ) → OkItems is (labels is x ∷ Δ)) × OkE e Δ × (ty_e gs Δ e ≡ ty_e gs Γ (block_expr ds is e)))
          (λ Δ q. let y = code_items gs is (labels is q.address ∷ Δ) ts q in y ▸ code_e gs e Δ ts (after y q)) (max (holds_items is) (holds_e e))
          (λ Δ q o' r' l' c' g'. let y = code_items gs is (labels is q.address ∷ Δ) ts q in (
            some (found Δ ts),
            pass_items is (labels is q.address ∷ Δ) ts q (o'.0 q.address) (aims is Δ ts q g'.0, r') (omega arith) (omega arith) c'.0 g'.0,
            subst (λ t. Seg m k Aim (code_e gs e Δ ts (after y q)) (some (found Δ ts)) (some (found Δ (t ∷ ts)))) o'.2 (pass_e e Δ ts (after y q) o'.1 (omega arith) (omega arith) c'.1 g'.1),
          ))
          o tt l (let z = some-need e in omega arith) c g

      pass_es : (es : Exprs) (Γ : List Around) (ts : List Ty) (p : At) (b i : ℕ) → length ts ≡ b + i → OkEs es Γ → length (held_in Γ) + holds_es es ≤ 16
          → b + need_es i es ≤ 32 → Celled (code_es gs es Γ ts p) p → Marks m k Aim (code_es gs es Γ ts p) p
          → Seg m k Aim (code_es gs es Γ ts p) (some (found Γ ts)) (some (found Γ (reverse_aux (tys_e gs Γ es) ts)))
      pass_es no_expr Γ ts p b i e o l n c g = refl
      pass_es (expr x es) Γ ts p b i e o l n c g = (
        some (found Γ (ty_e gs Γ x ∷ ts)),
        pass_e x Γ ts p o.0 (omega arith) (omega arith) c.0 g.0,
        pass_es es Γ (ty_e gs Γ x ∷ ts) (after (code_e gs x Γ ts p) p) b (suc i) (more_by (length ts) b i e) o.1 (omega arith) (omega arith) c.1 g.1,
      )

      pass_target : (x : Target) (Γ : List Around) (ts : List Ty) (p : At) (t : Ty) → OkTarget x Γ t → length (held_in Γ) + holds_target x ≤ 16
          → length ts + need_target x ≤ 32 → Celled (code_target gs x Γ ts p) p → Marks m k Aim (code_target gs x Γ ts p) p
          → Seg m k Aim (code_target gs x Γ ts p) (some (found Γ ts)) (some (found Γ (ty_target gs Γ x ts)))
      pass_target (to_variable a) Γ ts p t o l n c g = refl
      pass_target (to_field a e) Γ ts p t o l n c g = pass_e e Γ ts p o.0 l n c g

      pass_arms : (rs : Arms) (x i z : ℕ) (Γ : List Around) (ts : List Ty) (p : At) → cell_ty m k own x ≡ some integer → OkArms rs Γ → Reaches Γ ts
          → length (held_in Γ) + holds_arms rs ≤ 16 → length ts + need_arms rs ≤ 32 → suc (suc (length ts)) ≤ 32
          → Celled (code_arms gs rs x i z Γ ts p) p → Aim z (found Γ ts) → Marks m k Aim (code_arms gs rs x i z Γ ts p) p → Seg m k Aim (code_arms gs rs x i z Γ ts p) (some (found Γ ts)) none
      pass_arms (last_arm s) x i z Γ ts p e o r l n w c a g =
          let q = skip 4 p in let h = length (held_in Γ) in (
            some (found Γ (integer ∷ ts)),
            loads m k Aim own x h integer ts e (omega arith) (omega arith),
            (
              some (found Γ (integer ∷ (integer ∷ ts))),
              pushes m k Aim (push (int (pos i))) h integer (integer ∷ ts) (push-int (pos i) _) (omega arith) w,
              (
                some (found Γ (logical ∷ ts)),
                equals h ts (omega arith) (omega arith),
                (
                  some (found Γ ts),
                  tests m k Aim _ h logical ts refl g.1.1.1.1.1.1.0,
                  (
                    some (found Γ ts),
                    pass_s s Γ ts q o r l n c.1.1.1.1.0 g.1.1.1.1.0,
                    (none, goes m k Aim z h ts a, (some (found Γ ts), marks-here m k Aim h ts (omega arith) (omega arith), stopped m k Aim case_index h ts)),
                  ),
                ),
              ),
            ),
          )
      pass_arms (arm s rs) x i z Γ ts p e o r l n w c a g =
          let q = skip 4 p in let h = length (held_in Γ) in let v = skip 1 (after (code_s gs s Γ ts q) q) in (
            some (found Γ (integer ∷ ts)),
            loads m k Aim own x h integer ts e (omega arith) (omega arith),
            (
              some (found Γ (integer ∷ (integer ∷ ts))),
              pushes m k Aim (push (int (pos i))) h integer (integer ∷ ts) (push-int (pos i) _) (omega arith) w,
              (
                some (found Γ (logical ∷ ts)),
                equals h ts (omega arith) (omega arith),
                (
                  some (found Γ ts),
                  tests m k Aim _ h logical ts refl g.1.1.1.1.1.1.0,
                  (
                    some (found Γ ts),
                    pass_s s Γ ts q o.0 r (omega arith) (omega arith) c.1.1.1.1.0 g.1.1.1.1.0,
                    (
                      none,
                      goes m k Aim z h ts a,
                      (
                        some (found Γ ts),
                        marks-here m k Aim h ts (omega arith) (omega arith),
                        pass_arms rs x (suc i) z Γ ts v e o.1 r (omega arith) (omega arith) w c.1.1.1.1.1.1.1 a g.1.1.1.1.1.1.1,
                      ),
                    ),
                  ),
                ),
              ),
            ),
          )
