-- A part without faults is in order for the loading rules: every operand has its type, every cell, field and argument its own.
use Rattle.std.proofs.Math.Bool.{true}
use Rattle.std.specs.Prelude.{◌≡◌, ℕ, zero, suc, length, take}
use Rattle.std.proofs.Math.Path.{refl, ap, ap₂}
use Rattle.std.proofs.Common.{sym, ◌∙◌, subst, arith}
use mathlib.Core.List.{List, [], ◌∷◌, map}
use Rattle.std.proofs.Math.Option.{none, some}
use Rattle.std.proofs.Math.Dec.{ltb}
use Rattle.std.proofs.Math.ListN.{get_elem?}
use borrow.Author.Tests.{lt-ltb}
use Rattle.logic.specs.Options.{keep}
use Rattle.values.specs.Types.{Ty, integer, logical, bits, reference}
use Rattle.values.specs.Operators.{Binary, unary, binary, op_type}
use Rattle.values.specs.Values.{ref, initial}
use Rattle.language.specs.Tree.{Decl, declare, holding, Stmt, block, assign, when, choose, while, goto, assert, call, set_level, select, for, Items, no_item, label, item, Arms}
use Rattle.language.specs.Tree.{last_arm, arm, Target, to_variable, to_field, Expr, number, truth, pattern, null, variable, invoke, field, make, operate1, operate2}
use Rattle.language.specs.Tree.{conditional, fader, block_expr, Exprs, no_expr, expr, Global}
use Rattle.language.specs.Names.{is_variable, is_class, is_field, is_procedure, types, results, Scope, block_of, expression_of, loop_of}
use Rattle.language.specs.Faults.{with_ty, type_e, types_e, type_target, is_ty, variable_ty, result_ty}
use Rattle.language.specs.Faults.{field_ty as tree_field_ty}
use Rattle.bytecode.specs.Macro.{Body, Shape, Macro}
use Rattle.bytecode.specs.Instructions.{Owner, push, cell_ty, field_ty, procedure_at}
use Rattle.bytecode.specs.Rules.{plain, effect}
use Rattle.compile_code.specs.Compile.{Around, inside, bound, held, labels, scopes_of, kept, Class, classes_of, names_of, index_of, Proc, procs_of, class_number, body_number}
use Rattle.compile_code.specs.Compile.{field_number, or_integer, way_of, ty_in, ty_e}
use Rattle.compile_code.specs.Compile.{cell_of as kept_of}
use Rattle.compile_code.specs.Encode.{field_types}
use Rattle.logic.specs.ListLaws.{index_below}
use Rattle.compile_rules.specs.Pass.{tys_e, OkHead, WayOk, OkS, OkItems, OkArms, OkTarget, OkE, OkEs}
use Rattle.language_laws.specs.Tests.{is-ty}
use Rattle.compile_names.specs.Good.{ClassAt, VariableAt, IsA, GoodTy, GoodHead, HasTy, GoodS, GoodItems, GoodArms, GoodTarget, GoodE, GoodEs}
use Rattle.compile_names.specs.Known.{of_block, Entered}
use Rattle.compile_names.specs.Labels.{Reached, reached-block, reached-expression, reached-loop}
use Rattle.compile_names.specs.Globals.{class_as, GoodGlobals, GlobalsIn, globals-block, globals-expression, ClassFound, class-found, procedure-found, field_found}
use Rattle.compile_names.specs.Inside.{Inside, block-scopes, in-labels, in_block, in-expression, in-loop, good-inside, good-value, good_turn}
use Rattle.compile_names.specs.Named.{types-split}
use Rattle.compile_names.specs.Types.{unary-in, ways-in}

-- what the macro says of its classes and procedures
pub record Tabled (m : Macro) (gs : List Global) : Type 0 where
  pub classes-are : m.classes ≡ field_types gs (classes_of gs)
  pub called : (i : ℕ) (p : Proc) → get_elem? (procs_of gs) i ≡ some p
      → (B : Body) × (procedure_at m (suc i) ≡ some B) × (take B.parameters B.cells ≡ map (ty_in gs) (types p.parameters)) × (B.results ≡ map (ty_in gs) (results p.body))

pub class-types : (gs : List Global) (cs : List Class) (k : ℕ) (x : Class) → get_elem? cs k ≡ some x → get_elem? (field_types gs cs) k ≡ some (map (ty_in gs) (types x.fields))
unfolding field_types
class-types gs [] k x h = let z : ◌≡◌ {A = ℕ} 0 1 = cc h in absurd (omega arith)
class-types gs (c ∷ cs) zero x h = let z : c ≡ x = cc h in ap (λ y. some (map (ty_in gs) (types y.fields))) z
class-types gs (c ∷ cs) (suc k) x h = class-types gs cs k x h

map_get : (f : Ty → Ty) (ts : List Ty) (i : ℕ) (t : Ty) → get_elem? ts i ≡ some t → get_elem? (map f ts) i ≡ some (f t)
map_get f [] i t h = let z : ◌≡◌ {A = ℕ} 0 1 = cc h in absurd (omega arith)
map_get f (u ∷ ts) zero t h = let z : u ≡ t = cc h in ap (λ y. some (f y)) z
map_get f (u ∷ ts) (suc i) t h = map_get f ts i t h

module _ (m : Macro) (k : ℕ) (gs : List Global) where
  abbrev pub CellTy : Owner → ℕ → Ty → Type 0
  CellTy o c t = cell_ty m k o c ≡ some (ty_in gs t)

  pub has-type : (Γ : List Around) (e : Expr) (t : Ty) → HasTy (scopes_of Γ) e t → ty_e gs Γ e ≡ ty_in gs t
  has-type Γ e t h = ap (λ o. ty_in gs (or_integer o)) h

  types_are : (Γ : List Around) (es : Exprs) (ts : List Ty) → types_e (scopes_of Γ) es ≡ some ts → tys_e gs Γ es ≡ map (ty_in gs) ts
  unfolding types_e tys_e
  types_are Γ no_expr ts h = let z : [] ≡ ts = cc h in ap (map (ty_in gs)) z
  types_are Γ (expr e es) ts h =
      let q = types-split (type_e (scopes_of Γ) e) (types_e (scopes_of Γ) es) ts h in
      ap₂ (λ x xs. x ∷ xs) (has-type Γ e q.0 q.2) (types_are Γ es q.1 q.3) ∙ ap (map (ty_in gs)) (sym q.4)

  module _ (tables : Tabled m gs) where
    class-typed : (c : ℕ) (ts : List Ty) → ClassFound gs c ts → get_elem? m.classes (class_number gs c) ≡ some (map (ty_in gs) ts)
    class-typed c ts f =
        ap (λ l. get_elem? l (class_number gs c)) tables.classes-are ∙ class-types gs (classes_of gs) (class_number gs c) (class_as c f.fields)
        f.at-number ∙ ap (λ us. some (map (ty_in gs) us)) f.its-types

    push-null : (ss : List Scope) (c : ℕ) → GlobalsIn gs ss → ClassAt ss c → (s : Shape) → effect m k (push (ref (class_number gs c) none)) s ≡ plain [] (ty_in gs (reference c) ∷ [])
    unfolding effect
    push-null ss c g h s =
        let q = g c (is_class h.0) h.1.0 tt h.1.1 in let f = class-typed c h.0 (class-found gs c h.0 q.0 q.1) in
        let l : ltb (class_number gs c) (length m.classes) ≡ true = lt-ltb (class_number gs c) (length m.classes) (index_below m.classes (class_number gs c) (map (ty_in gs) h.0) f) in
        rw l refl

    pub push_ok : (ss : List Scope) (t : Ty) → GlobalsIn gs ss → GoodTy ss t → (s : Shape) → effect m k (push (initial (ty_in gs t))) s ≡ plain [] (ty_in gs t ∷ [])
    unfolding effect
    push_ok ss integer g h s = refl
    push_ok ss logical g h s = refl
    push_ok ss bits g h s = refl
    push_ok ss (reference c) g h s = push-null ss c g h s

    pub typed-head : (ss : List Scope) (seen : List ℕ) (ds : List Decl) (Γ : List Around) (Q : List Around → Type 0) → GlobalsIn gs ss
        → GoodHead ss seen ds → ((Δ : List Around) → Entered CellTy of_block ds Γ Δ → Q Δ) → OkHead m k gs bound ds Γ Q
    unfolding GoodHead Entered OkHead
    typed-head ss seen [] Γ Q g h f = f Γ refl
    typed-head ss seen (declare x ∷ ds) Γ Q g h f = (push_ok ss x.type g h.1, λ c t. typed-head ss (x.name ∷ seen) ds (bound x.name c ∷ Γ) Q g h.2 (λ Δ e. f Δ (c, t, e)))
    typed-head ss seen (holding q ∷ ds) Γ Q g h f = typed-head ss seen ds (held q ∷ Γ) Q g h f

    calls-ok : (Γ : List Around) (a : ℕ) (es : Exprs) (ts us : List Ty) → GlobalsIn gs (scopes_of Γ) → IsA a (scopes_of Γ) (is_procedure ts us) → types_e (scopes_of Γ) es ≡ some ts
        → (B : Body) × (procedure_at m (body_number gs a) ≡ some B) × (take B.parameters B.cells ≡ tys_e gs Γ es) × (B.results ≡ map (ty_in gs) us)
    calls-ok Γ a es ts us g i h =
        let q = g a (is_procedure ts us) i.0 tt i.1 in let f = procedure-found gs a ts us q.0 q.1 in let b = tables.called _ _ f.at-number in
        (b.0, b.1, b.2 ∙ ap (map (ty_in gs)) f.takes-types ∙ sym (types_are Γ es ts h), b.3 ∙ ap (map (ty_in gs)) f.gives-types)

    module _ (rs : List Scope) (whole : GoodGlobals rs [] gs) where
      fields-ok : (Γ : List Around) (a c : ℕ) (t : Ty) (e : Expr) → GlobalsIn gs (scopes_of Γ) → IsA a (scopes_of Γ) (is_field c t) → HasTy (scopes_of Γ) e (reference c)
          → (ty_e gs Γ e ≡ reference (field_number gs a).class) × (field_ty m (field_number gs a).class (field_number gs a).index ≡ some (ty_in gs t))
      fields-ok Γ a c t e g i h =
          let q = g a (is_field c t) i.0 tt i.1 in let f = field_found gs rs [] 0 a c t q.0 whole q.1 in let z = f.its-class in
          let n : (field_number gs a).class ≡ class_number gs c = omega arith in
          let x : (field_number gs a).index ≡ index_of a (names_of f.fields) = f.its-index in
          let y : get_elem? m.classes (class_number gs c) ≡ some (map (ty_in gs) (types f.fields)) =
          ap (λ l. get_elem? l (class_number gs c)) tables.classes-are ∙ class-types gs (classes_of gs) (class_number gs c) (class_as c f.fields) f.at-number in (
            has-type Γ e (reference c) h ∙ ap reference (sym n),
            rw (n, x)
                (ap (λ o. keep o (λ ts. get_elem? ts (index_of a (names_of f.fields)))) y
                ∙ map_get (ty_in gs) (types f.fields) (index_of a (names_of f.fields)) t f.its-type),
          )

      -- the type of what stands where
      variable-type : (Γ : List Around) (a : ℕ) (t : Ty) → VariableAt a (scopes_of Γ) t → ty_e gs Γ (variable a) ≡ ty_in gs t
      unfolding type_e
      variable-type Γ a t i = ap (λ f. ty_in gs (or_integer (variable_ty f))) i.2.1 ∙ ap (λ o. ty_in gs (or_integer o)) i.1

      field-type : (Γ : List Around) (a c : ℕ) (t : Ty) (e : Expr) → IsA a (scopes_of Γ) (is_field c t) → ty_e gs Γ (field a e) ≡ ty_in gs t
      unfolding type_e
      field-type Γ a c t e i = ap (λ f. ty_in gs (or_integer (tree_field_ty f))) i.1

      result-type : (Γ : List Around) (a : ℕ) (es : Exprs) (ts : List Ty) (u : Ty) → IsA a (scopes_of Γ) (is_procedure ts (u ∷ [])) → ty_e gs Γ (invoke a es) ≡ ty_in gs u
      unfolding type_e
      result-type Γ a es ts u i = ap (λ f. ty_in gs (or_integer (result_ty f))) i.1

      variable-found : (Γ : List Around) (a : ℕ) (t : Ty) → Inside CellTy gs Γ → VariableAt a (scopes_of Γ) t → (o : Owner) × (c : ℕ)
          × (kept_of a Γ ≡ some (kept o c)) × (cell_ty m k o c ≡ some (ty_in gs t))
      variable-found Γ a t h i = (h.known a i.0 t i.2.0 i.1 i.2.1).0

      fit-way : (Γ : List Around) (o : Binary) (e f : Expr) (t u r : Ty) → ty_e gs Γ e ≡ ty_in gs t → ty_e gs Γ f ≡ ty_in gs u → ty_e gs Γ (operate2 o e f) ≡ ty_in gs r
          → WayOk m k gs (way_of o (is_ty logical (type_e (scopes_of Γ) e))) o (ty_in gs t) (ty_in gs u) (ty_in gs r)
          → WayOk m k gs (way_of o (is_ty logical (type_e (scopes_of Γ) e))) o (ty_e gs Γ e) (ty_e gs Γ f) (ty_e gs Γ (operate2 o e f))
      fit-way Γ o e f t u r x y z w = let F = WayOk m k gs (way_of o (is_ty logical (type_e (scopes_of Γ) e))) o in
          subst (λ a. F a (ty_e gs Γ f) (ty_e gs Γ (operate2 o e f))) (sym x) (subst (λ a. F (ty_in gs t) a (ty_e gs Γ (operate2 o e f))) (sym y) (subst (λ a. F (ty_in gs t) (ty_in gs u) a) (sym z) w))

      mutual
        unfolding GoodS OkS type_e

        pub typed-S : (s : Stmt) (Γ : List Around) → Inside CellTy gs Γ → Reached Γ → GoodS (scopes_of Γ) s → OkS m k gs s Γ
        typed-S (block ds is) Γ h r g =
            typed-head (block_of ds is ∷ scopes_of Γ) [] ds (inside (block_of ds is) ∷ Γ) (λ Δ. (x : ℕ) → OkItems m k gs is (labels is x ∷ Δ)) (globals-block gs ds is (scopes_of Γ) h.globals) g.0
            (λ Δ e x. typed-items is (labels is x ∷ Δ) (in-labels CellTy gs is x Δ
            (in_block CellTy gs ds is Γ Δ (block_of ds is ∷ scopes_of Γ) g.0 e h)) (reached-block CellTy ds is x Γ Δ e r)
            (good-inside CellTy gs (block_of ds is) ds is x Γ Δ e g.1))
        typed-S (assign x e) Γ h r g = (typed-target x Γ (ty_e gs Γ e) g.2.0 h g.0 g.2.2 (has-type Γ e g.2.0 g.2.1), typed-E e Γ h g.1)
        typed-S (when e s) Γ h r g = (typed-E e Γ h g.0, has-type Γ e logical g.1, typed-S s Γ h r g.2)
        typed-S (choose e s t) Γ h r g = (typed-E e Γ h g.0, has-type Γ e logical g.1, typed-S s Γ h r g.2, typed-S t Γ h r g.3)
        typed-S (while e s) Γ h r g = (typed-E e Γ h g.0, has-type Γ e logical g.1, typed-S s Γ h r g.2)
        typed-S (goto a) Γ h r g = r a g
        typed-S (assert e) Γ h r g = (typed-E e Γ h g.0, has-type Γ e logical g.1)
        typed-S (call a es) Γ h r g = (typed-Es es Γ h g.0, calls-ok Γ a es g.1.0 [] h.globals g.1.1 g.1.2)
        typed-S (set_level e f) Γ h r g = (typed-E e Γ h g.0, has-type Γ e integer g.1, typed-E f Γ h g.2, has-type Γ f integer g.3)
        typed-S (select e xs) Γ h r g = (typed-E e Γ h g.0, has-type Γ e integer g.1, typed-arms xs Γ h r g.2)
        typed-S (for a e f v s) Γ h r g = (
          typed-E e Γ h g.0,
          has-type Γ e integer g.1,
          typed-E f Γ h g.2,
          has-type Γ f integer g.3,
          typed-E v Γ h g.4,
          has-type Γ v integer g.5,
          λ c t. typed-S s (bound a c ∷ inside (loop_of a) ∷ Γ) (in-loop CellTy gs a c Γ t h) (reached-loop a c Γ r) (good_turn a c s Γ g.6),
        )

        pub typed-items : (is : Items) (Γ : List Around) → Inside CellTy gs Γ → Reached Γ → GoodItems (scopes_of Γ) is → OkItems m k gs is Γ
        typed-items no_item Γ h r g = tt
        typed-items (label a is) Γ h r g = typed-items is Γ h r g
        typed-items (item s is) Γ h r g = (typed-S s Γ h r g.0, typed-items is Γ h r g.1)

        typed-arms : (xs : Arms) (Γ : List Around) → Inside CellTy gs Γ → Reached Γ → GoodArms (scopes_of Γ) xs → OkArms m k gs xs Γ
        typed-arms (last_arm s) Γ h r g = typed-S s Γ h r g
        typed-arms (arm s xs) Γ h r g = (typed-S s Γ h r g.0, typed-arms xs Γ h r g.1)

        typed-target : (x : Target) (Γ : List Around) (u t : Ty) → Inside CellTy gs Γ → GoodTarget (scopes_of Γ) x → type_target (scopes_of Γ) x ≡ some t → u ≡ ty_in gs t → OkTarget m k gs x Γ u
        typed-target (to_variable a) Γ u t h g e y = rw y (
            let q = variable-found Γ a g.0 h (is_variable g.0, refl, g.1) in let z : some g.0 ≡ some t = sym (ap variable_ty g.1.1) ∙ e in let x : g.0 ≡ t = cc z in
            (q.0, q.1, q.2, q.3 ∙ ap (λ w. some (ty_in gs w)) x))
        typed-target (to_field a v) Γ u t h g e y = rw y (
            let q = fields-ok Γ a g.1.0 g.1.1 v h.globals g.1.2 g.1.3 in let z : some g.1.1 ≡ some t = sym (ap tree_field_ty g.1.2.1) ∙ e in let x : g.1.1 ≡ t = cc z in
            (typed-E v Γ h g.0, q.0, q.1 ∙ ap (λ w. some (ty_in gs w)) x))

        pub typed-E : (e : Expr) (Γ : List Around) → Inside CellTy gs Γ → GoodE (scopes_of Γ) e → OkE m k gs e Γ
        typed-E (number z) Γ h g = tt
        typed-E (truth b) Γ h g = tt
        typed-E (pattern z) Γ h g = tt
        typed-E (null c) Γ h g = push-null (scopes_of Γ) c h.globals g
        typed-E (variable a) Γ h g = let q = variable-found Γ a g.0 h g.1 in (q.0, q.1, q.2, q.3 ∙ ap some (sym (variable-type Γ a g.0 g.1)))
        typed-E (invoke a es) Γ h g =
            let q = calls-ok Γ a es g.1.0 (g.1.1 ∷ []) h.globals g.1.2 g.1.3 in
            (typed-Es es Γ h g.0, (q.0, q.1, q.2, q.3 ∙ ap (λ u. u ∷ []) (sym (result-type Γ a es g.1.0 g.1.1 g.1.2))))
        typed-E (field a e) Γ h g =
            let q = fields-ok Γ a g.1.0 g.1.1 e h.globals g.1.2 g.1.3 in
            (typed-E e Γ h g.0, q.0, q.1 ∙ ap some (sym (field-type Γ a g.1.0 g.1.1 e g.1.2)))
        typed-E (make c es) Γ h g =
            let q = h.globals c (is_class g.1.0) g.1.1.0 tt g.1.1.1 in
            (typed-Es es Γ h g.0, class-typed c g.1.0 (class-found gs c g.1.0 q.0 q.1) ∙ ap some (sym (types_are Γ es g.1.0 g.1.2)))
        typed-E (operate1 o e) Γ h g =
            let x : type_e (scopes_of Γ) (operate1 o e) ≡ some g.1.1 = ap (λ y. with_ty y (λ t. op_type (unary o) (t ∷ []))) g.1.2 ∙ g.1.3 in (
              typed-E e Γ h g.0,
              ap (λ u. op_type (unary o) (u ∷ [])) (has-type Γ e g.1.0 g.1.2)
                  ∙ unary-in gs o g.1.0 g.1.1 g.1.3 ∙ ap some (sym (has-type Γ (operate1 o e) g.1.1 x)),
            )
        typed-E (operate2 o e f) Γ h g =
            let t = g.2.0 in let u = g.2.1 in let r = g.2.2 in
            let x : type_e (scopes_of Γ) (operate2 o e f) ≡ some r =
            ap (λ y. with_ty y (λ t. with_ty (type_e (scopes_of Γ) f) (λ u. op_type (binary o) (t ∷ u ∷ [])))) g.2.3 ∙ ap (λ y. with_ty y (λ u. op_type (binary o) (t ∷ u ∷ []))) g.2.4 ∙ g.2.5 in
            let b = is_ty logical (type_e (scopes_of Γ) e) in
            let w = ways-in gs m k o t u r b (λ y. let z : some t ≡ some logical = sym g.2.3 ∙ is-ty logical (type_e (scopes_of Γ) e) y in cc z) g.2.5 in
            (typed-E e Γ h g.0, typed-E f Γ h g.1, fit-way Γ o e f t u r (has-type Γ e t g.2.3) (has-type Γ f u g.2.4) (has-type Γ (operate2 o e f) r x) w)
        typed-E (conditional e f v) Γ h g =
            (typed-E e Γ h g.0, has-type Γ e logical g.1, typed-E f Γ h g.2, typed-E v Γ h g.3, has-type Γ v g.4.0 g.4.2 ∙ sym (has-type Γ f g.4.0 g.4.1), refl)
        typed-E (fader e) Γ h g = (typed-E e Γ h g.0, has-type Γ e integer g.1, refl)
        typed-E (block_expr ds is v) Γ h g =
            typed-head (expression_of ds is ∷ scopes_of Γ) [] ds (inside (expression_of ds is) ∷ Γ)
            (λ Δ. ((x : ℕ) → OkItems m k gs is (labels is x ∷ Δ)) × OkE m k gs v Δ × (ty_e gs Δ v ≡ ty_e gs Γ (block_expr ds is v)))
            (globals-expression gs ds is (scopes_of Γ) h.globals) g.0
            (λ Δ e. let h' = in-expression CellTy gs ds is Γ Δ (expression_of ds is ∷ scopes_of Γ) g.0 e h in (
              (λ x. typed-items is (labels is x ∷ Δ) (in-labels CellTy gs is x Δ h') (reached-expression CellTy ds is x Γ Δ e) (good-inside CellTy gs (expression_of ds is) ds is x Γ Δ e g.1)),
              typed-E v Δ h' (good-value CellTy gs (expression_of ds is) ds v Γ Δ e g.2),
              ap (λ ss. ty_in gs (or_integer (type_e ss v))) (block-scopes CellTy gs (expression_of ds is) ds Γ Δ e),
            ))

        typed-Es : (es : Exprs) (Γ : List Around) → Inside CellTy gs Γ → GoodEs (scopes_of Γ) es → OkEs m k gs es Γ
        typed-Es no_expr Γ h g = tt
        typed-Es (expr e es) Γ h g = (typed-E e Γ h g.0, typed-Es es Γ h g.1)
