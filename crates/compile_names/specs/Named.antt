-- A part without faults is in order for the simulation: names are found, gotos reach, counts agree.
use Rattle.std.specs.Prelude.{◌≡◌, ℕ, zero, suc, length}
use Rattle.std.proofs.Math.Path.{refl}
use Rattle.std.proofs.Common.{ap, sym, ◌∙◌, arith}
use mathlib.Core.List.{List, [], ◌∷◌}
use Rattle.std.proofs.Math.Option.{Option, none, some}
use Rattle.std.proofs.Math.ListN.{get_elem?}
use Rattle.values.specs.Types.{Ty, integer, logical, bits, reference}
use Rattle.values.specs.Values.{ref, initial}
use Rattle.language.specs.Tree.{Typed, Decl, declare, holding, Stmt, block, assign, when, choose, while, goto, assert, call, set_level, select, for, Items, no_item, label, item}
use Rattle.language.specs.Tree.{Arms, last_arm, arm, Target, to_variable, to_field, Expr, number, truth, pattern, null, variable, invoke, field, make, operate1, operate2}
use Rattle.language.specs.Tree.{conditional, fader, block_expr, Exprs, no_expr, expr, Body, proper, function, Global, count_exprs}
use Rattle.language.specs.Names.{is_variable, is_class, is_field, is_procedure, types, results, Scope, block_of, expression_of, loop_of}
use Rattle.language.specs.Faults.{type_e, types_e, cons_ty}
use Rattle.bytecode.specs.Instructions.{Owner}
use Rattle.compile_code.specs.Compile.{Around, inside, bound, held, labels, scopes_of, Class, classes_of, names_of, index_of, class_number, field_number, or_integer, ty_in, ty_e}
use Rattle.compile_simulation.specs.View.{class_of, seen_v}
use Rattle.compile_simulation.specs.Records.{OkField, field-there}
use Rattle.compile_simulation.specs.Blocks.{OkTyped, OkHead}
use Rattle.compile_simulation.specs.Sim.{IsProper, IsFunction, OkS, OkItems, OkArms, OkTarget, OkE, OkEs}
use Rattle.compile_names.specs.Good.{ClassAt, IsA, HasTy, GoodTy, GoodHead, GoodS, GoodItems, GoodArms, GoodTarget, GoodE, GoodEs}
use Rattle.compile_names.specs.Known.{of_block, Entered}
use Rattle.compile_names.specs.Labels.{Reached, reached-block, reached-expression, reached-loop}
use Rattle.compile_names.specs.Globals.{class_as, GoodGlobals, GlobalsIn, globals-block, globals-expression, ClassFound, class-found, procedure-found, FieldFound, field_found}
use Rattle.compile_names.specs.Inside.{Inside, in-labels, in_block, in-expression, in-loop, good-inside, good-value, good_turn}

pub class-of : (cs : List Class) (k : ℕ) (x : Class) → get_elem? cs k ≡ some x → class_of cs k ≡ x
class-of [] k x h = let z : ◌≡◌ {A = ℕ} 0 1 = cc h in absurd (omega arith)
class-of (c ∷ cs) zero x h = cc
class-of (c ∷ cs) (suc k) x h = class-of cs k x h

pub types-length : (xs : List Typed) → length (types xs) ≡ length xs
unfolding types
types-length [] = refl
types-length (x ∷ xs) = ap suc (types-length xs)

pub types-split : (x : Option Ty) (y : Option (List Ty)) (ts : List Ty) → cons_ty x y ≡ some ts → (u : Ty) × (us : List Ty) × (x ≡ some u) × (y ≡ some us) × (ts ≡ u ∷ us)
types-split none y ts h = let z : ◌≡◌ {A = ℕ} 0 1 = cc h in absurd (omega arith)
types-split (some u) none ts h = let z : ◌≡◌ {A = ℕ} 0 1 = cc h in absurd (omega arith)
types-split (some u) (some us) ts h = let z : u ∷ us ≡ ts = cc h in (u, us, refl, refl, sym z)

pub types-count : (ss : List Scope) (es : Exprs) (ts : List Ty) → types_e ss es ≡ some ts → count_exprs es ≡ length ts
unfolding types_e count_exprs
types-count ss no_expr ts h = let z : [] ≡ ts = cc h in ap length z
types-count ss (expr e es) ts h = let q = types-split (type_e ss e) (types_e ss es) ts h in ap suc (types-count ss es q.1 q.3) ∙ ap length (sym q.4)

is-proper : (b : Body) → results b ≡ [] → IsProper b
is-proper (proper s) h = tt
is-proper (function t e) h = let z : ◌≡◌ {A = ℕ} 0 1 = cc h in absurd (omega arith)

is-function : (b : Body) (u : Ty) → results b ≡ u ∷ [] → IsFunction b
is-function (proper s) u h = let z : ◌≡◌ {A = ℕ} 0 1 = cc h in absurd (omega arith)
is-function (function t e) u h = tt

abbrev pub AnyCell : Owner → ℕ → Ty → Type 0
AnyCell o c t = Unit {0}

module _ (gs : List Global) where
  class-at : (ss : List Scope) (c : ℕ) → GlobalsIn gs ss → (k : ClassAt ss c) → ClassFound gs c k.0
  class-at ss c g k = let q = g c (is_class k.0) k.1.0 tt k.1.1 in class-found gs c k.0 q.0 q.1

  pub typed-ok : (ss : List Scope) (x : Typed) → GlobalsIn gs ss → GoodTy ss x.type → OkTyped gs x
  typed-ok ss x g = pick x.type
    where
      pick : (t : Ty) → GoodTy ss t → seen_v gs (initial (ty_in gs t)) ≡ initial t
      pick integer h = refl
      pick logical h = refl
      pick bits h = refl
      pick (reference c) h = let q = class-at ss c g h in ap (λ z. ref z.name none) (class-of (classes_of gs) (class_number gs c) (class_as c q.fields) q.at-number)

  head_ok : (ss : List Scope) (seen : List ℕ) (ds : List Decl) (Γ : List Around) (Q : List Around → Type 0) → GlobalsIn gs ss → GoodHead ss seen ds
      → ((Δ : List Around) → Entered AnyCell of_block ds Γ Δ → Q Δ) → OkHead gs ds Γ Q
  unfolding GoodHead Entered OkHead
  head_ok ss seen [] Γ Q g h f = f Γ refl
  head_ok ss seen (declare x ∷ ds) Γ Q g h f = (typed-ok ss x g h.1, λ c. head_ok ss (x.name ∷ seen) ds (bound x.name c ∷ Γ) Q g h.2 (λ Δ e. f Δ (c, tt, e)))
  head_ok ss seen (holding q ∷ ds) Γ Q g h f = head_ok ss seen ds (held q ∷ Γ) Q g h f

  module _ (rs : List Scope) (whole : GoodGlobals rs [] gs) where
    field-at : (ss : List Scope) (a c : ℕ) (t : Ty) → GlobalsIn gs ss → IsA a ss (is_field c t) → FieldFound gs [] 0 a c t
    field-at ss a c t g k = let q = g a (is_field c t) k.0 tt k.1 in field_found gs rs [] 0 a c t q.0 whole q.1

    field-ok : (ss : List Scope) (a c : ℕ) (t : Ty) → GlobalsIn gs ss → IsA a ss (is_field c t) → OkField gs a (field_number gs a).class (field_number gs a).index
    field-ok ss a c t g k =
        let q = field-at ss a c t g k in let z = q.its-class in
        let e : (field_number gs a).class ≡ class_number gs c = omega arith in
        let i : (field_number gs a).index ≡ index_of a (names_of q.fields) = q.its-index in
        let f : (class_of (classes_of gs) (field_number gs a).class).fields ≡ q.fields = ap (λ n. (class_of (classes_of gs) n).fields) e
        ∙ ap (λ x. x.fields) (class-of (classes_of gs) (class_number gs c) (class_as c q.fields) q.at-number) in
        rw (f, i) (λ ws w h. field-there gs a q.fields ws w q.there h)

    integer-type : (Γ : List Around) (e : Expr) → HasTy (scopes_of Γ) e integer → ty_e gs Γ e ≡ integer
    integer-type Γ e h = ap (λ o. ty_in gs (or_integer o)) h

    mutual
      unfolding GoodS OkS

      pub named-S : (s : Stmt) (Γ : List Around) → Inside AnyCell gs Γ → Reached Γ → GoodS (scopes_of Γ) s → OkS gs s Γ
      named-S (block ds is) Γ k r g =
          head_ok (block_of ds is ∷ scopes_of Γ) [] ds (inside (block_of ds is) ∷ Γ) (λ Δ. (x : ℕ) → OkItems gs is (labels is x ∷ Δ)) (globals-block gs ds is (scopes_of Γ) k.globals) g.0
          (λ Δ e x. named-items is (labels is x ∷ Δ) (in-labels AnyCell gs is x Δ
          (in_block AnyCell gs ds is Γ Δ (block_of ds is ∷ scopes_of Γ) g.0 e k)) (reached-block AnyCell ds is x Γ Δ e r)
          (good-inside AnyCell gs (block_of ds is) ds is x Γ Δ e g.1))
      named-S (assign x e) Γ k r g = (named-target x Γ k g.0, named-E e Γ k g.1)
      named-S (when e s) Γ k r g = (named-E e Γ k g.0, named-S s Γ k r g.2)
      named-S (choose e s t) Γ k r g = (named-E e Γ k g.0, named-S s Γ k r g.2, named-S t Γ k r g.3)
      named-S (while e s) Γ k r g = (named-E e Γ k g.0, named-S s Γ k r g.2)
      named-S (goto a) Γ k r g = r a g
      named-S (assert e) Γ k r g = named-E e Γ k g.0
      named-S (call a es) Γ k r g =
          let q = k.globals a (is_procedure g.1.0 []) g.1.1.0 tt g.1.1.1 in let f = procedure-found gs a g.1.0 [] q.0 q.1 in (
            f.its,
            f.in_tree,
            is-proper f.its.body f.gives-types,
            types-count (scopes_of Γ) es g.1.0 g.1.2
                ∙ ap length (sym f.takes-types) ∙ types-length f.its.parameters,
            named-Es es Γ k g.0,
          )
      named-S (set_level e f) Γ k r g = (named-E e Γ k g.0, named-E f Γ k g.2)
      named-S (select e rs) Γ k r g = (named-E e Γ k g.0, named-arms rs Γ k r g.2)
      named-S (for a e f w s) Γ k r g = (
        named-E e Γ k g.0,
        named-E f Γ k g.2,
        named-E w Γ k g.4,
        integer-type Γ e g.1,
        integer-type Γ f g.3,
        integer-type Γ w g.5,
        λ c. named-S s (bound a c ∷ inside (loop_of a) ∷ Γ) (in-loop AnyCell gs a c Γ tt k) (reached-loop a c Γ r) (good_turn a c s Γ g.6),
      )

      pub named-items : (is : Items) (Γ : List Around) → Inside AnyCell gs Γ → Reached Γ → GoodItems (scopes_of Γ) is → OkItems gs is Γ
      named-items no_item Γ k r g = tt
      named-items (label a is) Γ k r g = named-items is Γ k r g
      named-items (item s is) Γ k r g = (named-S s Γ k r g.0, named-items is Γ k r g.1)

      named-arms : (rs : Arms) (Γ : List Around) → Inside AnyCell gs Γ → Reached Γ → GoodArms (scopes_of Γ) rs → OkArms gs rs Γ
      named-arms (last_arm s) Γ k r g = named-S s Γ k r g
      named-arms (arm s rs) Γ k r g = (named-S s Γ k r g.0, named-arms rs Γ k r g.1)

      named-target : (x : Target) (Γ : List Around) → Inside AnyCell gs Γ → GoodTarget (scopes_of Γ) x → OkTarget gs x Γ
      named-target (to_variable a) Γ k g = let q = k.known a (is_variable g.0) g.0 g.1.0 refl g.1.1 in (q.0.0, q.0.1, q.0.2, q.1 refl)
      named-target (to_field a e) Γ k g = (named-E e Γ k g.0, field-ok (scopes_of Γ) a g.1.0 g.1.1 k.globals g.1.2)

      pub named-E : (e : Expr) (Γ : List Around) → Inside AnyCell gs Γ → GoodE (scopes_of Γ) e → OkE gs e Γ
      named-E (number z) Γ k g = tt
      named-E (truth b) Γ k g = tt
      named-E (pattern z) Γ k g = tt
      named-E (null c) Γ k g = typed-ok (scopes_of Γ) (record { name = 0; type = reference c }) k.globals g
      named-E (variable a) Γ k g = let q = k.known a g.1.0 g.0 g.1.2.0 g.1.1 g.1.2.1 in (q.0.0, q.0.1, q.0.2)
      named-E (invoke a es) Γ k g =
          let q = k.globals a (is_procedure g.1.0 (g.1.1 ∷ [])) g.1.2.0 tt g.1.2.1 in let f = procedure-found gs a g.1.0 (g.1.1 ∷ []) q.0 q.1 in (
            f.its,
            f.in_tree,
            is-function f.its.body g.1.1 f.gives-types,
            types-count (scopes_of Γ) es g.1.0 g.1.3
                ∙ ap length (sym f.takes-types) ∙ types-length f.its.parameters,
            named-Es es Γ k g.0,
          )
      named-E (field a e) Γ k g = (named-E e Γ k g.0, field-ok (scopes_of Γ) a g.1.0 g.1.1 k.globals g.1.2)
      named-E (make c es) Γ k g =
          let q = k.globals c (is_class g.1.0) g.1.1.0 tt g.1.1.1 in let f = class-found gs c g.1.0 q.0 q.1 in
          let h = class-of (classes_of gs) (class_number gs c) (class_as c f.fields) f.at-number in (
            named-Es es Γ k g.0,
            (
              f.fields,
              f.in_tree,
              types-count (scopes_of Γ) es g.1.0 g.1.2 ∙ ap length (sym f.its-types)
                  ∙ types-length f.fields,
              ap (λ x. x.name) h,
              ap (λ x. x.fields) h,
            ),
          )
      named-E (operate1 o e) Γ k g = named-E e Γ k g.0
      named-E (operate2 o e f) Γ k g = (named-E e Γ k g.0, named-E f Γ k g.1)
      named-E (conditional e f w) Γ k g = (named-E e Γ k g.0, named-E f Γ k g.2, named-E w Γ k g.3)
      named-E (fader e) Γ k g = named-E e Γ k g.0
      named-E (block_expr ds is v) Γ k g =
          head_ok (expression_of ds is ∷ scopes_of Γ) [] ds (inside (expression_of ds is) ∷ Γ)
          (λ Δ. ((x : ℕ) → OkItems gs is (labels is x ∷ Δ)) × OkE gs v Δ) (globals-expression gs ds is (scopes_of Γ) k.globals) g.0
          (λ Δ e. let k' = in-expression AnyCell gs ds is Γ Δ (expression_of ds is ∷ scopes_of Γ) g.0 e k in (
            (λ x. named-items is (labels is x ∷ Δ) (in-labels AnyCell gs is x Δ k') (reached-expression AnyCell ds is x Γ Δ e) (good-inside AnyCell gs (expression_of ds is) ds is x Γ Δ e g.1)),
            named-E v Δ k' (good-value AnyCell gs (expression_of ds is) ds v Γ Δ e g.2),
          ))

      named-Es : (es : Exprs) (Γ : List Around) → Inside AnyCell gs Γ → GoodEs (scopes_of Γ) es → OkEs gs es Γ
      named-Es no_expr Γ k g = tt
      named-Es (expr e es) Γ k g = (named-E e Γ k g.0, named-Es es Γ k g.1)
