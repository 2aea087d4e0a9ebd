-- The root and the procedures: what lies around their bodies is in order for the simulation.
use Rattle.std.specs.Prelude.{Bool, ◌≡◌, ℕ, eqb}
use Rattle.std.proofs.Math.Bool.{true, false}
use Rattle.std.proofs.Math.Path.{refl, sym, subst}
use Rattle.std.proofs.Common.{◌∙◌, arith}
use mathlib.Core.List.{List, [], ◌∷◌, ◌++◌}
use Rattle.logic.specs.Choice.{If◌then◌else◌}
use Rattle.values.specs.Types.{Ty}
use Rattle.language.specs.Tree.{Typed, declare, holding, Global, local, class, procedure, Tree, locals}
use Rattle.language.specs.Names.{Sort, is_variable, is_label, is_class, is_field, is_procedure, Definition, types, results, defines_head, defines_fields, defines_globals}
use Rattle.language.specs.Names.{procedure_of, root_of, Found, nowhere, found, first_of, otherwise, across, lookup, defines_typed, defines_items}
use Rattle.language_laws.specs.Lookup.{lookup-procedure}
use Rattle.language_laws.proofs.Unchanged.{lookup-root}
use Rattle.bytecode.specs.Instructions.{Owner}
use Rattle.logic.specs.Tests.{never}
use Rattle.compile_code.specs.Compile.{Around, inside, labels, scopes_of, has_label}
use Rattle.compile_code.specs.Compile.{cell_of as kept_of}
use Rattle.compile_code.specs.Encode.{parameter_cells, start_of_root}
use Rattle.compile_simulation.specs.Placed.{Free}
use Rattle.compile_simulation.specs.Blocks.{GotoOk}
use Rattle.compile_names.specs.Known.{Style, Entered, entered-scopes, entered-new, entered-free, Has, Known, Given, known-procedure, scopes-parameters, outer, first-append, nothing}
use Rattle.compile_names.specs.Known.{no-label-variable}
use Rattle.compile_names.specs.Labels.{Reached, here-or, has-label}
use Rattle.compile_names.specs.Globals.{GoodGlobals, GlobalsIn, globals-root, globals-procedure, variable-found, good-locals}
use Rattle.compile_names.specs.Inside.{Inside}

-- ── no label is defined by a head ──
label-not : (a b : ℕ) (s : Sort) (w : Bool) (f : Found) → ((s ≡ is_label) → ⊥) → (If eqb b a then found s false else f) ≡ found is_label w → f ≡ found is_label w
label-not a b s w f n h = pick (eqb b a) h
  where
    pick : (t : Bool) → (If t then found s false else f) ≡ found is_label w → f ≡ found is_label w
    pick true k = let z : s ≡ is_label = cc k in absurd (n z)
    pick false k = k

no-label-typed : (xs : List Typed) (a : ℕ) → first_of a (defines_typed xs) ≡ found is_label false → ⊥
unfolding first_of defines_typed
no-label-typed [] a h = nothing is_label false h
no-label-typed (x ∷ xs) a h = no-label-typed xs a (label-not a x.name (is_variable x.type) false (first_of a (defines_typed xs)) (λ e. let z : ◌≡◌ {A = ℕ} 0 1 = cc e in omega arith) h)

no-label-fields : (c : ℕ) (xs : List Typed) (ds : List Definition) (a : ℕ) → first_of a (defines_fields c xs ++ ds) ≡ found is_label false → first_of a ds ≡ found is_label false
unfolding first_of defines_fields
no-label-fields c [] ds a h = h
no-label-fields c (x ∷ xs) ds a h =
    no-label-fields c xs ds a (label-not a x.name (is_field c x.type) false (first_of a (defines_fields c xs ++ ds))
    (λ e. let z : ◌≡◌ {A = ℕ} 0 1 = cc e in omega arith) h)

no-label-root : (gs : List Global) (a : ℕ) → first_of a (defines_globals gs) ≡ found is_label false → ⊥
unfolding first_of defines_globals defines_head
no-label-root [] a h = nothing is_label false h
no-label-root (local (declare x) ∷ gs) a h =
    no-label-root gs a (label-not a x.name (is_variable x.type) false (first_of a (defines_globals gs)) (λ e. let z : ◌≡◌ {A = ℕ} 0 1 = cc e in omega arith) h)
no-label-root (local (holding g) ∷ gs) a h = no-label-root gs a h
no-label-root (class c xs ∷ gs) a h =
    no-label-root gs a (no-label-fields c xs (defines_globals gs) a (label-not a c (is_class (types xs)) false
    (first_of a (defines_fields c xs ++ defines_globals gs)) (λ e. let z : ◌≡◌ {A = ℕ} 0 1 = cc e in omega arith) h))
no-label-root (procedure b xs d ∷ gs) a h =
    no-label-root gs a (label-not a b (is_procedure (types xs) (results d)) false (first_of a (defines_globals gs)) (λ e. let z : ◌≡◌ {A = ℕ} 0 1 = cc e in omega arith) h)

-- ── names of the root ──
module _ (P : Owner → ℕ → Ty → Type 0) (t : Tree) (whole : GoodGlobals (root_of t ∷ []) [] t.head) where
  known-root : (S : Style) (Δ : List Around) → ((a : ℕ) → kept_of a Δ ≡ S.look a Δ) → Entered P S (locals t.head) (start_of_root t) Δ → Known P Δ
  unfolding scopes_of Free
  known-root S Δ same e a s u w v h =
      let q = outer (defines_globals t.head) t.items a s w nowhere (no-label-variable s u w v)
      (sym (lookup-root a _) ∙ subst (λ ss. lookup a ss ≡ found s w) (entered-scopes P S (locals t.head) (start_of_root t) Δ e) h)
      (first_of a (defines_globals t.head) ≡ found s w) (λ z. z) (λ n z. nothing s w z) in (
        subst (λ z. Has P z u) (sym (same a)) (entered-new P S (locals t.head) (start_of_root t) Δ a s u w (root_of t ∷ []) [] v e
            (good-locals t.head (root_of t ∷ []) [] [] (λ b z. z) whole) (variable-found t.head a s u w v q)),
        λ z. entered-free P S (locals t.head) (start_of_root t) Δ a e tt (λ n. tt),
      )

  pub inside-root : (S : Style) (Δ : List Around) → ((a : ℕ) → kept_of a Δ ≡ S.look a Δ) → Entered P S (locals t.head) (start_of_root t) Δ → Inside P t.head Δ
  unfolding scopes_of
  inside-root S Δ same e = record {
    known = known-root S Δ same e;
    globals = subst (λ ss. GlobalsIn t.head ss) (sym (entered-scopes P S (locals t.head) (start_of_root t) Δ e)) (globals-root t);
  }

  -- every label of the root is reached
  pub reached-root : (S : Style) (Δ : List Around) (x : ℕ) → Entered P S (locals t.head) (start_of_root t) Δ → Reached (labels t.items x ∷ Δ)
  unfolding scopes_of GotoOk
  reached-root S Δ x e a h =
      let h' : otherwise (first_of a (defines_globals t.head ++ defines_items t.items)) nowhere ≡ found is_label false =
      sym (lookup-root a _) ∙ subst (λ ss. lookup a ss ≡ found is_label false) (entered-scopes P S (locals t.head) (start_of_root t) Δ e) h in
      here-or (has_label a t.items) (GotoOk true Δ a) (λ n. absurd (pick (first_of a (defines_globals t.head)) refl (first_of a (defines_items t.items)) refl n
      (subst (λ z. otherwise z nowhere ≡ found is_label false) (first-append a (defines_globals t.head) (defines_items t.items)) h')))
    where
      pick : (u : Found) → first_of a (defines_globals t.head) ≡ u → (v : Found) → first_of a (defines_items t.items) ≡ v
          → has_label a t.items ≡ false → otherwise (otherwise u v) nowhere ≡ found is_label false → ⊥
      pick nowhere p nowhere q n k = nothing is_label false k
      pick nowhere p (found s w) q n k = never (sym n ∙ has-label a t.items s w q)
      pick (found s w) p v q n k = no-label-root t.head a (p ∙ k)

  -- a procedure: no goto leaves it
  pub reached-procedure : (xs : List Typed) (Γ : List Around) → Reached (parameter_cells xs 0 (inside (procedure_of xs) ∷ Γ))
  unfolding scopes_of
  reached-procedure xs Γ a h =
      absurd (pick (first_of a (defines_typed xs)) refl (lookup a (scopes_of Γ))
      (sym (lookup-procedure a _ (scopes_of Γ)) ∙ subst (λ ss. lookup a ss ≡ found is_label false) (scopes-parameters P xs 0 (inside (procedure_of xs) ∷ Γ)) h))
    where
      pick : (u : Found) → first_of a (defines_typed xs) ≡ u → (f : Found) → otherwise u (across f) ≡ found is_label false → ⊥
      pick nowhere e nowhere k = nothing is_label false k
      pick nowhere e (found s w) k = let z : true ≡ false = cc k in never (sym z)
      pick (found s w) e f k = no-label-typed xs a (e ∙ k)

  pub inside-procedure : (xs : List Typed) (Γ : List Around) → Given P xs 0 → Inside P t.head Γ → Inside P t.head (parameter_cells xs 0 (inside (procedure_of xs) ∷ Γ))
  unfolding scopes_of
  inside-procedure xs Γ g h = record {
    known = known-procedure P xs Γ g h.known;
    globals = subst (λ ss. GlobalsIn t.head ss) (sym (scopes-parameters P xs 0 (inside (procedure_of xs) ∷ Γ))) (globals-procedure t.head xs (scopes_of Γ) h.globals);
  }
