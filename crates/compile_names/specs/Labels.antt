-- A label that the lookup finds within reach is one that the compiled goto reaches.
use Rattle.std.specs.Prelude.{Bool, ℕ, eqb}
use Rattle.std.proofs.Math.Bool.{true, false}
use Rattle.std.proofs.Math.Path.{◌≡◌, refl, sym, subst}
use Rattle.std.proofs.Common.{◌∙◌, eqb-true, eq-eqb}
use mathlib.Core.List.{List, [], ◌∷◌, ◌++◌}
use native.Mathlib.Omega.{arith}
use Rattle.logic.specs.Choice.{If◌then◌else◌}
use Rattle.language.specs.Tree.{Decl, declare, holding, Items, no_item, label, item}
use Rattle.language.specs.Names.{Sort, is_variable, is_label, is_control, define, loop_of, defines_head, defines_items, block_of, expression_of, Found, nowhere, found, first_of, otherwise, across, lookup}
use Rattle.language_laws.specs.Lookup.{lookup-block, lookup-expression, lookup-loop}
use Rattle.compile_code.specs.Compile.{Around, inside, bound, held, labels, scopes_of, has_label}
use Rattle.compile_simulation.specs.Placed.{LandsAt}
use Rattle.compile_simulation.specs.Blocks.{GotoOk}
use Rattle.values.specs.Types.{Ty}
use Rattle.bytecode.specs.Instructions.{Owner}
use Rattle.compile_names.specs.Known.{of_block, Entered, entered-scopes, first-append}

-- every label in reach is reached
abbrev pub Reached : List Around → Type 0
Reached Γ = (a : ℕ) → lookup a (scopes_of Γ) ≡ found is_label false → GotoOk true Γ a

no_label : (a : ℕ) (ds : List Decl) (w : Bool) → first_of a (defines_head ds) ≡ found is_label w → ⊥
unfolding first_of defines_head
no_label a [] w h = let z : ◌≡◌ {A = ℕ} 0 1 = cc h in omega arith
no_label a (declare x ∷ ds) w h = pick (eqb x.name a) h (no_label a ds w)
  where
    pick : (t : Bool) → (If t then found (is_variable x.type) false else first_of a (defines_head ds)) ≡ found is_label w → (first_of a (defines_head ds) ≡ found is_label w → ⊥) → ⊥
    pick true h f = let z : ◌≡◌ {A = ℕ} 0 1 = cc h in omega arith
    pick false h f = f h
no_label a (holding g ∷ ds) w h = no_label a ds w h

pub has-label : (a : ℕ) (is : Items) (s : Sort) (w : Bool) → first_of a (defines_items is) ≡ found s w → has_label a is ≡ true
unfolding first_of defines_items has_label
has-label a no_item s w h = let z : ◌≡◌ {A = ℕ} 0 1 = cc h in absurd (omega arith)
has-label a (label b is) s w h = pick (eqb b a) refl h (eqb a b) refl (has-label a is s w)
  where
    pick : (t : Bool) → eqb b a ≡ t → (If t then found is_label false else first_of a (defines_items is)) ≡ found s w → (u : Bool) → eqb a b ≡ u
        → (first_of a (defines_items is) ≡ found s w → has_label a is ≡ true) → (If u then true else has_label a is) ≡ true
    pick t e h true v f = refl
    pick true e h false v f = let z : false ≡ true = sym v ∙ eq-eqb a b (sym (eqb-true b a e)) in let y : ◌≡◌ {A = ℕ} 0 1 = cc z in absurd (omega arith)
    pick false e h false v f = f h
has-label a (item x is) s w h = has-label a is s w h

pub here-or : (b : Bool) (P : Type 0) → (b ≡ false → P) → LandsAt b (Unit {0}) P
here-or true P f = tt
here-or false P f = f refl

module _ (P : Owner → ℕ → Ty → Type 0) where
  entered-goto : (ds : List Decl) (Γ Δ : List Around) (a : ℕ) → Entered P of_block ds Γ Δ → ((exact : Bool) → GotoOk exact Γ a) → (exact : Bool) → GotoOk exact Δ a
  unfolding Entered GotoOk
  entered-goto [] Γ Δ a e h exact = rw e (h exact)
  entered-goto (declare x ∷ ds) Γ Δ a e h exact = entered-goto ds (bound x.name e.0 ∷ Γ) Δ a e.2 (λ b. h false) exact
  entered-goto (holding g ∷ ds) Γ Δ a e h exact = entered-goto ds (held g ∷ Γ) Δ a e h exact

  pub reached-block : (ds : List Decl) (is : Items) (x : ℕ) (Γ Δ : List Around) → Entered P of_block ds (inside (block_of ds is) ∷ Γ) Δ → Reached Γ → Reached (labels is x ∷ Δ)
  unfolding scopes_of GotoOk
  reached-block ds is x Γ Δ e r a h = here-or (has_label a is) (GotoOk true Δ a) (λ n.
      let h' : otherwise (first_of a (defines_head ds ++ defines_items is)) (lookup a (scopes_of Γ)) ≡ found is_label false =
      sym (lookup-block a _ (scopes_of Γ)) ∙ subst (λ ss. lookup a ss ≡ found is_label false) (entered-scopes P of_block ds (inside (block_of ds is) ∷ Γ) Δ e) h in
      entered-goto ds (inside (block_of ds is) ∷ Γ) Δ a e (λ b. r a (pick (first_of a (defines_head ds)) refl (first_of a (defines_items is)) refl n
      (subst (λ z. otherwise z (lookup a (scopes_of Γ)) ≡ found is_label false) (first-append a (defines_head ds) (defines_items is)) h'))) true)
    where
      pick : (u : Found) → first_of a (defines_head ds) ≡ u → (v : Found) → first_of a (defines_items is) ≡ v → has_label a is ≡ false
          → otherwise (otherwise u v) (lookup a (scopes_of Γ)) ≡ found is_label false → lookup a (scopes_of Γ) ≡ found is_label false
      pick nowhere p nowhere q n h = h
      pick nowhere p (found s w) q n h = let z : false ≡ true = sym n ∙ has-label a is s w q in let y : ◌≡◌ {A = ℕ} 0 1 = cc z in absurd (omega arith)
      pick (found s w) p v q n h = absurd (no_label a ds false (p ∙ h))

  pub reached-expression : (ds : List Decl) (is : Items) (x : ℕ) (Γ Δ : List Around) → Entered P of_block ds (inside (expression_of ds is) ∷ Γ) Δ → Reached (labels is x ∷ Δ)
  unfolding scopes_of GotoOk
  reached-expression ds is x Γ Δ e a h = here-or (has_label a is) (GotoOk true Δ a) (λ n.
      let h' : otherwise (first_of a (defines_head ds ++ defines_items is)) (across (lookup a (scopes_of Γ))) ≡ found is_label false =
      sym (lookup-expression a _ (scopes_of Γ)) ∙ subst (λ ss. lookup a ss ≡ found is_label false) (entered-scopes P of_block ds (inside (expression_of ds is) ∷ Γ) Δ e) h in
      absurd (pick (first_of a (defines_head ds)) refl (first_of a (defines_items is)) refl (lookup a (scopes_of Γ)) n
      (subst (λ z. otherwise z (across (lookup a (scopes_of Γ))) ≡ found is_label false) (first-append a (defines_head ds) (defines_items is)) h')))
    where
      pick : (u : Found) → first_of a (defines_head ds) ≡ u → (v : Found) → first_of a (defines_items is) ≡ v → (f : Found) → has_label a is ≡ false
          → otherwise (otherwise u v) (across f) ≡ found is_label false → ⊥
      pick nowhere p nowhere q nowhere n h = let z : ◌≡◌ {A = ℕ} 0 1 = cc h in omega arith
      pick nowhere p nowhere q (found s w) n h = let z : true ≡ false = cc h in let y : ◌≡◌ {A = ℕ} 0 1 = cc z in omega arith
      pick nowhere p (found s w) q f n h = let z : false ≡ true = sym n ∙ has-label a is s w q in let y : ◌≡◌ {A = ℕ} 0 1 = cc z in omega arith
      pick (found s w) p v q f n h = no_label a ds false (p ∙ h)

-- a goto passes the for clause
pub reached-loop : (b c : ℕ) (Γ : List Around) → Reached Γ → Reached (bound b c ∷ inside (loop_of b) ∷ Γ)
unfolding scopes_of GotoOk first_of
reached-loop b c Γ r a h = r a (pick (eqb b a) (sym (lookup-loop a (define b is_control) (scopes_of Γ)) ∙ h))
  where
    pick : (t : Bool) → otherwise (If t then found is_control false else nowhere) (lookup a (scopes_of Γ)) ≡ found is_label false → lookup a (scopes_of Γ) ≡ found is_label false
    pick true q = let z : ◌≡◌ {A = ℕ} 0 1 = cc q in absurd (omega arith)
    pick false q = q
