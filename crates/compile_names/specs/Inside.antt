-- What is known of the names at a place, kept by entering blocks and block expressions.
use Rattle.std.specs.Prelude.{◌≡◌, List, [], ◌∷◌, ℕ}
use Rattle.std.proofs.Common.{sym}
use Rattle.std.proofs.Math.Path.{subst}
use Rattle.values.specs.Types.{Ty, integer}
use Rattle.language.specs.Tree.{Decl, Items, Global, Expr, Stmt}
use Rattle.language.specs.Names.{Scope, block_of, expression_of, loop_of}
use Rattle.bytecode.specs.Instructions.{Owner, own}
use Rattle.compile_code.specs.Compile.{Around, inside, bound, labels, scopes_of}
use Rattle.compile_names.specs.Good.{GoodHead, GoodItems, GoodE, GoodS}
use Rattle.compile_names.specs.Known.{Known, of_block, Entered, entered-scopes, known-block, known-expression, known-loop, known-labels}
use Rattle.compile_names.specs.Globals.{GlobalsIn, globals-block, globals-expression, globals-loop}

module _ (P : Owner → ℕ → Ty → Type 0) (gs : List Global) where
  pub record Inside (Γ : List Around) : Type 0 where
    pub known : Known P Γ
    pub globals : GlobalsIn gs (scopes_of Γ)

  pub block-scopes : (s : Scope) (ds : List Decl) (Γ Δ : List Around) → Entered P of_block ds (inside s ∷ Γ) Δ → scopes_of Δ ≡ s ∷ scopes_of Γ
  unfolding scopes_of
  block-scopes s ds Γ Δ e = entered-scopes P of_block ds (inside s ∷ Γ) Δ e

  pub in-labels : (is : Items) (x : ℕ) (Γ : List Around) → Inside Γ → Inside (labels is x ∷ Γ)
  unfolding scopes_of
  in-labels is x Γ h = record { known = known-labels P is x Γ h.known; globals = h.globals }

  pub in_block : (ds : List Decl) (is : Items) (Γ Δ : List Around) (ss : List Scope) → GoodHead ss [] ds → Entered P of_block ds (inside (block_of ds is) ∷ Γ) Δ → Inside Γ → Inside Δ
  in_block ds is Γ Δ ss g e h = record {
    known = known-block P ds is Γ Δ ss g e h.known;
    globals = subst (λ z. GlobalsIn gs z) (sym (block-scopes (block_of ds is) ds Γ Δ e)) (globals-block gs ds is (scopes_of Γ) h.globals);
  }

  pub in-expression : (ds : List Decl) (is : Items) (Γ Δ : List Around) (ss : List Scope) → GoodHead ss [] ds → Entered P of_block ds (inside (expression_of ds is) ∷ Γ) Δ → Inside Γ → Inside Δ
  in-expression ds is Γ Δ ss g e h = record {
    known = known-expression P ds is Γ Δ ss g e h.known;
    globals = subst (λ z. GlobalsIn gs z) (sym (block-scopes (expression_of ds is) ds Γ Δ e)) (globals-expression gs ds is (scopes_of Γ) h.globals);
  }

  pub in-loop : (a c : ℕ) (Γ : List Around) → P own c integer → Inside Γ → Inside (bound a c ∷ inside (loop_of a) ∷ Γ)
  unfolding scopes_of
  in-loop a c Γ p h = record { known = known-loop P a c Γ p h.known; globals = globals-loop gs a (scopes_of Γ) h.globals }

  pub good-inside : (s : Scope) (ds : List Decl) (is : Items) (x : ℕ) (Γ Δ : List Around) → Entered P of_block ds (inside s ∷ Γ) Δ
      → GoodItems (s ∷ scopes_of Γ) is → GoodItems (scopes_of (labels is x ∷ Δ)) is
  unfolding scopes_of
  good-inside s ds is x Γ Δ e g = subst (λ z. GoodItems z is) (sym (block-scopes s ds Γ Δ e)) g

  pub good-value : (s : Scope) (ds : List Decl) (v : Expr) (Γ Δ : List Around) → Entered P of_block ds (inside s ∷ Γ) Δ → GoodE (s ∷ scopes_of Γ) v → GoodE (scopes_of Δ) v
  good-value s ds v Γ Δ e g = subst (λ z. GoodE z v) (sym (block-scopes s ds Γ Δ e)) g

-- the statement of a loop
pub good_turn : (a c : ℕ) (s : Stmt) (Γ : List Around) → GoodS (loop_of a ∷ scopes_of Γ) s → GoodS (scopes_of (bound a c ∷ inside (loop_of a) ∷ Γ)) s
unfolding scopes_of
good_turn a c s Γ g = g
