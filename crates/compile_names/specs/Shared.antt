-- The root's variables: what lies around in the root's body, and what the procedures know of it, is as the simulation asks.
use Rattle.std.specs.Prelude.{Bool, true, false, ℕ, suc, ◌+◌, ◌≤◌, ◌<◌, eqb, length}
use Rattle.std.proofs.Math.Path.{◌≡◌, refl, ap, sym}
use Rattle.std.proofs.Common.{◌∙◌, subst}
use mathlib.Core.List.{List, [], ◌∷◌}
use Rattle.std.proofs.Math.Option.{Option, none, some}
use native.Mathlib.Omega.{arith}
use Rattle.logic.specs.Choice.{If◌then◌else◌}
use Rattle.values.specs.Values.{Cell}
use Rattle.language.specs.Tree.{Typed, Decl, declare, holding, Global}
use Rattle.language.specs.Names.{Scope}
use Rattle.language.specs.Execute.{slot}
use Rattle.bytecode.specs.Instructions.{Owner, own, root}
use Rattle.compile_code.specs.Compile.{Around, inside, outermost, global, held, held_in, bound_at, global_at, kept, or_cell}
use Rattle.compile_code.specs.Compile.{Cell as Kept, cell_of as kept_of}
use Rattle.compile_code.specs.Encode.{root_variables, parameter_cells}
use Rattle.compile_simulation.specs.Meets.{Setting}
use Rattle.compile_simulation.specs.View.{blocks_of, roots_of, seen_c, cell_at, Apart, Distinct, Below, below_apart, below_more}
use Rattle.compile_simulation.specs.Ops.{Owners}
use Rattle.compile_simulation.specs.Placed.{Fit}
use Rattle.compile_simulation.specs.Calls.{Static}
use Rattle.compile_simulation.specs.Root.{OkRoot, at_root}
use Rattle.compile_names.specs.Good.{GoodHead}
use Rattle.compile_names.specs.Known.{of_root, of_shared, Entered, Given}
use Rattle.compile_names.specs.Globals.{GlobalsIn}
use Rattle.compile_names.specs.Named.{AnyCell, typed-ok}

module _ (gs : List Global) where
  -- what lies around in the root, and what the procedures know of it
  pub record Alike (Γ Θ : List Around) (n : ℕ) : Type 0 where
    pub distinct : Distinct Γ
    pub below : Below n Γ
    pub owns : (a c : ℕ) (o : Owner) → global_at a Γ ≡ some (kept o c) → o ≡ own
    pub unbound : (a : ℕ) → bound_at a Γ ≡ none
    pub unbound-there : (a : ℕ) → bound_at a Θ ≡ none
    pub shared : (a c : ℕ) (o : Owner) → global_at a Θ ≡ some (kept o c) → (o ≡ root) × (global_at a Γ ≡ some (kept own c))
    pub same-roots : (cs ls ds : List Cell) → roots_of gs Γ cs ls ≡ roots_of gs Θ ds cs
    pub far : (c : ℕ) → n ≤ c → Apart root c Θ
    pub apart : Distinct Θ
    pub few : (k : ℕ) → Below k Θ
    pub no_own : (c : ℕ) → Apart own c Θ
    pub no_block : (cs : List Cell) → blocks_of gs Θ cs ≡ []
    pub no-hold : held_in Θ ≡ []

  pub alike-start : (s : Scope) → Alike (outermost s ∷ []) (outermost s ∷ []) 0
  unfolding Distinct Below global_at bound_at roots_of Apart blocks_of held_in
  alike-start s = record {
    distinct = tt;
    below = tt;
    owns = λ a c o h. let z : ◌≡◌ {A = ℕ} 0 1 = cc h in absurd (omega arith);
    unbound = λ a. refl;
    unbound-there = λ a. refl;
    shared = λ a c o h. let z : ◌≡◌ {A = ℕ} 0 1 = cc h in absurd (omega arith);
    same-roots = λ cs ls ds. refl;
    far = λ c h. tt;
    apart = tt;
    few = λ k. tt;
    no_own = λ c. tt;
    no_block = λ cs. refl;
    no-hold = refl;
  }

  pub alike-declare : (b : ℕ) (Γ Θ : List Around) (n : ℕ) → Alike Γ Θ n → Alike (global own b n ∷ Γ) (global root b n ∷ Θ) (suc n)
  unfolding Distinct Below global_at bound_at roots_of Apart blocks_of held_in
  alike-declare b Γ Θ n h = record {
    distinct = (below_apart n Γ h.below, h.distinct);
    below = (omega arith, below_more n (suc n) Γ (omega arith) h.below);
    owns = λ a c o e. mine (eqb b a) c o e (λ k. h.owns a c o k);
    unbound = h.unbound;
    unbound-there = h.unbound-there;
    shared = λ a c o e. both (eqb b a) c o e (λ k. h.shared a c o k);
    same-roots = λ cs ls ds. ap (λ l. slot b (seen_c gs (cell_at cs n)) ∷ l) (h.same-roots cs ls ds);
    far = λ c e. ((λ q. omega arith), h.far c (omega arith));
    apart = (h.far n (omega arith), h.apart);
    few = h.few;
    no_own = λ c. (tt, h.no_own c);
    no_block = h.no_block;
    no-hold = h.no-hold;
  }
    where
      owner-is : Kept → Owner
      owner-is (kept o c) = o

      number_is : Kept → ℕ
      number_is (kept o c) = c

      mine : {x : Option Kept} (t : Bool) (c : ℕ) (o : Owner) → (If t then some (kept own n) else x) ≡ some (kept o c) → (x ≡ some (kept o c) → o ≡ own) → o ≡ own
      mine true c o e f = let z : kept own n ≡ kept o c = cc e in sym (ap owner-is z)
      mine false c o e f = f e

      both : {x y : Option Kept} (t : Bool) (c : ℕ) (o : Owner) → (If t then some (kept root n) else x) ≡ some (kept o c)
          → (x ≡ some (kept o c) → (o ≡ root) × (y ≡ some (kept own c))) → (o ≡ root) × ((If t then some (kept own n) else y) ≡ some (kept own c))
      both true c o e f = let z : kept root n ≡ kept o c = cc e in (sym (ap owner-is z), ap (λ d. some (kept own d)) (ap number_is z))
      both false c o e f = f e

  pub alike-hold : (g : ℕ) (Γ Θ : List Around) (n : ℕ) → Alike Γ Θ n → Alike (held g ∷ Γ) Θ n
  unfolding Distinct Below global_at bound_at roots_of
  alike-hold g Γ Θ n h = record {
    distinct = h.distinct;
    below = h.below;
    owns = h.owns;
    unbound = h.unbound;
    unbound-there = h.unbound-there;
    shared = h.shared;
    same-roots = h.same-roots;
    far = h.far;
    apart = h.apart;
    few = h.few;
    no_own = h.no_own;
    no_block = h.no_block;
    no-hold = h.no-hold;
  }

  pub root_ok : (ss : List Scope) (seen : List ℕ) (ds : List Decl) (Γ Θ : List Around) (n : ℕ) (Q : List Around → ℕ → Type 0) → GlobalsIn gs ss → GoodHead ss seen ds → Alike Γ Θ n
      → ((Δ : List Around) (n' : ℕ) → Entered AnyCell of_root ds Γ Δ → Alike Δ (root_variables ds n Θ) n' → Q Δ n') → OkRoot gs ds Γ n Q
  unfolding GoodHead Entered OkRoot root_variables
  root_ok ss seen [] Γ Θ n Q g h al f = f Γ n refl al
  root_ok ss seen (declare x ∷ ds) Γ Θ n Q g h al f = (
    typed-ok gs ss x g h.1,
    below_apart n Γ al.below,
    root_ok ss (x.name ∷ seen) ds (global own x.name n ∷ Γ)
        (global root x.name n ∷ Θ) (suc n) Q g h.2 (alike-declare x.name Γ Θ n al) (λ Δ n' e. f Δ n' (n, tt, e)),
  )
  root_ok ss seen (holding q ∷ ds) Γ Θ n Q g h al f = root_ok ss seen ds (held q ∷ Γ) Θ n Q g h (alike-hold q Γ Θ n al) f

  pub alike_all : (ds : List Decl) (Γ Θ : List Around) (n : ℕ) → Alike Γ Θ n → (Δ : List Around) × (n' : ℕ) × Alike Δ (root_variables ds n Θ) n'
  unfolding root_variables
  alike_all [] Γ Θ n al = (Γ, n, al)
  alike_all (declare x ∷ ds) Γ Θ n al = alike_all ds (global own x.name n ∷ Γ) (global root x.name n ∷ Θ) (suc n) (alike-declare x.name Γ Θ n al)
  alike_all (holding q ∷ ds) Γ Θ n al = alike_all ds (held q ∷ Γ) Θ n (alike-hold q Γ Θ n al)

  pub entered-shared : (ds : List Decl) (n : ℕ) (Γ : List Around) → Entered AnyCell of_shared ds Γ (root_variables ds n Γ)
  unfolding Entered root_variables
  entered-shared [] n Γ = refl
  entered-shared (declare x ∷ ds) n Γ = (n, tt, entered-shared ds (suc n) (global root x.name n ∷ Γ))
  entered-shared (holding q ∷ ds) n Γ = entered-shared ds n Γ

  pub kept-global : (a : ℕ) (Γ : List Around) → bound_at a Γ ≡ none → kept_of a Γ ≡ global_at a Γ
  kept-global a Γ h = ap (λ x. or_cell x (global_at a Γ)) h

  pub fit-root : (W : Setting) (Δ : List Around) (n : ℕ) → Alike Δ W.shared-names n → Fit W gs (at_root W gs) Δ n
  fit-root W Δ n h = record {
    distinct = h.distinct;
    below-n = h.below;
    owners = λ a c o e. subst (λ q. Owners [] q) (sym (h.owns a c o (sym (kept-global a Δ (h.unbound a)) ∙ e))) tt;
    stable = λ a c o x cs ls e f k. tt;
    stable-global = λ a c o x cs ls e k. tt;
    roots = λ cs ls ds. h.same-roots cs ls ds;
    shared = h.shared;
    fresh = λ c x cs ls p k. tt;
  }

  -- ── a procedure's parameters ──
  parameters-apart : (xs : List Typed) (n c : ℕ) (Γ : List Around) → c < n → Apart own c Γ → Apart own c (parameter_cells xs n Γ)
  unfolding parameter_cells Apart
  parameters-apart [] n c Γ l h = h
  parameters-apart (x ∷ xs) n c Γ l h = ((λ e. omega arith), parameters-apart xs (suc n) c Γ (omega arith) h)

  parameters-distinct : (xs : List Typed) (n : ℕ) (Γ : List Around) → ((c : ℕ) → Apart own c Γ) → Distinct Γ → Distinct (parameter_cells xs n Γ)
  unfolding parameter_cells Distinct
  parameters-distinct [] n Γ h d = d
  parameters-distinct (x ∷ xs) n Γ h d = (parameters-apart xs (suc n) n Γ (omega arith) (h n), parameters-distinct xs (suc n) Γ h d)

  parameters-below : (xs : List Typed) (n k : ℕ) (Γ : List Around) → n + length xs ≤ k → Below k Γ → Below k (parameter_cells xs n Γ)
  unfolding parameter_cells Below
  parameters-below [] n k Γ l h = h
  parameters-below (x ∷ xs) n k Γ l h = (omega arith, parameters-below xs (suc n) k Γ (omega arith) h)

  pub static : (Γ Θ : List Around) (n : ℕ) (xs : List Typed) (s : Scope) → Alike Γ Θ n → Static gs Θ xs s
  unfolding Distinct Below Apart
  static Γ Θ n xs s h = record {
    apart = parameters-distinct xs 0 (inside s ∷ Θ) h.no_own h.apart;
    few = parameters-below xs 0 (length xs) (inside s ∷ Θ) (omega arith) (h.few (length xs));
    lowest-only = λ cs ds ls. sym (h.same-roots ls [] cs) ∙ h.same-roots ls [] ds;
    no_block = h.no_block;
    no-hold = h.no-hold;
  }

pub any-given : (xs : List Typed) (n : ℕ) → Given AnyCell xs n
unfolding Given
any-given [] n = tt
any-given (x ∷ xs) n = (tt, any-given xs (suc n))
