-- A variable or control name that the lookup of the definitions finds has a cell in what lies around, of which P holds, and a variable may be assigned to:
-- kept by entering a block or a loop.
use Rattle.std.specs.Prelude.{Bool, ℕ, suc}
use Rattle.std.proofs.Math.Bool.{true, false}
use Rattle.std.proofs.Math.Path.{◌≡◌, refl, ap, subst}
use Rattle.std.proofs.Common.{sym, ◌∙◌, arith, eqb-true, eq-eqb}
use mathlib.Core.List.{List, [], ◌∷◌, ◌++◌}
use Rattle.std.proofs.Math.Option.{Option, some}
use Rattle.std.proofs.Math.Dec.{eqb}
use Rattle.logic.specs.Lists.{among}
use Rattle.logic.specs.Choice.{If◌then◌else◌}
use Rattle.values.specs.Types.{Ty, integer}
use Rattle.language.specs.Tree.{Typed, Decl, declare, holding, Items, no_item, label, item}
use Rattle.language.specs.Names.{Sort, is_variable, is_label, is_class, is_field, is_procedure, is_control, as_variable, Definition, define, defines_typed, defines_head, defines_items, Scope}
use Rattle.language.specs.Names.{block_of, expression_of, procedure_of, loop_of, Found, nowhere, found, first_of, otherwise, across, lookup}
use Rattle.language_laws.specs.Lookup.{lookup-block, lookup-expression, lookup-procedure, lookup-loop}
use Rattle.bytecode.specs.Instructions.{Owner, own, root}
use Rattle.logic.specs.Tests.{never, or_left, or_right}
use Rattle.compile_code.specs.Compile.{Around, inside, bound, global, held, labels, scopes_of, bound_at, global_at, kept, or_cell}
use Rattle.compile_code.specs.Compile.{Cell as Kept, cell_of as kept_of}
use Rattle.compile_code.specs.Encode.{parameter_cells}
use Rattle.language.specs.Faults.{variable_ty}
use Rattle.compile_simulation.specs.Placed.{LandsAt, NoLoop, Free}
use Rattle.compile_names.specs.Good.{GoodHead}

-- how the variables of a head are known inside, and how they are looked up
pub record Style : Type 0 where
  pub owner : Owner
  pub name : ℕ → ℕ → Around
  pub hold : ℕ → List Around → List Around
  pub look : ℕ → List Around → Option Kept
  pub look-name : (a b c : ℕ) (Γ : List Around) → look a (name b c ∷ Γ) ≡ (If eqb b a then some (kept owner c) else look a Γ)
  pub look-hold : (a g : ℕ) (Γ : List Around) → look a (hold g Γ) ≡ look a Γ
  pub scopes-name : (b c : ℕ) (Γ : List Around) → scopes_of (name b c ∷ Γ) ≡ scopes_of Γ
  pub scopes-hold : (g : ℕ) (Γ : List Around) → scopes_of (hold g Γ) ≡ scopes_of Γ
  pub free-name : (a b c : ℕ) (Γ : List Around) → NoLoop Γ → (eqb b a ≡ false → Free a Γ) → Free a (name b c ∷ Γ)
  pub free-hold : (a g : ℕ) (Γ : List Around) → Free a Γ → Free a (hold g Γ)
  pub clear-name : (b c : ℕ) (Γ : List Around) → NoLoop (name b c ∷ Γ)
  pub clear-hold : (g : ℕ) (Γ : List Around) → NoLoop Γ → NoLoop (hold g Γ)

pub bound-look : (a b c : ℕ) (Γ : List Around) → kept_of a (bound b c ∷ Γ) ≡ (If eqb b a then some (kept own c) else kept_of a Γ)
unfolding bound_at global_at
bound-look a b c Γ = pick (eqb b a)
  where
    pick : (t : Bool) → or_cell (If t then some (kept own c) else bound_at a Γ) (global_at a Γ) ≡ (If t then some (kept own c) else or_cell (bound_at a Γ) (global_at a Γ))
    pick true = refl
    pick false = refl

pub held-look : (a g : ℕ) (Γ : List Around) → kept_of a (held g ∷ Γ) ≡ kept_of a Γ
unfolding bound_at global_at
held-look a g Γ = refl

pub bound-scopes : (b c : ℕ) (Γ : List Around) → scopes_of (bound b c ∷ Γ) ≡ scopes_of Γ
unfolding scopes_of
bound-scopes b c Γ = refl

pub held-scopes : (g : ℕ) (Γ : List Around) → scopes_of (held g ∷ Γ) ≡ scopes_of Γ
unfolding scopes_of
held-scopes g Γ = refl

pub global-look : (o : Owner) (a b c : ℕ) (Γ : List Around) → global_at a (global o b c ∷ Γ) ≡ (If eqb b a then some (kept o c) else global_at a Γ)
unfolding global_at
global-look o a b c Γ = refl

pub held-global : (a g : ℕ) (Γ : List Around) → global_at a (held g ∷ Γ) ≡ global_at a Γ
unfolding global_at
held-global a g Γ = refl

pub global-scopes : (o : Owner) (b c : ℕ) (Γ : List Around) → scopes_of (global o b c ∷ Γ) ≡ scopes_of Γ
unfolding scopes_of
global-scopes o b c Γ = refl

pub bound-free : (a b c : ℕ) (Γ : List Around) → NoLoop Γ → (eqb b a ≡ false → Free a Γ) → Free a (bound b c ∷ Γ)
unfolding Free
bound-free a b c Γ n f = pick (eqb b a) f
  where
    pick : (t : Bool) → (t ≡ false → Free a Γ) → LandsAt t (NoLoop Γ) (Free a Γ)
    pick true g = n
    pick false g = g refl

pub global-free : (o : Owner) (a b c : ℕ) (Γ : List Around) → NoLoop Γ → (eqb b a ≡ false → Free a Γ) → Free a (global o b c ∷ Γ)
unfolding Free
global-free o a b c Γ n f = tt

pub held-free : (a g : ℕ) (Γ : List Around) → Free a Γ → Free a (held g ∷ Γ)
unfolding Free
held-free a g Γ f = f

-- in a block or block expression; in the root; the root's variables in a procedure
abbrev pub of_block : Style
of_block = record {
  owner = own;
  name = bound;
  hold = λ g Γ. held g ∷ Γ;
  look = λ a Γ. kept_of a Γ;
  look-name = bound-look;
  look-hold = held-look;
  scopes-name = bound-scopes;
  scopes-hold = held-scopes;
  free-name = bound-free;
  free-hold = held-free;
  clear-name = λ b c Γ. tt;
  clear-hold = λ g Γ n. tt;
}

abbrev pub of_root : Style
of_root = record {
  owner = own;
  name = global own;
  hold = λ g Γ. held g ∷ Γ;
  look = λ a Γ. global_at a Γ;
  look-name = global-look own;
  look-hold = held-global;
  scopes-name = global-scopes own;
  scopes-hold = held-scopes;
  free-name = global-free own;
  free-hold = held-free;
  clear-name = λ b c Γ. tt;
  clear-hold = λ g Γ n. tt;
}

abbrev pub of_shared : Style
of_shared = record {
  owner = root;
  name = global root;
  hold = λ g Γ. Γ;
  look = λ a Γ. global_at a Γ;
  look-name = global-look root;
  look-hold = λ a g Γ. refl;
  scopes-name = global-scopes root;
  scopes-hold = λ g Γ. refl;
  free-name = global-free root;
  free-hold = λ a g Γ f. f;
  clear-name = λ b c Γ. tt;
  clear-hold = λ g Γ n. n;
}

-- ── names of a head stand in it once ──

pub not-again : (a : ℕ) (ss : List Scope) (seen : List ℕ) (ds : List Decl) → GoodHead ss seen ds → among a seen ≡ true → first_of a (defines_head ds) ≡ nowhere
unfolding GoodHead defines_head first_of among
not-again a ss seen [] g h = refl
not-again a ss seen (declare x ∷ ds) g h = pick (eqb x.name a) refl (not-again a ss (x.name ∷ seen) ds g.2 (or_right (eqb a x.name) (among a seen) h))
  where
    pick : (t : Bool) → eqb x.name a ≡ t → first_of a (defines_head ds) ≡ nowhere → (If t then found (is_variable x.type) false else first_of a (defines_head ds)) ≡ nowhere
    pick true e f = never (sym g.0 ∙ subst (λ z. among z seen ≡ true) (sym (eqb-true x.name a e)) h)
    pick false e f = f
not-again a ss seen (holding q ∷ ds) g h = not-again a ss seen ds g h

-- ── entering ──
some-type : {t u : Ty} → some t ≡ some u → t ≡ u
some-type h = cc h

pub nothing : {A : Type 0} (s : Sort) (w : Bool) → nowhere ≡ found s w → A
nothing s w h = let z : ◌≡◌ {A = ℕ} 0 1 = cc h in absurd (omega arith)

module _ (P : Owner → ℕ → Ty → Type 0) where
  -- a cell for a variable of type t
  abbrev pub Has : Option Kept → Ty → Type 0
  Has k t = (o : Owner) × (c : ℕ) × (k ≡ some (kept o c)) × P o c t

  -- the name a, of sort s: its cell, and whether it may be assigned to
  abbrev pub Keeps : ℕ → Sort → Ty → List Around → Type 0
  Keeps a s t Γ = Has (kept_of a Γ) t × (s ≡ is_variable t → Free a Γ)

  abbrev pub Known : List Around → Type 0
  Known Γ = (a : ℕ) (s : Sort) (t : Ty) (w : Bool) → as_variable s ≡ some t → lookup a (scopes_of Γ) ≡ found s w → Keeps a s t Γ

  module _ (S : Style) where
    -- Δ is Γ after a head
    unfoldable pub Entered : List Decl → List Around → List Around → Type 0
    Entered [] Γ Δ = Δ ≡ Γ
    Entered (declare x ∷ ds) Γ Δ = (c : ℕ) × P S.owner c x.type × Entered ds (S.name x.name c ∷ Γ) Δ
    Entered (holding g ∷ ds) Γ Δ = Entered ds (S.hold g Γ) Δ

    pub entered-scopes : (ds : List Decl) (Γ Δ : List Around) → Entered ds Γ Δ → scopes_of Δ ≡ scopes_of Γ
    unfolding Entered
    entered-scopes [] Γ Δ e = ap scopes_of e
    entered-scopes (declare x ∷ ds) Γ Δ e = entered-scopes ds (S.name x.name e.0 ∷ Γ) Δ e.2 ∙ S.scopes-name x.name e.0 Γ
    entered-scopes (holding g ∷ ds) Γ Δ e = entered-scopes ds (S.hold g Γ) Δ e ∙ S.scopes-hold g Γ

    pub entered-past : (ds : List Decl) (Γ Δ : List Around) (a : ℕ) → Entered ds Γ Δ → first_of a (defines_head ds) ≡ nowhere → S.look a Δ ≡ S.look a Γ
    unfolding Entered defines_head first_of
    entered-past [] Γ Δ a e h = ap (S.look a) e
    entered-past (declare x ∷ ds) Γ Δ a e h = pick (eqb x.name a) refl h (λ k. entered-past ds (S.name x.name e.0 ∷ Γ) Δ a e.2 k)
      where
        pick : (t : Bool) → eqb x.name a ≡ t → (If t then found (is_variable x.type) false else first_of a (defines_head ds)) ≡ nowhere
            → (first_of a (defines_head ds) ≡ nowhere → S.look a Δ ≡ S.look a (S.name x.name e.0 ∷ Γ)) → S.look a Δ ≡ S.look a Γ
        pick true u k f = nothing (is_variable x.type) false (sym k)
        pick false u k f = f k ∙ S.look-name a x.name e.0 Γ ∙ ap (λ b. If b then some (kept S.owner e.0) else S.look a Γ) u
    entered-past (holding g ∷ ds) Γ Δ a e h = entered-past ds (S.hold g Γ) Δ a e h ∙ S.look-hold a g Γ

    -- a name that the head has is free, and so is one that was free before
    pub entered-free : (ds : List Decl) (Γ Δ : List Around) (a : ℕ) → Entered ds Γ Δ → NoLoop Γ → (first_of a (defines_head ds) ≡ nowhere → Free a Γ) → Free a Δ
    unfolding Entered defines_head first_of
    entered-free [] Γ Δ a e n f = subst (Free a) (sym e) (f refl)
    entered-free (declare x ∷ ds) Γ Δ a e n f = entered-free ds (S.name x.name e.0 ∷ Γ) Δ a e.2 (S.clear-name x.name e.0 Γ) (λ h.
        S.free-name a x.name e.0 Γ n (λ u. f (ap (λ b. If b then found (is_variable x.type) false else first_of a (defines_head ds)) u ∙ h)))
    entered-free (holding g ∷ ds) Γ Δ a e n f = entered-free ds (S.hold g Γ) Δ a e (S.clear-hold g Γ n) (λ h. S.free-hold a g Γ (f h))

    pub entered-new : (ds : List Decl) (Γ Δ : List Around) (a : ℕ) (s : Sort) (t : Ty) (w : Bool) (ss : List Scope) (seen : List ℕ) → as_variable s ≡ some t → Entered ds Γ Δ
        → GoodHead ss seen ds → first_of a (defines_head ds) ≡ found s w → Has (S.look a Δ) t
    unfolding Entered defines_head first_of GoodHead among
    entered-new [] Γ Δ a s t w ss seen v e g h = nothing s w h
    entered-new (declare x ∷ ds) Γ Δ a s t w ss seen v e g h =
        pick (eqb x.name a) refl h (λ k. entered-new ds (S.name x.name e.0 ∷ Γ) Δ a s t w ss (x.name ∷ seen) v e.2 g.2 k)
      where
        pick : (b : Bool) → eqb x.name a ≡ b → (If b then found (is_variable x.type) false else first_of a (defines_head ds)) ≡ found s w
            → (first_of a (defines_head ds) ≡ found s w → Has (S.look a Δ) t) → Has (S.look a Δ) t
        pick true u k f =
            let z : x.type ≡ t = some-type (sym (ap variable_ty (sym k)) ∙ v) in
            let new : among a (x.name ∷ seen) ≡ true = or_left (eqb a x.name) (among a seen) (eq-eqb a x.name (sym (eqb-true x.name a u))) in (
              S.owner,
              e.0,
              entered-past ds (S.name x.name e.0 ∷ Γ) Δ a e.2 (not-again a ss (x.name ∷ seen) ds g.2 new)
                  ∙ S.look-name a x.name e.0 Γ ∙ ap (λ b. If b then some (kept S.owner e.0) else S.look a Γ) u,
              subst (λ y. P S.owner e.0 y) z e.1,
            )
        pick false u k f = f k
    entered-new (holding q ∷ ds) Γ Δ a s t w ss seen v e g h = entered-new ds (S.hold q Γ) Δ a s t w ss seen v e g h

pub first-append : (a : ℕ) (xs ys : List Definition) → first_of a (xs ++ ys) ≡ otherwise (first_of a xs) (first_of a ys)
unfolding first_of
first-append a [] ys = refl
first-append a (d ∷ xs) ys = pick (eqb d.name a) (first-append a xs ys)
  where
    pick : (t : Bool) → first_of a (xs ++ ys) ≡ otherwise (first_of a xs) (first_of a ys)
        → (If t then found d.sort false else first_of a (xs ++ ys)) ≡ otherwise (If t then found d.sort false else first_of a xs) (first_of a ys)
    pick true e = refl
    pick false e = e

-- what the labels of a block can be
abbrev pub IsLabel : Found → Type 0
IsLabel nowhere = Unit {0}
IsLabel (found (is_variable t) w) = ⊥
IsLabel (found is_label w) = Unit {0}
IsLabel (found (is_class ts) w) = ⊥
IsLabel (found (is_field c t) w) = ⊥
IsLabel (found (is_procedure ts us) w) = ⊥
IsLabel (found is_control w) = ⊥

-- what has a type as a variable is no label
pub no-label-variable : (s : Sort) (t : Ty) (w : Bool) → as_variable s ≡ some t → IsLabel (found s w) → ⊥
no-label-variable (is_variable u) t w v l = l
no-label-variable is_label t w v l = let z : ◌≡◌ {A = ℕ} 0 1 = cc v in omega arith
no-label-variable (is_class ts) t w v l = l
no-label-variable (is_field c u) t w v l = l
no-label-variable (is_procedure ts us) t w v l = l
no-label-variable is_control t w v l = l

pub only-labels : (a : ℕ) (is : Items) → IsLabel (first_of a (defines_items is))
unfolding first_of defines_items
only-labels a no_item = tt
only-labels a (label b is) = pick (eqb b a) (only-labels a is)
  where
    pick : (t : Bool) → IsLabel (first_of a (defines_items is)) → IsLabel (If t then found is_label false else first_of a (defines_items is))
    pick true h = tt
    pick false h = h
only-labels a (item s is) = only-labels a is

-- where a sort that no label has is found: in the head, or outside
module _ (hs : List Definition) (is : Items) (a : ℕ) (s : Sort) (w : Bool) (f : Found) (sort : IsLabel (found s w) → ⊥) where
  pub outer : otherwise (first_of a (hs ++ defines_items is)) f ≡ found s w → (Q : Type 0) → (first_of a hs ≡ found s w → Q) → (first_of a hs ≡ nowhere → f ≡ found s w → Q) → Q
  outer h Q new old = pick (first_of a hs) refl (first_of a (defines_items is)) (only-labels a is) (subst (λ z. otherwise z f ≡ found s w) (first-append a hs (defines_items is)) h)
    where
      pick : (x : Found) → first_of a hs ≡ x → (y : Found) → IsLabel y → otherwise (otherwise x y) f ≡ found s w → Q
      pick nowhere e nowhere l g = old e g
      pick nowhere e (found u v) l g = absurd (sort (subst IsLabel g l))
      pick (found u v) e y l g = new (e ∙ g)

pub uncross : (f : Found) (s : Sort) (w : Bool) → across f ≡ found s w → (v : Bool) × (f ≡ found s v)
uncross nowhere s w h = nothing s w h
uncross (found u v) s w h = let z : u ≡ s = cc h in (v, ap (λ x. found x v) z)

inside-look : (a : ℕ) (s : Scope) (Γ : List Around) → kept_of a (inside s ∷ Γ) ≡ kept_of a Γ
unfolding bound_at global_at
inside-look a s Γ = refl

module _ (P : Owner → ℕ → Ty → Type 0) where
  -- entering a block keeps what is known
  module _ (ds : List Decl) (q : Scope) (Γ Δ : List Around) (ss : List Scope) (n : NoLoop (inside q ∷ Γ)) (g : GoodHead ss [] ds) (e : Entered P of_block ds (inside q ∷ Γ) Δ)
      (a : ℕ) (s : Sort) (t : Ty) (v : as_variable s ≡ some t) where
    new-name : (w : Bool) → first_of a (defines_head ds) ≡ found s w → Keeps P a s t Δ
    new-name w h = (
      entered-new P of_block ds (inside q ∷ Γ) Δ a s t w ss [] v e g h,
      λ u. entered-free P of_block ds (inside q ∷ Γ) Δ a e n (λ z. nothing s w (sym z ∙ h)),
    )

    old-name : first_of a (defines_head ds) ≡ nowhere → Keeps P a s t Γ → Keeps P a s t Δ
    unfolding Free
    old-name h k = (
      subst (λ z. Has P z t) (sym (entered-past P of_block ds (inside q ∷ Γ) Δ a e h ∙ inside-look a q Γ)) k.0,
      λ u. entered-free P of_block ds (inside q ∷ Γ) Δ a e n (λ z. k.1 u),
    )

  pub known-block : (ds : List Decl) (is : Items) (Γ Δ : List Around) (ss : List Scope) → GoodHead ss [] ds → Entered P of_block ds (inside (block_of ds is) ∷ Γ) Δ → Known P Γ → Known P Δ
  unfolding scopes_of
  known-block ds is Γ Δ ss g e k a s t w v h =
      outer (defines_head ds) is a s w (lookup a (scopes_of Γ)) (no-label-variable s t w v)
      (sym (lookup-block a _ (scopes_of Γ)) ∙ subst (λ ss. lookup a ss ≡ found s w) (entered-scopes P of_block ds (inside (block_of ds is) ∷ Γ) Δ e) h) (Keeps P a s t Δ)
      (λ q. new-name ds (block_of ds is) Γ Δ ss tt g e a s t v w q) (λ n q. old-name ds (block_of ds is) Γ Δ ss tt g e a s t v n (k a s t w v q))

  pub known-expression : (ds : List Decl) (is : Items) (Γ Δ : List Around) (ss : List Scope) → GoodHead ss [] ds → Entered P of_block ds (inside (expression_of ds is) ∷ Γ) Δ → Known P Γ → Known P Δ
  unfolding scopes_of
  known-expression ds is Γ Δ ss g e k a s t w v h =
      outer (defines_head ds) is a s w (across (lookup a (scopes_of Γ))) (no-label-variable s t w v)
      (sym (lookup-expression a _ (scopes_of Γ)) ∙ subst (λ ss. lookup a ss ≡ found s w) (entered-scopes P of_block ds (inside (expression_of ds is) ∷ Γ) Δ e) h) (Keeps P a s t Δ)
      (λ q. new-name ds (expression_of ds is) Γ Δ ss tt g e a s t v w q)
      (λ n q. let z = uncross (lookup a (scopes_of Γ)) s w q in old-name ds (expression_of ds is) Γ Δ ss tt g e a s t v n (k a s t z.0 v z.1))

  -- and so does a loop: its control name is an integer in its cell, and not assigned to
  pub known-loop : (b c : ℕ) (Γ : List Around) → P own c integer → Known P Γ → Known P (bound b c ∷ inside (loop_of b) ∷ Γ)
  unfolding scopes_of first_of Free
  known-loop b c Γ p k a s t w v h = subst (λ z. Has P z t × (s ≡ is_variable t → Free a (bound b c ∷ inside (loop_of b) ∷ Γ))) (sym (bound-look a b c (inside (loop_of b) ∷ Γ)))
      (pick (eqb b a) (sym (lookup-loop a (define b is_control) (scopes_of Γ)) ∙ h))
    where
      pick : (x : Bool) → otherwise (If x then found is_control false else nowhere) (lookup a (scopes_of Γ)) ≡ found s w
          → Has P (If x then some (kept own c) else kept_of a (inside (loop_of b) ∷ Γ)) t × (s ≡ is_variable t → LandsAt x ⊥ (Free a Γ))
      pick true q = (
        (own, c, refl, subst (P own c) (some-type (ap variable_ty q ∙ v)) p),
        λ u. let z : ◌≡◌ {A = ℕ} 0 1 = cc (q, u) in absurd (omega arith),
      )
      pick false q = let z = k a s t w v q in (subst (λ x. Has P x t) (sym (inside-look a (loop_of b) Γ)) z.0, z.1)

  -- labels do not matter
  pub known-labels : (is : Items) (x : ℕ) (Γ : List Around) → Known P Γ → Known P (labels is x ∷ Γ)
  unfolding scopes_of bound_at global_at Free
  known-labels is x Γ k a s t w v h = k a s t w v h

  -- parameters: the first of two with one name is found, in both
  unfoldable pub Given : List Typed → ℕ → Type 0
  Given [] n = Unit {0}
  Given (x ∷ xs) n = P own n x.type × Given xs (suc n)

  given-new : (xs : List Typed) (n : ℕ) (Γ : List Around) (a : ℕ) (s : Sort) (t : Ty) (w : Bool) → as_variable s ≡ some t → Given xs n → first_of a (defines_typed xs) ≡ found s w
      → Has P (kept_of a (parameter_cells xs n Γ)) t
  unfolding Given defines_typed first_of parameter_cells
  given-new [] n Γ a s t w v g h = nothing s w h
  given-new (x ∷ xs) n Γ a s t w v g h =
      subst (λ z. Has P z t) (sym (bound-look a x.name n (parameter_cells xs (suc n) Γ))) (pick (eqb x.name a) h (λ k. given-new xs (suc n) Γ a s t w v g.1 k))
    where
      pick : (b : Bool) → (If b then found (is_variable x.type) false else first_of a (defines_typed xs)) ≡ found s w
          → (first_of a (defines_typed xs) ≡ found s w → Has P (kept_of a (parameter_cells xs (suc n) Γ)) t)
          → Has P (If b then some (kept own n) else kept_of a (parameter_cells xs (suc n) Γ)) t
      pick true k f = (own, n, refl, subst (P own n) (some-type (ap variable_ty k ∙ v)) g.0)
      pick false k f = f k

  no_loop : (xs : List Typed) (n : ℕ) (Γ : List Around) → NoLoop Γ → NoLoop (parameter_cells xs n Γ)
  unfolding parameter_cells
  no_loop [] n Γ l = l
  no_loop (x ∷ xs) n Γ l = tt

  -- a parameter is free, and so is what was free before
  given-free : (xs : List Typed) (n : ℕ) (Γ : List Around) (a : ℕ) → NoLoop Γ → (first_of a (defines_typed xs) ≡ nowhere → Free a Γ)
      → Free a (parameter_cells xs n Γ)
  unfolding defines_typed first_of parameter_cells
  given-free [] n Γ a l f = f refl
  given-free (x ∷ xs) n Γ a l f = bound-free a x.name n (parameter_cells xs (suc n) Γ) (no_loop xs (suc n) Γ l) (λ e.
      given-free xs (suc n) Γ a l (λ h. f (ap (λ b. If b then found (is_variable x.type) false else first_of a (defines_typed xs)) e ∙ h)))

  given-past : (xs : List Typed) (n : ℕ) (Γ : List Around) (a : ℕ) → first_of a (defines_typed xs) ≡ nowhere → kept_of a (parameter_cells xs n Γ) ≡ kept_of a Γ
  unfolding defines_typed first_of parameter_cells
  given-past [] n Γ a h = refl
  given-past (x ∷ xs) n Γ a h = bound-look a x.name n (parameter_cells xs (suc n) Γ) ∙ pick (eqb x.name a) h (λ k. given-past xs (suc n) Γ a k)
    where
      pick : (b : Bool) → (If b then found (is_variable x.type) false else first_of a (defines_typed xs)) ≡ nowhere
          → (first_of a (defines_typed xs) ≡ nowhere → kept_of a (parameter_cells xs (suc n) Γ) ≡ kept_of a Γ)
          → (If b then some (kept own n) else kept_of a (parameter_cells xs (suc n) Γ)) ≡ kept_of a Γ
      pick true k f = nothing (is_variable x.type) false (sym k)
      pick false k f = f k

  pub scopes-parameters : (xs : List Typed) (n : ℕ) (Γ : List Around) → scopes_of (parameter_cells xs n Γ) ≡ scopes_of Γ
  unfolding parameter_cells scopes_of
  scopes-parameters [] n Γ = refl
  scopes-parameters (x ∷ xs) n Γ = scopes-parameters xs (suc n) Γ

  pub known-procedure : (xs : List Typed) (Γ : List Around) → Given xs 0 → Known P Γ → Known P (parameter_cells xs 0 (inside (procedure_of xs) ∷ Γ))
  unfolding scopes_of Free
  known-procedure xs Γ g k a s t w v h =
      pick (first_of a (defines_typed xs)) refl
      (sym (lookup-procedure a _ (scopes_of Γ)) ∙ subst (λ ss. lookup a ss ≡ found s w) (scopes-parameters xs 0 (inside (procedure_of xs) ∷ Γ)) h)
    where
      Δ : List Around
      Δ = inside (procedure_of xs) ∷ Γ

      pick : (f : Found) → first_of a (defines_typed xs) ≡ f → otherwise f (across (lookup a (scopes_of Γ))) ≡ found s w → Keeps P a s t (parameter_cells xs 0 Δ)
      pick nowhere e q = let z = uncross (lookup a (scopes_of Γ)) s w q in let y = k a s t z.0 v z.1 in (
        subst (λ z. Has P z t) (sym (given-past xs 0 Δ a e ∙ inside-look a (procedure_of xs) Γ)) y.0,
        λ u. given-free xs 0 Δ a tt (λ n. y.1 u),
      )
      pick (found x b) e q = (given-new xs 0 Δ a s t w v g (e ∙ q), λ u. given-free xs 0 Δ a tt (λ n. nothing x b (sym n ∙ e)))
