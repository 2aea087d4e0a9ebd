-- What the simulation speaks of: an activation at work, code that stands, where control arrives, where gotos land.
use Rattle.std.specs.Prelude.{Bool, true, false, ◌≡◌, refl, List, [], ◌∷◌, ◌++◌, ℕ, suc, ◌≤◌, eqb, ℤ, length, set as put}
use Rattle.std.proofs.Common.{ap, sym, ◌∙◌, subst, subst₂, arith}
use Rattle.std.proofs.Math.Option.{Option, none, some}
use Rattle.logic.specs.Choice.{If◌then◌else◌}
use Rattle.values.specs.Values.{Value, int, Cell, assigned}
use Rattle.values.specs.Trace.{release}
use Rattle.language.specs.Tree.{Global, Items}
use Rattle.language.specs.Names.{Scope, in_block, in_expression, in_procedure, in_loop, loop_of}
use Rattle.language.specs.Execute.{Store, Result, done, next, Place, say, with_blocks, outer_blocks}
use Rattle.bytecode.specs.Macro.{shape_in}
use Rattle.bytecode.specs.Instructions.{Owner, own, root}
use Rattle.bytecode.specs.Machine.{Activation, all_holds, fetch}
use Rattle.compile_code.specs.Code.{Code, nil, op, mark, cell, ◌▸◌, At, after}
use Rattle.compile_code.specs.Compile.{Around, inside, outermost, bound, global, held, labels, held_in, scopes_of, passing, the_labels, has_label, label_at, kept, bound_at, global_at, or_cell}
use Rattle.compile_code.specs.Compile.{Cell as Kept, cell_of as kept_of}
use Rattle.compile_simulation.specs.Meets.{Conf, Setting, Meets, ends, here, binds, onward}
use Rattle.compile_simulation.specs.View.{Data, own_put, root_put, cell_at, put_other, seen, seen_v, roots_of, Distinct, Below, below_apart, below_more, Apart, Differs}
use Rattle.compile_simulation.specs.View.{bound-apart, global-apart}
use Rattle.compile_simulation.specs.Ops.{Owners, conf}

-- an activation at work: its body, those below it, and what is kept of the cells while it works
pub record Work : Type 1 where
  pub body : ℕ
  pub below : List Activation
  pub keeps : List Cell → List Cell → Type 0

-- whose the root's cells are, and which
abbrev pub owner_of : List Activation → Owner
owner_of [] = own
owner_of (f ∷ fs) = root

abbrev pub lowest_of : List Activation → List Cell → List Cell → List Cell
lowest_of [] cs ls = cs
lowest_of (f ∷ fs) cs ls = ls

abbrev pub Holds : Work → Data → Type 0
Holds C D = C.keeps D.cells D.lowest

abbrev pub LandsAt : Bool → Type 0 → Type 0 → Type 0
LandsAt b P Q = If b then P else Q

-- no for clause begins right before
abbrev pub NoLoop : List Around → Type 0
NoLoop [] = Unit {0}
NoLoop (inside (in_block ds) ∷ Γ) = Unit {0}
NoLoop (inside (in_expression ds) ∷ Γ) = Unit {0}
NoLoop (inside (in_procedure ds) ∷ Γ) = Unit {0}
NoLoop (inside (in_loop d) ∷ Γ) = ⊥
NoLoop (outermost s ∷ Γ) = Unit {0}
NoLoop (bound b c ∷ Γ) = Unit {0}
NoLoop (global o b c ∷ Γ) = Unit {0}
NoLoop (held g ∷ Γ) = Unit {0}
NoLoop (labels is x ∷ Γ) = Unit {0}

-- the name may be assigned to: it is no control name. The root's variables lie outermost
unfoldable pub Free : ℕ → List Around → Type 0
Free a [] = Unit {0}
Free a (inside s ∷ Γ) = Free a Γ
Free a (outermost s ∷ Γ) = Unit {0}
Free a (bound b c ∷ Γ) = LandsAt (eqb b a) (NoLoop Γ) (Free a Γ)
Free a (global o b c ∷ Γ) = Unit {0}
Free a (held g ∷ Γ) = Free a Γ
Free a (labels is x ∷ Γ) = Free a Γ

-- what lies around a part, with new cells from n on, is in order
pub record Fit (W : Setting) (gs : List Global) (C : Work) (Γ : List Around) (n : ℕ) : Type 0 where
  pub distinct : Distinct Γ
  pub below-n : Below n Γ
  pub owners : (a c : ℕ) (o : Owner) → kept_of a Γ ≡ some (kept o c) → Owners C.below o
  pub stable : (a c : ℕ) (o : Owner) (x : Cell) (cs ls : List Cell) → kept_of a Γ ≡ some (kept o c) → Free a Γ → C.keeps cs ls
      → C.keeps (own_put o c x cs) (root_put o c x ls)
  pub stable-global : (a c : ℕ) (o : Owner) (x : Cell) (cs ls : List Cell) → global_at a Γ ≡ some (kept o c) → C.keeps cs ls → C.keeps (own_put o c x cs) (root_put o c x ls)
  pub roots : (cs ls ds : List Cell) → roots_of gs Γ cs ls ≡ roots_of gs W.shared-names ds (lowest_of C.below cs ls)
  pub shared : (a c : ℕ) (o : Owner) → global_at a W.shared-names ≡ some (kept o c) → (o ≡ root) × (global_at a Γ ≡ some (kept (owner_of C.below) c))
  pub fresh : (c : ℕ) (x : Cell) (cs ls : List Cell) → n ≤ c → C.keeps cs ls → C.keeps (put cs c x) ls

pub fit_on : {W : Setting} {gs : List Global} {C : Work} {Γ : List Around} {n k : ℕ} → n ≤ k → Fit W gs C Γ n → Fit W gs C Γ k
fit_on {Γ = Γ} {n = n} {k = k} e h = record {
  distinct = h.distinct;
  below-n = below_more n k Γ e h.below-n;
  owners = h.owners;
  stable = h.stable;
  stable-global = h.stable-global;
  roots = h.roots;
  shared = h.shared;
  fresh = λ c x cs ls p. h.fresh c x cs ls (omega arith);
}

pub fit-inside : {W : Setting} {gs : List Global} {C : Work} {Γ : List Around} {n : ℕ} (s : Scope) → Fit W gs C Γ n → Fit W gs C (inside s ∷ Γ) n
unfolding Distinct Below bound_at global_at roots_of Free
fit-inside s h =
    record {
      distinct = h.distinct;
      below-n = h.below-n;
      owners = h.owners;
      stable = h.stable;
      stable-global = h.stable-global;
      roots = h.roots;
      shared = h.shared;
      fresh = h.fresh;
    }

pub fit-held : {W : Setting} {gs : List Global} {C : Work} {Γ : List Around} {n : ℕ} (g : ℕ) → Fit W gs C Γ n → Fit W gs C (held g ∷ Γ) n
unfolding Distinct Below bound_at global_at roots_of Free
fit-held g h = record { distinct = h.distinct; below-n = h.below-n; owners = h.owners; stable = h.stable; stable-global = h.stable-global; roots = h.roots; shared = h.shared; fresh = h.fresh }

pub fit-labels : {W : Setting} {gs : List Global} {C : Work} {Γ : List Around} {n : ℕ} (is : Items) (x : ℕ) → Fit W gs C Γ n → Fit W gs C (labels is x ∷ Γ) n
unfolding Distinct Below bound_at global_at roots_of Free
fit-labels is x h =
    record {
      distinct = h.distinct;
      below-n = h.below-n;
      owners = h.owners;
      stable = h.stable;
      stable-global = h.stable-global;
      roots = h.roots;
      shared = h.shared;
      fresh = h.fresh;
    }

-- a new variable of a block: the name is this one, or one that was there
by_name : (P : Owner → ℕ → Type 0) (Q R : Type 0) (b n a c : ℕ) (o : Owner) (Γ : List Around) → kept_of a (bound b n ∷ Γ) ≡ some (kept o c) → LandsAt (eqb b a) Q R
    → (Q → P own n) → (kept_of a Γ ≡ some (kept o c) → R → P o c) → P o c
unfolding bound_at global_at
by_name P Q R b n a c o Γ h k p f = go (eqb b a) h k
  where
    its : Kept → Type 0
    its (kept o c) = P o c

    go : (t : Bool) → or_cell (If t then some (kept own n) else bound_at a Γ) (global_at a Γ) ≡ some (kept o c) → LandsAt t Q R → P o c
    go true e k = let z : kept own n ≡ kept o c = cc e in subst its z (p k)
    go false e k = f e k

anyway : (t : Bool) → LandsAt t (Unit {0}) (Unit {0})
anyway true = tt
anyway false = tt

pub fit-bound : {W : Setting} {gs : List Global} {C : Work} {Γ : List Around} {n : ℕ} (b : ℕ) → Fit W gs C Γ n → Fit W gs C (bound b n ∷ Γ) (suc n)
unfolding Distinct Below global_at roots_of Free
fit-bound {W} {gs} {C} {Γ} {n} b h = record {
  distinct = (below_apart n Γ h.below-n, h.distinct);
  below-n = (omega arith, below_more n (suc n) Γ (omega arith) h.below-n);
  owners = λ a c o e. by_name (λ q d. Owners C.below q) (Unit {0}) (Unit {0}) b n a c o Γ e (anyway (eqb b a)) (λ u. tt) (λ q u. h.owners a c o q);
  stable = λ a c o x cs ls e f k. by_name (λ q d. C.keeps (own_put q d x cs) (root_put q d x ls)) (NoLoop Γ) (Free a Γ) b n a c o Γ e f
      (λ u. h.fresh n x cs ls (omega arith) k) (λ q u. h.stable a c o x cs ls q u k);
  stable-global = h.stable-global;
  roots = h.roots;
  shared = h.shared;
  fresh = λ c x cs ls p. h.fresh c x cs ls (omega arith);
}

-- ── a loop ──
-- while it turns, its three cells are kept
abbrev pub looping : Work → ℕ → ℤ → ℤ → ℤ → Work
looping C c v s t = record {
  body = C.body;
  below = C.below;
  keeps = λ cs ls. C.keeps cs ls × (cell_at cs c ≡ assigned (int v)) × (cell_at cs (suc c) ≡ assigned (int s)) × (cell_at cs (suc (suc c)) ≡ assigned (int t));
}

-- a cell that a name has is none of the new ones
named-apart : (a : ℕ) (Γ : List Around) (o : Owner) (c d n : ℕ) → kept_of a Γ ≡ some (kept o c) → Below n Γ → n ≤ d → Differs o own c d
named-apart a Γ own c d n h b l = λ e. pick (bound_at a Γ) refl h (sym e)
  where
    apart : Apart own d Γ
    apart = below_apart d Γ (below_more n d Γ l b)

    pick : (x : Option Kept) → bound_at a Γ ≡ x → or_cell x (global_at a Γ) ≡ some (kept own c) → d ≡ c → ⊥
    pick none e q = global-apart a Γ own c d q apart
    pick (some k) e q = bound-apart a Γ c d (e ∙ q) apart
named-apart a Γ root c d n h b l = tt

global-far : (a : ℕ) (Γ : List Around) (o : Owner) (c d n : ℕ) → global_at a Γ ≡ some (kept o c) → Below n Γ → n ≤ d → Differs o own c d
global-far a Γ own c d n h b l = λ e. global-apart a Γ own c d h (below_apart d Γ (below_more n d Γ l b)) (sym e)
global-far a Γ root c d n h b l = tt

stays : (o : Owner) (c d : ℕ) (x : Cell) (cs : List Cell) → Differs o own c d → cell_at (own_put o c x cs) d ≡ cell_at cs d
stays own c d x cs h = put_other cs c d x h
stays root c d x cs h = refl

-- a write to a cell that is none of the three
still : (C : Work) (c : ℕ) (v s t : ℤ) (o : Owner) (e : ℕ) (x : Cell) (cs ls ks : List Cell) → ((d : ℕ) → c ≤ d → d ≤ suc (suc c) → Differs o own e d) → C.keeps (own_put o e x cs) ks
    → (looping C c v s t).keeps cs ls → (looping C c v s t).keeps (own_put o e x cs) ks
still C c v s t o e x cs ls ks f k h = (
  k,
  stays o e c x cs (f c (omega arith) (omega arith)) ∙ h.1,
  stays o e (suc c) x cs (f (suc c) (omega arith) (omega arith)) ∙ h.2,
  stays o e (suc (suc c)) x cs (f (suc (suc c)) (omega arith) (omega arith)) ∙ h.3,
)

pub fit-loop : {W : Setting} {gs : List Global} {C : Work} {Γ : List Around} {c : ℕ} (a : ℕ) (v s t : ℤ) → Fit W gs C Γ c
    → Fit W gs (looping C c v s t) (bound a c ∷ inside (loop_of a) ∷ Γ) (suc (suc (suc c)))
unfolding Free global_at bound_at roots_of
fit-loop {W} {gs} {C} {Γ} {c} a v s t w =
    let b = fit_on {k = suc (suc (suc c))} (omega arith) (fit-bound a (fit-inside (loop_of a) w)) in
    record {
      distinct = b.distinct;
      below-n = b.below-n;
      owners = b.owners;
      stable = λ x e o y cs ls q f k. by_name (λ p d. (looping C c v s t).keeps (own_put p d y cs) (root_put p d y ls)) ⊥ (Free x Γ) a c x e o (inside (loop_of a) ∷ Γ) q f
          (λ u. absurd u) (λ p u. still C c v s t o e y cs ls _ (λ d l m. named-apart x Γ o e d c p w.below-n l) (w.stable x e o y cs ls p u k.0) k);
      stable-global = λ x e o y cs ls q k. still C c v s t o e y cs ls _ (λ d l m. global-far x Γ o e d c q w.below-n l) (w.stable-global x e o y cs ls q k.0) k;
      roots = w.roots;
      shared = w.shared;
      fresh = λ e y cs ls l k. still C c v s t own e y cs ls ls (λ d p m. λ q. absurd (omega arith)) (w.fresh e y cs ls (omega arith) k.0) k;
    }

-- ── code that stands ──
module _ (W : Setting) where
  unfoldable pub Stands : ℕ → Code → At → Type 0
  Stands k nil p = Unit {0}
  Stands k (op i) p = fetch W.macro k p.address ≡ some i
  Stands k (mark s) p = shape_in W.macro.shapes p.address ≡ some s
  Stands k (cell t) p = Unit {0}
  Stands k (x ▸ y) p = Stands k x p × Stands k y (after x p)

  module _ (gs : List Global) (C : Work) where
    abbrev pub at-work : ℕ → List Value → List ℕ → Data → Conf
    at-work a st K D = conf W gs C.body C.below a st K D

    abbrev pub place_of : List Around → Place
    place_of Γ = record { holds = held_in Γ ++ all_holds C.below; activations = suc (length C.below) }

    -- ── where control arrives ──
    abbrev pub Sees : List Around → Store → Data → Type 0
    Sees Γ σ D = seen gs Γ D ≡ σ

    -- with a block more that is about to be left
    abbrev pub Within : List Around → Store → Data → Type 0
    Within Γ σ D = seen gs Γ D ≡ with_blocks (outer_blocks σ.blocks) σ

    abbrev pub Nothing : Unit {0} → List Value → Type 0
    Nothing u vs = vs ≡ []

    abbrev pub One : Value → List Value → Type 0
    One v vs = (w : Value) × (vs ≡ w ∷ []) × (seen_v gs w ≡ v)

    pub record Arrives {A : Type 0} (G : A → List Value → Type 0) (S : Store → Data → Type 0) (K : List ℕ) (b : ℕ) (st : List Value) (v : A) (σ : Store) (y : Conf) : Type 0 where
      pub top : List Value
      pub now : Data
      pub there : y ≡ at-work b (top ++ st) K now
      pub sees : S σ now
      pub gave : G v top
      pub holding : Holds C now

    -- ── where gotos land ──
    unfoldable pub lands : List Around → List Value → ℕ → Store → Conf → Type 0
    lands [] st a σ y = ⊥
    lands (inside (in_block ds) ∷ Γ) st a σ y = lands Γ st a (with_blocks (outer_blocks σ.blocks) σ) y
    lands (inside (in_expression ds) ∷ Γ) st a σ y = ⊥
    lands (inside (in_procedure ds) ∷ Γ) st a σ y = ⊥
    lands (inside (in_loop d) ∷ Γ) st a σ y = lands Γ st a (with_blocks (outer_blocks σ.blocks) σ) y
    lands (outermost s ∷ Γ) st a σ y = ⊥
    lands (bound b c ∷ Γ) st a σ y = lands Γ st a σ y
    lands (global o b c ∷ Γ) st a σ y = lands Γ st a σ y
    lands (held g ∷ Γ) st a σ y = lands Γ st a (say (release g) σ) y
    lands (labels is x ∷ Γ) st a σ y =
        LandsAt (has_label a is) (Arrives Nothing (Sees Γ) (held_in Γ) (label_at is (scopes_of Γ) (the_labels is ∷ passing Γ) x a) st tt σ y) (lands Γ st a σ y)

    abbrev pub nowhere : ℕ → Store → Conf → Type 0
    nowhere a σ y = ⊥

    -- ── one thing after another ──
    module _ (Γ : List Around) {n : ℕ} {L : ℕ → Store → Conf → Type 0} {b : ℕ} {st : List Value} where
      pub bind_e : {B : Type 0} {F : B → Store → Conf → Type 0} {x : Conf} {r : Result Value} (f : Value → Store → Result B)
          → Meets W n nowhere (Arrives One (Sees Γ) (held_in Γ) b st) x r
          → ((w : Value) (D : Data) → Holds C D → Meets W n L F (at-work b (w ∷ st) (held_in Γ) D) (f (seen_v gs w) (seen gs Γ D))) → Meets W n L F x (next r f)
      bind_e {F = F} {r = r} f h g = binds r (λ l σ q. absurd q.there) h (λ v σ y a.
          let w = a.gave.0 in
          let e : at-work b (w ∷ st) (held_in Γ) a.now ≡ y = sym (a.there ∙ ap (λ t. at-work b (t ++ st) (held_in Γ) a.now) a.gave.1) in
          subst (λ z. Meets W n L F z (f v σ)) e (subst₂ (λ p q. Meets W n L F (at-work b (w ∷ st) (held_in Γ) a.now) (f p q)) a.gave.2 a.sees (g w a.now a.holding)))

      pub also_e : {F : Value → Store → Conf → Type 0} {x : Conf} {r : Result Value}
          → Meets W n nowhere (Arrives One (Sees Γ) (held_in Γ) b st) x r
          → ((w : Value) (D : Data) → Holds C D → Meets W n L F (at-work b (w ∷ st) (held_in Γ) D) (done (seen_v gs w) (seen gs Γ D))) → Meets W n L F x r
      also_e {F = F} {r = r} h g = onward r (λ l σ q. absurd q.there) h (λ v σ y a.
          let w = a.gave.0 in
          let e : at-work b (w ∷ st) (held_in Γ) a.now ≡ y = sym (a.there ∙ ap (λ t. at-work b (t ++ st) (held_in Γ) a.now) a.gave.1) in
          subst (λ z. Meets W n L F z (done v σ)) e (subst₂ (λ p q. Meets W n L F (at-work b (w ∷ st) (held_in Γ) a.now) (done p q)) a.gave.2 a.sees (g w a.now a.holding)))

      pub bind_s : {B : Type 0} {F : B → Store → Conf → Type 0} {x : Conf} {r : Result (Unit {0})} (f : Unit {0} → Store → Result B)
          → Meets W n L (Arrives Nothing (Sees Γ) (held_in Γ) b st) x r
          → ((u : Unit {0}) (D : Data) → Holds C D → Meets W n L F (at-work b st (held_in Γ) D) (f u (seen gs Γ D))) → Meets W n L F x (next r f)
      bind_s {F = F} {r = r} f h g = binds r (λ l σ q. q) h (λ v σ y a.
          let e : at-work b st (held_in Γ) a.now ≡ y = sym (a.there ∙ ap (λ t. at-work b (t ++ st) (held_in Γ) a.now) a.gave) in
          subst (λ z. Meets W n L F z (f v σ)) e (subst (λ q. Meets W n L F (at-work b st (held_in Γ) a.now) (f v q)) a.sees (g v a.now a.holding)))

      pub also_s : {F : Unit {0} → Store → Conf → Type 0} {x : Conf} {r : Result (Unit {0})}
          → Meets W n L (Arrives Nothing (Sees Γ) (held_in Γ) b st) x r
          → ((u : Unit {0}) (D : Data) → Holds C D → Meets W n L F (at-work b st (held_in Γ) D) (done u (seen gs Γ D))) → Meets W n L F x r
      also_s {F = F} {r = r} h g = onward r (λ l σ q. q) h (λ v σ y a.
          let e : at-work b st (held_in Γ) a.now ≡ y = sym (a.there ∙ ap (λ t. at-work b (t ++ st) (held_in Γ) a.now) a.gave) in
          subst (λ z. Meets W n L F z (done v σ)) e (subst (λ q. Meets W n L F (at-work b st (held_in Γ) a.now) (done v q)) a.sees (g v a.now a.holding)))

      pub given-one : (w : Value) (D : Data) → Holds C D → Meets W n L (Arrives One (Sees Γ) (held_in Γ) b st) (at-work b (w ∷ st) (held_in Γ) D) (done (seen_v gs w) (seen gs Γ D))
      given-one w D h = ends (here (record { top = w ∷ []; now = D; there = refl; sees = refl; gave = (w, refl, refl); holding = h }))

      pub arrived : (u : Unit {0}) (D : Data) → Holds C D → Meets W n L (Arrives Nothing (Sees Γ) (held_in Γ) b st) (at-work b st (held_in Γ) D) (done u (seen gs Γ D))
      arrived u D h = ends (here (record { top = []; now = D; there = refl; sees = refl; gave = refl; holding = h }))
