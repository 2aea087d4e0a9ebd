-- Gotos, heads of blocks and caught gotos.
use Rattle.std.specs.Prelude.{Bool, ◌≡◌, eqb, set as put}
use Rattle.std.proofs.Math.Bool.{true, false}
use Rattle.std.proofs.Math.Path.{refl, ap, ap₂, subst}
use Rattle.std.proofs.Common.{sym, ◌∙◌, subst₂, arith}
use mathlib.Core.List.{List, [], ◌∷◌, ◌++◌, map}
use Rattle.std.proofs.Math.Option.{Option, none, some}
use Prim.Native.Nat.{ℕ, suc, ◌≤◌}
use Rattle.std.proofs.Math.ListN.{get_elem?}
use Rattle.logic.specs.Choice.{If◌then◌else◌}
use Rattle.values.specs.Types.{Ty}
use Rattle.values.specs.Values.{Value, Cell, assigned, initial, fresh}
use Rattle.values.specs.Trace.{release, hold, event}
use Rattle.language.specs.Tree.{Typed, Decl, declare, holding, Global, Items, no_item, label, item, Stmt}
use Rattle.language.specs.Names.{in_block, in_expression, in_procedure, in_loop}
use Rattle.language.specs.Execute.{Slot, slot, Store, Result, done, jump, ended, later, wrong, Place, under, say, with_blocks, outer_blocks, declare_in, let_go, within, leaving, Less, caught, catch, from}
use Rattle.bytecode.specs.Instructions.{own, go, let_hold}
use Rattle.bytecode.specs.Machine.{fetch, step, act}
use Rattle.compile_code.specs.Code.{Code, op, At, at, skip, after}
use Rattle.compile_code.specs.Compile.{Around, inside, outermost, bound, global, held, labels, held_in, scopes_of, passing, the_labels, has_label, label_at, code_goto, code_head, code_items, code_s, ty_in}
use Rattle.compile_simulation.specs.Meets.{Conf, Setting, Reach, Meets, crash, ends, here, prior, tick}
use Rattle.compile_simulation.specs.Meets.{go as go_conf, from as begin}
use Rattle.compile_simulation.specs.View.{Data, written, seen, seen_v, seen_c, seen_r, blocks_of, roots_of, in_first, cell_at, put_same, Apart, below_apart, apart-blocks, apart-roots}
use Rattle.compile_simulation.specs.Ops.{says, pushes, stores, takes, lets}
use Rattle.compile_simulation.specs.Sizes.{len_s, more-cells}
use Rattle.compile_simulation.specs.Placed.{Work, Holds, Fit, fit_on, fit-held, fit-bound, Stands, at-work, place_of, Sees, Within, Nothing, Arrives, LandsAt, lands}

-- the goto finds its label among those around it; exactly: no variable of the block at hand was passed
unfoldable pub GotoOk : Bool → List Around → ℕ → Type 0
GotoOk exact [] a = ⊥
GotoOk exact (inside (in_block ds) ∷ Γ) a = GotoOk true Γ a
GotoOk exact (inside (in_expression ds) ∷ Γ) a = ⊥
GotoOk exact (inside (in_procedure ds) ∷ Γ) a = ⊥
GotoOk exact (inside (in_loop d) ∷ Γ) a = GotoOk true Γ a
GotoOk exact (outermost s ∷ Γ) a = ⊥
GotoOk exact (bound b c ∷ Γ) a = GotoOk false Γ a
GotoOk exact (global o b c ∷ Γ) a = ⊥
GotoOk exact (held g ∷ Γ) a = GotoOk exact Γ a
GotoOk true (labels is x ∷ Γ) a = LandsAt (has_label a is) (Unit {0}) (GotoOk true Γ a)
GotoOk false (labels is x ∷ Γ) a = ⊥

module _ (gs : List Global) where
  abbrev pub OkTyped : Typed → Type 0
  OkTyped x = seen_v gs (initial (ty_in gs x.type)) ≡ initial x.type

  unfoldable pub OkHead : List Decl → List Around → (List Around → Type 0) → Type 0
  OkHead [] Γ P = P Γ
  OkHead (declare x ∷ ds) Γ P = OkTyped x × ((c : ℕ) → OkHead ds (bound x.name c ∷ Γ) P)
  OkHead (holding g ∷ ds) Γ P = OkHead ds (held g ∷ Γ) P

  abbrev pub Opens : List Around → List Around → Type 0
  Opens Γ Δ = (cs : List Cell) → (b : List Slot) × (blocks_of gs Δ cs ≡ b ∷ blocks_of gs Γ cs)

  abbrev pub SameRoots : List Around → List Around → Type 0
  SameRoots Γ Δ = (cs ls : List Cell) → roots_of gs Δ cs ls ≡ roots_of gs Γ cs ls

  first_inner : (s : Slot) (bs : List (List Slot)) → outer_blocks (in_first s bs) ≡ outer_blocks bs
  unfolding outer_blocks
  first_inner s [] = refl
  first_inner s (b ∷ bs) = refl

  -- a variable declared is a cell set to its initial value
  declared : (x : Typed) (Γ : List Around) (D : Data) (n : ℕ) (y : Cell) (b : List Slot) (bs : List (List Slot)) → OkTyped x → Apart own n Γ
      → get_elem? D.cells n ≡ some y → blocks_of gs Γ D.cells ≡ b ∷ bs
      → seen gs (bound x.name n ∷ Γ) (written own n (assigned (initial (ty_in gs x.type))) D) ≡ declare_in x (seen gs Γ D)
  unfolding declare_in blocks_of roots_of
  declared x Γ D n y b bs o a g e =
      let u = assigned (initial (ty_in gs x.type)) in
      let cell-is : seen_c gs (cell_at (put D.cells n u) n) ≡ fresh x.type = ap (seen_c gs) (put_same D.cells n u y g) ∙ ap assigned o in
      let blocks-are : blocks_of gs Γ (put D.cells n u) ≡ b ∷ bs = apart-blocks gs own n u D.cells D.lowest Γ a ∙ e in
      let roots-are : roots_of gs Γ (put D.cells n u) D.lowest ≡ roots_of gs Γ D.cells D.lowest = apart-roots gs own n u D.cells D.lowest Γ a in
      rw (cell-is, blocks-are, roots-are, e) refl

module _ (W : Setting) (gs : List Global) (C : Work) where
  -- ── a goto's own code ──
  abbrev Agree : Bool → Store → List Around → Data → Type 0
  Agree true σ Γ D = seen gs Γ D ≡ σ
  Agree false σ Γ D = with_blocks (outer_blocks (blocks_of gs Γ D.cells)) (seen gs Γ D) ≡ with_blocks (outer_blocks σ.blocks) σ

  looser : (exact : Bool) (σ : Store) (Γ : List Around) (D : Data) → Agree exact σ Γ D → Agree false σ Γ D
  looser true σ Γ D h = ap (λ s. with_blocks (outer_blocks s.blocks) s) h
  looser false σ Γ D h = h

  said : (exact : Bool) (σ : Store) (Γ : List Around) (D : Data) (g : ℕ) → Agree exact σ (held g ∷ Γ) D → Agree exact (say (release g) σ) Γ (says (event (release g) ∷ []) D)
  unfolding blocks_of roots_of
  said true σ Γ D g h = ap (λ s. say (release g) s) h
  said false σ Γ D g h = ap (λ s. say (release g) s) h

  pub goes : (Γ : List Around) (exact : Bool) (a : ℕ) (p : At) (st : List Value) (D : Data) (σ : Store) → GotoOk exact Γ a → Stands W C.body (code_goto Γ a) p → Agree exact σ Γ D → Holds C D
      → Reach W (go_conf W (at-work W gs C p.address st (held_in Γ) D)) (lands W gs C Γ st a σ)
  unfolding GotoOk Stands code_goto lands held_in blocks_of roots_of after outer_blocks go_conf step act
  goes [] exact a p st D σ o h e k = absurd o
  goes (inside (in_block ds) ∷ Γ) exact a p st D σ o h e k = goes Γ true a p st D (with_blocks (outer_blocks σ.blocks) σ) o h (looser exact σ (inside (in_block ds) ∷ Γ) D e) k
  goes (inside (in_expression ds) ∷ Γ) exact a p st D σ o h e k = absurd o
  goes (inside (in_procedure ds) ∷ Γ) exact a p st D σ o h e k = absurd o
  goes (inside (in_loop d) ∷ Γ) exact a p st D σ o h e k = goes Γ true a p st D (with_blocks (outer_blocks σ.blocks) σ) o h (looser exact σ (inside (in_loop d) ∷ Γ) D e) k
  goes (outermost s ∷ Γ) exact a p st D σ o h e k = absurd o
  goes (bound b c ∷ Γ) exact a p st D σ o h e k = goes Γ false a p st D σ o h
      (ap (λ z. with_blocks z (seen gs Γ D)) (sym (first_inner gs (slot b (seen_c gs (cell_at D.cells c))) (blocks_of gs Γ D.cells))) ∙ looser exact σ (bound b c ∷ Γ) D e) k
  goes (global q b c ∷ Γ) exact a p st D σ o h e k = absurd o
  goes (held g ∷ Γ) exact a p st D σ o h e k = rw h.0 (prior (goes Γ exact a (skip 1 p) st (says (event (release g) ∷ []) D) (say (release g) σ) o h.1 (said exact σ Γ D g e) k))
  goes (labels is x ∷ Γ) true a p st D σ o h e k = pick (has_label a is) o h (λ o' h'. goes Γ true a p st D σ o' h' e k)
    where
      t : ℕ
      t = label_at is (scopes_of Γ) (the_labels is ∷ passing Γ) x a

      pick : (b : Bool) → LandsAt b (Unit {0}) (GotoOk true Γ a) → Stands W C.body (If b then op (go (label_at is (scopes_of Γ) (the_labels is ∷ passing Γ) x a)) else code_goto Γ a) p
          → (GotoOk true Γ a → Stands W C.body (code_goto Γ a) p → Reach W (go_conf W (at-work W gs C p.address st (held_in Γ) D)) (lands W gs C Γ st a σ))
          → Reach W (go_conf W (at-work W gs C p.address st (held_in Γ) D))
          (λ y. LandsAt b (Arrives W gs C (Nothing W gs C) (Sees W gs C Γ) (held_in Γ) (label_at is (scopes_of Γ) (the_labels is ∷ passing Γ) x a) st tt σ y) (lands W gs C Γ st a σ y))
      pick true o h f = rw h (here (record { top = []; now = D; there = refl; sees = e; gave = refl; holding = k }))
      pick false o h f = f o h
  goes (labels is x ∷ Γ) false a p st D σ o h e k = absurd o

  -- ── a block's end of a hold ──
  lets_go : {A : Type 0} {G : A → List Value → Type 0} {n : ℕ} (Γ₀ Γ : List Around) (g m : ℕ) (st : List Value) (x : Conf) (r : Result A) → fetch W.macro C.body m ≡ some let_hold
      → Meets W n (lands W gs C (held g ∷ Γ) st) (Arrives W gs C G (Within W gs C Γ₀) (g ∷ held_in Γ) m st) x r
      → Meets W n (lands W gs C Γ st) (Arrives W gs C G (Within W gs C Γ₀) (held_in Γ) (suc m) st) x (let_go g r)
  unfolding let_go lands
  lets_go Γ₀ Γ g m st x r i (crash h) = crash h
  lets_go {G = G} {n = n} Γ₀ Γ g m st x (done v σ) i (ends h) = begin h (λ y a.
      subst (λ z. Meets W n (lands W gs C Γ st) (Arrives W gs C G (Within W gs C Γ₀) (held_in Γ) (suc m) st) z (done v (say (release g) σ))) (sym a.there)
      (lets W gs C.body C.below g m (a.top ++ st) (held_in Γ) a.now i
      (ends (here (record { top = a.top; now = says (event (release g) ∷ []) a.now; there = refl; sees = ap (λ s. say (release g) s) a.sees; gave = a.gave; holding = a.holding })))))
  lets_go Γ₀ Γ g m st x (jump a σ) i (ends h) = ends h
  lets_go Γ₀ Γ g m st x (ended c σ) i (ends h) = ends h
  lets_go Γ₀ Γ g m st x (later σ) i (ends h) = ends h
  lets_go Γ₀ Γ g m st x wrong i (ends h) = ends h

  -- ── the head of a block ──
  abbrev pub Inner : {A : Type 0} → (A → List Value → Type 0) → ℕ → List Around → List Value → (List Around → Type 0) → (List Around → At → Code) → (Place → Store → Result A) → Type 0
  Inner G n Γ₀ st P f g = (Δ : List Around) (q : At) (D : Data) → P Δ → Fit W gs C Δ q.cell → Opens gs Γ₀ Δ → SameRoots gs Γ₀ Δ → Stands W C.body (f Δ q) q → Holds C D
      → Meets W n (lands W gs C Δ st) (Arrives W gs C G (Within W gs C Γ₀) (held_in Δ) (after (f Δ q) q).address st) (at-work W gs C q.address st (held_in Δ) D) (g (place_of W gs C Δ) (seen gs Δ D))

  pub heads : {A : Type 0} (G : A → List Value → Type 0) {n : ℕ} (ds : List Decl) (Γ₀ Γ : List Around) (p : At) (st : List Value)
      (P : List Around → Type 0) (f : List Around → At → Code) (g : Place → Store → Result A) (D : Data)
      → Inner G n Γ₀ st P f g → OkHead gs ds Γ P → Fit W gs C Γ p.cell → Opens gs Γ₀ Γ → SameRoots gs Γ₀ Γ → Stands W C.body (code_head gs bound ds Γ p f) p → Holds C D
      → Meets W n (lands W gs C Γ st) (Arrives W gs C G (Within W gs C Γ₀) (held_in Γ) (after (code_head gs bound ds Γ p f) p).address st)
      (at-work W gs C p.address st (held_in Γ) D) (within ds (place_of W gs C Γ) (seen gs Γ D) g)
  unfolding OkHead code_head Stands after within held_in lands blocks_of roots_of
  heads G [] Γ₀ Γ p st P f g D i o w b r h k = i Γ p D o w b r h k
  heads G {n} (declare x ∷ ds) Γ₀ Γ p st P f g D i o w b r h k =
      let u = initial (ty_in gs x.type) in
      let Δ = bound x.name p.cell ∷ Γ in
      pushes W gs C.body C.below u p.address st (held_in Γ) D h.1.0
      (stores W gs C.body C.below own p.cell u (suc p.address) st (held_in Γ) D tt h.1.1.0 (λ y e.
      let D' = written own p.cell (assigned u) D in
      let z = b D.cells in
      subst (λ s. Meets W n (lands W gs C Γ st) (Arrives W gs C G (Within W gs C Γ₀) (held_in Γ)
      (after (code_head gs bound ds Δ (at (suc (suc p.address)) (suc p.cell)) f) (at (suc (suc p.address)) (suc p.cell))).address st)
      (at-work W gs C (suc (suc p.address)) st (held_in Γ) D') (within ds (place_of W gs C Γ) s g))
      (declared gs x Γ D p.cell y z.0 (blocks_of gs Γ₀ D.cells) o.0 (below_apart p.cell Γ w.below-n) e z.1)
      (heads G ds Γ₀ Δ (at (suc (suc p.address)) (suc p.cell)) st P f g D' i (o.1 p.cell) (fit-bound x.name w)
      (λ cs. (slot x.name (seen_c gs (cell_at cs p.cell)) ∷ (b cs).0, ap (λ l. in_first (slot x.name (seen_c gs (cell_at cs p.cell))) l) (b cs).1))
      r h.1.1.1 (w.fresh p.cell (assigned u) D.cells D.lowest (omega arith) k))))
  heads G (holding x ∷ ds) Γ₀ Γ p st P f g D i o w b r h k =
      takes W gs C.body C.below x p.address st (held_in Γ) D h.0
      (lets_go Γ₀ Γ x (after (code_head gs bound ds (held x ∷ Γ) (skip 1 p) f) (skip 1 p)).address st _ (within ds (under x (place_of W gs C Γ)) (say (hold x) (seen gs Γ D)) g) h.1.1
      (heads G ds Γ₀ (held x ∷ Γ) (skip 1 p) st P f g (says (event (hold x) ∷ []) D) i o (fit-held x w) b r h.1.0 k))

  -- ── labels and caught gotos ──
  -- what a label leads to: the statements after it, standing where the goto aims
  pub record Leads (js : Items) (Γ : List Around) (ts : List Ty) (x n : ℕ) (e : At) (P : Items → Type 0) : Type 0 where
    pub place : At
    pub aim : x ≡ place.address
    pub later-cells : n ≤ place.cell
    pub stand : Stands W C.body (code_items gs js Γ ts place) place
    pub same_end : after (code_items gs js Γ ts place) place ≡ e
    pub good : P js

  abbrev pub Found : Bool → Option Items → List Around → List Ty → ℕ → ℕ → At → (Items → Type 0) → Type 0
  Found b none Γ ts x n e P = b ≡ false
  Found b (some js) Γ ts x n e P = (b ≡ true) × Leads js Γ ts x n e P

  earlier : (b : Bool) (o : Option Items) (Γ : List Around) (ts : List Ty) (x n k : ℕ) (e : At) (P : Items → Type 0) → k ≤ n → Found b o Γ ts x n e P → Found b o Γ ts x k e P
  earlier b none Γ ts x n k e P l f = f
  earlier b (some js) Γ ts x n k e P l f =
      let q = f.1.later-cells in
      (f.0, record { place = f.1.place; aim = f.1.aim; later-cells = omega arith; stand = f.1.stand; same_end = f.1.same_end; good = f.1.good })

  pub found-label : (P : Items → Type 0) → ((b : ℕ) (is : Items) → P (label b is) → P is) → ((s : Stmt) (is : Items) → P (item s is) → P is)
      → (is : Items) (Γ : List Around) (ts : List Ty) (p : At) (a : ℕ) → P is
      → Stands W C.body (code_items gs is Γ ts p) p
      → Found (has_label a is) (from a is) Γ ts (label_at is (scopes_of Γ) (passing Γ) p.address a) p.cell (after (code_items gs is Γ ts p) p) P
  unfolding from has_label label_at code_s Stands after
  found-label P l i no_item Γ ts p a o h = refl
  found-label P l i (label b is) Γ ts p a o h = pick (eqb a b) (found-label P l i is Γ ts p a (l b is o) h.1)
    where
      pick : (t : Bool) → Found (has_label a is) (from a is) Γ ts (label_at is (scopes_of Γ) (passing Γ) p.address a) p.cell (after (code_items gs is Γ ts p) p) P
          → Found (If t then true else has_label a is) (If t then some is else from a is) Γ ts
          (If t then p.address else label_at is (scopes_of Γ) (passing Γ) p.address a) p.cell (after (code_items gs is Γ ts p) p) P
      pick true f = (refl, record { place = p; aim = refl; later-cells = omega arith; stand = h.1; same_end = refl; good = l b is o })
      pick false f = f
  found-label P l i (item s is) Γ ts p a o h =
      let q = after (code_s gs s Γ ts p) p in
      let r = found-label P l i is Γ ts q a (i s is o) h.1 in
      subst (λ z. Found (has_label a is) (from a is) Γ ts (label_at is (scopes_of Γ) (passing Γ) z a) p.cell (after (code_items gs is Γ ts q) q) P) (len_s gs s Γ ts p)
      (earlier (has_label a is) (from a is) Γ ts (label_at is (scopes_of Γ) (passing Γ) q.address a) q.cell p.cell (after (code_items gs is Γ ts q) q) P (more-cells (code_s gs s Γ ts p) p) r)

  -- what is known of the statements from a label on, at less fuel
  abbrev pub Resumes : ℕ → Less → Items → List Around → List Ty → List Value → ℕ → At → (Items → Type 0) → Type 0
  Resumes n r is Γ ts st x e P =
      (js : Items) (q : At) (D : Data) → P js → Fit W gs C Γ q.cell → Stands W C.body (code_items gs js (labels is x ∷ Γ) ts q) q
      → after (code_items gs js (labels is x ∷ Γ) ts q) q ≡ e → Holds C D
      → Meets W n (lands W gs C Γ st) (Arrives W gs C (Nothing W gs C) (Sees W gs C Γ) (held_in Γ) e.address st)
      (at-work W gs C q.address st (held_in Γ) D) (r.resume is js (place_of W gs C Γ) (seen gs Γ D))

  pub catches : {n : ℕ} (r : Less) (is : Items) (Γ : List Around) (ts : List Ty) (st : List Value) (p e : At) (P : Items → Type 0) (x : Conf) (z : Result (Unit {0}))
      → ((a : ℕ) → Found (has_label a is) (from a is) (labels is p.address ∷ Γ) ts (label_at is (scopes_of Γ) (the_labels is ∷ passing Γ) p.address a) p.cell e P)
      → Fit W gs C Γ p.cell → Resumes n r is Γ ts st p.address e P
      → Meets W (suc n) (lands W gs C (labels is p.address ∷ Γ) st) (Arrives W gs C (Nothing W gs C) (Sees W gs C Γ) (held_in Γ) e.address st) x z
      → Meets W (suc n) (lands W gs C Γ st) (Arrives W gs C (Nothing W gs C) (Sees W gs C Γ) (held_in Γ) e.address st) x (catch r is (place_of W gs C Γ) z)
  unfolding catch lands
  catches r is Γ ts st p e P x z f w b (crash h) = crash h
  catches r is Γ ts st p e P x (done u σ) f w b (ends h) = ends h
  catches {n} r is Γ ts st p e P x (jump a σ) f w b (ends h) = go (from a is) (has_label a is) (f a) h
    where
      F : Unit {0} → Store → Conf → Type 0
      F = Arrives W gs C (Nothing W gs C) (Sees W gs C Γ) (held_in Γ) e.address st

      go : (o : Option Items) (t : Bool) → Found t o (labels is p.address ∷ Γ) ts (label_at is (scopes_of Γ) (the_labels is ∷ passing Γ) p.address a) p.cell e P
          → Reach W (go_conf W x) (λ y. LandsAt t (Arrives W gs C (Nothing W gs C) (Sees W gs C Γ) (held_in Γ)
          (label_at is (scopes_of Γ) (the_labels is ∷ passing Γ) p.address a) st tt σ y) (lands W gs C Γ st a σ y))
          → Meets W (suc n) (lands W gs C Γ st) (Arrives W gs C (Nothing W gs C) (Sees W gs C Γ) (held_in Γ) e.address st) x (caught r is o a (place_of W gs C Γ) σ)
      go none t g h =
          ends (subst (λ t. Reach W (go_conf W x) (λ y. LandsAt t (Arrives W gs C (Nothing W gs C) (Sees W gs C Γ) (held_in Γ)
          (label_at is (scopes_of Γ) (the_labels is ∷ passing Γ) p.address a) st tt σ y) (lands W gs C Γ st a σ y))) g h)
      go (some js) t g h =
          let h' : Reach W (go_conf W x) (Arrives W gs C (Nothing W gs C) (Sees W gs C Γ) (held_in Γ) (label_at is (scopes_of Γ) (the_labels is ∷ passing Γ) p.address a) st tt σ) =
          subst (λ t. Reach W (go_conf W x) (λ y. LandsAt t (Arrives W gs C (Nothing W gs C) (Sees W gs C Γ) (held_in Γ)
          (label_at is (scopes_of Γ) (the_labels is ∷ passing Γ) p.address a) st tt σ y) (lands W gs C Γ st a σ y))) g.0 h in
          let q = g.1.place in
          tick (r.resume is js (place_of W gs C Γ) σ) (begin h' (λ y m.
          let at-q : at-work W gs C q.address st (held_in Γ) m.now ≡ y = ap (λ z. at-work W gs C z st (held_in Γ) m.now) (sym g.1.aim)
          ∙ sym (m.there ∙ ap (λ v. at-work W gs C (label_at is (scopes_of Γ) (the_labels is ∷ passing Γ) p.address a) (v ++ st) (held_in Γ) m.now) m.gave) in
          subst₂ (λ z s. Meets W n (lands W gs C Γ st) F z (r.resume is js (place_of W gs C Γ) s)) at-q m.sees
          (b js q m.now g.1.good (fit_on g.1.later-cells w) g.1.stand g.1.same_end m.holding)))
  catches r is Γ ts st p e P x (ended c σ) f w b (ends h) = ends h
  catches r is Γ ts st p e P x (later σ) f w b (ends h) = ends h
  catches r is Γ ts st p e P x wrong f w b (ends h) = ends h

  -- ── leaving a block ──
  pub left : {A : Type 0} {G : A → List Value → Type 0} {n : ℕ} {L : ℕ → Store → Conf → Type 0} (Γ : List Around) (K : List ℕ) (b : ℕ) (st : List Value) (x : Conf) (r : Result A)
      → Meets W n (λ a σ. L a (with_blocks (outer_blocks σ.blocks) σ)) (Arrives W gs C G (Within W gs C Γ) K b st) x r
      → Meets W n L (Arrives W gs C G (Sees W gs C Γ) K b st) x (leaving (λ τ. outer_blocks τ.blocks) r)
  unfolding leaving
  left Γ K b st x r (crash h) = crash h
  left {n = n} Γ K b st x (done v σ) (ends h) =
      ends (record {
        steps = h.steps;
        there = let a = h.there in record
            { top = a.top; now = a.now; there = a.there; sees = a.sees; gave = a.gave; holding = a.holding };
      })
  left Γ K b st x (jump a σ) (ends h) = ends h
  left Γ K b st x (ended c σ) (ends h) = ends h
  left Γ K b st x (later σ) (ends h) = ends h
  left Γ K b st x wrong (ends h) = ends h

  -- from inside a block: what is seen there is what is seen outside, with a block more
  pub inner-seen : (Γ Δ : List Around) (D : Data) (σ : Store) → Opens gs Γ Δ → SameRoots gs Γ Δ → Sees W gs C Δ σ D → Within W gs C Γ σ D
  unfolding outer_blocks
  inner-seen Γ Δ D σ o r h =
      let b = o D.cells in
      ap₂ (λ x y. record { root = x; blocks = y; records = map (seen_r gs) D.shared.records; trace = D.trace; taken = D.taken }) (sym (r D.cells D.lowest)) (sym (ap outer_blocks b.1))
      ∙ ap (λ s. with_blocks (outer_blocks s.blocks) s) h
