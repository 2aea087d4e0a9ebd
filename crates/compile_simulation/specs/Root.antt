-- The root: its head, its statements, its end.
use Rattle.std.specs.Prelude.{◌≡◌, ℕ, suc, length, set as put}
use Rattle.std.proofs.Math.Path.{refl, ap, subst}
use Rattle.std.proofs.Common.{sym, ◌∙◌}
use mathlib.Core.List.{List, [], ◌∷◌, ◌++◌}
use Rattle.std.proofs.Math.Option.{some}
use Rattle.std.proofs.Math.ListN.{get_elem?}
use Rattle.values.specs.Types.{Ty}
use Rattle.values.specs.Values.{Cell, assigned, initial, fresh}
use Rattle.values.specs.Trace.{release, hold, event}
use Rattle.language.specs.Tree.{Typed, Decl, declare, holding, Global, Items}
use Rattle.language.specs.Names.{Scope}
use Rattle.language.specs.Execute.{Store, Result, done, jump, ended, later, wrong, Place, under, say, declare_in, let_go, within, catch, exec_items, Procedure, procedure_in, class_in, fueled}
use Rattle.bytecode.specs.Instructions.{own, let_hold}
use Rattle.bytecode.specs.Machine.{fetch}
use Rattle.compile_code.specs.Code.{Code, At, at, skip, after}
use Rattle.compile_code.specs.Compile.{Around, outermost, global, held, labels, held_in, code_head, code_items, ty_in, class_number}
use Rattle.compile_simulation.specs.Meets.{Conf, Setting, Meets, crash, ends, here, onward}
use Rattle.compile_simulation.specs.Meets.{from as begin}
use Rattle.compile_simulation.specs.View.{Data, written, seen, seen_c, blocks_of, roots_of, cell_at, put_same, Apart, apart-blocks, apart-roots}
use Rattle.compile_simulation.specs.Ops.{says, pushes, stores, takes, lets}
use Rattle.compile_simulation.specs.Placed.{Work, Fit, fit-labels, Stands, at-work, place_of, Sees, Nothing, Arrives, lands}
use Rattle.compile_simulation.specs.Blocks.{OkTyped}
use Rattle.compile_simulation.specs.Sim.{world, Called, OkItems, block_items, sim_items, all}

module _ (gs : List Global) where
  -- P holds of what lies around the statements, and of the next cell
  unfoldable pub OkRoot : List Decl → List Around → ℕ → (List Around → ℕ → Type 0) → Type 0
  OkRoot [] Γ n P = P Γ n
  OkRoot (declare x ∷ ds) Γ n P = OkTyped gs x × Apart own n Γ × OkRoot ds (global own x.name n ∷ Γ) (suc n) P
  OkRoot (holding g ∷ ds) Γ n P = OkRoot ds (held g ∷ Γ) n P

  declared : (x : Typed) (Γ : List Around) (D : Data) (n : ℕ) (y : Cell) → OkTyped gs x → Apart own n Γ → get_elem? D.cells n ≡ some y → blocks_of gs Γ D.cells ≡ []
      → seen gs (global own x.name n ∷ Γ) (written own n (assigned (initial (ty_in gs x.type))) D) ≡ declare_in x (seen gs Γ D)
  unfolding declare_in blocks_of roots_of
  declared x Γ D n y o a g e =
      let u = assigned (initial (ty_in gs x.type)) in
      let cell-is : seen_c gs (cell_at (put D.cells n u) n) ≡ fresh x.type = ap (seen_c gs) (put_same D.cells n u y g) ∙ ap assigned o in
      let blocks-are : blocks_of gs Γ (put D.cells n u) ≡ [] = apart-blocks gs own n u D.cells D.lowest Γ a ∙ e in
      let roots-are : roots_of gs Γ (put D.cells n u) D.lowest ≡ roots_of gs Γ D.cells D.lowest = apart-roots gs own n u D.cells D.lowest Γ a in
      rw (cell-is, blocks-are, roots-are, e) refl

module _ (W : Setting) (gs : List Global) where
  abbrev pub at_root : Work
  at_root = record { body = 0; below = []; keeps = λ cs ls. Unit {0} }

  -- only what was said matters at the end
  abbrev pub Told : Store → Data → Type 0
  Told σ D = (D.trace ≡ σ.trace) × (D.taken ≡ σ.taken)

  lets_go : {n : ℕ} (Γ : List Around) (g m : ℕ) (x : Conf) (r : Result (Unit {0})) → fetch W.macro 0 m ≡ some let_hold
      → Meets W n (lands W gs at_root (held g ∷ Γ) []) (Arrives W gs at_root (Nothing W gs at_root) Told (g ∷ held_in Γ) m []) x r
      → Meets W n (lands W gs at_root Γ []) (Arrives W gs at_root (Nothing W gs at_root) Told (held_in Γ) (suc m) []) x (let_go g r)
  unfolding let_go lands
  lets_go Γ g m x r i (crash h) = crash h
  lets_go {n} Γ g m x (done v σ) i (ends h) = begin h (λ y a.
      subst (λ z. Meets W n (lands W gs at_root Γ []) (Arrives W gs at_root (Nothing W gs at_root) Told (held_in Γ) (suc m) []) z (done v (say (release g) σ))) (sym a.there)
      (lets W gs 0 [] g m (a.top ++ []) (held_in Γ) a.now i
      (ends (here (record {
        top = a.top;
        now = says (event (release g) ∷ []) a.now;
        there = refl;
        sees = (ap (λ t. event (release g) ∷ t) a.sees.0, a.sees.1);
        gave = a.gave;
        holding = tt;
      })))))
  lets_go Γ g m x (jump a σ) i (ends h) = ends h
  lets_go Γ g m x (ended c σ) i (ends h) = ends h
  lets_go Γ g m x (later σ) i (ends h) = ends h
  lets_go Γ g m x wrong i (ends h) = ends h

  abbrev Inner : ℕ → (List Around → ℕ → Type 0) → (List Around → At → Code) → (Place → Store → Result (Unit {0})) → Type 0
  Inner n P f g = (Δ : List Around) (q : At) (D : Data) → P Δ q.cell → Stands W 0 (f Δ q) q
      → Meets W n (lands W gs at_root Δ []) (Arrives W gs at_root (Nothing W gs at_root) Told (held_in Δ) (after (f Δ q) q).address [])
      (at-work W gs at_root q.address [] (held_in Δ) D) (g (place_of W gs at_root Δ) (seen gs Δ D))

  root_head : {n : ℕ} (ds : List Decl) (Γ : List Around) (p : At) (P : List Around → ℕ → Type 0) (f : List Around → At → Code) (g : Place → Store → Result (Unit {0})) (D : Data)
      → Inner n P f g → OkRoot gs ds Γ p.cell P → ((cs : List Cell) → blocks_of gs Γ cs ≡ []) → Stands W 0 (code_head gs (global own) ds Γ p f) p
      → Meets W n (lands W gs at_root Γ []) (Arrives W gs at_root (Nothing W gs at_root) Told (held_in Γ)
      (after (code_head gs (global own) ds Γ p f) p).address []) (at-work W gs at_root p.address [] (held_in Γ) D)
      (within ds (place_of W gs at_root Γ) (seen gs Γ D) g)
  unfolding OkRoot code_head Stands after within held_in lands blocks_of roots_of
  root_head [] Γ p P f g D i o b h = i Γ p D o h
  root_head {n} (declare x ∷ ds) Γ p P f g D i o b h =
      let u = initial (ty_in gs x.type) in
      let Δ = global own x.name p.cell ∷ Γ in
      pushes W gs 0 [] u p.address [] (held_in Γ) D h.1.0
      (stores W gs 0 [] own p.cell u (suc p.address) [] (held_in Γ) D tt h.1.1.0 (λ y e.
      let D' = written own p.cell (assigned u) D in
      subst (λ s. Meets W n (lands W gs at_root Γ []) (Arrives W gs at_root (Nothing W gs at_root) Told (held_in Γ)
      (after (code_head gs (global own) ds Δ (at (suc (suc p.address)) (suc p.cell)) f) (at (suc (suc p.address)) (suc p.cell))).address [])
      (at-work W gs at_root (suc (suc p.address)) [] (held_in Γ) D') (within ds (place_of W gs at_root Γ) s g))
      (declared gs x Γ D p.cell y o.0 o.1 e (b D.cells))
      (root_head ds Δ (at (suc (suc p.address)) (suc p.cell)) P f g D' i o.2 b h.1.1.1)))
  root_head (holding x ∷ ds) Γ p P f g D i o b h =
      takes W gs 0 [] x p.address [] (held_in Γ) D h.0
      (lets_go Γ x (after (code_head gs (global own) ds (held x ∷ Γ) (skip 1 p) f) (skip 1 p)).address _ (within ds (under x (place_of W gs at_root Γ)) (say (hold x) (seen gs Γ D)) g) h.1.1
      (root_head ds (held x ∷ Γ) (skip 1 p) P f g (says (event (hold x) ∷ []) D) i o b h.1.0))

  module _ (table : (a : ℕ) (q : Procedure) → procedure_in a gs ≡ some q → Called W gs a q)
      (classes : (c : ℕ) (xs : List Typed) → class_in c gs ≡ some xs → (ts : List Ty) × (get_elem? W.macro.classes (class_number gs c) ≡ some ts) × (length ts ≡ length xs)) where
    told : {n : ℕ} {L : ℕ → Store → Conf → Type 0} {K : List ℕ} {b : ℕ} {x : Conf} {z : Result (Unit {0})} (Δ : List Around)
        → Meets W n L (Arrives W gs at_root (Nothing W gs at_root) (Sees W gs at_root Δ) K b []) x z → Meets W n L (Arrives W gs at_root (Nothing W gs at_root) Told K b []) x z
    told {z = z} Δ h = onward z (λ l σ q. q) h (λ v σ y a.
        ends (here (record { top = a.top; now = a.now; there = a.there; sees = (ap (λ s. s.trace) a.sees, ap (λ s. s.taken) a.sees); gave = a.gave; holding = tt })))

    -- the whole of the root but its last op
    pub rooted : (n : ℕ) (ds : List Decl) (s : Scope) (is : Items) (D : Data)
        → OkRoot gs ds (outermost s ∷ []) 0 (λ Δ n'. Fit W gs at_root Δ n' × ((x : ℕ) → OkItems gs is (labels is x ∷ Δ)))
        → Stands W 0 (code_head gs (global own) ds (outermost s ∷ []) (at 0 0) (λ Δ q. code_items gs is (labels is q.address ∷ Δ) [] q)) (at 0 0)
        → Meets W (suc n) (lands W gs at_root (outermost s ∷ []) []) (Arrives W gs at_root (Nothing W gs at_root) Told []
        (after (code_head gs (global own) ds (outermost s ∷ []) (at 0 0) (λ Δ q. code_items gs is (labels is q.address ∷ Δ) [] q)) (at 0 0)).address [])
        (at-work W gs at_root 0 [] [] D) (within ds (place_of W gs at_root (outermost s ∷ [])) (seen gs (outermost s ∷ []) D)
        (λ X σ. catch (fueled (world W gs) n) is X (exec_items (world W gs) (fueled (world W gs) n) is X σ)))
    unfolding held_in blocks_of
    rooted n ds s is D o h =
        let r = fueled (world W gs) n in let b = all W gs table classes n in
        root_head ds (outermost s ∷ []) (at 0 0) (λ Δ n'. Fit W gs at_root Δ n' × ((x : ℕ) → OkItems gs is (labels is x ∷ Δ))) (λ Δ q. code_items gs is (labels is q.address ∷ Δ) [] q)
        (λ X σ. catch r is X (exec_items (world W gs) r is X σ)) D
        (λ Δ q E o' h'. told Δ (block_items W gs table classes n r b at_root is Δ [] [] q o'.1 o'.0 h'
        (λ E₁ k₁. sim_items W gs table classes n r b is at_root (labels is q.address ∷ Δ) [] q [] (o'.1 q.address)
        (fit-labels is q.address o'.0) h' E₁ k₁) E tt))
        o (λ cs. refl) h
