-- What each op does to an activation's data: the laws by which the simulation takes a step.
use Rattle.std.specs.Prelude.{Bool, ◌≡◌, refl, leb, ltb, length, set as put}
use Rattle.std.proofs.Math.Bool.{true, false}
use Rattle.std.proofs.Math.Path.{ap}
use Rattle.std.proofs.Common.{ap₂, sym, ◌∙◌, subst}
use mathlib.Core.List.{List, [], ◌∷◌, ◌++◌}
use Rattle.std.proofs.Math.Option.{some}
use Prim.Native.Nat.{ℕ, suc}
use Rattle.std.proofs.Math.ListN.{get_elem?}
use Rattle.logic.specs.Choice.{If◌then◌else◌}
use Rattle.values.specs.Types.{Ty, fits}
use Rattle.values.specs.Values.{Value, log, as_logical, ty_of, Cell, assigned}
use Rattle.values.specs.Trace.{Item, event, release, hold}
use Rattle.language.specs.Tree.{Global}
use Rattle.language.specs.Execute.{Store, Result, release_all}
use Rattle.language.specs.Execute.{ended as over}
use Rattle.bytecode.specs.Instructions.{Owner, own, root, Instr, push, load, store, go, go_unless, take_hold, let_hold, cell_ty, known}
use Rattle.bytecode.specs.Machine.{Shared, Activation, running, bad_frame, bad_type, no_step, Stepped, Here, at, condition, goes_on, root_of, put_lowest, cells_for, put_cells}
use Rattle.bytecode.specs.Machine.{put_top, push_cell, on_cell, do_load, do_store, do_go_unless, do_take_hold, all_holds, fetch, step, act, goes}
use Rattle.compile_code.specs.Compile.{Around, held_in}
use Rattle.compile_simulation.specs.Meets.{Conf, live, counted, stepped, Setting, Meets, back, tick, demanded, had, fails}
use Rattle.compile_simulation.specs.Meets.{go as go_conf}
use Rattle.compile_simulation.specs.Projections.{is-logical}
use Rattle.compile_simulation.specs.View.{Data, written, of_owner, seen}

-- the cells of the root are there where an op asks for them
abbrev pub Owners : List Activation → Owner → Type 0
Owners fs own = Unit {0}
Owners [] root = ⊥
Owners (f ∷ fs) root = Unit {0}

lowest-cells : (t f : Activation) (fs : List Activation) (ls : List Cell) → (root_of t (put_lowest ls (f ∷ fs))).cells ≡ ls
unfolding root_of put_lowest
lowest-cells t f [] ls = refl
lowest-cells t f (g ∷ gs) ls = lowest-cells f g gs ls

lowest-put : (fs : List Activation) (ls ks : List Cell) → put_lowest ks (put_lowest ls fs) ≡ put_lowest ks fs
unfolding put_lowest
lowest-put [] ls ks = refl
lowest-put (f ∷ []) ls ks = refl
lowest-put (f ∷ (g ∷ [])) ls ks = refl
lowest-put (f ∷ (g ∷ (h ∷ hs))) ls ks = ap (λ z. f ∷ z) (lowest-put (g ∷ (h ∷ hs)) ls ks)

pub lowest-holds : (fs : List Activation) (ls : List Cell) → all_holds (put_lowest ls fs) ≡ all_holds fs
unfolding all_holds put_lowest
lowest-holds [] ls = refl
lowest-holds (f ∷ []) ls = refl
lowest-holds (f ∷ (g ∷ gs)) ls = ap (λ z. f.holds ++ z) (lowest-holds (g ∷ gs) ls)

top-put : (t : Activation) (xs : List Activation) (ls ks : List Cell) → Owners xs root → put_top ks t (put_lowest ls xs) ≡ t
unfolding put_lowest
top-put t [] ls ks w = absurd w
top-put t (f ∷ []) ls ks w = refl
top-put t (f ∷ (g ∷ gs)) ls ks w = refl

root-put : (s : Shared) (t : Activation) (st : List Value) (xs : List Activation) (ls : List Cell) (c : ℕ) (x : Cell) (tr : List Item) (n : ℕ) → Owners xs root → (ks : List Cell) → ks ≡ ls
    → ◌≡◌ {A = Conf} (live (running s (at (suc (put_top (put ks c x) t (put_lowest ls xs)).address) st (put_top (put ks c x) t (put_lowest ls xs)))
    (put_lowest (put ks c x) (put_lowest ls xs))) tr n) (live (running s (at (suc t.address) st t) (put_lowest (put ls c x) xs)) tr n)
root-put s t st xs ls c x tr n w ks e =
    ap₂ (λ y z. live (running s (at (suc y.address) st y) z) tr n) (top-put t xs ls (put ks c x) w)
    (lowest-put xs ls (put ks c x) ∙ ap (λ z. put_lowest (put z c x) xs) e)

-- one more item said, one more reading taken
abbrev pub says : List Item → Data → Data
says is D = record { shared = D.shared; cells = D.cells; lowest = D.lowest; trace = is ++ D.trace; taken = counted is D.taken }

module _ (W : Setting) (gs : List Global) (k : ℕ) (fs : List Activation) where
  abbrev pub top_of : ℕ → List Value → List ℕ → Data → Activation
  top_of a st K D = record { body = k; address = a; cells = D.cells; operands = st; holds = K }

  abbrev pub here_of : ℕ → List Value → List ℕ → Data → Here
  here_of a st K D = record { shared = D.shared; top = top_of a st K D; below = put_lowest D.lowest fs }

  abbrev pub conf : ℕ → List Value → List ℕ → Data → Conf
  conf a st K D = live (running D.shared (top_of a st K D) (put_lowest D.lowest fs)) D.trace D.taken

  cells-for : (o : Owner) (a : ℕ) (st : List Value) (K : List ℕ) (D : Data) → Owners fs o → cells_for o (here_of a st K D) ≡ of_owner gs o D.cells D.lowest
  cells-for own a st K D w = refl
  cells-for root a st K D w = lowest fs w
    where
      lowest : (xs : List Activation) → Owners xs root → (root_of (top_of a st K D) (put_lowest D.lowest xs)).cells ≡ D.lowest
      lowest [] w = absurd w
      lowest (f ∷ xs) w = lowest-cells (top_of a st K D) f xs D.lowest

  -- a machine that goes on, as an op leaves it
  abbrev on : List Value → Here → Data → Conf
  on st h D = live (running h.shared (at (suc h.top.address) st h.top) h.below) D.trace D.taken

  cells-put : (o : Owner) (c : ℕ) (x : Cell) (a : ℕ) (vs st : List Value) (K : List ℕ) (D : Data) → Owners fs o
      → on st (put_cells o (put (cells_for o (here_of a vs K D)) c x) (here_of a vs K D)) D ≡ conf (suc a) st K (written o c x D)
  cells-put own c x a vs st K D w = refl
  cells-put root c x a vs st K D w =
      let t = top_of a vs K D in
      root-put D.shared t st fs D.lowest c x D.trace D.taken w (root_of t (put_lowest D.lowest fs)).cells (cells-for root a vs K D w)

  module _ {A : Type 0} {n : ℕ} {L : ℕ → Store → Conf → Type 0} {F : A → Store → Conf → Type 0} {r : Result A} where
    pub op-at : (i : Instr) (a : ℕ) (st : List Value) (K : List ℕ) (D : Data) → fetch W.macro k a ≡ some i
        → Meets W n L F (stepped (act W.macro (W.oracle D.taken) i (here_of a st K D)) D.trace D.taken) r → Meets W n L F (conf a st K D) r
    unfolding go_conf step
    op-at i a st K D p h = back r (rw p h)

    pub op-tick : (i : Instr) (a : ℕ) (st : List Value) (K : List ℕ) (D : Data) → fetch W.macro k a ≡ some i
        → Meets W n L F (stepped (act W.macro (W.oracle D.taken) i (here_of a st K D)) D.trace D.taken) r → Meets W (suc n) L F (conf a st K D) r
    unfolding go_conf step
    op-tick i a st K D p h = tick r (rw p h)

    -- it goes on, saying something
    pub goes-on : (is : List Item) (vs : List Value) (a : ℕ) (st : List Value) (K : List ℕ) (D : Data) → Meets W n L F (conf (suc a) vs K (says is D)) r
        → Meets W n L F (stepped (goes_on is vs (here_of a st K D)) D.trace D.taken) r
    goes-on is vs a st K D h = demanded D.trace D.taken (leb (length vs) 32) bad_frame _ h

    pub pushes : (v : Value) (a : ℕ) (st : List Value) (K : List ℕ) (D : Data) → fetch W.macro k a ≡ some (push v)
        → Meets W n L F (conf (suc a) (v ∷ st) K D) r → Meets W n L F (conf a st K D) r
    unfolding act
    pushes v a st K D p h = op-at (push v) a st K D p
        (demanded D.trace D.taken (known W.macro (ty_of v)) no_step _ (goes-on [] (v ∷ st) a st K D h))

    pub jumps : (t : ℕ) (a : ℕ) (st : List Value) (K : List ℕ) (D : Data) → fetch W.macro k a ≡ some (go t) → Meets W n L F (conf t st K D) r → Meets W n L F (conf a st K D) r
    unfolding act
    jumps t a st K D p h = op-at (go t) a st K D p h

    -- a cell, where an op asks for it
    on-cell : (o : Owner) (c : ℕ) (a : ℕ) (st : List Value) (K : List ℕ) (D : Data) → Owners fs o → (f : Ty → Cell → Stepped)
        → ((t : Ty) (x : Cell) → get_elem? (of_owner gs o D.cells D.lowest) c ≡ some x → Meets W n L F (stepped (f t x) D.trace D.taken) r)
        → Meets W n L F (stepped (on_cell W.macro o c (here_of a st K D) f) D.trace D.taken) r
    on-cell o c a st K D w f h =
        had D.trace D.taken (cell_ty W.macro k o c) bad_frame _ (λ t u. had D.trace D.taken (get_elem? (cells_for o (here_of a st K D)) c) bad_frame _
        (λ x e. h t x (ap (λ z. get_elem? z c) (sym (cells-for o a st K D w)) ∙ e)))

    pub loads : (o : Owner) (c : ℕ) (a : ℕ) (st : List Value) (K : List ℕ) (D : Data) → Owners fs o → fetch W.macro k a ≡ some (load o c)
        → ((v : Value) → get_elem? (of_owner gs o D.cells D.lowest) c ≡ some (assigned v) → Meets W n L F (conf (suc a) (v ∷ st) K D) r) → Meets W n L F (conf a st K D) r
    unfolding act do_load
    loads o c a st K D w p f = op-at (load o c) a st K D p (on-cell o c a st K D w _ (λ t x e. pushed t x (λ v u. f v (e ∙ ap some u))))
      where
        pushed : (t : Ty) (x : Cell) → ((v : Value) → x ≡ assigned v → Meets W n L F (conf (suc a) (v ∷ st) K D) r)
            → Meets W n L F (stepped (push_cell t x (here_of a st K D)) D.trace D.taken) r
        pushed t (assigned v) f = demanded D.trace D.taken (fits (ty_of v) t) bad_type _ (goes-on [] (v ∷ st) a st K D (f v refl))

    pub stores : (o : Owner) (c : ℕ) (v : Value) (a : ℕ) (st : List Value) (K : List ℕ) (D : Data) → Owners fs o → fetch W.macro k a ≡ some (store o c)
        → ((y : Cell) → get_elem? (of_owner gs o D.cells D.lowest) c ≡ some y → Meets W n L F (conf (suc a) st K (written o c (assigned v) D)) r) → Meets W n L F (conf a (v ∷ st) K D) r
    unfolding act do_store
    stores o c v a st K D w p f = op-at (store o c) a (v ∷ st) K D p (on-cell o c a (v ∷ st) K D w _ (λ t y e.
        demanded D.trace D.taken (fits (ty_of v) t) bad_type _ (demanded D.trace D.taken (leb (length st) 32) bad_frame _
        (subst (λ z. Meets W n L F z r) (sym (cells-put o c (assigned v) a (v ∷ st) st K D w)) (f y e)))))

    -- holds
    pub takes : (g : ℕ) (a : ℕ) (st : List Value) (K : List ℕ) (D : Data) → fetch W.macro k a ≡ some (take_hold g)
        → Meets W n L F (conf (suc a) st (g ∷ K) (says (event (hold g) ∷ []) D)) r → Meets W n L F (conf a st K D) r
    unfolding act do_take_hold
    takes g a st K D p h = op-at (take_hold g) a st K D p (demanded D.trace D.taken (ltb (length K) 16) bad_frame _ h)

    pub lets : (g : ℕ) (a : ℕ) (st : List Value) (K : List ℕ) (D : Data) → fetch W.macro k a ≡ some let_hold
        → Meets W n L F (conf (suc a) st K (says (event (release g) ∷ []) D)) r → Meets W n L F (conf a st (g ∷ K) D) r
    unfolding act
    lets g a st K D p h = op-at let_hold a st (g ∷ K) D p h

    -- a test
    pub forks : (t : ℕ) (v : Value) (a : ℕ) (st : List Value) (K : List ℕ) (D : Data) → fetch W.macro k a ≡ some (go_unless t)
        → (v ≡ log true → Meets W n L F (conf (suc a) st K D) r) → (v ≡ log false → Meets W n L F (conf t st K D) r) → Meets W n L F (conf a (v ∷ st) K D) r
    unfolding act do_go_unless
    forks t v a st K D p f g = op-at (go_unless t) a (v ∷ st) K D p (had D.trace D.taken (as_logical v) bad_type _ (λ b e. pick b (is-logical v b e)))
      where
        pick : (b : Bool) → v ≡ log b → Meets W n L F (stepped (goes (If b then suc a else t) st (here_of a (v ∷ st) K D)) D.trace D.taken) r
        pick true e = f e
        pick false e = g e

  module _ {A : Type 0} {n : ℕ} {L : ℕ → Store → Conf → Type 0} {F : A → Store → Conf → Type 0} where
    -- a condition
    pub conds : (c : ℕ) (Γ : List Around) (a : ℕ) (st : List Value) (D : Data)
        → Meets W n L F (stepped (condition c (here_of a st (held_in Γ) D)) D.trace D.taken) (over c (release_all (held_in Γ ++ all_holds fs) (seen gs Γ D)))
    unfolding condition all_holds
    conds c Γ a st D = rw (lowest-holds fs D.lowest) (fails c (held_in Γ ++ all_holds fs) (seen gs Γ D))
