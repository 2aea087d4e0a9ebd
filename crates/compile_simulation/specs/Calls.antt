-- Calls: the caller waits, the callee works with its parameters, a return hands down.
use Rattle.std.specs.Prelude.{Bool, true, false, ◌≡◌, refl, ◌⊎◌, ℕ, suc, ◌+◌, eqb, leb, ltb, take, drop, set as put}
use Rattle.std.proofs.Math.Path.{ap, sym, subst}
use Rattle.std.proofs.Common.{ap₂, ◌∙◌, inl, inr, length-append}
use mathlib.Core.List.{List, [], ◌∷◌, ◌++◌, map, append_assoc, append-nil}
use Rattle.std.proofs.Math.Option.{Option, none, some}
use native.Mathlib.Omega.{arith}
use Rattle.std.proofs.Math.ListN.{length}
use Rattle.logic.specs.Choice.{If◌then◌else◌}
use Rattle.values.specs.Types.{all_fit, sames}
use Rattle.values.specs.Ends.{too_many_activations}
use Rattle.values.specs.Values.{Value, Cell, assigned, tys_of, fresh_all}
use Rattle.language.specs.Tree.{Typed, Global}
use Rattle.language.specs.Tree.{Body as TreeBody}
use Rattle.language.specs.Execute.{Slot, slot, Store, Result, done, jump, later, wrong, Place, deeper, with_blocks, pair_up, Procedure, activate, leaving, release_all}
use Rattle.language.specs.Execute.{ended as over}
use Rattle.bytecode.specs.Macro.{Body}
use Rattle.bytecode.specs.Instructions.{Owner, own, root, call, return, procedure_at}
use Rattle.bytecode.specs.Machine.{Activation, running, bad_frame, bad_type, Stepped, moved, condition, at, pop_many, assign_all, activation, do_call, do_return, put_lowest, all_holds, fetch, act}
use Rattle.compile_code.specs.Compile.{Around, inside, outermost, bound, global, held, labels, held_in, kept, bound_at, global_at, or_cell}
use Rattle.compile_code.specs.Compile.{Cell as Kept, cell_of as kept_of}
use Rattle.language.specs.Names.{Scope}
use Rattle.compile_code.specs.Encode.{parameter_cells}
use Rattle.compile_simulation.specs.Meets.{Conf, stepped, Setting, Meets, crash, ends, here, demanded, from}
use Rattle.compile_simulation.specs.View.{Data, own_put, root_put, seen, seen_v, seen_c, seen_r, blocks_of, roots_of, in_first, cell_at, Apart, Distinct, Below}
use Rattle.compile_simulation.specs.View.{global-apart, apart-blocks, put_other, owner-of, number_of, bound-own}
use Rattle.compile_simulation.specs.Ops.{Owners, conf, here_of, top_of, op-at, op-tick, conds}
use Rattle.compile_simulation.specs.Placed.{Work, Holds, owner_of, lowest_of, Fit, at-work, place_of, Sees, Arrives, nowhere}

-- the operands taken off, the deepest first
unfoldable pub onto : List Value → List Value → List Value
onto [] vs = vs
onto (x ∷ xs) vs = onto xs (x ∷ vs)

pub onto-last : (xs : List Value) (w : Value) (vs : List Value) → onto (xs ++ (w ∷ [])) vs ≡ w ∷ onto xs vs
unfolding onto
onto-last [] w vs = refl
onto-last (x ∷ xs) w vs = onto-last xs w (x ∷ vs)

onto-length : (xs vs : List Value) → length (onto xs vs) ≡ length xs + length vs
unfolding onto
onto-length [] vs = omega arith
onto-length (x ∷ xs) vs = let q = onto-length xs (x ∷ vs) in omega arith

pub pops : (xs st vs : List Value) (f : List Value → List Value → Stepped) → pop_many (length xs) vs (xs ++ st) f ≡ f (onto xs vs) st
unfolding pop_many onto
pops [] st vs f = refl
pops (x ∷ xs) st vs f = pops xs st (x ∷ vs) f

lowest-length : (fs : List Activation) (ls : List Cell) → length (put_lowest ls fs) ≡ length fs
unfolding put_lowest
lowest-length [] ls = refl
lowest-length (f ∷ []) ls = refl
lowest-length (f ∷ (g ∷ gs)) ls = ap suc (lowest-length (g ∷ gs) ls)

-- the caller's data after a return
abbrev pub cells_back : List Activation → Data → List Cell → List Cell
cells_back [] D ls = ls
cells_back (f ∷ fs) D ls = D.cells

abbrev pub lowest_back : List Activation → Data → List Cell → List Cell
lowest_back [] D ls = D.lowest
lowest_back (f ∷ fs) D ls = ls

abbrev pub returned : List Activation → Data → Data → Data
returned fs D E = record { shared = E.shared; cells = cells_back fs D E.lowest; lowest = lowest_back fs D E.lowest; trace = E.trace; taken = E.taken }

-- the callee's data
abbrev pub entered : List Activation → Body → List Value → Data → Data
entered fs b vs D = record { shared = D.shared; cells = assign_all vs ++ fresh_all (drop (length vs) b.cells); lowest = lowest_of fs D.cells D.lowest; trace = D.trace; taken = D.taken }

-- the waiting caller
abbrev pub waits : ℕ → List Value → List ℕ → ℕ → Data → Activation
waits a st K k D = record { body = k; address = a; cells = D.cells; operands = st; holds = K }

waits-below : (fs : List Activation) (a : ℕ) (st : List Value) (K : List ℕ) (k : ℕ) (D : Data)
    → waits a st K k D ∷ put_lowest D.lowest fs ≡ put_lowest (lowest_of fs D.cells D.lowest) (waits a st K k D ∷ fs)
unfolding put_lowest
waits-below [] a st K k D = refl
waits-below (f ∷ fs) a st K k D = refl

-- what the callee keeps of the caller's cells: its blocks, and what it keeps itself
abbrev pub KeptBelow : List Global → Work → List Around → Data → List Cell → List Cell → Type 0
KeptBelow gs C Γ D cs ls = (blocks_of gs Γ (cells_back C.below D ls) ≡ blocks_of gs Γ D.cells) × C.keeps (cells_back C.below D ls) (lowest_back C.below D ls)

abbrev pub callee : List Global → Work → ℕ → List Around → ℕ → List Value → Data → Work
callee gs C k Γ a st D = record { body = k; below = waits a st (held_in Γ) C.body D ∷ C.below; keeps = KeptBelow gs C Γ D }

-- ── what lies around a procedure's body ──
global-blocks : (gs : List Global) (a : ℕ) (Γ : List Around) (c : ℕ) (x : Cell) (cs : List Cell) → global_at a Γ ≡ some (kept own c) → Distinct Γ → blocks_of gs Γ (put cs c x) ≡ blocks_of gs Γ cs
unfolding global_at Distinct blocks_of
global-blocks gs a [] c x cs h d = refl
global-blocks gs a (inside s ∷ Γ) c x cs h d = ap (λ z. [] ∷ z) (global-blocks gs a Γ c x cs h d)
global-blocks gs a (outermost s ∷ Γ) c x cs h d = global-blocks gs a Γ c x cs h d
global-blocks gs a (bound b e ∷ Γ) c x cs h d =
    ap₂ (λ y z. in_first (slot b (seen_c gs y)) z) (put_other cs c e x (λ r. global-apart a Γ own c e h d.0 (sym r))) (global-blocks gs a Γ c x cs h d.1)
global-blocks gs a (global q b e ∷ Γ) c x cs h d = pick (eqb b a) h (λ f. global-blocks gs a Γ c x cs f d.1)
  where
    pick : (t : Bool) → (If t then some (kept q e) else global_at a Γ) ≡ some (kept own c)
        → (global_at a Γ ≡ some (kept own c) → blocks_of gs Γ (put cs c x) ≡ blocks_of gs Γ cs) → blocks_of gs Γ (put cs c x) ≡ blocks_of gs Γ cs
    pick true f k = let z : kept q e ≡ kept own c = cc f in apart-blocks gs own c x cs cs Γ (subst (λ y. Apart (owner-of y) (number_of y) Γ) z d.0)
    pick false f k = k f
global-blocks gs a (held g ∷ Γ) c x cs h d = global-blocks gs a Γ c x cs h d
global-blocks gs a (labels is y ∷ Γ) c x cs h d = global-blocks gs a Γ c x cs h d

abbrev pub inside-proc : List Typed → Scope → List Around → List Around
inside-proc xs s Γ = parameter_cells xs 0 (inside s ∷ Γ)

global-past : (a : ℕ) (xs : List Typed) (n : ℕ) (Γ : List Around) → global_at a (parameter_cells xs n Γ) ≡ global_at a Γ
unfolding parameter_cells global_at
global-past a [] n Γ = refl
global-past a (x ∷ xs) n Γ = global-past a xs (suc n) Γ

roots-past : (gs : List Global) (xs : List Typed) (n : ℕ) (Γ : List Around) (cs ls : List Cell) → roots_of gs (parameter_cells xs n Γ) cs ls ≡ roots_of gs Γ cs ls
unfolding parameter_cells roots_of
roots-past gs [] n Γ cs ls = refl
roots-past gs (x ∷ xs) n Γ cs ls = roots-past gs xs (suc n) Γ cs ls

-- what is asked of the root's variables and of a procedure's parameters, whatever the program
pub record Static (gs : List Global) (Γ₀ : List Around) (xs : List Typed) (s : Scope) : Type 0 where
  pub apart : Distinct (inside-proc xs s Γ₀)
  pub few : Below (length xs) (inside-proc xs s Γ₀)
  pub lowest-only : (cs ds ls : List Cell) → roots_of gs Γ₀ cs ls ≡ roots_of gs Γ₀ ds ls
  pub no_block : (cs : List Cell) → blocks_of gs Γ₀ cs ≡ []
  pub no-hold : held_in Γ₀ ≡ []

kept-cases : (a c : ℕ) (o : Owner) (Γ : List Around) → kept_of a Γ ≡ some (kept o c) → (o ≡ own) ⊎ (global_at a Γ ≡ some (kept o c))
kept-cases a c o Γ h = pick (bound_at a Γ) refl h
  where
    pick : (x : Option Kept) → bound_at a Γ ≡ x → or_cell x (global_at a Γ) ≡ some (kept o c) → (o ≡ own) ⊎ (global_at a Γ ≡ some (kept o c))
    pick none e f = inr f
    pick (some (kept q d)) e f = let z : kept q d ≡ kept o c = cc f in inl (sym (ap owner-of z) ∙ bound-own a Γ q d e)

pub fit-callee : (W : Setting) (gs : List Global) (C : Work) (k : ℕ) (Γ : List Around) (a : ℕ) (st : List Value) (D : Data) (n : ℕ) (xs : List Typed)
    (s : Scope) → Fit W gs C Γ n → Static gs W.shared-names xs s
    → Fit W gs (callee gs C k Γ a st D) (inside-proc xs s W.shared-names) (length xs)
unfolding global_at roots_of
fit-callee W gs C k Γ a st D n xs s w t = record {
  distinct = t.apart;
  below-n = t.few;
  owners = λ b c o e. anyone o;
  stable = λ b c o x cs ls e f h. any-write b c o x cs ls (kept-cases b c o (inside-proc xs s W.shared-names) e) h;
  stable-global = λ b c o x cs ls e h. global-write b c o x cs ls (sym (global-past b xs 0 (inside s ∷ W.shared-names)) ∙ e) h;
  roots = λ cs ls ds. roots-past gs xs 0 (inside s ∷ W.shared-names) cs ls ∙ t.lowest-only cs ds ls;
  shared = λ b c o e. let q = w.shared b c o e in (q.0, global-past b xs 0 (inside s ∷ W.shared-names) ∙ e ∙ ap (λ z. some (kept z c)) q.0);
  fresh = λ c x cs ls p h. h;
}
  where
    anyone : (o : Owner) → Owners (waits a st (held_in Γ) C.body D ∷ C.below) o
    anyone own = tt
    anyone root = tt

    low-write : (fs : List Activation) (b c : ℕ) (x : Cell) (ls : List Cell) → global_at b Γ ≡ some (kept (owner_of fs) c)
        → ((x' : Cell) (cs' ls' : List Cell) → C.keeps cs' ls' → C.keeps (own_put (owner_of fs) c x' cs') (root_put (owner_of fs) c x' ls'))
        → (blocks_of gs Γ (cells_back fs D ls) ≡ blocks_of gs Γ D.cells) × C.keeps (cells_back fs D ls) (lowest_back fs D ls)
        → (blocks_of gs Γ (cells_back fs D (put ls c x)) ≡ blocks_of gs Γ D.cells) × C.keeps (cells_back fs D (put ls c x)) (lowest_back fs D (put ls c x))
    low-write [] b c x ls e g h = (global-blocks gs b Γ c x ls e w.distinct ∙ h.0, g x ls D.lowest h.1)
    low-write (f ∷ fs) b c x ls e g h = (h.0, g x D.cells ls h.1)

    global-write : (b c : ℕ) (o : Owner) (x : Cell) (cs ls : List Cell) → global_at b W.shared-names ≡ some (kept o c) → KeptBelow gs C Γ D cs ls
        → KeptBelow gs C Γ D (own_put o c x cs) (root_put o c x ls)
    global-write b c o x cs ls e h =
        let q = w.shared b c o e in
        subst (λ z. KeptBelow gs C Γ D (own_put z c x cs) (root_put z c x ls)) (sym q.0)
        (low-write C.below b c x ls q.1 (λ x' cs' ls' m. w.stable-global b c (owner_of C.below) x' cs' ls' q.1 m) h)

    any-write : (b c : ℕ) (o : Owner) (x : Cell) (cs ls : List Cell) → (o ≡ own) ⊎ (global_at b (inside-proc xs s W.shared-names) ≡ some (kept o c))
        → KeptBelow gs C Γ D cs ls → KeptBelow gs C Γ D (own_put o c x cs) (root_put o c x ls)
    any-write b c o x cs ls (inl e) h = subst (λ z. KeptBelow gs C Γ D (own_put z c x cs) (root_put z c x ls)) (sym e) h
    any-write b c o x cs ls (inr e) h = global-write b c o x cs ls (sym (global-past b xs 0 (inside s ∷ W.shared-names)) ∙ e) h

-- ── entering: the parameters are a block around the body ──
cell-next : (pre : List Cell) (x : Cell) (cs : List Cell) → cell_at (pre ++ (x ∷ cs)) (length pre) ≡ x
cell-next [] x cs = refl
cell-next (p ∷ pre) x cs = cell-next pre x cs

params-seen : (gs : List Global) (xs : List Typed) (vs : List Value) (pre rest : List Cell) (n : ℕ) (Γ : List Around) (bs : List (List Slot)) → length vs ≡ length xs → n ≡ length pre
    → blocks_of gs Γ (pre ++ (assign_all vs ++ rest)) ≡ [] ∷ bs → blocks_of gs (parameter_cells xs n Γ) (pre ++ (assign_all vs ++ rest)) ≡ pair_up xs (map (seen_v gs) vs) ∷ bs
unfolding parameter_cells blocks_of pair_up assign_all
params-seen gs [] vs pre rest n Γ bs l e h = h
params-seen gs (x ∷ xs) [] pre rest n Γ bs l e h = let z : ◌≡◌ {A = ℕ} 0 (suc (length xs)) = l in absurd (omega arith)
params-seen gs (x ∷ xs) (v ∷ vs) pre rest n Γ bs l e h =
    let cs = pre ++ (assigned v ∷ (assign_all vs ++ rest)) in
    let moved_on : (pre ++ (assigned v ∷ [])) ++ (assign_all vs ++ rest) ≡ cs = append_assoc pre (assigned v ∷ []) (assign_all vs ++ rest) in
    let l' : length vs ≡ length xs = omega arith in
    let k : suc n ≡ length (pre ++ (assigned v ∷ [])) = simp length-append (omega arith) in
    let rest-is : blocks_of gs (parameter_cells xs (suc n) Γ) cs ≡ pair_up xs (map (seen_v gs) vs) ∷ bs =
    subst (λ z. blocks_of gs (parameter_cells xs (suc n) Γ) z ≡ pair_up xs (map (seen_v gs) vs) ∷ bs) moved_on
    (params-seen gs xs vs (pre ++ (assigned v ∷ [])) rest (suc n) Γ bs l' k (subst (λ z. blocks_of gs Γ z ≡ [] ∷ bs) (sym moved_on) h)) in
    let here-is : cell_at cs n ≡ assigned v = subst (λ z. cell_at cs z ≡ assigned v) (sym e) (cell-next pre (assigned v) (assign_all vs ++ rest)) in
    ap₂ (λ c l. in_first (slot x.name (seen_c gs c)) l) here-is rest-is

pub entered-seen : (W : Setting) (gs : List Global) (C : Work) (Γ : List Around) (D : Data) (b : Body) (xs : List Typed) (s : Scope) (vs : List Value)
    (n : ℕ) → Fit W gs C Γ n → Static gs W.shared-names xs s → length vs ≡ length xs
    → seen gs (inside-proc xs s W.shared-names) (entered C.below b vs D) ≡ with_blocks (pair_up xs (map (seen_v gs) vs) ∷ []) (seen gs Γ D)
unfolding blocks_of roots_of
entered-seen W gs C Γ D b xs s vs n w t l =
    let cs = assign_all vs ++ fresh_all (drop (length vs) b.cells) in
    ap₂ (λ x y. record { root = x; blocks = y; records = map (seen_r gs) D.shared.records; trace = D.trace; taken = D.taken })
    (roots-past gs xs 0 (inside s ∷ W.shared-names) cs (lowest_of C.below D.cells D.lowest) ∙ sym (w.roots D.cells D.lowest cs))
    (params-seen gs xs vs [] (fresh_all (drop (length vs) b.cells)) 0 (inside s ∷ W.shared-names) [] l refl (ap (λ z. [] ∷ z) (t.no_block cs)))

-- ── returning ──
pub returned-seen : (W : Setting) (gs : List Global) (C : Work) (Γ Δ : List Around) (D E : Data) (n : ℕ) → Fit W gs C Γ n
    → ((cs ls : List Cell) → roots_of gs Δ cs ls ≡ roots_of gs W.shared-names cs ls) → KeptBelow gs C Γ D E.cells E.lowest
    → seen gs Γ (returned C.below D E) ≡ with_blocks (blocks_of gs Γ D.cells) (seen gs Δ E)
returned-seen W gs C Γ Δ D E n w r k =
    ap₂ (λ x y. record { root = x; blocks = y; records = map (seen_r gs) E.shared.records; trace = E.trace; taken = E.taken })
    (w.roots (cells_back C.below D E.lowest) (lowest_back C.below D E.lowest) E.cells
    ∙ ap (λ z. roots_of gs W.shared-names E.cells z) (low C.below) ∙ sym (r E.cells E.lowest))
    k.0
  where
    low : (fs : List Activation) → lowest_of fs (cells_back fs D E.lowest) (lowest_back fs D E.lowest) ≡ E.lowest
    low [] = refl
    low (f ∷ fs) = refl

module _ (W : Setting) (gs : List Global) where
  hands-down : {A : Type 0} {n : ℕ} {L : ℕ → Store → Conf → Type 0} {F : A → Store → Conf → Type 0} {r : Result A} (fs : List Activation)
      (k k₀ a e : ℕ) (b : Body) (us st : List Value) (K : List ℕ) (D E : Data)
      → fetch W.macro k e ≡ some return → procedure_at W.macro k ≡ some b
      → Meets W n L F (conf W gs k₀ fs (suc a) (us ++ st) K (returned fs D E)) r → Meets W n L F (conf W gs k (waits a st K k₀ D ∷ fs) e us [] E) r
  unfolding act do_return put_lowest
  hands-down [] k k₀ a e b us st K D E p q h = op-at W gs k (waits a st K k₀ D ∷ []) return e us [] E p (rw q
      (demanded E.trace E.taken (sames (tys_of us) b.results) bad_type _ (demanded E.trace E.taken (leb (length (us ++ st)) 32) bad_frame _ h)))
  hands-down (f ∷ fs) k k₀ a e b us st K D E p q h = op-at W gs k (waits a st K k₀ D ∷ (f ∷ fs)) return e us [] E p (rw q
      (demanded E.trace E.taken (sames (tys_of us) b.results) bad_type _ (demanded E.trace E.taken (leb (length (us ++ st)) 32) bad_frame _ h)))

  module _ (C : Work) where
    -- the callee's end, and then the caller's going on
    leaves : {A : Type 0} {G : A → List Value → Type 0} {n : ℕ} {L : ℕ → Store → Conf → Type 0} (Γ Δ : List Around) (k a e n' : ℕ) (b : Body) (st : List Value) (D : Data) (x : Conf) (z : Result A)
        → fetch W.macro k e ≡ some return → procedure_at W.macro k ≡ some b → Fit W gs C Γ n' → ((cs ls : List Cell) → roots_of gs Δ cs ls ≡ roots_of gs W.shared-names cs ls)
        → Meets W n (nowhere W gs C) (Arrives W gs (callee gs C k Γ a st D) G (Sees W gs (callee gs C k Γ a st D) Δ) [] e []) x z
        → Meets W n L (Arrives W gs C G (Sees W gs C Γ) (held_in Γ) (suc a) st) x (leaving (λ τ. blocks_of gs Γ D.cells) z)
    unfolding leaving
    leaves Γ Δ k a e n' b st D x z p q w r (crash h) = crash h
    leaves {G = G} {n = n} {L = L} Γ Δ k a e n' b st D x (done v τ) p q w r (ends h) = from h (λ y m.
        subst (λ z. Meets W n L (Arrives W gs C G (Sees W gs C Γ) (held_in Γ) (suc a) st) z (done v (with_blocks (blocks_of gs Γ D.cells) τ)))
        (sym (m.there ∙ ap (λ us. conf W gs k (waits a st (held_in Γ) C.body D ∷ C.below) e us [] m.now) (append-nil m.top)))
        (hands-down C.below k C.body a e b m.top st (held_in Γ) D m.now p q
        (ends (here (record {
          top = m.top;
          now = returned C.below D m.now;
          there = refl;
          sees = returned-seen W gs C Γ Δ D m.now n' w r m.holding ∙ ap (λ σ. with_blocks (blocks_of gs Γ D.cells) σ) m.sees;
          gave = m.gave;
          holding = m.holding.1;
        })))))
    leaves Γ Δ k a e n' b st D x (jump l τ) p q w r (ends h) = absurd h.there
    leaves Γ Δ k a e n' b st D x (over c τ) p q w r (ends h) = ends h
    leaves Γ Δ k a e n' b st D x (later τ) p q w r (ends h) = ends h
    leaves Γ Δ k a e n' b st D x wrong p q w r (ends h) = ends h

    pub calls : {A : Type 0} (G : A → List Value → Type 0) {n : ℕ} {L : ℕ → Store → Conf → Type 0} (Γ : List Around) (k a e n' : ℕ) (b : Body)
        (q : Procedure) (s : Scope) (top st : List Value) (D : Data) (f : TreeBody → Place → Store → Result A)
        → fetch W.macro C.body a ≡ some (call k) → fetch W.macro k e ≡ some return → procedure_at W.macro k ≡ some b
        → b.parameters ≡ length q.parameters → length top ≡ length q.parameters
        → Fit W gs C Γ n' → Static gs W.shared-names q.parameters s → Holds C D
        → ((E : Data) → Holds (callee gs C k Γ a st D) E → Meets W n (nowhere W gs C)
        (Arrives W gs (callee gs C k Γ a st D) G (Sees W gs (callee gs C k Γ a st D) (inside-proc q.parameters s W.shared-names)) [] e [])
        (at-work W gs (callee gs C k Γ a st D) b.first [] [] E) (f q.body (deeper (place_of W gs C Γ)) (seen gs (inside-proc q.parameters s W.shared-names) E)))
        → Meets W (suc n) L (Arrives W gs C G (Sees W gs C Γ) (held_in Γ) (suc a) st) (at-work W gs C a (top ++ st) (held_in Γ) D)
        (activate (some q) f (map (seen_v gs) (onto top [])) (place_of W gs C Γ) (seen gs Γ D))
    unfolding act do_call activate roots_of
    calls G {n} {L} Γ k a e n' b q s top st D f p pr pb c l w t h sim = op-tick W gs C.body C.below (call k) a (top ++ st) (held_in Γ) D p
        (rw (pb, c, sym l) (rw (pops top st [] _)
        (demanded D.trace D.taken (all_fit (tys_of (onto top [])) (take (length top) b.cells)) bad_type _
        (demanded D.trace D.taken (leb (length b.cells) 32) bad_frame _
        (rw (lowest-length C.below D.lowest) (enters (ltb (suc (length C.below)) 32)))))))
      where
        counts : length (onto top []) ≡ length q.parameters
        counts = let z = onto-length top [] in omega arith

        holding : Holds (callee gs C k Γ a st D) (entered C.below b (onto top []) D)
        holding = (same_blocks C.below, same_kept C.below h)
          where
            same_blocks : (fs : List Activation) → blocks_of gs Γ (cells_back fs D (lowest_of fs D.cells D.lowest)) ≡ blocks_of gs Γ D.cells
            same_blocks [] = refl
            same_blocks (g ∷ fs) = refl

            same_kept : (fs : List Activation) → C.keeps D.cells D.lowest → C.keeps (cells_back fs D (lowest_of fs D.cells D.lowest)) (lowest_back fs D (lowest_of fs D.cells D.lowest))
            same_kept [] h = h
            same_kept (g ∷ fs) h = h

        enters : (t : Bool) → Meets W n L (Arrives W gs C G (Sees W gs C Γ) (held_in Γ) (suc a) st)
            (stepped (If t then moved [] (running D.shared (activation k b (onto top []))
            (at a st (top_of W gs C.body C.below a (top ++ st) (held_in Γ) D) ∷ put_lowest D.lowest C.below)) else condition
            too_many_activations (here_of W gs C.body C.below a (top ++ st) (held_in Γ) D)) D.trace D.taken)
            (If t then leaving (λ τ. blocks_of gs Γ D.cells) (f q.body (deeper (place_of W gs C Γ)) (with_blocks (pair_up q.parameters (map (seen_v gs) (onto top [])) ∷ []) (seen gs Γ D)))
            else over too_many_activations (release_all (held_in Γ ++ all_holds C.below) (seen gs Γ D)))
        enters true = rw (waits-below C.below a st (held_in Γ) C.body D)
            (leaves Γ (inside-proc q.parameters s W.shared-names) k a e n' b st D _ _ pr pb w (λ cs ls. roots-past gs q.parameters 0 (inside s ∷ W.shared-names) cs ls)
            (rw (sym (entered-seen W gs C Γ D b q.parameters s (onto top []) n' w t counts)) (sim (entered C.below b (onto top []) D) holding)))
        enters false = conds W gs C.body C.below too_many_activations Γ a (top ++ st) D
