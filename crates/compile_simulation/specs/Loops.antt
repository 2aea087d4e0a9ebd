-- A for: what its own instructions do, from the three values on the stack to the first turn, and from the end of a turn to the next.
use Rattle.std.specs.Prelude.{Bool, ◌≡◌, ℕ, zero, suc, ◌≤◌, ℤ, negsuc, ◌+ℤ◌, ◌-ℤ◌}
use Rattle.std.proofs.Math.Bool.{true, false}
use Rattle.std.proofs.Math.Path.{refl, subst}
use Rattle.std.proofs.Common.{ap, ap₂, sym, ◌∙◌, arith, ne_eqb}
use mathlib.Core.List.{List, [], ◌∷◌, map}
use Rattle.std.proofs.Math.Option.{some}
use Rattle.std.proofs.Math.IntN.{pos}
use Rattle.std.proofs.Math.ListN.{get_elem?}
use Rattle.std.specs.Int.Signed.{lt_z, le_z}
use Rattle.std.proofs.lemmas.Bool.{lt-leb}
use Rattle.values.specs.Ends.{step_zero}
use Rattle.values.specs.Arithmetic.{gives, is_zero}
use Rattle.values.specs.Operators.{Binary, binary, plus, minus, less, at_most, greater, at_least, equal}
use Rattle.values.specs.Values.{Value, int, log, Cell, assigned, same_integer, map_outcome, apply2}
use Rattle.language.specs.Tree.{Global}
use Rattle.values.specs.Trace.{release}
use Rattle.language.specs.Names.{in_block, in_expression, in_procedure, in_loop}
use Rattle.language.specs.Execute.{Store, with_blocks, outer_blocks, say, Result, Loop, due}
use Rattle.bytecode.specs.Macro.{Shape}
use Rattle.bytecode.specs.Instructions.{own, push, load, store, operate, go, go_unless, stop}
use Rattle.bytecode.specs.Machine.{fetch, act, do_operate}
use Rattle.compile_code.specs.Code.{at, ahead, after}
use Rattle.compile_code.specs.Compile.{Around, inside, outermost, bound, global, held, labels, has_label, label_at, the_labels, passing, scopes_of, held_in}
use Rattle.compile_code.specs.Compile.{most_integer, least_integer, code_stored, code_downward, code_upward, code_once, code_turned}
use Rattle.compile_simulation.specs.Meets.{Conf, Setting, Reach, run, Meets}
use Rattle.compile_simulation.specs.View.{Data, written, seen, seen_r, cell_at, found_at, put_same, put_other, Apart, apart-blocks, apart-roots, below_apart, below_more}
use Rattle.compile_simulation.specs.Ops.{op-at, pushes, loads, stores, forks, goes-on, jumps}
use Rattle.compile_simulation.specs.Placed.{Work, Holds, Fit, Stands, at-work, looping, lands, LandsAt, Arrives, Nothing, Sees}
use Rattle.compile_simulation.specs.Counting.{Small, Steers, onward, settles-to, most-small, near-small, down-small, steers-down, once-down, due-down, least-small}
use Rattle.compile_simulation.specs.Counting.{up-small-bound, steers-up, once-up, due-up}

-- a cell that no name has is not seen
pub hidden : (gs : List Global) (Γ : List Around) (c : ℕ) (x : Cell) (D : Data) → Apart own c Γ → seen gs Γ (written own c x D) ≡ seen gs Γ D
hidden gs Γ c x D a = ap₂ (λ l m. record { root = m; blocks = l; records = map (seen_r gs) D.shared.records; trace = D.trace; taken = D.taken })
    (apart-blocks gs own c x D.cells D.lowest Γ a) (apart-roots gs own c x D.cells D.lowest Γ a)

-- a goto out of a turn lands where it would without the loop's cells
module _ (W : Setting) (gs : List Global) (C : Work) (c : ℕ) (v s t : ℤ) where
  freed : (Γ : List Around) (st : List Value) (a : ℕ) (τ : Store) (y : Conf) → lands W gs (looping C c v s t) Γ st a τ y → lands W gs C Γ st a τ y
  unfolding lands
  freed [] st a τ y h = h
  freed (inside (in_block ds) ∷ Γ) st a τ y h = freed Γ st a (with_blocks (outer_blocks τ.blocks) τ) y h
  freed (inside (in_expression ds) ∷ Γ) st a τ y h = h
  freed (inside (in_procedure ds) ∷ Γ) st a τ y h = h
  freed (inside (in_loop d) ∷ Γ) st a τ y h = freed Γ st a (with_blocks (outer_blocks τ.blocks) τ) y h
  freed (outermost q ∷ Γ) st a τ y h = h
  freed (bound b d ∷ Γ) st a τ y h = freed Γ st a τ y h
  freed (global o b d ∷ Γ) st a τ y h = freed Γ st a τ y h
  freed (held g ∷ Γ) st a τ y h = freed Γ st a (say (release g) τ) y h
  freed (labels is x ∷ Γ) st a τ y h = pick (has_label a is) h (λ k. freed Γ st a τ y k)
    where
      pick : (b : Bool) → LandsAt b (Arrives W gs (looping C c v s t) (Nothing W gs (looping C c v s t)) (Sees W gs (looping C c v s t) Γ) (held_in Γ)
          (label_at is (scopes_of Γ) (the_labels is ∷ passing Γ) x a) st tt τ y) (lands W gs (looping C c v s t) Γ st a τ y)
          → (lands W gs (looping C c v s t) Γ st a τ y → lands W gs C Γ st a τ y)
          → LandsAt b (Arrives W gs C (Nothing W gs C) (Sees W gs C Γ) (held_in Γ) (label_at is (scopes_of Γ) (the_labels is ∷ passing Γ) x a) st tt τ y) (lands W gs C Γ st a τ y)
      pick true k f = record { top = k.top; now = k.now; there = k.there; sees = k.sees; gave = k.gave; holding = k.holding.0 }
      pick false k f = f k

  pub releases : (Γ : List Around) (st : List Value) (a : ℕ) (τ : Store) {x : Conf} → Reach W x (lands W gs (looping C c v s t) Γ st a τ) → Reach W x (lands W gs C Γ st a τ)
  releases Γ st a τ {x} h = record { steps = h.steps; there = freed Γ st a τ (run W h.steps x) h.there }

zero_is : (z : ℤ) → same_integer z (pos 0) ≡ is_zero z
zero_is (pos zero) = refl
zero_is (pos (suc n)) = rw (lt-leb (suc n) 0 (omega arith), ne_eqb (suc n) 0 (λ e. absurd (omega arith))) refl
zero_is (negsuc n) = rw (ne_eqb (suc n) 0 (λ e. absurd (omega arith))) refl

sums : (x y : ℤ) → Small (x +ℤ y) → apply2 plus (int x) (int y) ≡ gives (int (x +ℤ y))
unfolding apply2
sums x y h = ap (map_outcome int) (settles-to (x +ℤ y) h)

differences : (x y : ℤ) → Small (x -ℤ y) → apply2 minus (int x) (int y) ≡ gives (int (x -ℤ y))
unfolding apply2
differences x y h = ap (map_outcome int) (settles-to (x -ℤ y) h)

module _ (W : Setting) (gs : List Global) (C : Work) (Γ : List Around) (c : ℕ) (w : Fit W gs C Γ c) (st : List Value) (σ : Store) where
  -- the three cells, with what else is kept and seen while nothing but they is written
  pub record Held (D : Data) (v s t : ℤ) : Type 0 where
    pub value : cell_at D.cells c ≡ assigned (int v)
    pub step : cell_at D.cells (suc c) ≡ assigned (int s)
    pub bound : cell_at D.cells (suc (suc c)) ≡ assigned (int t)
    pub holding : Holds C D
    pub same : seen gs Γ D ≡ σ

  -- a write to one of them
  unseen : (d : ℕ) (x : Cell) (D : Data) → c ≤ d → seen gs Γ (written own d x D) ≡ seen gs Γ D
  unseen d x D l = hidden gs Γ d x D (below_apart d Γ (below_more c d Γ l w.below-n))

  put-value : {D : Data} {v s t : ℤ} (u : ℤ) (y : Cell) → get_elem? D.cells c ≡ some y → Held D v s t → Held (written own c (assigned (int u)) D) u s t
  put-value {D} u y g h = record {
    value = put_same D.cells c (assigned (int u)) y g;
    step = put_other D.cells c (suc c) (assigned (int u)) (λ e. absurd (omega arith)) ∙ h.step;
    bound = put_other D.cells c (suc (suc c)) (assigned (int u)) (λ e. absurd (omega arith)) ∙ h.bound;
    holding = w.fresh c (assigned (int u)) D.cells D.lowest (omega arith) h.holding;
    same = unseen c (assigned (int u)) D (omega arith) ∙ h.same;
  }

  put_step : {D : Data} {v s t : ℤ} (u : ℤ) (y : Cell) → get_elem? D.cells (suc c) ≡ some y → Held D v s t → Held (written own (suc c) (assigned (int u)) D) v u t
  put_step {D} u y g h = record {
    value = put_other D.cells (suc c) c (assigned (int u)) (λ e. absurd (omega arith)) ∙ h.value;
    step = put_same D.cells (suc c) (assigned (int u)) y g;
    bound = put_other D.cells (suc c) (suc (suc c)) (assigned (int u)) (λ e. absurd (omega arith)) ∙ h.bound;
    holding = w.fresh (suc c) (assigned (int u)) D.cells D.lowest (omega arith) h.holding;
    same = unseen (suc c) (assigned (int u)) D (omega arith) ∙ h.same;
  }

  put-bound : {D : Data} {v s t : ℤ} (u : ℤ) (y : Cell) → get_elem? D.cells (suc (suc c)) ≡ some y → Held D v s t → Held (written own (suc (suc c)) (assigned (int u)) D) v s u
  put-bound {D} u y g h = record {
    value = put_other D.cells (suc (suc c)) c (assigned (int u)) (λ e. absurd (omega arith)) ∙ h.value;
    step = put_other D.cells (suc (suc c)) (suc c) (assigned (int u)) (λ e. absurd (omega arith)) ∙ h.step;
    bound = put_same D.cells (suc (suc c)) (assigned (int u)) y g;
    holding = w.fresh (suc (suc c)) (assigned (int u)) D.cells D.lowest (omega arith) h.holding;
    same = unseen (suc (suc c)) (assigned (int u)) D (omega arith) ∙ h.same;
  }

  abbrev K : List ℕ
  K = held_in Γ

  module _ {n : ℕ} {L : ℕ → Store → Conf → Type 0} {F : Unit {0} → Store → Conf → Type 0} {r : Result (Unit {0})} where
    -- ── one instruction ──
    gets : (d : ℕ) (v : Value) (a : ℕ) (vs : List Value) (D : Data) → cell_at D.cells d ≡ assigned v → fetch W.macro C.body a ≡ some (load own d)
        → Meets W n L F (at-work W gs C (suc a) (v ∷ vs) K D) r → Meets W n L F (at-work W gs C a vs K D) r
    gets d v a vs D e p h = loads W gs C.body C.below own d a vs K D tt p (λ u q.
        let z : u ≡ v = cc (sym (found_at D.cells d (assigned u) q) ∙ e) in rw z h)

    applies : (o : Binary) (x y v : Value) (a : ℕ) (vs : List Value) (D : Data) → apply2 o x y ≡ gives v → fetch W.macro C.body a ≡ some (operate (binary o))
        → Meets W n L F (at-work W gs C (suc a) (v ∷ vs) K D) r → Meets W n L F (at-work W gs C a (y ∷ (x ∷ vs)) K D) r
    unfolding act do_operate
    applies o x y v a vs D e p h = op-at W gs C.body C.below (operate (binary o)) a (y ∷ (x ∷ vs)) K D p
        (rw e (goes-on W gs C.body C.below [] (v ∷ vs) a (y ∷ (x ∷ vs)) K D h))

    pushed : (v : Value) (a : ℕ) (vs : List Value) (D : Data) → fetch W.macro C.body a ≡ some (push v)
        → Meets W n L F (at-work W gs C (suc a) (v ∷ vs) K D) r → Meets W n L F (at-work W gs C a vs K D) r
    pushed v a vs D p h = pushes W gs C.body C.below v a vs K D p h

    tested : (t : ℕ) (b : Bool) (a : ℕ) (vs : List Value) (D : Data) → fetch W.macro C.body a ≡ some (go_unless t)
        → (b ≡ true → Meets W n L F (at-work W gs C (suc a) vs K D) r) → (b ≡ false → Meets W n L F (at-work W gs C t vs K D) r)
        → Meets W n L F (at-work W gs C a (log b ∷ vs) K D) r
    tested t b a vs D p f g = forks W gs C.body C.below t (log b) a vs K D p (λ e. f (cc e)) (λ e. g (cc e))

    puts : (d : ℕ) (v : ℤ) (a : ℕ) (D : Data) → fetch W.macro C.body a ≡ some (store own d)
        → ((y : Cell) → get_elem? D.cells d ≡ some y → Meets W n L F (at-work W gs C (suc a) st K (written own d (assigned (int v)) D)) r)
        → Meets W n L F (at-work W gs C a (int v ∷ st) K D) r
    puts d v a D p h = stores W gs C.body C.below own d (int v) a st K D tt p h

    module _ (l : Loop) (v : ℤ) (x z e : ℕ) (m : Shape) (hs : Small l.step) (hl : Small l.limit)
        (on : (s t : ℤ) (E : Data) → Held E v s t → Steers l s t → due l v ≡ true → Meets W n L F (at-work W gs C (ahead 48 x) st K E) r)
        (out : (s t : ℤ) (E : Data) → Held E v s t → due l v ≡ false → Meets W n L F (at-work W gs C z st K E) r) where
      -- from 44 on: one turn only
      once : (D : Data) (s t : ℤ) → Held D v s t → Steers l (negsuc 0) most_integer → due l v ≡ true → Stands W C.body (code_once c m) (at (ahead 44 x) e)
          → Meets W n L F (at-work W gs C (ahead 44 x) st K D) r
      unfolding code_once Stands after
      once D s t k f d h =
          pushed (int (negsuc 0)) (ahead 44 x) st D h.0 (puts (suc c) (negsuc 0) (ahead 45 x) D h.1.0 (λ y g.
          let E = written own (suc c) (assigned (int (negsuc 0))) D in
          pushed (int most_integer) (ahead 46 x) st E h.1.1.0 (puts (suc (suc c)) most_integer (ahead 47 x) E h.1.1.1.0 (λ y₂ g₂.
          on (negsuc 0) most_integer (written own (suc (suc c)) (assigned (int most_integer)) E) (put-bound most_integer y₂ g₂ (put_step (negsuc 0) y g k)) f d))))

      -- from 29 on: upward
      upward : (D : Data) → Held D v l.step l.limit → lt_z l.step (pos 0) ≡ false → Stands W C.body (code_upward c x z m) (at (ahead 29 x) e)
          → Stands W C.body (code_once c m) (at (ahead 44 x) e) → Meets W n L F (at-work W gs C (ahead 29 x) st K D) r
      unfolding code_upward Stands after apply2
      upward D k q h o =
          let h1 = h.1 in let h2 = h1.1 in let h3 = h2.1 in let h4 = h3.1 in let h5 = h4.1 in let h6 = h5.1 in
          let h7 = h6.1 in let h8 = h7.1 in let h9 = h8.1 in let h10 = h9.1 in let h11 = h10.1 in let h12 = h11.1 in
          let h13 = h12.1 in let h14 = h13.1 in
          let s = l.step in let t = l.limit in
          gets c (int v) (ahead 29 x) st D k.value h.0
          (gets (suc (suc c)) (int t) (ahead 30 x) (int v ∷ st) D k.bound h1.0
          (applies at_most (int v) (int t) (log (le_z v t)) (ahead 31 x) st D refl h2.0
          (tested z (le_z v t) (ahead 32 x) st D h3.0 (λ d.
          let is-due = due-up l v q ∙ d in
          gets (suc (suc c)) (int t) (ahead 33 x) st D k.bound h4.0
          (pushed (int least_integer) (ahead 34 x) (int t ∷ st) D h5.0
          (gets (suc c) (int s) (ahead 35 x) (int least_integer ∷ (int t ∷ st)) D k.step h6.0
          (applies plus (int least_integer) (int s) (int (least_integer +ℤ s)) (ahead 36 x) (int t ∷ st) D (sums least_integer s (least-small l hs hl q)) h7.0
          (applies at_least (int t) (int (least_integer +ℤ s)) (log (le_z (least_integer +ℤ s) t)) (ahead 37 x) st D refl h8.0
          (tested (ahead 44 x) (le_z (least_integer +ℤ s) t) (ahead 38 x) st D h9.0 (λ g.
          gets (suc (suc c)) (int t) (ahead 39 x) st D k.bound h10.0
          (gets (suc c) (int s) (ahead 40 x) (int t ∷ st) D k.step h11.0
          (applies minus (int t) (int s) (int (t -ℤ s)) (ahead 41 x) st D (differences t s (up-small-bound l hs hl q g)) h12.0
          (puts (suc (suc c)) (t -ℤ s) (ahead 42 x) D h13.0 (λ y u.
          let E = written own (suc (suc c)) (assigned (int (t -ℤ s))) D in
          jumps W gs C.body C.below (ahead 48 x) (ahead 43 x) st K E h14.0
          (on s (t -ℤ s) E (put-bound (t -ℤ s) y u k) (steers-up l hs hl q g) is-due))))))
          (λ g. once D s t k (once-up l hs hl q g) is-due o)))))))
          (λ d. out s t D k (due-up l v q ∙ d)))))

      -- from 8 on: downward, or else upward
      pub downward : (D : Data) → Held D v l.step l.limit → Stands W C.body (code_downward c x z m) (at (ahead 8 x) e) → Stands W C.body (code_upward c x z m) (at (ahead 29 x) e)
          → Stands W C.body (code_once c m) (at (ahead 44 x) e) → Meets W n L F (at-work W gs C (ahead 8 x) st K D) r
      unfolding code_downward Stands after apply2
      downward D k h u o =
          let h1 = h.1 in let h2 = h1.1 in let h3 = h2.1 in let h4 = h3.1 in let h5 = h4.1 in let h6 = h5.1 in
          let h7 = h6.1 in let h8 = h7.1 in let h9 = h8.1 in let h10 = h9.1 in let h11 = h10.1 in let h12 = h11.1 in
          let h13 = h12.1 in let h14 = h13.1 in let h15 = h14.1 in let h16 = h15.1 in let h17 = h16.1 in let h18 = h17.1 in
          let h19 = h18.1 in let h20 = h19.1 in
          let s = l.step in let t = l.limit in
          gets (suc c) (int s) (ahead 8 x) st D k.step h.0
          (pushed (int (pos 0)) (ahead 9 x) (int s ∷ st) D h1.0
          (applies less (int s) (int (pos 0)) (log (lt_z s (pos 0))) (ahead 10 x) st D refl h2.0
          (tested (ahead 29 x) (lt_z s (pos 0)) (ahead 11 x) st D h3.0 (λ q.
          gets c (int v) (ahead 12 x) st D k.value h4.0
          (gets (suc (suc c)) (int t) (ahead 13 x) (int v ∷ st) D k.bound h5.0
          (applies at_least (int v) (int t) (log (le_z t v)) (ahead 14 x) st D refl h6.0
          (tested z (le_z t v) (ahead 15 x) st D h7.0 (λ d.
          let is-due = due-down l v q ∙ d in
          gets (suc (suc c)) (int t) (ahead 16 x) st D k.bound h8.0
          (pushed (int most_integer) (ahead 17 x) (int t ∷ st) D h9.0
          (gets (suc c) (int s) (ahead 18 x) (int most_integer ∷ (int t ∷ st)) D k.step h10.0
          (applies plus (int most_integer) (int s) (int (most_integer +ℤ s)) (ahead 19 x) (int t ∷ st) D (sums most_integer s (most-small l hs hl q)) h11.0
          (applies at_most (int t) (int (most_integer +ℤ s)) (log (le_z t (most_integer +ℤ s))) (ahead 20 x) st D refl h12.0
          (tested (ahead 44 x) (le_z t (most_integer +ℤ s)) (ahead 21 x) st D h13.0 (λ g.
          gets (suc (suc c)) (int t) (ahead 22 x) st D k.bound h14.0
          (gets (suc c) (int s) (ahead 23 x) (int t ∷ st) D k.step h15.0
          (applies minus (int t) (int s) (int (t -ℤ s)) (ahead 24 x) st D (differences t s (near-small l hs hl q g)) h16.0
          (pushed (int (pos 1)) (ahead 25 x) (int (t -ℤ s) ∷ st) D h17.0
          (applies minus (int (t -ℤ s)) (int (pos 1)) (int (t -ℤ s -ℤ pos 1)) (ahead 26 x) st D (differences (t -ℤ s) (pos 1) (down-small l hs hl q g)) h18.0
          (puts (suc (suc c)) (t -ℤ s -ℤ pos 1) (ahead 27 x) D h19.0 (λ y i.
          let E = written own (suc (suc c)) (assigned (int (t -ℤ s -ℤ pos 1))) D in
          jumps W gs C.body C.below (ahead 48 x) (ahead 28 x) st K E h20.0
          (on s (t -ℤ s -ℤ pos 1) E (put-bound (t -ℤ s -ℤ pos 1) y i k) (steers-down l hs hl q g) is-due))))))))
          (λ g. once D s t k (once-down l hs hl q g) is-due o)))))))
          (λ d. out s t D k (due-down l v q ∙ d))))))
          (λ q. upward D k q u o))))

    -- ── after a turn ──
    -- the next value is due: it is stored, and control goes back; else it goes on behind the loop
    pub turned : (l : Loop) (v s t : ℤ) (b z e y : ℕ) (m : Shape) (D : Data) → Held D v s t → Steers l s t → Small v → Stands W C.body (code_turned c b z m) (at y e)
        → ((E : Data) → Held E (v +ℤ l.step) s t → Small (v +ℤ l.step) → due l (v +ℤ l.step) ≡ true → fetch W.macro C.body (ahead 12 y) ≡ some (go b)
        → Meets W n L F (at-work W gs C (ahead 12 y) st K E) r)
        → ((Small (v +ℤ l.step) → due l (v +ℤ l.step) ≡ false) → Meets W n L F (at-work W gs C z st K D) r)
        → Meets W n L F (at-work W gs C y st K D) r
    unfolding code_turned Stands after apply2
    turned l v s t b z e y m D k f hv h on out =
        let h1 = h.1 in let h2 = h1.1 in let h3 = h2.1 in let h4 = h3.1 in let h5 = h4.1 in let h6 = h5.1 in
        let h7 = h6.1 in let h8 = h7.1 in let h9 = h8.1 in let h10 = h9.1 in let h11 = h10.1 in let h12 = h11.1 in
        gets (suc c) (int s) y st D k.step h.0
        (pushed (int (pos 0)) (ahead 1 y) (int s ∷ st) D h1.0
        (applies less (int s) (int (pos 0)) (log (lt_z s (pos 0))) (ahead 2 y) st D refl h2.0
        (gets c (int v) (ahead 3 y) (log (lt_z s (pos 0)) ∷ st) D k.value h3.0
        (gets (suc (suc c)) (int t) (ahead 4 y) (int v ∷ (log (lt_z s (pos 0)) ∷ st)) D k.bound h4.0
        (applies greater (int v) (int t) (log (lt_z t v)) (ahead 5 y) (log (lt_z s (pos 0)) ∷ st) D refl h5.0
        (applies equal (log (lt_z s (pos 0))) (log (lt_z t v)) (log (onward s t v)) (ahead 6 y) st D refl h6.0
        (tested z (onward s t v) (ahead 7 y) st D h7.0 (λ q.
        let g = f.goes v hv q in let w : Small (v +ℤ s) = subst (λ d. Small (v +ℤ d)) (sym g.0) g.1 in
        gets c (int v) (ahead 8 y) st D k.value h8.0
        (gets (suc c) (int s) (ahead 9 y) (int v ∷ st) D k.step h9.0
        (applies plus (int v) (int s) (int (v +ℤ s)) (ahead 10 y) st D (sums v s w) h10.0
        (puts c (v +ℤ s) (ahead 11 y) D h11.0 (λ y₁ i.
        let E = written own c (assigned (int (v +ℤ s))) D in
        on E (subst (λ d. Held E (v +ℤ d) s t) g.0 (put-value (v +ℤ s) y₁ i k)) g.1 g.2 h12.0)))))
        (λ q. out (f.over v hv q)))))))))

  -- ── the three values are stored, and a step of zero stops ──
  module _ {n : ℕ} {L : ℕ → Store → Conf → Type 0} {F : Unit {0} → Store → Conf → Type 0} (r : Result (Unit {0})) where
    -- it stops, where the tree ends by the condition
    pub stored : (v s t : ℤ) (x e : ℕ) (m : Shape) (D : Data) → Holds C D → seen gs Γ D ≡ σ → Stands W C.body (code_stored c x m) (at x e)
        → ((E : Data) → Held E v s t → is_zero s ≡ true → fetch W.macro C.body (ahead 7 x) ≡ some (stop step_zero) → Meets W n L F (at-work W gs C (ahead 7 x) st K E) r)
        → ((E : Data) → Held E v s t → is_zero s ≡ false → Meets W n L F (at-work W gs C (ahead 8 x) st K E) r)
        → Meets W n L F (at-work W gs C x (int t ∷ (int s ∷ (int v ∷ st))) K D) r
    unfolding code_stored Stands after apply2
    stored v s t x e m D k q h zero-step on =
        stores W gs C.body C.below own (suc (suc c)) (int t) x (int s ∷ (int v ∷ st)) K D tt h.0 (λ y₁ g₁.
        let E₁ = written own (suc (suc c)) (assigned (int t)) D in
        stores W gs C.body C.below own (suc c) (int s) (ahead 1 x) (int v ∷ st) K E₁ tt h.1.0 (λ y₂ g₂.
        let E₂ = written own (suc c) (assigned (int s)) E₁ in
        stores W gs C.body C.below own c (int v) (ahead 2 x) st K E₂ tt h.1.1.0 (λ y₃ g₃.
        let E = written own c (assigned (int v)) E₂ in
        let held : Held E v s t = record {
          value = put_same E₂.cells c (assigned (int v)) y₃ g₃;
          step = put_other E₂.cells c (suc c) (assigned (int v)) (λ i. absurd (omega arith)) ∙ put_same E₁.cells (suc c) (assigned (int s)) y₂ g₂;
          bound = put_other E₂.cells c (suc (suc c)) (assigned (int v)) (λ i. absurd (omega arith))
              ∙ put_other E₁.cells (suc c) (suc (suc c)) (assigned (int s)) (λ i. absurd (omega arith)) ∙ put_same D.cells (suc (suc c)) (assigned (int t)) y₁ g₁;
          holding = w.fresh c (assigned (int v)) E₂.cells E₂.lowest (omega arith) (w.fresh (suc c) (assigned (int s)) E₁.cells E₁.lowest (omega arith)
              (w.fresh (suc (suc c)) (assigned (int t)) D.cells D.lowest (omega arith) k));
          same = unseen c (assigned (int v)) E₂ (omega arith) ∙ unseen (suc c) (assigned (int s)) E₁ (omega arith) ∙ unseen (suc (suc c)) (assigned (int t)) D (omega arith) ∙ q;
        } in
        gets (suc c) (int s) (ahead 3 x) st E held.step h.1.1.1.0
        (pushed (int (pos 0)) (ahead 4 x) (int s ∷ st) E h.1.1.1.1.0
        (applies equal (int s) (int (pos 0)) (log (same_integer s (pos 0))) (ahead 5 x) st E refl h.1.1.1.1.1.0
        (tested (ahead 8 x) (same_integer s (pos 0)) (ahead 6 x) st E h.1.1.1.1.1.1.0
        (λ i. zero-step E held (sym (zero_is s) ∙ i) h.1.1.1.1.1.1.1.0)
        (λ i. on E held (sym (zero_is s) ∙ i))))))))
