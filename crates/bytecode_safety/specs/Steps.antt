-- A step of a sound state: each op at an allowed address goes on, soundly.
use Rattle.std.specs.Prelude.{◌≡◌, Bool, ◌&&◌, eqb, leb, ℤ, pos, negsuc, drop}
use Rattle.std.proofs.Math.Path.{refl, ap, ap₂, sym, subst}
use Rattle.std.proofs.Common.{◌∙◌, length-set, take-append-drop}
use Rattle.std.proofs.Math.Bool.{true, false}
use mathlib.Core.List.{List, [], ◌∷◌, ◌++◌, map}
use Rattle.std.proofs.Math.Option.{Option, none, some}
use Prim.Native.Nat.{ℕ, suc, ◌+◌, ◌≤◌, ◌<◌}
use native.Mathlib.Omega.{arith}
use Rattle.std.proofs.Math.Dec.{ltb}
use Rattle.std.proofs.Math.ListN.{length, get_elem?, take, length-append, set as put}
use Rattle.std.proofs.Math.Seq.{length-take-le}
use borrow.Author.Tests.{eq-eqb, le-leb, leb-true, ltb-true, lt-ltb}
use Rattle.logic.specs.Lists.{all, among, Each}
use Rattle.logic.specs.Options.{keep}
use Rattle.logic.specs.Choice.{If◌then◌else◌}
use Rattle.values.specs.Types.{Ty, integer, logical, reference, fits, sames, all_fit}
use Rattle.values.specs.Ends.{is_condition, field_of_null, assert_false, out_of_range, too_many_activations, too_many_records}
use Rattle.values.specs.Operators.{Unary, unary, Binary, binary, op_type}
use Rattle.values.specs.Arithmetic.{Outcome, gives, ends, mistyped}
use Rattle.values.specs.Values.{Value, int, ref, ty_of, tys_of, Cell, assigned, ty_of_cell, fresh_all, between, size, apply1, apply2}
use Rattle.values.specs.Trace.{set, Item, event, reading}
use Rattle.bytecode.specs.Macro.{Body, Shape, shape, Macro}
use Rattle.bytecode.specs.Instructions.{Owner, own, root, Instr, end, push, load, store, operate, go, go_unless, call, return, make, get_field, put_field, set_level}
use Rattle.bytecode.specs.Instructions.{read_fader, take_hold, let_hold, assert, stop, body_at, instr_at, cells_of, cell_ty as cell_type, field_ty}
use Rattle.bytecode.specs.Rules.{on_stack}
use Rattle.bytecode.specs.Machine.{Activation, Made, Shared, Here, Machine, running, ended, no_step, bad_type, bad_frame, Stepped, moved, demand, all_holds, condition, at}
use Rattle.bytecode.specs.Machine.{with_holds, goes_on, settled, given, cells_for, put_cells, in_place, do_load, do_store, do_operate, goes, do_go_unless, pop_many, assign_all}
use Rattle.bytecode.specs.Machine.{activation, entering, do_call, hand_down, is_empty, do_return, do_end, with_records, recording, do_make, on_made, do_get_field, field_put}
use Rattle.bytecode.specs.Machine.{do_put_field, do_set, do_fader, do_take_hold, letting, do_assert, do_push, act, fetch, step}
use Rattle.bytecode.specs.Sound.{sound_value, sound_cell, sound_record, sound_group, parameters_of, sound}
use Rattle.logic.specs.OptionLaws.{same_some}
use Rattle.logic.specs.Tests.{halves}
use Rattle.values.specs.Identical.{sames-refl, same_refl, fits→≡, all_fit→≡, length_types}
use Rattle.bytecode_laws.specs.Terms.{ReadBody, Passed, Allowed, Takes, Finds}
use Rattle.bytecode_laws.specs.Takes.{takes_none}
use Rattle.bytecode_laws.specs.Ops.{named-known}
use Rattle.logic.specs.ListLaws.{each_at}
use Rattle.bytecode_laws.specs.Promises.{cells-at-most-32, entry, limits, ops}
use Rattle.bytecode_safety.specs.Terms.{Fine, counted, occurs, holds_of, releases_of, events_in, InRange, Moves, Steps}
use Rattle.bytecode_safety.specs.Operators.{unary-fine, binary-fine}
use Rattle.bytecode_safety.specs.Lists.{all_append, all-at, all-put, all_first, all_cons, all_none, all_weaker, tys-append, tys-none, tys_at, tys-put}
use Rattle.bytecode_safety.specs.Lists.{cell-at, cells-put, cells-append, assigned-types, assigned-sound, fresh-types, fresh-values}
use Rattle.bytecode_safety.specs.States.{Stands, Waits, Waiting, Around, frame_at, around-at, typed, typed-back, running-back, unwinds}
use Rattle.bytecode_safety.specs.Operands.{OnTop, on-top, exactly, take-off, resumes, not_root, empty, demanded, chosen, supplied, topped, an-integer, a-logical, a-reference}
use Rattle.bytecode_safety.specs.Records.{owner_body, keeps-append, keeps-put, last_made, made_at, record-typed, record-sound, keeps-records, around-records}
use Rattle.bytecode_safety.specs.Records.{root-frame, put_holds, put-stands, around-put}

pub size-between : (lo hi : ℕ) (x : ℤ) → between lo hi x ≡ true → (lo ≤ size x) × (size x ≤ hi)
size-between lo hi (pos n) h = let q = halves (leb lo n) (leb n hi) h in (leb-true lo n q.0, leb-true n hi q.1)
size-between lo hi (negsuc n) h = let z : ◌≡◌ {A = ℕ} 0 1 = cc h in absurd (omega arith)

module _ (m : Macro) (w : Passed m) (bank : ℕ → ℕ) (low : (n : ℕ) → bank n < 256)
    (sh : Shared) (f : Activation) (fs : List Activation) (r : Around m (record { shared = sh; top = f; below = fs }))
    (s : Stands m sh.records [] f) where
  abbrev rs : List Made
  rs = sh.records

  abbrev here : Here
  here = record { shared = sh; top = f; below = fs }

  abbrev state : Machine
  state = running sh f fs

  -- the state found here
  abbrev found : Shape
  found = shape (length f.holds) (tys_of f.operands)

  -- at most one item, and no hold or release
  abbrev Quiet : List Item → Type 0
  Quiet is = (length is ≤ 1) × ((g : ℕ) → (holds_of g (events_in is) ≡ 0) × (releases_of g (events_in is) ≡ 0)) × Each InRange (events_in is)

  nothing : Quiet []
  unfolding holds_of releases_of
  nothing = (omega arith, λ g. (refl, refl), tt)

  a-set : (x y : ℤ) → (between 1 512 x && between 0 255 y) ≡ true → Quiet (event (set (size x) (size y)) ∷ [])
  unfolding holds_of releases_of
  a-set x y e =
      let h = halves (between 1 512 x) (between 0 255 y) e in
      let c = size-between 1 512 x h.0 in
      (omega arith, λ g. (refl, refl), ((c.0, c.1, (size-between 0 255 y h.1).1), tt))

  a-reading : (n v : ℕ) → Quiet (reading n v ∷ [])
  unfolding holds_of releases_of
  a-reading n v = (omega arith, λ g. (refl, refl), tt)

  by_condition : (c : ℕ) → is_condition c ≡ true → Steps m state (condition c here)
  unfolding condition holds_of releases_of
  by_condition c h = record { still-sound = unwinds m w sh f fs c s r h; one-item = omega arith; in-range = tt; reads_on = refl; account = λ g. refl }

  -- the top goes on, after a change that leaves its holds as they are
  goes-on : (is : List Item) (vs : List Value) (h : Here) → Quiet is → Around m h
      → Allowed m h.top.body (suc h.top.address) (shape (length h.top.holds) (tys_of vs)) → all (sound_value h.shared.records) vs ≡ true
      → all_holds (f ∷ fs) ≡ all_holds (h.top ∷ h.below) → Steps m state (goes_on is vs h)
  unfolding all_holds
  goes-on is vs h q x a v e =
      let n : length vs ≤ 32 = omega
      (arith, (limits m w h.top.body (suc h.top.address) (shape (length h.top.holds) (tys_of vs)) a).1, length_types vs) in
      demanded m state _ _ _ (le-leb (length vs) 32 n)
      (record {
        still-sound = running-back m w h.shared (at (suc h.top.address) vs h.top) h.below
            (around-at m h (suc h.top.address) vs x) a v;
        one-item = q.0;
        in-range = q.2;
        reads_on = tt;
        account = λ g. ap₂ (λ x y. x + y) ((q.1 g).0 ∙ sym (q.1 g).1) (ap (occurs g) e);
      })

  -- an allowed state, its operands' types written otherwise
  with-types : {i hs : ℕ} {ts us : List Ty} → ts ≡ us → Allowed m f.body i (shape hs us) → Allowed m f.body i (shape hs ts)
  with-types {i} {hs} e a = subst (λ x. Allowed m f.body i (shape hs x)) (sym e) a

  -- with what is under the operands taken, and perhaps one more
  drops : (is : List Item) (vs : List Value) (under : List Ty) → Quiet is → tys_of vs ≡ under → all (sound_value rs) vs ≡ true
      → Allowed m f.body (suc f.address) (shape (length f.holds) under) → Steps m state (goes_on is vs here)
  drops is vs under q e v a = goes-on is vs here q r (with-types e a) v refl

  pushes : (is : List Item) (v : Value) (vs : List Value) (t : Ty) (under : List Ty) → Quiet is → ty_of v ≡ t → tys_of vs ≡ under
      → sound_value rs v ≡ true → all (sound_value rs) vs ≡ true
      → Allowed m f.body (suc f.address) (shape (length f.holds) (t ∷ under)) → Steps m state (goes_on is (v ∷ vs) here)
  unfolding tys_of
  pushes is v vs t under q d e x y a = drops is (v ∷ vs) (t ∷ under) q (ap₂ (λ a l. a ∷ l) d e) (all_cons (sound_value rs) v vs x y) a

  -- the operands of an op, from the top; after the last come those under them
  first_of : (t : Ty) (ts under : List Ty) → Takes (t ∷ ts) (tys_of f.operands) under → OnTop rs f.operands t ts under
  first_of t ts under x = on-top rs f.operands t ts under x s.operands

  rest : {t : Ty} {vs : List Value} {under : List Ty} (q : OnTop rs vs t [] under) → tys_of q.others ≡ under
  rest {under = under} q = takes_none (tys_of q.others) under q.next

  -- ── pushes ──
  safe-push : (v : Value) → Finds m f.body f.address found (push v) → Steps m state (do_push m v here)
  safe-push v d =
      let e = takes_none (tys_of f.operands) d.2.0 d.2.1 in
      demanded m state _ _ _ (named-known m (ty_of v) d.1)
      (pushes [] v f.operands (ty_of v) d.2.0 nothing refl e (d.0 rs) s.operands d.2.2)

  -- ── cells ──
  owner-frame : (o : Owner) → (map ty_of_cell (cells_for o here) ≡ cells_of (body_at m (owner_body o f.body)))
      × (all (sound_cell rs) (cells_for o here) ≡ true)
  owner-frame own = (r.frame.types, r.frame.values)
  owner-frame root =
      let q = root-frame m sh f fs r.frame r.below-waits in
      (q.1.types ∙ ap (λ k. cells_of (body_at m k)) q.0, q.1.values)

  cell-type : (o : Owner) (x : ℕ) (t : Ty) → cell_type m f.body o x ≡ some t → get_elem? (cells_of (body_at m (owner_body o f.body))) x ≡ some t
  cell-type own x t h = h
  cell-type root x t h = h

  cell-of : (o : Owner) (x : ℕ) (t : Ty) → cell_type m f.body o x ≡ some t
      → (v : Value) × (get_elem? (cells_for o here) x ≡ some (assigned v)) × (ty_of v ≡ t)
  cell-of o x t h = cell-at (cells_for o here) x t (ap (λ ts. get_elem? ts x) (owner-frame o).0 ∙ cell-type o x t h)

  -- a value of the declared type is in place
  in-place : (v : Value) (t : Ty) (x : Stepped) → ty_of v ≡ t → Steps m state x → Steps m state (in_place v t x)
  in-place v t x e h = demanded m state _ _ _ (subst (λ u. fits (ty_of v) u ≡ true) e (same_refl (ty_of v))) h

  safe-load : (o : Owner) (x : ℕ) → Finds m f.body f.address found (load o x) → Steps m state (do_load m o x here)
  unfolding do_load
  safe-load o x d =
      let c = cell-of o x d.0 d.1 in
      let e = takes_none (tys_of f.operands) d.2.0 d.2.1 in
      supplied m state _ _ _ d.0 d.1
      (supplied m state _ _ _ (assigned c.0) c.1
      (in-place c.0 d.0 _ c.2
      (pushes [] c.0 f.operands d.0 d.2.0 nothing c.2 e
      (all-at (sound_cell rs) (cells_for o here) x (assigned c.0) (owner-frame o).1 c.1) s.operands d.2.2)))

  safe-store : (o : Owner) (x : ℕ) → Finds m f.body f.address found (store o x) → Steps m state (do_store m o x here)
  unfolding do_store
  safe-store o x d =
      let cells = cells_for o here in
      let c = cell-of o x d.0 d.1 in
      let q = first_of d.0 [] d.2.0 d.2.1 in
      let v = q.value in let us = q.others in
      let same : ty_of v ≡ ty_of c.0 = fits→≡ (ty_of v) d.0 q.fit ∙ sym c.2 in
      topped m state _ _ _ _ q.is
      (supplied m state _ _ _ d.0 d.1
      (supplied m state _ _ _ (assigned c.0) c.1
      (demanded m state _ _ _ q.fit
      (goes-on [] us (put_cells o (put cells x (assigned v)) here) nothing
      (around-put m sh o (put cells x (assigned v)) f fs r
      (cells-put cells x v c.0 c.1 same ∙ (owner-frame o).0)
      (all-put (sound_cell rs) cells x (assigned v) (owner-frame o).1 q.it-sound))
      (put-stands m sh (put cells x (assigned v)) (λ k i hs. Allowed m k (suc i) (shape (length hs) (tys_of us))) o f fs
      (with-types (rest q) d.2.2))
      (same-values o us (put cells x (assigned v)) q.they-sound) (sym (put_holds m sh (put cells x (assigned v)) o f fs))))))
    where
      same-values : (o : Owner) (vs : List Value) (cs : List Cell) → all (sound_value rs) vs ≡ true
          → all (sound_value (put_cells o cs here).shared.records) vs ≡ true
      same-values own vs cs h = h
      same-values root vs cs h = h

  -- ── operators ──
  outcome : (t : Ty) (under : List Ty) (o : Outcome Value) (vs : List Value) → Fine t o → tys_of vs ≡ under → all (sound_value rs) vs ≡ true
      → Allowed m f.body (suc f.address) (shape (length f.holds) (t ∷ under)) → Steps m state (settled o vs here)
  outcome t under (gives v) vs g e x a = pushes [] v vs t under nothing g.0 e (g.1 rs) x a
  outcome t under (ends c) vs g e x a = by_condition c g
  outcome t under mistyped vs g e x a = absurd g

  safe-unary : (o : Unary) → Finds m f.body f.address found (operate (unary o)) → Steps m state (do_operate (unary o) here)
  unfolding do_operate
  safe-unary o d =
      let q = exactly rs f.operands d.0 d.2 d.3 s.operands in
      topped m state _ _ _ _ q.is
      (outcome d.1 d.2 (apply1 o q.value) q.others
      (unary-fine o q.value d.1 (ap (λ t. op_type (unary o) (t ∷ [])) q.its-type ∙ d.4)) q.their-types q.they-sound d.5)

  safe-binary : (o : Binary) → Finds m f.body f.address found (operate (binary o)) → Steps m state (do_operate (binary o) here)
  unfolding do_operate
  safe-binary o d =
      let q = exactly rs f.operands d.0 (d.1 ∷ d.3) d.4 s.operands in
      let p = exactly rs q.others d.1 d.3 q.their-types q.they-sound in
      topped m state _ _ _ _ q.is
      (topped m state _ _ _ _ p.is
      (outcome d.2 d.3 (apply2 o p.value q.value) p.others
      (binary-fine o p.value q.value d.2 rs p.it-sound (ap₂ (λ t u. op_type (binary o) (t ∷ u ∷ [])) p.its-type q.its-type ∙ d.5))
      p.their-types p.they-sound d.6))

  -- ── jumps ──
  jumps_to : (j : ℕ) (vs : List Value) → Allowed m f.body j (shape (length f.holds) (tys_of vs)) → all (sound_value rs) vs ≡ true
      → Steps m state (goes j vs here)
  unfolding holds_of releases_of all_holds
  jumps_to j vs a v = record {
    still-sound = running-back m w sh (at j vs f) fs
        (around-at m here j vs r) a v;
    one-item = omega arith;
    in-range = tt;
    reads_on = tt;
    account = λ g. refl;
  }

  safe-unless : (j : ℕ) → Finds m f.body f.address found (go_unless j) → Steps m state (do_go_unless j here)
  unfolding do_go_unless
  safe-unless j d =
      let q = first_of logical [] d.0 d.1 in
      topped m state _ _ _ _ q.is
      (a-logical m state q.value _ q.fit (λ b. pick b q.others (rest q) q.they-sound))
    where
      pick : (b : Bool) (vs : List Value) → tys_of vs ≡ d.0 → all (sound_value rs) vs ≡ true
          → Steps m state (goes (If b then suc f.address else j) vs here)
      pick true vs e v = jumps_to (suc f.address) vs (with-types e d.2) v
      pick false vs e v = jumps_to j vs (with-types e d.3) v

  -- ── calls ──
  enters : (k : ℕ) (b : Body) (vs us : List Value) → instr_at m f.address ≡ some (call k) → body_at m k ≡ some b
      → tys_of vs ≡ take b.parameters b.cells → b.parameters ≤ length b.cells
      → all (sound_value rs) vs ≡ true → all (sound_value rs) us ≡ true
      → tys_of f.operands ≡ on_stack (take b.parameters b.cells) ++ tys_of us → Steps m state (entering k b vs us here)
  unfolding holds_of releases_of all_holds tys_of
  enters k b vs us i e t n x y d = pick (ltb (length (f ∷ fs)) 32) refl
    where
      count : length vs ≡ b.parameters
      count = sym (length_types vs) ∙ ap length t ∙ length-take-le b.parameters b.cells n

      cell-types : map ty_of_cell (activation k b vs).cells ≡ b.cells
      cell-types =
          cells-append (assign_all vs) (fresh_all (drop (length vs) b.cells))
          ∙ ap₂ (λ p q. p ++ q) (assigned-types vs ∙ t) (fresh-types (drop (length vs) b.cells) ∙ ap (λ z. drop z b.cells) count)
          ∙ take-append-drop b.parameters b.cells

      cell-values : all (sound_cell rs) (activation k b vs).cells ≡ true
      cell-values =
          all_append (sound_cell rs) (assign_all vs) (fresh_all (drop (length vs) b.cells)) (assigned-sound rs vs x)
          (fresh-values rs (drop (length vs) b.cells))

      caller : Waits m rs k (at f.address us f)
      caller = record {
        calls = i;
        stands = record {
          allowed = subst (λ z. Allowed m f.body f.address (shape (length f.holds) z))
              (d ∙ ap (λ o. on_stack (parameters_of o) ++ tys_of us) (sym e)) s.allowed;
          operands = y;
          frame = frame_at m rs f f.address us r.frame;
        };
      }

      pick : (c : Bool) → ltb (length (f ∷ fs)) 32 ≡ c
          → Steps m state (If c then moved [] (running sh (activation k b vs) (at f.address us f ∷ fs)) else condition too_many_activations here)
      pick false c = by_condition too_many_activations (unfold among in refl)
      pick true c =
          record {
            still-sound = running-back m w sh (activation k b vs) (at f.address us f ∷ fs)
                (record {
                  few = omega (arith, ltb-true (length (f ∷ fs)) 32 c);
                  few-records = r.few-records;
                  made = r.made;
                  frame = record { groups = all_none sound_group; types = cell-types ∙ ap cells_of (sym e); values = cell-values };
                  below-waits = (caller, r.below-waits);
                })
                (entry m w k b e) (all_none (sound_value rs));
            one-item = omega arith;
            in-range = tt;
            reads_on = tt;
            account = λ g. refl;
          }

  safe-call : (k : ℕ) → instr_at m f.address ≡ some (call k) → Finds m f.body f.address found (call k) → Steps m state (do_call m k here)
  unfolding do_call
  safe-call k i d =
      let b = d.0 in
      let n = (each_at (ReadBody (length m.classes) (length m.code)) m.bodies k b w.well-formed.bodies-read d.2).fewer-parameters in
      let ts = take b.parameters b.cells in
      let body : List Value → List Value
      → Stepped = λ vs us. demand (all_fit (tys_of vs) ts) bad_type (demand (leb (length b.cells) 32) bad_frame (entering k b vs us here)) in
      let q = take-off rs f.operands ts d.3.0 body d.3.1 s.operands in
      let e = all_fit→≡ (tys_of q.values) ts q.fit in
      supplied m state _ _ _ b (not_root m k d.1 ∙ d.2)
      (subst (λ z. Steps m state (pop_many z [] f.operands body)) (length-take-le b.parameters b.cells n)
      (subst (Steps m state) (sym q.pops-to)
      (demanded m state _ _ _ q.fit
      (demanded m state _ _ _ (le-leb (length b.cells) 32 (cells-at-most-32 m w k b d.2))
      (enters k b q.values q.others i d.2 e n q.values-sound q.others-sound
      (q.parts ∙ ap (λ z. on_stack z ++ tys_of q.others) e))))))

  safe-return : Finds m f.body f.address found return → Steps m state (do_return m here)
  unfolding do_return
  safe-return d =
      let t : tys_of f.operands ≡ d.0.results = ap (λ (x : Shape). x.operands) d.3 in
      let e : f.holds ≡ [] = empty f.holds (ap (λ (x : Shape). x.holds) d.3) in
      supplied m state _ _ _ d.0 (not_root m f.body d.1 ∙ d.2)
      (demanded m state _ _ _ (subst (λ z. sames (tys_of f.operands) z ≡ true) t (sames-refl (tys_of f.operands)))
      (demanded m state _ _ _ (ap is_empty e)
      (down e t fs refl r.below-waits)))
    where
      down : f.holds ≡ [] → tys_of f.operands ≡ d.0.results → (gs : List Activation) → fs ≡ gs → Waiting m rs f.body gs
          → Steps m state (hand_down f.operands sh gs)
      down e t [] p h = absurd (omega (arith, d.1))
      down e t (x ∷ gs) p h =
          let q = resumes m w rs f.body x h.0 in
          let same : q.0 ≡ d.0 = same_some (sym q.2 ∙ d.2) in
          let ts : q.0.results ++ tys_of x.operands ≡ tys_of (f.operands ++ x.operands) =
          ap (λ (b : Body). b.results ++ tys_of x.operands) same ∙ ap (λ z. z ++ tys_of x.operands) (sym t)
          ∙ sym (tys-append f.operands x.operands) in
          goes-on [] (f.operands ++ x.operands) (record { shared = sh; top = x; below = gs }) nothing
          (record {
            few = omega (arith, r.few, ap length p);
            few-records = r.few-records;
            made = r.made;
            frame = h.0.stands.frame;
            below-waits = h.1;
          })
          (subst (λ z. Allowed m x.body (suc x.address) (shape (length x.holds) z)) ts q.3)
          (all_append (sound_value rs) f.operands x.operands s.operands h.0.stands.operands)
          (unfold all_holds in ap₂ (λ y z. y ++ all_holds z) e p)

  safe-end : Finds m f.body f.address found end → Steps m state (do_end here)
  unfolding do_end
  safe-end d =
      let e : f.holds ≡ [] = empty f.holds (ap (λ (x : Shape). x.holds) d.1) in
      let o : f.operands ≡ [] = tys-none f.operands (ap (λ (x : Shape). x.operands) d.1) in
      let z : fs ≡ [] = alone fs r.below-waits in
      demanded m state _ _ _ (eq-eqb f.body 0 d.0)
      (demanded m state _ _ _ (ap is_empty o)
      (demanded m state _ _ _ (ap is_empty z)
      (demanded m state _ _ _ (ap is_empty e) (finish e z))))
    where
      alone : (gs : List Activation) → Waiting m rs f.body gs → gs ≡ []
      alone [] h = refl
      alone (x ∷ gs) h = absurd (omega (arith, (resumes m w rs f.body x h.0).1, d.0))

      finish : f.holds ≡ [] → fs ≡ [] → Moves m state [] (ended 0)
      finish e z = record {
        still-sound = unfold sound in refl;
        one-item = omega arith;
        in-range = tt;
        reads_on = refl;
        account = λ g. unfold holds_of releases_of all_holds occurs in ap₂
            (λ (x : List ℕ) (y : List Activation). 0 + occurs g (x ++ all_holds y)) e z;
      }

  -- ── records ──
  safe-make : (c : ℕ) → Finds m f.body f.address found (make c) → Steps m state (do_make m c here)
  unfolding do_make
  safe-make c d =
      let ts = d.0 in
      let q = take-off rs f.operands ts d.2.0 (λ vs us. demand (all_fit (tys_of vs) ts) bad_type (recording c vs us here)) d.2.1
      s.operands in
      let vs = q.values in let us = q.others in
      let new : Made = record { class = c; fields = vs } in
      let qs = rs ++ (new ∷ []) in
      let keeps = keeps-append rs (new ∷ []) in
      supplied m state _ _ _ ts d.1
      (subst (Steps m state) (sym q.pops-to)
      (demanded m state _ _ _ q.fit
      (chosen m state _ _ _
      (λ (e : ltb (length rs) 256 ≡ true). goes-on [] (ref c (some (length rs)) ∷ us) (with_records qs here) nothing
      (around-records m sh (record { records = qs }) keeps f fs r (omega (arith, length-append rs (new ∷ []), ltb-true (length rs) 256 e))
      (all_append (sound_record m qs) rs (new ∷ []) (keeps-records m rs qs keeps rs r.made)
      (all_cons (sound_record m qs) new []
      (record-sound m qs new ts d.1
      (typed-back qs vs ts (all_fit→≡ (tys_of vs) ts q.fit) (all_weaker (sound_value rs) (sound_value qs) keeps vs q.values-sound)))
      (all_none (sound_record m qs)))))
      (unfold tys_of in subst (λ z. Allowed m f.body (suc f.address) (shape (length f.holds) (reference c ∷ z))) (sym q.other-types)
      d.2.2)
      (all_cons (sound_value qs) (ref c (some (length rs))) us (unfold sound_value in last_made rs new)
      (all_weaker (sound_value rs) (sound_value qs) keeps us q.others-sound))
      refl)
      (λ e. by_condition too_many_records (unfold among in refl)))))

  -- the record that a reference of class c names, with the field of a type
  field_of : (c x n : ℕ) (ts : List Ty) (t : Ty) → get_elem? m.classes c ≡ some ts → get_elem? ts x ≡ some t → sound_value rs (ref c (some n)) ≡ true
      → (q : Made) × (v : Value) × (get_elem? rs n ≡ some q) × (q.class ≡ c) × (get_elem? q.fields x ≡ some v) × (ty_of v ≡ t)
      × (tys_of q.fields ≡ ts) × (all (sound_value rs) q.fields ≡ true)
  field_of c x n ts t e d h =
      let p = made_at rs c n h in
      let y = typed rs p.0.fields ts (record-typed m rs n p.0 ts r.made p.1 (ap (λ z. get_elem? m.classes z) p.2 ∙ e)) in
      let v = tys_at p.0.fields x t (ap (λ z. get_elem? z x) y.0 ∙ d) in
      (p.0, v.0, p.1, p.2, v.1, v.2, y.0, y.1)

  field-declared : (c x : ℕ) (ts : List Ty) (t : Ty) → get_elem? m.classes c ≡ some ts → get_elem? ts x ≡ some t → field_ty m c x ≡ some t
  field-declared c x ts t e d = ap (λ (o : Option (List Ty)). keep o (λ ts. get_elem? ts x)) e ∙ d

  safe-get : (c x : ℕ) → Finds m f.body f.address found (get_field c x) → Steps m state (do_get_field m c x here)
  unfolding do_get_field
  safe-get c x d =
      let q = first_of (reference c) [] d.4.0 d.4.1 in
      topped m state _ _ _ _ q.is
      (a-reference m state rs _ c _ q.fit q.it-sound (λ n h.
      demanded m state _ _ _ (eq-eqb c c refl) (get n q.others (rest q) q.they-sound h)))
    where
      get : (n : Option ℕ) (us : List Value) → tys_of us ≡ d.4.0 → all (sound_value rs) us ≡ true → sound_value rs (ref c n) ≡ true
          → Steps m state (on_made c n here (λ n p. given (field_ty m c x) bad_type (λ t. given (get_elem? p.fields x) bad_type (λ w.
          in_place w t (goes_on [] (w ∷ us) here)))))
      get none us t y h = by_condition field_of_null (unfold among in refl)
      get (some n) us t y h =
          let p = field_of c x n d.0 d.1 d.2 d.3 h in
          supplied m state _ _ _ p.0 p.2
          (demanded m state _ _ _ (eq-eqb p.0.class c p.3)
          (supplied m state _ _ _ d.1 (field-declared c x d.0 d.1 d.2 d.3)
          (supplied m state _ _ _ p.1 p.4
          (in-place p.1 d.1 _ p.5
          (pushes [] p.1 us d.1 d.4.0 nothing p.5 t (all-at (sound_value rs) p.0.fields x p.1 p.7 p.4) y d.4.2)))))

  safe-put : (c x : ℕ) → Finds m f.body f.address found (put_field c x) → Steps m state (do_put_field m c x here)
  unfolding do_put_field
  safe-put c x d =
      let q = first_of d.1 (reference c ∷ []) d.4.0 d.4.1 in
      let p = on-top rs q.others (reference c) [] d.4.0 q.next q.they-sound in
      topped m state _ _ _ _ q.is
      (topped m state _ _ _ _ p.is
      (a-reference m state rs _ c _ p.fit p.it-sound (λ n h.
      demanded m state _ _ _ (eq-eqb c c refl)
      (store_in n q.value p.others q.fit (rest p) q.it-sound p.they-sound h))))
    where
      store_in : (n : Option ℕ) (v : Value) (us : List Value) → fits (ty_of v) d.1 ≡ true → tys_of us ≡ d.4.0 → sound_value rs v ≡ true
          → all (sound_value rs) us ≡ true → sound_value rs (ref c n) ≡ true
          → Steps m state (on_made c n here (λ n z. given (field_ty m c x) bad_type (λ t. given (get_elem? z.fields x) bad_type (λ u.
          in_place v t (goes_on [] us (with_records (field_put n x v z rs) here))))))
      store_in none v us e t y z h = by_condition field_of_null (unfold among in refl)
      store_in (some n) v us e t y z h =
          let p = field_of c x n d.0 d.1 d.2 d.3 h in
          let same : ty_of v ≡ ty_of p.1 = fits→≡ (ty_of v) d.1 e ∙ sym p.5 in
          let new : Made = record { class = p.0.class; fields = put p.0.fields x v } in
          let qs = put rs n new in
          let keeps = keeps-put rs n p.0 new p.2 refl in
          supplied m state _ _ _ p.0 p.2
          (demanded m state _ _ _ (eq-eqb p.0.class c p.3)
          (supplied m state _ _ _ d.1 (field-declared c x d.0 d.1 d.2 d.3)
          (supplied m state _ _ _ p.1 p.4
          (demanded m state _ _ _ e
          (goes-on [] us (with_records qs here) nothing
          (around-records m sh (record { records = qs }) keeps f fs r (subst (λ k. k ≤ 256) (sym (length-set rs n new)) r.few-records)
          (all-put (sound_record m qs) rs n new (keeps-records m rs qs keeps rs r.made)
          (record-sound m qs new d.0 (ap (λ k. get_elem? m.classes k) p.3 ∙ d.2)
          (typed-back qs (put p.0.fields x v) d.0 (tys-put p.0.fields x p.1 v p.4 same ∙ p.6)
          (all_weaker (sound_value rs) (sound_value qs) keeps (put p.0.fields x v)
          (all-put (sound_value rs) p.0.fields x v p.7 y))))))
          (with-types t d.4.2) (all_weaker (sound_value rs) (sound_value qs) keeps us z) refl)))))

  -- ── events and readings ──
  safe-set : Finds m f.body f.address found set_level → Steps m state (do_set here)
  unfolding do_set
  safe-set d =
      let q = first_of integer (integer ∷ []) d.0 d.1 in
      let p = on-top rs q.others integer [] d.0 q.next q.they-sound in
      topped m state _ _ _ _ q.is
      (topped m state _ _ _ _ p.is
      (an-integer m state p.value _ p.fit (λ x.
      an-integer m state q.value _ q.fit (λ y.
      chosen m state (between 1 512 x && between 0 255 y) _ _
      (λ e. drops (event (set (size x) (size y)) ∷ []) p.others d.0 (a-set x y e) (rest p) p.they-sound d.2)
      (λ e. by_condition out_of_range (unfold among in refl))))))

  a_byte : (n : ℕ) → sound_value rs (int (pos (bank n))) ≡ true
  unfolding sound_value
  a_byte n = lt-ltb (bank n) 2147483648 (omega (arith, low n))

  safe-fader : Finds m f.body f.address found read_fader → Steps m state (do_fader bank here)
  unfolding do_fader
  safe-fader d =
      let q = first_of integer [] d.0 d.1 in
      topped m state _ _ _ _ q.is
      (an-integer m state q.value _ q.fit (λ x.
      let n = size x in
      chosen m state (between 1 64 x) _ _
      (λ e. pushes (reading n (bank n) ∷ []) (int (pos (bank n))) q.others integer d.0 (a-reading n (bank n)) refl (rest q)
      (a_byte n) q.they-sound d.2)
      (λ e. by_condition out_of_range (unfold among in refl))))

  -- the top goes on with other holds
  holding : (gs : List ℕ) → all sound_group gs ≡ true → Allowed m f.body (suc f.address) (shape (length gs) (tys_of f.operands))
      → sound m (running sh (with_holds gs f) fs) ≡ true
  holding gs h a =
      running-back m w sh (with_holds gs f) fs
      (record {
        few = r.few;
        few-records = r.few-records;
        made = r.made;
        frame = record { groups = h; types = r.frame.types; values = r.frame.values };
        below-waits = r.below-waits;
      })
      a s.operands

  one-more : (b : Bool) (n : ℕ) → counted b 0 + n ≡ 0 + counted b n
  one-more true n = omega arith
  one-more false n = refl

  safe-hold : (g : ℕ) → Finds m f.body f.address found (take_hold g) → Steps m state (do_take_hold g here)
  unfolding do_take_hold holds_of releases_of all_holds occurs
  safe-hold g d =
      demanded m state _ _ _
      (lt-ltb (length f.holds) 16 (limits m w f.body (suc f.address) (shape (suc (length f.holds)) (tys_of f.operands)) d.1).0)
      (record {
        still-sound = holding (g ∷ f.holds) (all_cons sound_group g f.holds (le-leb g 63 d.0) r.frame.groups) d.1;
        one-item = omega arith;
        in-range = (d.0, tt);
        reads_on = tt;
        account = λ x. one-more (eqb g x) (occurs x (f.holds ++ all_holds fs));
      })

  safe-let : Finds m f.body f.address found let_hold → Steps m state (letting f.holds here)
  safe-let d = pick f.holds refl d.1
    where
      pick : (gs : List ℕ) → f.holds ≡ gs → length f.holds ≡ suc d.0 → Steps m state (letting gs here)
      pick [] e h = absurd (omega (arith, ap length e))
      pick (g ∷ gs) e h =
          let n : length gs ≡ d.0 = omega (arith, ap length e) in
          let groups = all_first sound_group g gs (subst (λ z. all sound_group z ≡ true) e r.frame.groups) in
          record {
            still-sound = holding gs groups.1
                (subst (λ z. Allowed m f.body (suc f.address) (shape z (tys_of f.operands))) (sym n) d.2);
            one-item = omega arith;
            in-range = (leb-true g 63 groups.0, tt);
            reads_on = tt;
            account = λ x. unfold holds_of releases_of all_holds occurs in ap (λ (z : List ℕ). 0 + occurs x (z ++ all_holds fs)) e
                ∙ sym (one-more (eqb g x) (occurs x (gs ++ all_holds fs)));
          }

  safe-assert : Finds m f.body f.address found assert → Steps m state (do_assert here)
  unfolding do_assert
  safe-assert d =
      let q = first_of logical [] d.0 d.1 in
      topped m state _ _ _ _ q.is
      (a-logical m state q.value _ q.fit (λ b.
      chosen m state b _ _ (λ e. drops [] q.others d.0 nothing (rest q) q.they-sound d.2) (λ e. by_condition assert_false (unfold among in refl))))

  -- ── every op ──
  safe-act : (x : Instr) → instr_at m f.address ≡ some x → Finds m f.body f.address found x → Steps m state (act m bank x here)
  unfolding act
  safe-act end i d = safe-end d
  safe-act (push v) i d = safe-push v d
  safe-act (load o x) i d = safe-load o x d
  safe-act (store o x) i d = safe-store o x d
  safe-act (operate (unary o)) i d = safe-unary o d
  safe-act (operate (binary o)) i d = safe-binary o d
  safe-act (go j) i d = jumps_to j f.operands d s.operands
  safe-act (go_unless j) i d = safe-unless j d
  safe-act (call k) i d = safe-call k i d
  safe-act return i d = safe-return d
  safe-act (make c) i d = safe-make c d
  safe-act (get_field c x) i d = safe-get c x d
  safe-act (put_field c x) i d = safe-put c x d
  safe-act set_level i d = safe-set d
  safe-act read_fader i d = safe-fader d
  safe-act (take_hold g) i d = safe-hold g d
  safe-act let_hold i d = safe-let d
  safe-act assert i d = safe-assert d
  safe-act (stop c) i d = by_condition c d

  pub safe-running : Steps m state (step m bank state)
  unfolding step fetch
  safe-running =
      let o = ops m w f.body f.address found s.allowed in
      subst (λ b. Steps m state (given (If b then instr_at m f.address else none) no_step (λ i. act m bank i here))) (sym s.allowed.inside)
      (subst (λ y. Steps m state (given y no_step (λ i. act m bank i here))) (sym o.1)
      (safe-act o.0 o.1 o.2))
