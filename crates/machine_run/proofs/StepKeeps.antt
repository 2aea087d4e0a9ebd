-- What a step leaves where it was: the activation it was in and, but for ops 8 to 11, the next address.
use mathlib.Core.Path.{◌≡◌, refl, ap}
use mathlib.Core.Bool.{Bool, true, false, ◌&&◌}
use mathlib.Core.List.{List, [], ◌∷◌, ◌++◌}
use mathlib.Core.Option.{Option, none, some}
use Prim.Native.Nat.{ℕ, zero, suc}
use lib.IntN.{pos}
use lib.Dec.{eqb, leb, ltb}
use lib.ListN.{length, get_elem?}
use lib.ListN.{set as put}
use Rattle.logic.specs.Choice.{If◌then◌else◌}
use Rattle.values.specs.Operators.{Operator, unary, binary}
use Rattle.values.specs.Arithmetic.{Outcome, gives, ends, mistyped}
use Rattle.values.specs.Types.{Ty, fits, all_fit, sames}
use Rattle.values.specs.Ends.{assert_false, out_of_range, too_many_records}
use Rattle.values.specs.Values.{Value, int, log, bit, ref, ty_of, tys_of, as_integer, as_logical, as_reference, Cell, assigned, between, size, apply1, apply2}
use Rattle.values.specs.Trace.{set, hold, Item, event, reading}
use Rattle.bytecode.specs.Macro.{Macro}
use Rattle.bytecode.specs.Instructions.{Owner, own, root, Instr, end, push, load, store, operate, go, go_unless, call, return, make, get_field, put_field, set_level}
use Rattle.bytecode.specs.Instructions.{read_fader, take_hold, let_hold, assert, stop, cell_ty, field_ty, known, procedure_at}
use Rattle.bytecode.specs.Machine.{Activation, Made, Shared, running, unwinding, ended, Stuck, no_step, bad_type, bad_record, bad_frame, group_held, Stepped, moved, stuck}
use Rattle.bytecode.specs.Machine.{demand, Here, at, with_holds, with_records, field_put, cells_for, on_field, is_empty, condition, goes_on, settled, pop, given}
use Rattle.bytecode.specs.Machine.{put_top, put_cells, push_cell, pop_many, recording, on_made, letting, hand_down, do_load, do_store, do_operate, do_go_unless, do_return, do_end}
use Rattle.bytecode.specs.Machine.{do_make, do_get_field, do_put_field, do_set, do_fader, do_take_hold, do_assert, do_push, act}
use Rattle.machine_ops.specs.Acts.{here}
use Rattle.bytecode_layout.specs.Records.{length-lowest}

top-address : (cs : List Cell) (t : Activation) (fs : List Activation) → (put_top cs t fs).address ≡ t.address
top-address cs t [] = refl
top-address cs t (g ∷ gs) = refl

-- ops 0 to 7 and 12 to 20
abbrev pub Plain : Instr → Type 0
Plain (go i) = ⊥
Plain (go_unless i) = ⊥
Plain (call k) = ⊥
Plain return = ⊥
Plain end = Unit {0}
Plain (push v) = Unit {0}
Plain (load o x) = Unit {0}
Plain (store o x) = Unit {0}
Plain (operate o) = Unit {0}
Plain (make c) = Unit {0}
Plain (get_field c x) = Unit {0}
Plain (put_field c x) = Unit {0}
Plain set_level = Unit {0}
Plain read_fader = Unit {0}
Plain (take_hold g) = Unit {0}
Plain let_hold = Unit {0}
Plain assert = Unit {0}
Plain (stop c) = Unit {0}

-- ── a claim that holds of every stuck step holds on where a test is made ──
module _ (P : Stepped → Type 0) (of-stuck : (why : Stuck) → P (stuck why)) where
  by-demand : (b : Bool) (why : Stuck) (s : Stepped) → P s → P (demand b why s)
  by-demand true why s p = p
  by-demand false why s p = of-stuck why

  by-given : {A : Type 0} (o : Option A) (why : Stuck) (g : A → Stepped) → ((x : A) → P (g x)) → P (given o why g)
  by-given none why g p = of-stuck why
  by-given (some x) why g p = p x

-- ── an op that goes on to the next address, or leaves off running ──
module _ (t : Activation) (fs : List Activation) where
  abbrev pub Next : Stepped → Type 0
  Next (moved is (running rs u us)) = (u.address ≡ suc t.address) × (length us ≡ length fs)
  Next (moved is (unwinding gs a)) = Unit {0}
  Next (moved is (ended c)) = Unit {0}
  Next (stuck why) = Unit {0}

  pub record Onward (s : Stepped) : Type 0 where
    pub next : Next s

  nowhere : {why : Stuck} → Onward (stuck why)
  nowhere = record { next = tt }

  -- as it is found, its cells and the records apart
  record Alike (h : Here) : Type 0 where
    address : h.top.address ≡ t.address
    count : length h.below ≡ length fs

  on-demand : (b : Bool) (why : Stuck) (s : Stepped) → Onward s → Onward (demand b why s)
  on-demand = by-demand Onward (λ why. nowhere)

  on-if : (b : Bool) (s r : Stepped) → Onward s → Onward r → Onward (If b then s else r)
  on-if true s r p q = p
  on-if false s r p q = q

  on-given : {A : Type 0} (o : Option A) (why : Stuck) (g : A → Stepped) → ((x : A) → Onward (g x)) → Onward (given o why g)
  on-given = by-given Onward (λ why. nowhere)

  on-pop : (vs : List Value) (g : Value → List Value → Stepped) → ((v : Value) (us : List Value) → Onward (g v us)) → Onward (pop vs g)
  on-pop [] g p = nowhere
  on-pop (v ∷ vs) g p = p v vs

  on-many : (n : ℕ) (taken vs : List Value) (g : List Value → List Value → Stepped) → ((us ws : List Value) → Onward (g us ws)) → Onward (pop_many n taken vs g)
  unfolding pop_many
  on-many zero taken vs g p = p taken vs
  on-many (suc n) taken [] g p = nowhere
  on-many (suc n) taken (v ∷ vs) g p = on-many n (v ∷ taken) vs g p

  on-condition : (c : ℕ) (h : Here) → Onward (condition c h)
  unfolding condition
  on-condition c h = record { next = tt }

  on-goes : (is : List Item) (vs : List Value) (h : Here) → Alike h → Onward (goes_on is vs h)
  on-goes is vs h p =
      let s : Stepped = moved is (running h.shared (at (suc h.top.address) vs h.top) h.below) in
      let q : Onward s = record { next = (ap suc p.address, p.count) } in
      on-demand (leb (length vs) 32) bad_frame s q

  on-settled : (o : Outcome Value) (vs : List Value) (h : Here) → Alike h → Onward (settled o vs h)
  on-settled (gives v) vs h p = on-goes [] (v ∷ vs) h p
  on-settled (ends c) vs h p = on-condition c h
  on-settled mistyped vs h p = nowhere

  on-cell : (t : Ty) (c : Cell) (h : Here) → Alike h → Onward (push_cell t c h)
  on-cell t (assigned v) h p = on-demand (fits (ty_of v) t) bad_type _ (on-goes [] (v ∷ h.top.operands) h p)

  on-made : (c : ℕ) (r : Option ℕ) (h : Here) (g : ℕ → Made → Stepped) → ((n : ℕ) (q : Made) → Onward (g n q)) → Onward (on_made c r h g)
  on-made c none h g p = on-condition _ h
  on-made c (some n) h g p =
      on-given (get_elem? h.shared.records n) bad_record (λ q. demand (eqb q.class c) bad_record (g n q)) (λ q. on-demand (eqb q.class c) bad_record (g n q) (p n q))

  on-letting : (gs : List ℕ) (rs : Shared) → Onward (letting gs (here rs t fs))
  on-letting [] rs = nowhere
  on-letting (g ∷ gs) rs = record { next = (refl, refl) }

  module _ (m : Macro) (bank : ℕ → ℕ) (rs : Shared) where
    abbrev h : Here
    h = here rs t fs

    found : Alike h
    found = record { address = refl; count = refl }

    with-cells : (o : Owner) (cs : List Cell) → Alike (put_cells o cs h)
    with-cells own cs = record { address = refl; count = refl }
    with-cells root cs = record { address = top-address cs t fs; count = length-lowest cs fs }

    on-push : (v : Value) → Onward (do_push m v h)
    on-push v = on-demand (known m (ty_of v)) no_step (goes_on [] (v ∷ t.operands) h) (on-goes [] (v ∷ t.operands) h found)

    on-operate : (o : Operator) → Onward (do_operate o h)
    unfolding do_operate
    on-operate (unary o) = on-pop t.operands (λ v vs. settled (apply1 o v) vs h) (λ v vs. on-settled (apply1 o v) vs h found)
    on-operate (binary o) =
        on-pop t.operands (λ w vs. pop vs (λ v us. settled (apply2 o v w) us h))
        (λ w vs. on-pop vs (λ v us. settled (apply2 o v w) us h) (λ v us. on-settled (apply2 o v w) us h found))

    on-load : (o : Owner) (x : ℕ) → Onward (do_load m o x h)
    unfolding do_load
    on-load o x = on-given (cell_ty m t.body o x) bad_frame _ (λ u. on-given (get_elem? (cells_for o h) x) bad_frame _ (λ c. on-cell u c h found))

    on_store : (o : Owner) (x : ℕ) → Onward (do_store m o x h)
    unfolding do_store
    on_store o x = on-pop t.operands _ (λ v vs. on-given (cell_ty m t.body o x) bad_frame _ (λ u. on-given (get_elem? (cells_for o h) x) bad_frame _ (λ c.
        let h' = put_cells o (put (cells_for o h) x (assigned v)) h in
        on-demand (fits (ty_of v) u) bad_type (goes_on [] vs h') (on-goes [] vs h' (with-cells o (put (cells_for o h) x (assigned v)))))))

    on-make : (c : ℕ) → Onward (do_make m c h)
    unfolding do_make
    on-make c = on-given (get_elem? m.classes c) no_step _ (λ ts. on-many (length ts) [] t.operands _ (λ vs us.
        let h' = with_records (rs.records ++ (record { class = c; fields = vs } ∷ [])) h in
        let ws = ref c (some (length rs.records)) ∷ us in
        on-demand (all_fit (tys_of vs) ts) bad_type (recording c vs us h)
        (on-if (ltb (length rs.records) 256) (goes_on [] ws h') (condition too_many_records h) (on-goes [] ws h' (record { address = refl; count = refl })) (on-condition too_many_records h))))

    on-field : (c x : ℕ) (v : Value) (g : ℕ → Made → Ty → Value → Stepped) → ((n : ℕ) (q : Made) (u : Ty) (w : Value) → Onward (g n q u w)) → Onward (on_field m c x v h g)
    on-field c x v g p = on-given (as_reference v) bad_type _ (λ r. on-demand (eqb r.class c) bad_record _ (on-made c r.target h _ (λ n q.
        on-given (field_ty m c x) bad_type _ (λ u. on-given (get_elem? q.fields x) bad_type _ (λ w. p n q u w)))))

    on-get : (c x : ℕ) → Onward (do_get_field m c x h)
    unfolding do_get_field
    on-get c x = on-pop t.operands _ (λ v vs. on-field c x v _ (λ n q u w. on-demand (fits (ty_of w) u) bad_type _ (on-goes [] (w ∷ vs) h found)))

    on-put : (c x : ℕ) → Onward (do_put_field m c x h)
    unfolding do_put_field
    on-put c x = on-pop t.operands _ (λ w vs. on-pop vs _ (λ v us. on-field c x v _ (λ n q u z.
        let h' = with_records (field_put n x w q rs.records) h in
        on-demand (fits (ty_of w) u) bad_type (goes_on [] us h') (on-goes [] us h' (record { address = refl; count = refl })))))

    on-set : Onward (do_set h)
    unfolding do_set
    on-set = on-pop t.operands _ (λ w vs. on-pop vs _ (λ v us. on-given (as_integer v) bad_type _ (λ x. on-given (as_integer w) bad_type _ (λ y.
        let is = event (set (size x) (size y)) ∷ [] in
        on-if (between 1 512 x && between 0 255 y) (goes_on is us h) (condition out_of_range h) (on-goes is us h found) (on-condition out_of_range h)))))

    on-fader : Onward (do_fader bank h)
    unfolding do_fader
    on-fader = on-pop t.operands _ (λ v vs. on-given (as_integer v) bad_type _ (λ x.
        let is = reading (size x) (bank (size x)) ∷ [] in let ws = int (pos (bank (size x))) ∷ vs in
        on-if (between 1 64 x) (goes_on is ws h) (condition out_of_range h) (on-goes is ws h found) (on-condition out_of_range h)))

    on-hold : (g : ℕ) → Onward (do_take_hold g h)
    unfolding do_take_hold
    on-hold g =
        let s : Stepped = moved (event (hold g) ∷ []) (running rs (with_holds (g ∷ t.holds) t) fs) in
        let q : Onward s = record { next = (refl, refl) } in
        on-demand (ltb (length t.holds) 16) bad_frame s q

    on-assert : Onward (do_assert h)
    unfolding do_assert
    on-assert = on-pop t.operands _ (λ v vs. on-given (as_logical v) bad_type _ (λ b. on-if b (goes_on [] vs h) (condition assert_false h) (on-goes [] vs h found) (on-condition assert_false h)))

    on-end : Onward (do_end h)
    unfolding do_end
    on-end =
        let e : Onward (moved [] (ended 0)) = record { next = tt } in
        on-demand (eqb t.body 0) no_step _ (on-demand (is_empty t.operands) bad_type _ (on-demand (is_empty fs) bad_frame _ (on-demand (is_empty t.holds) group_held (moved [] (ended 0)) e)))

    pub onward : (x : Instr) → Plain x → Onward (act m bank x h)
    unfolding act
    onward end p = on-end
    onward (push v) p = on-push v
    onward (load o x) p = on-load o x
    onward (store o x) p = on_store o x
    onward (operate o) p = on-operate o
    onward (go i) p = absurd p
    onward (go_unless i) p = absurd p
    onward (call k) p = absurd p
    onward return p = absurd p
    onward (make c) p = on-make c
    onward (get_field c x) p = on-get c x
    onward (put_field c x) p = on-put c x
    onward set_level p = on-set
    onward read_fader p = on-fader
    onward (take_hold g) p = on-hold g
    onward let_hold p = on-letting t.holds rs
    onward assert p = on-assert
    onward (stop c) p = on-condition c h

-- ── a jump stays in its activation, and a return goes on in one ──
abbrev pub Within : ℕ → Stepped → Type 0
Within n (moved is (running rs u us)) = length us ≡ n
Within n (moved is (unwinding gs a)) = ⊥
Within n (moved is (ended c)) = ⊥
Within n (stuck why) = Unit {0}

-- one activation less, of n below the top
abbrev pub Ran : ℕ → Stepped → Type 0
Ran n (moved is (running rs u us)) = suc (length us) ≡ n
Ran n (moved is (unwinding gs a)) = ⊥
Ran n (moved is (ended c)) = ⊥
Ran n (stuck why) = Unit {0}

pub record Stays (n : ℕ) (s : Stepped) : Type 0 where
  pub ran : Ran n s

module _ (m : Macro) (bank : ℕ → ℕ) (rs : Shared) (t : Activation) (fs : List Activation) where
  pub jumps : (i : ℕ) → Within (length fs) (act m bank (go i) (here rs t fs))
  unfolding act
  jumps i = refl

  pub jumps-unless : (i : ℕ) → Within (length fs) (act m bank (go_unless i) (here rs t fs))
  unfolding act do_go_unless
  jumps-unless i = go-pop t.operands
    where
      go-pop : (vs : List Value) → Within (length fs) (pop vs (λ v us.
          given (as_logical v) bad_type (λ b. moved [] (running rs (record
          { body = t.body; address = If b then suc t.address else i; cells = t.cells; operands = us; holds = t.holds }) fs))))
      go-pop [] = tt
      go-pop (int z ∷ vs) = tt
      go-pop (log b ∷ vs) = refl
      go-pop (bit n ∷ vs) = tt
      go-pop (ref c r ∷ vs) = tt

  pub returns : Stays (length fs) (act m bank return (here rs t fs))
  unfolding act do_return
  returns =
      stays-given (length fs) (procedure_at m t.body) no_step _ (λ b. stays (length fs) (sames (tys_of t.operands) b.results) bad_type _ (stays (length fs) (is_empty t.holds) group_held _
      (by_hand t.operands fs)))
    where
      stays : (n : ℕ) (b : Bool) (why : Stuck) (s : Stepped) → Stays n s → Stays n (demand b why s)
      stays n = by-demand (Stays n) (λ why. record { ran = tt })

      stays-given : (n : ℕ) {A : Type 0} (o : Option A) (why : Stuck) (g : A → Stepped) → ((x : A) → Stays n (g x)) → Stays n (given o why g)
      stays-given n = by-given (Stays n) (λ why. record { ran = tt })

      by_hand : (vs : List Value) (gs : List Activation) → Stays (length gs) (hand_down vs rs gs)
      by_hand vs [] = record { ran = tt }
      by_hand vs (f ∷ gs) =
          let s : Stepped = moved [] (running rs (at (suc f.address) (vs ++ f.operands) f) gs) in
          stays (suc (length gs)) (leb (length (vs ++ f.operands)) 32) bad_frame s (record { ran = refl })
