-- What each op asks, where it is the next: from there being a next step, and from the loading check's promise.
use mathlib.Core.Path.{◌≡◌, refl, sym, ap, ◌∙◌, subst}
use mathlib.Core.Bool.{Bool, true, false}
use mathlib.Core.List.{List, [], ◌∷◌, ◌++◌, map}
use mathlib.Core.Option.{Option, none, some}
use Prim.Native.Nat.{ℕ, zero, suc, ◌+◌, ◌*◌, ◌-◌, ◌≤◌, ◌<◌}
use native.Mathlib.Omega.{arith}
use lib.Dec.{eqb, leb, ltb}
use lib.ListN.{length, get_elem?, length-append, length-map}
use borrow.Author.Tests.{leb-true, ltb-true, eqb-true, ne_eqb}
use Rattle.bytecode.specs.Words.{value_word}
use Rattle.logic.specs.Options.{keep}
use Rattle.logic.specs.Choice.{If◌then◌else◌}
use Rattle.words.specs.Numbers.{byte_at, half_at, word_at}
use Rattle.values.specs.Types.{Ty, sames, fits}
use Rattle.values.specs.Trace.{Item}
use Rattle.values.specs.Operators.{Operator, Binary, unary, binary, unary_of, binary_of}
use Rattle.values.specs.Values.{Value, int, log, bit, ref, ty_of, tys_of, Cell, assigned, ty_of_cell}
use Rattle.bytecode.specs.Macro.{Macro, Body, shape}
use Rattle.bytecode.specs.Instructions.{Owner, own, root, Instr, operator_of, body_at, cells_of, cell_ty, field_ty, procedure_at}
use Rattle.bytecode.specs.Machine.{Activation, Made, Shared, Machine, running, Stuck, Stepped, moved, stuck, bad_frame, bad_record, bad_type, group_held, demand, at, Here}
use Rattle.bytecode.specs.Machine.{pop, given, push_cell, no_step, goes_on, pop_many, all_holds, root_of, cells_for, on_field, do_load, do_store, do_operate, do_go_unless, do_call}
use Rattle.bytecode.specs.Machine.{do_return, do_make, on_made, do_get_field, do_put_field, do_set, do_fader, do_take_hold, letting, do_assert, hand_down, is_empty, act}
use Rattle.bytecode.specs.Runs.{bank_of}
use Rattle.bytecode.specs.Sound.{sound_record, of_class}
use Rattle.bytecode_laws.specs.Terms.{Passed, Finds}
use Rattle.bytecode_laws.specs.Promises.{limits, in_code, cells-at-most-32}
use Rattle.bytecode_safety.specs.Lists.{all-at}
use Rattle.bytecode_safety.specs.States.{Frame, Waiting, typed}
use Rattle.values.specs.Identical.{sames→≡, length_types}
use Rattle.logic.specs.ListLaws.{index_below, each_at}
use Rattle.bytecode_layout.specs.Places.{frame_place}
use Rattle.machine_frames.specs.On.{on-long, read_count, read-records, read-holds, read-open, read-operand, read-depth, read-address}
use Rattle.machine_ops.specs.Acts.{here, Now, Room, Holding}
use Rattle.logic.specs.Tests.{never}
use Rattle.machine_ops.proofs.CallRecordOps.{not_root}
use Rattle.machine_ops.proofs.RunningFacts.{around, stands, few-operands, few-holds, few-records}
use Rattle.machine_ops.specs.Moves.{CallRoom, ReturnRoom, FieldRoom, MakeRoom}
use Rattle.machine_ops.specs.Moves.{given as given-of}
use Rattle.load_check.specs.Lookups.{BodyAt, ClassAt}
use Rattle.load_places.specs.Records.{classes, bodies, class_place, body_place}
use Rattle.load_check.specs.Views.{span-length, ty_on, class_on, body_on, below, viewed}
use Rattle.machine_ops.proofs.MovedLists.{below_top}
use Rattle.machine_run.specs.Held.{Poised}
use Rattle.machine_run.proofs.OpDecode.{is-integer, is-logical, is-bits, is-null, is-load, is_store, is-operate, is-go, is-unless, is_call, is-return, is-make}
use Rattle.machine_run.proofs.OpDecode.{is_get, is-put, is_set, is-fader, is-hold, is-release, is-assert}
use Rattle.bytecode.specs.State.{activation_length, operand_words_at}

-- ── a step that is made ──
record Moved (s : Stepped) : Type 0 where
  items : List Item
  next : Machine
  is : s ≡ moved items next

not_stuck : {A : Type 0} {why : Stuck} → Moved (stuck why) → A
not_stuck e = let q = e.is in let z : ◌≡◌ {A = ℕ} 0 1 = cc q in absurd (omega arith)

demand-there : (b : Bool) (why : Stuck) (s : Stepped) → Moved (demand b why s) → (b ≡ true) × Moved s
demand-there true why s e = (refl, e)
demand-there false why s e = not_stuck e

given-there : {A : Type 0} (o : Option A) (why : Stuck) (g : A → Stepped) → Moved (given o why g) → (a : A) × (o ≡ some a) × Moved (g a)
given-there none why g e = not_stuck e
given-there (some a) why g e = (a, refl, e)

pop-there : (vs : List Value) (g : Value → List Value → Stepped) → Moved (pop vs g) → (v : Value) × (us : List Value) × (vs ≡ v ∷ us) × Moved (g v us)
pop-there [] g e = not_stuck e
pop-there (v ∷ vs) g e = (v, vs, refl, e)

many-there : (k : ℕ) (taken vs : List Value) (g : List Value → List Value → Stepped) → Moved (pop_many k taken vs g) → k ≤ length vs
unfolding pop_many
many-there zero taken vs g e = omega arith
many-there (suc k) taken [] g e = not_stuck e
many-there (suc k) taken (v ∷ vs) g e = let h = many-there k (v ∷ taken) vs g e in omega arith

goes-room : (is : List Item) (vs : List Value) (h : Here) → Moved (goes_on is vs h) → length vs ≤ 32
goes-room is vs h e = leb-true (length vs) 32 (demand-there (leb (length vs) 32) bad_frame (moved is (running h.shared (at (suc h.top.address) vs h.top) h.below)) e).0

-- ── what stands in the macro ──

below-there : {A : Type 0} (k n : ℕ) (y x : A) → below k n y ≡ some x → (k < n) × (x ≡ y)
below-there k n y x e = go (ltb k n) refl e
  where
    go : (t : Bool) → ltb k n ≡ t → (If t then some y else none) ≡ some x → (k < n) × (x ≡ y)
    go true h e = (ltb-true k n h, cc)
    go false h e = let z : ◌≡◌ {A = ℕ} 0 1 = cc in absurd (omega arith)

-- ── a sound state ──
frame-cells : (m : Macro) → Passed m → (rs : List Made) (f : Activation) → Frame m rs f → length f.cells ≤ 32
frame-cells m w rs f F = go (body_at m f.body) refl F.types
  where
    go : (o : Option Body) → body_at m f.body ≡ o → map ty_of_cell f.cells ≡ cells_of o → length f.cells ≤ 32
    go none e t = omega (arith, length-map f.cells ty_of_cell, ap length t)
    go (some b) e t = omega (arith, length-map f.cells ty_of_cell, ap length t, cells-at-most-32 m w f.body b e)

waiting-root : (m : Macro) → Passed m → (rs : List Made) (f : Activation) (fs : List Activation) (k : ℕ) → Frame m rs f → Waiting m rs k fs → length (root_of f fs).cells ≤ 32
unfolding root_of
waiting-root m w rs f [] k F W = frame-cells m w rs f F
waiting-root m w rs f (g ∷ gs) k F W = waiting-root m w rs g gs g.body W.0.stands.frame W.1

waiting-holds : (m : Macro) → Passed m → (rs : List Made) (k : ℕ) (fs : List Activation) → Waiting m rs k fs → length (all_holds fs) ≤ 16 * length fs
unfolding all_holds
waiting-holds m w rs k [] W = omega arith
waiting-holds m w rs k (f ∷ fs) W =
    let h = (limits m w f.body f.address _ W.0.stands.allowed).0 in
    let r = waiting-holds m w rs f.body fs W.1 in
    omega (arith, length-append f.holds (all_holds fs))

module _ {m : Macro} {l : List ℕ} {f n i : ℕ} {rs : Shared} {t : Activation} {fs : List Activation} (N : Now m l f n i rs t fs) where
  in-place : t.address < 65535
  in-place = omega (arith, in_code m N.passed t.body t.address (stands N).allowed.inside, N.passed.narrow.few-instructions)

  pub room : Room l f n i
  room =
      let few : length fs < 32 = N.on.few in
      record {
        long = on-long N.on;
        place = omega (arith, N.on.place);
        depth = omega (arith, N.depth, few-operands N);
        address = omega (arith, N.address, in-place);
        count = omega (arith, read_count N.on);
        records = omega (arith, read-records N.on, few-records N);
      }

  cells-room : (o : Owner) → length (cells_for o (here rs t fs)) ≤ 32
  cells-room own = frame-cells m N.passed rs.records t (around N).frame
  cells-room root = waiting-root m N.passed rs.records t fs t.body (around N).frame (around N).below-waits

  all-holds : length (all_holds (t ∷ fs)) ≤ length t.holds + 16 * length fs
  unfolding all_holds
  all-holds = omega (arith, length-append t.holds (all_holds fs), waiting-holds m N.passed rs.records t.body fs (around N).below-waits)

  record-room : (p x : ℕ) (q : Made) (v : Value) → get_elem? rs.records p ≡ some q → get_elem? q.fields x ≡ some v → x < 8
  record-room p x q v e e' = go (get_elem? m.classes q.class) refl (all-at (sound_record m rs.records) rs.records p q (around N).made e)
    where
      go : (o : Option (List Ty)) → get_elem? m.classes q.class ≡ o → of_class rs.records q o ≡ true → x < 8
      go none c h = never h
      go (some ts) c h =
          let t = (typed rs.records q.fields ts h).0 in
          let r = each_at _ m.classes q.class ts N.passed.well-formed.classes-read c in
          omega (arith, index_below q.fields x v e', length_types q.fields, ap length t, r.few-fields)

-- ── each op ──
module _ {code readings : List ℕ} {op a b : ℕ} {l : List ℕ} {f n i : ℕ} (P : Poised code readings op a b l f n i) where
  N : Now P.macro l f n i P.shared P.top P.below
  N = P.at-hand

  depth : n ≡ length P.top.operands
  depth = N.depth

  doing : (x : Instr) → P.instr ≡ x → Moved (act P.macro (bank_of readings) x (here P.shared P.top P.below))
  doing x e = record { items = P.items; next = P.next; is = rw (← e) P.moves }

  fitting : (is : List Item) (v : Value) → Moved (goes_on is (v ∷ P.top.operands) (here P.shared P.top P.below)) → n < 32
  fitting is v m = let r = goes-room is (v ∷ P.top.operands) (here P.shared P.top P.below) m in omega (arith, depth)

  one : (g : Value → List Value → Stepped) → Moved (pop P.top.operands g) → 0 < n
  one g m = let v = pop-there P.top.operands g m in omega (arith, depth, ap length v.2)

  two : (g : Value → Value → List Value → Stepped) → Moved (pop P.top.operands (λ v vs. pop vs (g v))) → 2 ≤ n
  two g m =
      let v = pop-there P.top.operands (λ v vs. pop vs (g v)) m in
      let u = pop-there v.1 (g v.0) v.3 in
      omega (arith, depth, ap length v.2, ap length u.2)

  pub asks-integer : op ≡ 1 → n < 32
  unfolding act
  asks-integer e = fitting [] _ (doing _ (is-integer op a b P.instr P.decoded e))

  pub asks-logical : op ≡ 2 → n < 32
  unfolding act
  asks-logical e = fitting [] _ (doing _ (is-logical op a b P.instr P.decoded e).0)

  pub asks-bits : op ≡ 3 → n < 32
  unfolding act
  asks-bits e = fitting [] _ (doing _ (is-bits op a b P.instr P.decoded e))

  pub asks-null : op ≡ 4 → (n < 32) × (a < 16)
  unfolding act
  asks-null e =
      let d = demand-there (ltb a (length P.macro.classes)) no_step
      (goes_on [] (ref a none ∷ P.top.operands) (here P.shared P.top P.below)) (doing _ (is-null op a b P.instr P.decoded e)) in
      (fitting [] _ d.1, omega (arith, ltb-true a (length P.macro.classes) d.0, N.passed.well-formed.few-classes))

  pub asks-load : op ≡ 5 → (n < 32) × (b < 32)
  unfolding act do_load
  asks-load e =
      let q = is-load op a b P.instr P.decoded e in
      let cs = cells_for q.0 (here P.shared P.top P.below) in
      let u = given-there (cell_ty P.macro P.top.body q.0 b) bad_frame _ (doing _ q.2) in
      let g = given-there (get_elem? cs b) bad_frame _ u.2 in
      (push-room u.0 g.0 g.2, omega (arith, index_below cs b g.0 g.1, cells-room N q.0))
    where
      push-room : (u : Ty) (c : Cell) → Moved (push_cell u c (here P.shared P.top P.below)) → n < 32
      push-room u (assigned v) m = fitting [] v (demand-there (fits (ty_of v) u) bad_type _ m).1

  pub asks-store : op ≡ 6 → (0 < n) × (b < 32)
  unfolding act do_store
  asks-store e =
      let q = is_store op a b P.instr P.decoded e in
      let m = doing _ q.2 in
      let v = pop-there P.top.operands _ m in
      let cs = cells_for q.0 (here P.shared P.top P.below) in
      let u = given-there (cell_ty P.macro P.top.body q.0 b) bad_frame _ v.3 in
      let g = given-there (get_elem? cs b) bad_frame _ u.2 in
      (one _ m, omega (arith, index_below cs b g.0 g.1, cells-room N q.0))

  pub asks-operate : op ≡ 7 → (0 < n) × (a < 20 → 2 ≤ n)
  unfolding act do_operate unary_of
  asks-operate e = let q = is-operate op a b P.instr P.decoded e in go q.0 q.1 (doing _ q.2)
    where
      go : (o : Operator) → operator_of a ≡ some o → Moved (do_operate o (here P.shared P.top P.below)) → (0 < n) × (a < 20 → 2 ≤ n)
      go (binary o) r m = let k = two _ m in (omega arith, λ h. k)
      go (unary o) r m = (one _ m, λ h. absurd (not-unary h r))
        where
          not-unary : a < 20 → operator_of a ≡ some (unary o) → ⊥
          not-unary h r = binary-only (binary_of a) (rw (ne_eqb a 20 (λ z. omega arith), ne_eqb a 21 (λ z. omega arith), ne_eqb a 22 (λ z. omega arith)) at r)
            where
              binary-only : (x : Option Binary) → keep x (λ z. some (binary z)) ≡ some (unary o) → ⊥
              binary-only none r = let z : ◌≡◌ {A = ℕ} 0 1 = cc in omega arith
              binary-only (some y) r = let z : ◌≡◌ {A = ℕ} 0 1 = cc in omega arith

  pub asks-go : op ≡ 8 → b < 65536
  asks-go e =
      let d = subst (λ (x : Instr). Finds P.macro P.top.body P.top.address (shape (length P.top.holds) (tys_of P.top.operands)) x)
      (is-go op a b P.instr P.decoded e) P.finds in
      omega (arith, in_code P.macro N.passed P.top.body b d.inside, N.passed.narrow.few-instructions)

  pub asks-unless : op ≡ 9 → (0 < n) × (b < 65536)
  unfolding act do_go_unless
  asks-unless e =
      let q = is-unless op a b P.instr P.decoded e in
      let d = subst (λ (x : Instr). Finds P.macro P.top.body P.top.address (shape (length P.top.holds) (tys_of P.top.operands)) x) q P.finds in
      (one _ (doing _ q), omega (arith, in_code P.macro N.passed P.top.body b d.3.inside, N.passed.narrow.few-instructions))

  pub asks_set : op ≡ 15 → 2 ≤ n
  unfolding act do_set
  asks_set e = two _ (doing _ (is_set op a b P.instr P.decoded e))

  pub asks-fader : op ≡ 16 → 0 < n
  unfolding act do_fader
  asks-fader e = one _ (doing _ (is-fader op a b P.instr P.decoded e))

  pub asks-assert : op ≡ 19 → 0 < n
  unfolding act do_assert
  asks-assert e = one _ (doing _ (is-assert op a b P.instr P.decoded e))

  pub asks-hold : op ≡ 17 → (b ≤ 63) × Holding l f
  unfolding act do_take_hold
  asks-hold e =
      let q = is-hold op a b P.instr P.decoded e in
      let d = demand-there (ltb (length P.top.holds) 16) bad_frame _ (doing _ q.0) in
      let k = ltb-true (length P.top.holds) 16 d.0 in
      let few : length P.below < 32 = N.on.few in
      (q.1, record { all-few = omega (arith, read-holds N.on, all-holds N); own-few = omega (arith, read-open N.on) })

  pub asks-release : op ≡ 18 → (0 < half_at l 6) × (half_at l 6 ≤ 512) × (0 < byte_at l (f + 2))
  unfolding act all_holds
  asks-release e = go P.top.holds refl (doing _ (is-release op a b P.instr P.decoded e))
    where
      go : (gs : List ℕ) → P.top.holds ≡ gs → Moved (letting gs (here P.shared P.top P.below)) → (0 < half_at l 6) × (half_at l 6 ≤ 512) × (0 < byte_at l (f + 2))
      go [] q m = not_stuck m
      go (g ∷ gs) q m =
          let few : length P.below < 32 = N.on.few in
          let r = read-holds N.on in
          let o = read-open N.on in
          let c : length P.top.holds ≡ suc (length gs) = ap length q in
          let s : length (all_holds (P.top ∷ P.below)) ≡ length P.top.holds + length (all_holds P.below) = length-append P.top.holds (all_holds P.below) in
          (omega arith, omega (arith, all-holds N, few-holds N), omega arith)

  field_room : (c x w : ℕ) (r : Option ℕ) (g : ℕ → Made → Stepped) → w ≡ value_word (ref c r) → ((p : ℕ) (q : Made) → get_elem? P.shared.records p ≡ some q → Moved (g p q) → x < 8)
      → Moved (on_made c r (here P.shared P.top P.below) g) → (w ≡ 0 → ⊥) → FieldRoom w x
  field_room c x w none g e k m z = absurd (z e)
  field_room c x w (some p) g e k m z =
      let q = given-there (get_elem? P.shared.records p) bad_record _ m in
      let d = demand-there (eqb q.0.class c) bad_record (g p q.0) q.2 in
      record { made = omega (arith, index_below P.shared.records p q.0 q.1, few-records N); field = k p q.0 q.1 d.1 }

  -- a field of the record that an operand with us below it refers to
  field-asked : (ws : List Value) (v : Value) (us : List Value) (j : ℕ) (g : ℕ → Made → Ty → Value → Stepped) → P.top.operands ≡ ws ++ (v ∷ us) → j ≡ length us → j < 32
      → Moved (on_field P.macro a b v (here P.shared P.top P.below) g) → (word_at l (f + (operand_words_at + 4 * j)) ≡ 0 → ⊥) → FieldRoom (word_at l (f + (operand_words_at + 4 * j))) b
  field-asked ws (int z) us j g e k h m = not_stuck m
  field-asked ws (log z) us j g e k h m = not_stuck m
  field-asked ws (bit z) us j g e k h m = not_stuck m
  field-asked ws (ref d r) us j g e k h m =
      let q = demand-there (eqb d a) bad_record _ m in
      let c : d ≡ a = eqb-true d a q.0 in
      let rd = read-operand N.on ws (ref d r) us j e k h in
      field_room a b (word_at l (f + (operand_words_at + 4 * j))) r _ rd.0 (λ p z ez mz.
      let t = given-there (field_ty P.macro a b) bad_type _ mz in
      let y = given-there (get_elem? z.fields b) bad_type _ t.2 in
      record-room N p b z y.0 ez y.1) q.1

  pub asks_get : op ≡ 13 → (0 < n) × ((word_at l (f + (operand_words_at + 4 * (n - 1))) ≡ 0 → ⊥) → FieldRoom (word_at l (f + (operand_words_at + 4 * (n - 1)))) b)
  unfolding act do_get_field
  asks_get e =
      let m = doing _ (is_get op a b P.instr P.decoded e) in
      let k = one _ m in
      let v = pop-there P.top.operands _ m in
      (k, field-asked [] v.0 v.1 (n - 1) _ v.2 (omega (arith, depth, ap length v.2)) (omega (arith, depth, few-operands N)) v.3)

  pub asks-put : op ≡ 14 → (2 ≤ n) × ((word_at l (f + (operand_words_at + 4 * (n - 2))) ≡ 0 → ⊥) → FieldRoom (word_at l (f + (operand_words_at + 4 * (n - 2)))) b)
  unfolding act do_put_field
  asks-put e =
      let m = doing _ (is-put op a b P.instr P.decoded e) in
      let k = two _ m in
      let w = pop-there P.top.operands _ m in
      let v = pop-there w.1 _ w.3 in
      let s : P.top.operands ≡ w.0 ∷ (v.0 ∷ v.1) = w.2 ∙ ap (λ (x : List Value). w.0 ∷ x) v.2 in
      (k, field-asked (w.0 ∷ []) v.0 v.1 (n - 2) _ s (omega (arith, depth, ap length s)) (omega (arith, depth, few-operands N)) v.3)

  -- ── a call, and a record made ──
  pub asks-call : op ≡ 10 → (b < bodies code) × (b < 256)
      × ((q : ℕ) → BodyAt code b q → (given-of code q ≤ n) × (byte_at l 2 < 32 → CallRoom code q l f n))
  unfolding act do_call
  asks-call e =
      let g = given-there (procedure_at P.macro b) no_step _ (doing _ (is_call op a b P.instr P.decoded e)) in
      let e1 = not_root P.macro b g.0 g.1 in
      let v = (viewed code P.macro P.reads).body b in
      let k = below-there b (bodies code) (body_on code (body_place code b)) g.0 (sym v ∙ e1) in
      let few = cells-at-most-32 P.macro N.passed b g.0 e1 in
      let enough = many-there g.0.parameters [] P.top.operands _ g.2 in
      (k.0, omega (arith, index_below P.macro.bodies b g.0 e1, N.passed.well-formed.few-bodies), λ q B. parts q B g.0 k.1 few enough)
    where
      parts : (q : ℕ) → BodyAt code b q → (d : Body) → d ≡ body_on code (body_place code b) → length d.cells ≤ 32 → d.parameters ≤ length P.top.operands
          → (given-of code q ≤ n) × (byte_at l 2 < 32 → CallRoom code q l f n)
      parts q B d ed few enough =
          let eq : d ≡ body_on code q = rw B.is ed in
          let ep : d.parameters ≡ given-of code q = ap (λ (x : Body). x.parameters) eq in
          let ec : length d.cells ≡ byte_at code (q + 6) = ap (λ (x : Body). length x.cells) eq ∙ span-length (λ k. ty_on (byte_at code (q + 7 + k))) (byte_at code (q + 6)) 0 in
          let r = room N in (
            omega (arith, depth),
            λ c. record {
              long = r.long;
              place = omega (arith, read_count N.on, N.on.place);
              count = c;
              depth = r.depth;
              inside = B.inside;
              arguments = omega (arith, depth);
              parameters = B.parameters;
              few = omega arith;
            },
          )

  pub asks-make : op ≡ 12 → (a < classes code) × (a < 16) × ((q : ℕ) → ClassAt code a q → MakeRoom code q n)
  unfolding act do_make
  asks-make e =
      let g = given-there (get_elem? P.macro.classes a) no_step _ (doing _ (is-make op a b P.instr P.decoded e)) in
      let v = (viewed code P.macro P.reads).class a in
      let k = below-there a (classes code) (class_on code (class_place code a)) g.0 (sym v ∙ g.1) in
      let r = each_at _ P.macro.classes a g.0 N.passed.well-formed.classes-read g.1 in
      let enough = many-there (length g.0) [] P.top.operands _ g.2 in
      (k.0, omega (arith, index_below P.macro.classes a g.0 g.1, N.passed.well-formed.few-classes), λ q C. parts q C g.0 k.1 r.some-field r.few-fields enough)
    where
      parts : (q : ℕ) → ClassAt code a q → (ts : List Ty) → ts ≡ class_on code (class_place code a) → 1 ≤ length ts → length ts ≤ 8 → length ts ≤ length P.top.operands → MakeRoom code q n
      parts q C ts et some-field few enough =
          let eq : ts ≡ class_on code q = rw C.is et in
          let ec : length ts ≡ byte_at code (q + 2) = ap length eq ∙ span-length (λ k. ty_on (byte_at code (q + 3 + k))) (byte_at code (q + 2)) 0 in
          record { inside = omega (arith, C.inside); arguments = omega (arith, depth); few = omega arith; room = omega (arith, (room N).depth) }

  -- ── a return ──
  pub asks-return : op ≡ 11 → ReturnRoom l f n
  unfolding act do_return
  asks-return e =
      let g = given-there (procedure_at P.macro P.top.body) no_step _ (doing _ (is-return op a b P.instr P.decoded e)) in
      let e1 = not_root P.macro P.top.body g.0 g.1 in
      let s = demand-there (sames (tys_of P.top.operands) g.0.results) bad_type _ g.2 in
      let h = demand-there (is_empty P.top.holds) group_held _ s.1 in
      let r = each_at _ P.macro.bodies P.top.body g.0 N.passed.well-formed.bodies-read e1 in
      let t : tys_of P.top.operands ≡ g.0.results = sames→≡ _ _ s.0 in
      let one_value : n ≤ 1 = omega (arith, depth, length_types P.top.operands, ap length t, r.one-result) in
      down P.below one_value h.1 N (around N).below-waits
    where
      down : (fs : List Activation) → n ≤ 1 → Moved (hand_down P.top.operands P.shared fs) → Now P.macro l f n i P.shared P.top fs
          → Waiting P.macro P.shared.records P.top.body fs → ReturnRoom l f n
      down [] o m M W = not_stuck m
      down (u ∷ us) o m M W =
          let few : suc (length us) < 32 = M.on.few in
          let pl : f ≡ frame_place (suc (length us)) = M.on.place in
          let under = below_top M.on (f - activation_length) (rw pl (omega arith)) in
          let k = goes-room [] (P.top.operands ++ u.operands) (here P.shared u us) m in
          record {
            long = on-long M.on;
            low = omega arith;
            high = omega arith;
            count = omega (arith, read_count M.on);
            one-result = o;
            below-depth = omega (arith, read-depth under, depth, length-append P.top.operands u.operands);
            below-address = omega (arith, read-address under, in_code P.macro M.passed u.body u.address W.0.stands.allowed.inside, M.passed.narrow.few-instructions);
          }
