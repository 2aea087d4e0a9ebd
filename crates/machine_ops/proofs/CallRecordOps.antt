-- Ops 10 to 14 on the plain machine.
use mathlib.Core.Path.{◌≡◌, refl, sym, ap, ◌∙◌, subst}
use mathlib.Core.Bool.{true}
use mathlib.Core.List.{List, [], ◌∷◌, ◌++◌, reverse}
use mathlib.Core.Option.{Option, none, some}
use Prim.Native.Nat.{ℕ, zero, suc, ◌+◌, ◌*◌, ◌-◌, ◌≤◌, ◌<◌}
use native.Mathlib.Omega.{arith}
use native.Mathlib.Numerals.{add-one}
use native.Mathlib.Nat.{add-zero, zero-add, add-suc, suc-add}
use lib.Dec.{eqb, leb}
use lib.ListN.{length, get_elem?, take, drop, length-append, length-reverse}
use borrow.Author.Tests.{lt-ltb, le-ltb, eqb-true}
use Rattle.bytecode.specs.Words.{value_word}
use Rattle.words.specs.Numbers.{byte_at, half_at, word_at}
use Rattle.values.specs.Types.{Ty, ty_byte, sames, all_fit, fits}
use Rattle.values.specs.Ends.{accepted, field_of_null, too_many_activations, too_many_records}
use Rattle.values.specs.Values.{Value, int, log, bit, ref, ty_of, tys_of, Cell}
use Rattle.bytecode.specs.Macro.{Body, Macro, read_macro}
use Rattle.bytecode.specs.Instructions.{body_at, procedure_at, field_ty}
use Rattle.bytecode.specs.Machine.{Activation, Made, Shared, Here, in_place, no_step, bad_type, bad_record, bad_frame, group_held, Stepped, at, condition, goes_on, demand}
use Rattle.bytecode.specs.Machine.{pop_many, assign_all, entering, hand_down, is_empty, do_call, do_return, with_records, recording, on_made, do_make, do_get_field, field_put}
use Rattle.bytecode.specs.Machine.{do_put_field}
use Rattle.bytecode.specs.Machine as machine
use Rattle.load_places.specs.Records.{classes, bodies, class_place, body_place}
use Rattle.load_check.specs.Views.{span, span-length, ty_on, class_on, body_on, types_on, below, viewed}
use Rattle.bytecode_safety.specs.Lists.{pops}
use Rattle.logic.specs.ListLaws.{index_below}
use Rattle.bytecode_layout.specs.Places.{frame_place}
use Rattle.bytecode_layout.specs.Steps.{activation}
use Rattle.bytecode_layout.specs.Records.{made}
use Rattle.machine_frames.specs.Bytes.{went_to, pushed, popped, operand_set, field_set, left, Left, record_made}
use Rattle.machine_frames.specs.On.{On, on-enter, on-leave, on-push, on-pop, on-operand, on-make, on-field, read_count, read-records, read-depth, read-address, read-operand, read-field}
use Rattle.machine_frames.specs.Trimmed.{left_is}
use Rattle.machine_ops.specs.declared.Out.{Out}
use Rattle.machine_ops.specs.declared.Out.TheVariants.{Goes}
use Rattle.machine_ops.specs.Acts.{here, Now, Told, Tells}
use Rattle.logic.specs.Tests.{never}
use Rattle.machine_ops.proofs.RunningFacts.{few-operands, demanded, supplied, goes-on}
use Rattle.machine_ops.specs.Moves.{dropped, filled, given, cells, CallRoom, Entered, entered_by, TellsOf, ReturnRoom, FieldRoom, MakeRoom}
use Rattle.machine_ops.proofs.MovedLists.{assign-length, below_top, above-it, on-drop, on-fill, on-fields, TypesAt, on-begin}
use Rattle.bytecode.specs.State.{records_at, record_length, cell_words_at, cell_types_at, field_words_at, field_types_at, activation_length, operand_types_at, operand_words_at}

-- ── what stands in the macro ──
types-from : (code : List ℕ) (q c : ℕ) → ((k : ℕ) → k < c → ty_byte (ty_on (byte_at code (q + k))) ≡ byte_at code (q + k)) → (d j : ℕ) → j + d ≤ c
    → TypesAt code q j (span (λ k. ty_on (byte_at code (q + k))) j d)
unfolding span
types-from code q c f zero j h = tt
types-from code q c f (suc d) j h = (sym (f j (omega arith)), rw (add-one j) (types-from code q c f d (suc j) (omega arith)))

drop-span : {A : Type 0} (f : ℕ → A) (p n j : ℕ) → p ≤ n → drop p (span f j n) ≡ span f (j + p) (n - p)
unfolding span
drop-span f zero n j h =
    let e : n - 0 ≡ n = omega arith in
    rw (add-zero j, e)
drop-span f (suc p) zero j h = absurd (omega arith)
drop-span f (suc p) (suc n) j h =
    let e : suc n - suc p ≡ n - p = omega arith in
    drop-span f p n (suc j) (omega arith) ∙ rw (suc-add j p, add-suc j p, e)

pub not_root : (m : Macro) (k : ℕ) (b : Body) → procedure_at m k ≡ some b → body_at m k ≡ some b
not_root m zero b e = let z : ◌≡◌ {A = ℕ} 0 1 = cc in absurd (omega arith)
not_root m (suc k) b e = e

body_is : (code : List ℕ) (m : Macro) → read_macro code ≡ accepted m → (k : ℕ) (b : Body) → k < bodies code → procedure_at m k ≡ some b → b ≡ body_on code (body_place code k)
body_is code m r k b h e =
    let v : body_at m k ≡ below k (bodies code) (body_on code (body_place code k)) = (viewed code m r).body k in
    let w : body_at m k ≡ some (body_on code (body_place code k)) = v ∙ rw (lt-ltb k (bodies code) h) in
    let x = not_root m k b e in
    cc

-- ── a call ──
module _ (code : List ℕ) (q : ℕ) {l : List ℕ} {f n i : ℕ} (k0 : ℕ) (eq : q ≡ body_place code k0) (known : k0 < bodies code) where
  call_by : (k : List ℕ) (r : Out) → given code q ≤ n
      → ((m : Macro) → read_macro code ≡ accepted m → (rs : Shared) (t : Activation) (fs : List Activation) → Now m l f n i rs t fs
      → (xs us : List Value) → t.operands ≡ xs ++ us → length xs ≡ given code q
      → Told (entering k0 (body_on code q) (reverse xs) us (here rs t fs)) k r)
      → TellsOf code (λ m h. do_call m k0 h) l f n i k r
  unfolding do_call
  call_by k r enough G m rd rs t fs N = supplied (procedure_at m k0) no_step _ (λ b e.
      let eb : b ≡ body_on code q = body_is code m rd k0 b known e ∙ rw eq in
      rw eb (go (pops (given code q) [] t.operands checked (omega (arith, N.depth)))))
    where
      checked : List Value → List Value → Stepped
      checked vs us =
          demand (all_fit (tys_of vs) (take (given code q) (body_on code q).cells)) bad_type
          (demand (leb (length (body_on code q).cells) 32) bad_frame (entering k0 (body_on code q) vs us (here rs t fs)))

      go : (xs : List Value) × (us : List Value) × (pop_many (given code q) [] t.operands checked ≡ checked (reverse xs) us) × (t.operands ≡ xs ++ us) × (length xs ≡ given code q)
          → Told (pop_many (given code q) [] t.operands checked) k r
      go x = rw x.2
          (demanded (all_fit (tys_of (reverse x.0)) (take (given code q) (body_on code q).cells)) bad_type
          (demand (leb (length (body_on code q).cells) 32) bad_frame (entering k0 (body_on code q) (reverse x.0) x.1 (here rs t fs)))
          (λ a. demanded (leb (length (body_on code q).cells) 32) bad_frame (entering k0 (body_on code q) (reverse x.0) x.1 (here rs t fs)) (λ b. G m rd rs t fs N x.0 x.1 x.3 x.4)))

  pub call_enters : (k : List ℕ) → CallRoom code q l f n → Entered code q l f n k0 k → TellsOf code (λ m h. do_call m k0 h) l f n i k Goes
  call_enters k R E = call_by k Goes R.arguments (λ m rd rs t fs N xs us e x.
      let p = given code q in
      let c = cells code q in
      let co : byte_at l 2 ≡ length (t ∷ fs) = read_count N.on in
      let ln : length t.operands ≡ length xs + length us = ap length e ∙ length-append xs us in
      let few : length t.operands ≤ 32 = few-operands N in
      let p1 = on-enter N.on k0 (half_at code (q + 2)) (byte_at l 2) co R.count in
      let p2 = on-fill k0 (half_at code (q + 2)) us f (f + activation_length) (n - p) N.on.place (omega (arith, N.depth)) few xs [] _ e p1 in
      let p3 = subst (λ (vs : List Value). On (filled (entered_by code q l f k0) f (n - p) (f + activation_length + cell_words_at) (f + activation_length + cell_types_at) (length xs)) f rs
      (activation k0 (half_at code (q + 2)) (assign_all (reverse xs)) [] [] ∷ []) (activation t.body t.address t.cells vs t.holds) fs)
      e (below_top p2 f N.on.place) in
      let p4 = on-drop us xs _ f n p3 (omega (arith, N.depth, length-append xs us)) R.depth in
      let p5 = above-it p4 p1.few (f + activation_length) p1.place in
      let ts = drop p (types_on code (q + 7) c) in
      let et : ts ≡ span (λ k. ty_on (byte_at code (q + 7 + k))) p (c - p) = drop-span (λ k. ty_on (byte_at code (q + 7 + k))) p c 0 R.parameters ∙ rw (zero-add p) in
      let el : length ts ≡ c - p = ap length et ∙ span-length (λ k. ty_on (byte_at code (q + 7 + k))) (c - p) p in
      let ty0 = (viewed code m rd).cell-types k0 known in
      let ty1 : (k : ℕ) → k < c → ty_byte (ty_on (byte_at code (q + 7 + k))) ≡ byte_at code (q + 7 + k) = rw (← eq) at ty0 in
      let ty : TypesAt code (q + 7) p ts = rw et (types-from code (q + 7) c ty1 (c - p) p (omega (arith, R.parameters))) in
      let lx : length (reverse xs) ≡ p = length-reverse xs ∙ x in
      let la : p ≡ length (assign_all (reverse xs)) = sym (assign-length (reverse xs) ∙ lx) in
      let p6 = on-begin code (q + 7) (f + activation_length) ts (assign_all (reverse xs)) p _ ty la (omega (arith, R.few, R.parameters)) p5 in
      let b6 = p6.bytes in
      let open-room : suc (length fs) < 32 = p1.few in
      rw (lt-ltb (suc (length fs)) 32 open-room, lx) (record { are = (E ∙ (rw (x, el) at b6), refl) }))

  pub call-full : (k : List ℕ) (r : Out) → given code q ≤ n → 32 ≤ byte_at l 2 → Tells (λ m h. condition too_many_activations h) l f n i k r → TellsOf code (λ m h. do_call m k0 h) l f n i k r
  call-full k r enough full C = call_by k r enough (λ m rd rs t fs N xs us e x.
      let co : byte_at l 2 ≡ suc (length fs) = read_count N.on in
      rw (le-ltb (suc (length fs)) 32 (omega arith)) (C m rs t fs N))

-- ── a return ──
-- the activation below, with the top, of which l' has no operand, dropped, and its numbers
record Down (l l' : List ℕ) (f c a : ℕ) (rs : Shared) (u : Activation) (fs : List Activation) : Type 0 where
  on : On (left l' f c) (f - activation_length) rs [] u fs
  depth : byte_at l (f - activation_length + 1) ≡ length u.operands
  address : a ≡ u.address

module _ {l : List ℕ} {f n i : ℕ} where
  return-by : (k : List ℕ) (r : Out)
      → ((m : Macro) (rs : Shared) (b a : ℕ) (cs : List Cell) (vs : List Value) (u : Activation) (fs : List Activation)
      → Now m l f n i rs (activation b a cs vs []) (u ∷ fs) → Told (goes_on [] (vs ++ u.operands) (here rs u fs)) k r)
      → Tells (λ m h. do_return m h) l f n i k r
  unfolding do_return
  return-by k r G m rs t fs N = supplied (procedure_at m t.body) no_step _ (λ b e. demanded (sames (tys_of t.operands) b.results) bad_type _ (λ s. demanded (is_empty t.holds) group_held _ (λ h.
      go t.holds fs h N)))
    where
      go : (gs : List ℕ) (fs : List Activation) → is_empty gs ≡ true → Now m l f n i rs (activation t.body t.address t.cells t.operands gs) fs → Told (hand_down t.operands rs fs) k r
      go gs [] h N = record { are = tt }
      go [] (u ∷ fs) h N = G m rs t.body t.address t.cells t.operands u fs N
      go (g ∷ gs) (u ∷ fs) h N = never h

  module _ (c a : ℕ) (R : ReturnRoom l f n) (ec : c ≡ byte_at l 2 - 1) (ea : a ≡ half_at l (f - activation_length + 4)) where
    down : {m : Macro} {rs : Shared} {b j : ℕ} {cs : List Cell} {vs : List Value} {u : Activation} {fs : List Activation} {l' : List ℕ} → Now m l f n i rs (activation b j cs vs []) (u ∷ fs)
        → On l' f rs [] (activation b j cs [] []) (u ∷ fs) → Down l l' f c a rs u fs
    down {fs = fs} N q =
        let co : byte_at l 2 ≡ suc (suc (length fs)) = read_count N.on in
        let pl : f ≡ frame_place (suc (length fs)) = N.on.place in
        let under = below_top N.on (f - activation_length) (rw pl (omega arith)) in
        record { on = on-leave q refl c (omega arith); depth = read-depth under; address = ea ∙ read-address under }

    pub return-none : (k1 k2 : List ℕ) → n ≡ 0 → Left l f c k1 → k2 ≡ went_to k1 (f - activation_length) (a + 1) → Tells (λ m h. do_return m h) l f n i k2 Goes
    return-none k1 k2 z e1 e2 = return-by k2 Goes (λ m rs b j cs vs u fs N. go rs b j cs vs u fs N)
      where
        go : {m : Macro} (rs : Shared) (b j : ℕ) (cs : List Cell) (vs : List Value) (u : Activation) (fs : List Activation)
            → Now m l f n i rs (activation b j cs vs []) (u ∷ fs) → Told (goes_on [] (vs ++ u.operands) (here rs u fs)) k2 Goes
        go rs b j cs [] u fs N =
            let d = down N N.on in
            goes-on u [] Goes d.on k2 (a + 1) (e2 ∙ rw (left_is N.on c k1 e1)) (omega (arith, d.address)) refl
        go rs b j cs (v ∷ vs) u fs N = absurd (omega (arith, N.depth))

    pub return-one : (w y : ℕ) (k0 k1 k2 k3 : List ℕ) → n ≡ 1 → w ≡ word_at l (f + (operand_words_at + 4 * 0)) → y ≡ byte_at l (f + (operand_types_at + 0))
        → k0 ≡ popped l f 0 → Left k0 f c k1 → k2 ≡ pushed k1 (f - activation_length) (byte_at l (f - activation_length + 1)) w y
        → k3 ≡ went_to k2 (f - activation_length) (a + 1) → Tells (λ m h. do_return m h) l f n i k3 Goes
    return-one w y k0 k1 k2 k3 z ew ey e0 e1 e2 e3 = return-by k3 Goes (λ m rs b j cs vs u fs N. go rs b j cs vs u fs N)
      where
        go : {m : Macro} (rs : Shared) (b j : ℕ) (cs : List Cell) (vs : List Value) (u : Activation) (fs : List Activation)
            → Now m l f n i rs (activation b j cs vs []) (u ∷ fs) → Told (goes_on [] (vs ++ u.operands) (here rs u fs)) k3 Goes
        go rs b j cs [] u fs N = absurd (omega (arith, N.depth))
        go rs b j cs (v ∷ []) u fs N =
            let q : On k0 f rs [] (activation b j cs [] []) (u ∷ fs) = rw e0 (on-pop v N.on 0 refl (omega arith)) in
            let d = down N q in
            let rd = read-operand N.on [] v [] 0 refl refl (omega arith) in
            let p = on-push v w y (ew ∙ rd.0) (ey ∙ rd.1) d.on (byte_at l (f - activation_length + 1)) d.depth (omega (arith, R.below-depth)) in
            goes-on u [] Goes p k3 (a + 1) (e3 ∙ rw (e2, left_is q c k1 e1)) (omega (arith, d.address)) refl
        go rs b j cs (v ∷ (x ∷ vs)) u fs N = absurd (omega (arith, N.depth))

-- ── a record made ──
module _ (code : List ℕ) (q : ℕ) {l : List ℕ} {f n i : ℕ} (c : ℕ) (eq : q ≡ class_place code c) (known : c < classes code) where
  make-by : (k : List ℕ) (r : Out) → byte_at code (q + 2) ≤ n
      → ((m : Macro) (rs : Shared) (t : Activation) (fs : List Activation) → Now m l f n i rs t fs → (xs us : List Value) → t.operands ≡ xs ++ us → length xs ≡ byte_at code (q + 2)
      → Told (recording c (reverse xs) us (here rs t fs)) k r)
      → TellsOf code (λ m h. do_make m c h) l f n i k r
  unfolding do_make
  make-by k r enough G m rd rs t fs N = supplied (get_elem? m.classes c) no_step _ (λ ts e.
      let v : get_elem? m.classes c ≡ below c (classes code) (class_on code (class_place code c)) = (viewed code m rd).class c in
      let w : get_elem? m.classes c ≡ some (class_on code (class_place code c)) = v ∙ rw (lt-ltb c (classes code) known) in
      let et : ts ≡ class_on code q = rw eq (same w e) in
      let n : length ts ≡ byte_at code (q + 2) = ap length et ∙ span-length (λ k. ty_on (byte_at code (q + 3 + k))) (byte_at code (q + 2)) 0 in
      rw n (go ts (pops (byte_at code (q + 2)) [] t.operands (checked ts) (omega (arith, N.depth)))))
    where
      same : {A : Type 0} {o : Option A} {x y : A} → o ≡ some x → o ≡ some y → y ≡ x
      same a b = cc

      checked : List Ty → List Value → List Value → Stepped
      checked ts vs us = demand (all_fit (tys_of vs) ts) bad_type (recording c vs us (here rs t fs))

      go : (ts : List Ty) → (xs : List Value) × (us : List Value) × (pop_many (byte_at code (q + 2)) [] t.operands (checked ts)
          ≡ checked ts (reverse xs) us) × (t.operands ≡ xs ++ us) × (length xs ≡ byte_at code (q + 2))
          → Told (pop_many (byte_at code (q + 2)) [] t.operands (checked ts)) k r
      go ts x = rw x.2 (demanded (all_fit (tys_of (reverse x.0)) ts) bad_type (recording c (reverse x.0) x.1 (here rs t fs)) (λ a. G m rs t fs N x.0 x.1 x.3 x.4))

  pub make-full : (k : List ℕ) (r : Out) → byte_at code (q + 2) ≤ n → 256 ≤ half_at l 4 → Tells (λ m h. condition too_many_records h) l f n i k r → TellsOf code (λ m h. do_make m c h) l f n i k r
  make-full k r enough full C = make-by k r enough (λ m rs t fs N xs us e x.
      let co : half_at l 4 ≡ length rs.records = read-records N.on in
      rw (le-ltb (length rs.records) 256 (omega arith)) (C m rs t fs N))

  pub make-tells : (r z : ℕ) (k1 k2 k3 k4 k5 : List ℕ) → MakeRoom code q n → n ≤ 32 → r ≡ half_at l 4 → r < 256 → z ≡ byte_at code (q + 2)
      → k1 ≡ record_made l r c → k2 ≡ filled k1 f (n - z) (records_at + record_length * r + field_words_at) (records_at + record_length * r + field_types_at) z → k3 ≡ dropped k2 f n z
      → k4 ≡ pushed k3 f (n - z) (r + 1) (16 + c) → k5 ≡ went_to k4 f (i + 1) → TellsOf code (λ m h. do_make m c h) l f n i k5 Goes
  make-tells r z k1 k2 k3 k4 k5 R many er small ez e1 e2 e3 e4 e5 = make-by k5 Goes R.arguments (λ m rs t fs N xs us e x.
      let co : r ≡ length rs.records = er ∙ read-records N.on in
      let room : length rs.records < 256 = omega arith in
      let lz : length xs ≡ z = x ∙ sym ez in
      let ln : length t.operands ≡ length xs + length us = ap length e ∙ length-append xs us in
      let few : length t.operands ≤ 32 = few-operands N in
      let p1 = on-make N.on c r co small in
      let p2 = on-fields rs.records c us f (n - z) room (omega (arith, N.depth)) few xs [] _ e (omega (arith, R.few)) p1 in
      let p3 = subst (λ (vs : List Value). On (filled (record_made l r c) f (n - z) (records_at + record_length * length rs.records + field_words_at)
      (records_at + record_length * length rs.records + field_types_at) (length xs)) f
      (record { records = rs.records ++ (made c (reverse xs) ∷ []) }) [] (activation t.body t.address t.cells vs t.holds) fs) e p2 in
      let p4 = on-drop us xs _ f n p3 (omega (arith, N.depth, length-append xs us)) many in
      let p5 = on-push (ref c (some (length rs.records))) (r + 1) (16 + c) (rw co (add-one (length rs.records))) refl p4 (n - z) (omega (arith, N.depth)) (omega (arith, R.room)) in
      rw (lt-ltb (length rs.records) 256 room) (goes-on t [] Goes p5 k5 (i + 1) (e5 ∙ rw (e4, e3, e2, e1, ← lz, ← co)) (omega (arith, N.address)) refl))

-- ── fields ──
-- the field of a record taken, and put
abbrev getting : ℕ → ℕ → Macro → List Value → Here → ℕ → Made → Stepped
getting c x m vs h n q = machine.given (field_ty m c x) bad_type (λ t. machine.given (get_elem? q.fields x) bad_type (λ u. in_place u t (goes_on [] (u ∷ vs) h)))

abbrev putting : ℕ → ℕ → Macro → Value → List Value → Here → ℕ → Made → Stepped
putting c x m v vs h n q = machine.given (field_ty m c x) bad_type (λ t. machine.given (get_elem? q.fields x) bad_type (λ u.
    in_place v t (goes_on [] vs (with_records (field_put n x v q h.shared.records) h))))

module _ {l : List ℕ} {f n i : ℕ} (c x : ℕ) where
  -- of a reference d, r on top of vs
  module _ (some-operand : 0 < n) (many : n ≤ 32) (w : ℕ) (ew : w ≡ word_at l (f + (operand_words_at + 4 * (n - 1)))) where
    get_by : (k : List ℕ) (o : Out)
        → ((m : Macro) (rs : Shared) (b a : ℕ) (cs : List Cell) (r : Option ℕ) (vs : List Value) (gs : List ℕ) (fs : List Activation)
        → Now m l f n i rs (activation b a cs (ref c r ∷ vs) gs) fs → w ≡ value_word (ref c r)
        → Told (on_made c r (here rs (activation b a cs (ref c r ∷ vs) gs) fs) (getting c x m vs (here rs (activation b a cs (ref c r ∷ vs) gs) fs))) k o)
        → Tells (λ m h. do_get_field m c x h) l f n i k o
    unfolding do_get_field
    get_by k o G m rs t fs N = go t.body t.address t.cells t.operands t.holds N
      where
        go : (b a : ℕ) (cs : List Cell) (vs : List Value) (gs : List ℕ) → Now m l f n i rs (activation b a cs vs gs) fs → Told (do_get_field m c x (here rs (activation b a cs vs gs) fs)) k o
        go b a cs [] gs N = record { are = tt }
        go b a cs (int z ∷ vs) gs N = record { are = tt }
        go b a cs (log z ∷ vs) gs N = record { are = tt }
        go b a cs (bit z ∷ vs) gs N = record { are = tt }
        go b a cs (ref d r ∷ vs) gs N = demanded (eqb d c) bad_record _ (λ h.
            let e : d ≡ c = eqb-true d c h in
            let N' : Now m l f n i rs (activation b a cs (ref c r ∷ vs) gs) fs = rw e at N in
            rw e (G m rs b a cs r vs gs fs N' (ew ∙ (read-operand N.on [] (ref d r) vs (n - 1) refl (omega (arith, N.depth)) (omega arith)).0)))

    pub get-null : (k : List ℕ) (o : Out) → w ≡ 0 → Tells (λ m h. condition field_of_null h) l f n i k o → Tells (λ m h. do_get_field m c x h) l f n i k o
    get-null k o z C = get_by k o (λ m rs b a cs r vs gs fs N e. go m rs b a cs r vs gs fs N e)
      where
        go : (m : Macro) (rs : Shared) (b a : ℕ) (cs : List Cell) (r : Option ℕ) (vs : List Value) (gs : List ℕ) (fs : List Activation)
            → Now m l f n i rs (activation b a cs (ref c r ∷ vs) gs) fs → w ≡ value_word (ref c r)
            → Told (on_made c r (here rs (activation b a cs (ref c r ∷ vs) gs) fs) (getting c x m vs (here rs (activation b a cs (ref c r ∷ vs) gs) fs))) k o
        go m rs b a cs none vs gs fs N e = C m rs _ fs N
        go m rs b a cs (some p) vs gs fs N e = absurd (omega arith)

    pub get_tells : (u y : ℕ) (k1 k2 : List ℕ) → (w ≡ 0 → ⊥) → FieldRoom w x
        → u ≡ word_at l (records_at + record_length * (w - 1) + (field_words_at + 4 * x)) → y ≡ byte_at l (records_at + record_length * (w - 1) + (field_types_at + x))
        → k1 ≡ operand_set l f (n - 1) u y → k2 ≡ went_to k1 f (i + 1) → Tells (λ m h. do_get_field m c x h) l f n i k2 Goes
    get_tells u y k1 k2 nz R eu ey e1 e2 = get_by k2 Goes (λ m rs b a cs r vs gs fs N e. go m rs b a cs r vs gs fs N e)
      where
        go : (m : Macro) (rs : Shared) (b a : ℕ) (cs : List Cell) (r : Option ℕ) (vs : List Value) (gs : List ℕ) (fs : List Activation)
            → Now m l f n i rs (activation b a cs (ref c r ∷ vs) gs) fs → w ≡ value_word (ref c r)
            → Told (on_made c r (here rs (activation b a cs (ref c r ∷ vs) gs) fs) (getting c x m vs (here rs (activation b a cs (ref c r ∷ vs) gs) fs))) k2 Goes
        go m rs b a cs none vs gs fs N e = absurd (nz e)
        go m rs b a cs (some p) vs gs fs N e =
            supplied (get_elem? rs.records p) bad_record _ (λ q eq. demanded (eqb q.class c) bad_record _
            (λ h. supplied (field_ty m c x) bad_type _ (λ t et. supplied (get_elem? q.fields x) bad_type _ (λ v ev. demanded (fits (ty_of v) t) bad_type _ (λ g.
            let s : w - 1 ≡ p = omega arith in
            let rd = read-field N.on p x q v eq ev (omega (arith, R.made)) R.field in
            let p1 = on-operand v u y (eu ∙ rw s rd.0) (ey ∙ rw s rd.1) [] (ref c (some p)) vs N.on (n - 1) (omega (arith, N.depth)) (omega arith) in
            goes-on (activation b a cs (ref c (some p) ∷ vs) gs) [] Goes p1 k2 (i + 1) (e2 ∙ rw e1) (omega (arith, N.address)) refl)))))

  module _ (two_operands : 2 ≤ n) (many : n ≤ 32) (w : ℕ) (ew : w ≡ word_at l (f + (operand_words_at + 4 * (n - 2)))) where
    put-by : (k : List ℕ) (o : Out)
        → ((m : Macro) (rs : Shared) (b a : ℕ) (cs : List Cell) (v : Value) (r : Option ℕ) (vs : List Value) (gs : List ℕ) (fs : List Activation)
        → Now m l f n i rs (activation b a cs (v ∷ (ref c r ∷ vs)) gs) fs → w ≡ value_word (ref c r)
        → Told (on_made c r (here rs (activation b a cs (v ∷ (ref c r ∷ vs)) gs) fs) (putting c x m v vs (here rs (activation b a cs (v ∷ (ref c r ∷ vs)) gs) fs))) k o)
        → Tells (λ m h. do_put_field m c x h) l f n i k o
    unfolding do_put_field
    put-by k o G m rs t fs N = go t.body t.address t.cells t.operands t.holds N
      where
        go : (b a : ℕ) (cs : List Cell) (vs : List Value) (gs : List ℕ) → Now m l f n i rs (activation b a cs vs gs) fs → Told (do_put_field m c x (here rs (activation b a cs vs gs) fs)) k o
        go b a cs [] gs N = record { are = tt }
        go b a cs (v ∷ []) gs N = record { are = tt }
        go b a cs (v ∷ (int z ∷ vs)) gs N = record { are = tt }
        go b a cs (v ∷ (log z ∷ vs)) gs N = record { are = tt }
        go b a cs (v ∷ (bit z ∷ vs)) gs N = record { are = tt }
        go b a cs (v ∷ (ref d r ∷ vs)) gs N = demanded (eqb d c) bad_record _ (λ h.
            let e : d ≡ c = eqb-true d c h in
            let N' : Now m l f n i rs (activation b a cs (v ∷ (ref c r ∷ vs)) gs) fs = rw e at N in
            rw e (G m rs b a cs v r vs gs fs N' (ew ∙ (read-operand N.on (v ∷ []) (ref d r) vs (n - 2) refl (omega (arith, N.depth)) (omega arith)).0)))

    pub put-null : (k : List ℕ) (o : Out) → w ≡ 0 → Tells (λ m h. condition field_of_null h) l f n i k o → Tells (λ m h. do_put_field m c x h) l f n i k o
    put-null k o z C = put-by k o (λ m rs b a cs v r vs gs fs N e. go m rs b a cs v r vs gs fs N e)
      where
        go : (m : Macro) (rs : Shared) (b a : ℕ) (cs : List Cell) (v : Value) (r : Option ℕ) (vs : List Value) (gs : List ℕ) (fs : List Activation)
            → Now m l f n i rs (activation b a cs (v ∷ (ref c r ∷ vs)) gs) fs → w ≡ value_word (ref c r)
            → Told (on_made c r (here rs (activation b a cs (v ∷ (ref c r ∷ vs)) gs) fs) (putting c x m v vs (here rs (activation b a cs (v ∷ (ref c r ∷ vs)) gs) fs))) k o
        go m rs b a cs v none vs gs fs N e = C m rs _ fs N
        go m rs b a cs v (some p) vs gs fs N e = absurd (omega arith)

    pub put-tells : (u y : ℕ) (k1 k2 k3 k4 : List ℕ) → (w ≡ 0 → ⊥) → FieldRoom w x → u ≡ word_at l (f + (operand_words_at + 4 * (n - 1))) → y ≡ byte_at l (f + (operand_types_at + (n - 1)))
        → k1 ≡ field_set l (w - 1) x u y → k2 ≡ popped k1 f (n - 1) → k3 ≡ popped k2 f (n - 2) → k4 ≡ went_to k3 f (i + 1) → Tells (λ m h. do_put_field m c x h) l f n i k4 Goes
    put-tells u y k1 k2 k3 k4 nz R eu ey e1 e2 e3 e4 = put-by k4 Goes (λ m rs b a cs v r vs gs fs N e. go m rs b a cs v r vs gs fs N e)
      where
        go : (m : Macro) (rs : Shared) (b a : ℕ) (cs : List Cell) (v : Value) (r : Option ℕ) (vs : List Value) (gs : List ℕ) (fs : List Activation)
            → Now m l f n i rs (activation b a cs (v ∷ (ref c r ∷ vs)) gs) fs → w ≡ value_word (ref c r)
            → Told (on_made c r (here rs (activation b a cs (v ∷ (ref c r ∷ vs)) gs) fs) (putting c x m v vs (here rs (activation b a cs (v ∷ (ref c r ∷ vs)) gs) fs))) k4 Goes
        go m rs b a cs v none vs gs fs N e = absurd (nz e)
        go m rs b a cs v (some p) vs gs fs N e =
            supplied (get_elem? rs.records p) bad_record _ (λ q eq. demanded (eqb q.class c) bad_record _
            (λ h. supplied (field_ty m c x) bad_type _ (λ t et. supplied (get_elem? q.fields x) bad_type _ (λ z ez. demanded (fits (ty_of v) t) bad_type _ (λ g.
            let s : w - 1 ≡ p = omega arith in
            let rd = read-operand N.on [] v (ref c (some p) ∷ vs) (n - 1) refl (omega (arith, N.depth)) (omega arith) in
            let p1 = on-field N.on v u y (eu ∙ rd.0) (ey ∙ rd.1) p x q eq (omega (arith, R.made)) (index_below q.fields x z ez) R.field in
            let p2 = on-pop v p1 (n - 1) (omega (arith, N.depth)) (omega arith) in
            let p3 = on-pop (ref c (some p)) p2 (n - 2) (omega (arith, N.depth)) (omega arith) in
            goes-on (activation b a cs (v ∷ (ref c (some p) ∷ vs)) gs) [] Goes p3 k4 (i + 1) (e4 ∙ rw (e3, e2, e1, s)) (omega (arith, N.address)) refl)))))
