-- Ops 1 to 7 on the plain machine, from what the calls of each op's function ensure.
use mathlib.Core.Path.{◌≡◌, refl, ap, ◌∙◌}
use mathlib.Core.List.{List, [], ◌∷◌}
use mathlib.Core.Logic.{◌⊎◌, inl, inr}
use mathlib.Core.Option.{Option, none, some}
use Prim.Native.Nat.{ℕ, ◌+◌, ◌*◌, ◌-◌, ◌≤◌, ◌<◌}
use native.Mathlib.Omega.{arith}
use lib.ListN.{length, get_elem?}
use lib.ListN.{set as replace}
use borrow.Author.Tests.{ne_eqb}
use Rattle.bytecode.specs.Words.{value_word}
use Rattle.logic.specs.Options.{keep}
use Rattle.words.specs.Numbers.{byte_at, word_at}
use Rattle.values.specs.Types.{Ty, fits}
use Rattle.values.specs.Operators.{Unary, Operator, unary, unary_of, binary_of}
use Rattle.values.specs.Arithmetic.{Outcome, gives, ends, mistyped}
use Rattle.values.specs.Values.{Value, ty_of, Cell, assigned, apply1}
use Rattle.bytecode.specs.Macro.{Macro}
use Rattle.bytecode.specs.Instructions.{Owner, own, root, owner_of, operator_of, or_binary, cell_ty}
use Rattle.bytecode.specs.Machine.{Activation, Shared, bad_frame, bad_type, condition, goes_on, settled, on_cell, push_cell, root_of, do_load, do_store, do_operate}
use Rattle.bytecode.specs.Sound.{sound_value}
use Rattle.bytecode.specs.State.{type_byte, word_of_cell, byte_of_cell, operand_types_at, operand_words_at}
use Rattle.bytecode_safety.specs.Lists.{all_first}
use Rattle.logic.specs.ListLaws.{index_below}
use Rattle.bytecode_layout.specs.Steps.{activation}
use Rattle.machine_frames.specs.Bytes.{went_to, pushed, popped, operand_set, cell_set, conditioned}
use Rattle.machine_frames.specs.On.{on-push, on-pop, on-operand, on-cell, on-root, on-condition, read-operand, read-cell, read-root}
use Rattle.std.specs.Prelude.{Ok, Err}
use Rattle.values.specs.Answers.{number_of}
use Rattle.values.specs.declared.conditions.Condition.{Condition}
use Rattle.machine_ops.specs.declared.operators.Typed.{Typed}
use Rattle.machine_ops.specs.Works.{Worked, typed, Says, Works1}
use Rattle.machine_ops.specs.declared.Out.{Out}
use Rattle.machine_ops.specs.declared.Out.TheVariants.{Goes}
use Rattle.machine_ops.specs.Acts.{here, Now, Told, Tells, Pushes}
use Rattle.machine_ops.proofs.RunningFacts.{stands, few-records, value-back, word-valid, demanded, supplied, goes-on, owner-is}

pub condition-tells : {l : List ℕ} {f n i : ℕ} (c : ℕ) (k : List ℕ) → k ≡ conditioned l c → Tells (λ m h. condition c h) l f n i k Goes
unfolding condition
condition-tells c k e m rs t fs N = record { are = (e ∙ on-condition N.on (few-records N) c, refl) }

-- what an outcome that was worked out tells
module _ (m : Macro) (rs : Shared) (t : Activation) (fs : List Activation) (r : Worked) (k : List ℕ) (o : Out) where
  by-outcome : (x : Outcome Value) (vs : List Value) → Says x r
      → ((v : Value) → r ≡ Ok (typed (value_word v) (type_byte v)) → Told (goes_on [] (v ∷ vs) (here rs t fs)) k o)
      → ((d : Condition) → r ≡ Err d → Told (condition (number_of d) (here rs t fs)) k o) → Told (settled x vs (here rs t fs)) k o
  by-outcome (gives v) vs s g e = g v s
  by-outcome (ends c) vs s g e = rw s.number (e s.condition s.is)
  by-outcome mistyped vs s g e = record { are = tt }

module _ {l : List ℕ} {f n i : ℕ} where
  pub push-tells : (w y : ℕ) (k j : List ℕ) → n < 32 → k ≡ pushed l f n w y → j ≡ went_to k f (i + 1) → Pushes w y l f n i j Goes
  push-tells w y k j h ek ej v ew ey m rs t fs N =
      let p = on-push v w y ew ey N.on n N.depth h in
      goes-on t [] Goes p j (i + 1) (ej ∙ rw ek) (omega (arith, N.address)) refl

  -- ── cells ──
  module _ (a b g w y : ℕ) (few : b < 32) (top : a ≡ 0 → g ≡ f) (low : a ≡ 1 → g ≡ 32) where
    pub load-tells : (k : List ℕ) (r : Out) → w ≡ word_at l (g + (8 + 4 * b)) → y ≡ byte_at l (g + (264 + b)) → Pushes w y l f n i k r
        → (o : Owner) → owner_of a ≡ some o → Tells (λ m h. do_load m o b h) l f n i k r
    unfolding do_load
    load-tells k r ew ey P o eo m rs t fs N = go o (owner-is a o eo)
      where
        cell : (u : Ty) (c : Cell) → w ≡ word_of_cell c → y ≡ byte_of_cell c → Told (push_cell u c (here rs t fs)) k r
        cell u (assigned v) p q = demanded (fits (ty_of v) u) bad_type _ (λ h. P v p q m rs t fs N)

        go : (o : Owner) → ((a ≡ 0) × (o ≡ own)) ⊎ ((a ≡ 1) × (o ≡ root)) → Told (on_cell m o b (here rs t fs) (λ u c. push_cell u c (here rs t fs))) k r
        go own (inl q) = supplied (cell_ty m t.body own b) bad_frame _ (λ u eu. supplied (get_elem? t.cells b) bad_frame _ (λ c e.
            let rd = read-cell N.on b c e few in
            cell u c (ew ∙ rw (top q.0) rd.0) (ey ∙ rw (top q.0) rd.1)))
        go own (inr q) = let z : ◌≡◌ {A = ℕ} 0 1 = cc in absurd (omega arith)
        go root (inl q) = let z : ◌≡◌ {A = ℕ} 0 1 = cc in absurd (omega arith)
        go root (inr q) = supplied (cell_ty m t.body root b) bad_frame _ (λ u eu. supplied (get_elem? (root_of t fs).cells b) bad_frame _ (λ c e.
            let rd = read-root N.on b c e few in
            cell u c (ew ∙ rw (low q.0) rd.0) (ey ∙ rw (low q.0) rd.1)))

    pub store-tells : (k1 k2 k3 : List ℕ) → 0 < n → n ≤ 32 → w ≡ word_at l (f + (operand_words_at + 4 * (n - 1))) → y ≡ byte_at l (f + (operand_types_at + (n - 1)))
        → k1 ≡ cell_set l g b w y → k2 ≡ popped k1 f (n - 1) → k3 ≡ went_to k2 f (i + 1)
        → (o : Owner) → owner_of a ≡ some o → Tells (λ m h. do_store m o b h) l f n i k3 Goes
    unfolding do_store root_of
    store-tells k1 k2 k3 some-operand many ew ey e1 e2 e3 o eo m rs t fs N = go t.body t.address t.cells t.operands t.holds fs o (owner-is a o eo) N
      where
        go : (c0 a0 : ℕ) (cs : List Cell) (vs : List Value) (gs : List ℕ) (fs : List Activation) (o : Owner) → ((a ≡ 0) × (o ≡ own)) ⊎ ((a ≡ 1) × (o ≡ root))
            → Now m l f n i rs (activation c0 a0 cs vs gs) fs → Told (do_store m o b (here rs (activation c0 a0 cs vs gs) fs)) k3 Goes
        go c0 a0 cs [] gs fs o q N = record { are = tt }
        go c0 a0 cs (v ∷ vs) gs fs own (inr q) N = let z : ◌≡◌ {A = ℕ} 0 1 = cc in absurd (omega arith)
        go c0 a0 cs (v ∷ vs) gs fs root (inl q) N = let z : ◌≡◌ {A = ℕ} 0 1 = cc in absurd (omega arith)
        go c0 a0 cs (v ∷ vs) gs fs own (inl q) N = supplied (cell_ty m c0 own b) bad_frame _ (λ z ez. supplied (get_elem? cs b) bad_frame _ (λ c e. demanded (fits (ty_of v) z) bad_type _ (λ h.
            let d : n - 1 ≡ length vs = omega (arith, N.depth) in
            let rd = read-operand N.on [] v vs (n - 1) refl d (omega arith) in
            let p1 = on-cell v w y (ew ∙ rd.0) (ey ∙ rd.1) N.on b (index_below cs b c e) few in
            let p2 = on-pop v p1 (n - 1) d (omega arith) in
            goes-on (activation c0 a0 (replace cs b (assigned v)) (v ∷ vs) gs) [] Goes p2 k3 (i + 1) (e3 ∙ rw (e2, e1, top q.0)) (omega (arith, N.address)) refl)))
        go c0 a0 cs (v ∷ vs) gs [] root (inr q) N = supplied (cell_ty m c0 root b) bad_frame _ (λ z ez. supplied (get_elem? cs b) bad_frame _ (λ c e. demanded (fits (ty_of v) z) bad_type _ (λ h.
            let d : n - 1 ≡ length vs = omega (arith, N.depth) in
            let rd = read-operand N.on [] v vs (n - 1) refl d (omega arith) in
            let p1 = on-root N.on v w y (ew ∙ rd.0) (ey ∙ rd.1) b (index_below cs b c e) few in
            let p2 = on-pop v p1 (n - 1) d (omega arith) in
            goes-on (activation c0 a0 (replace cs b (assigned v)) (v ∷ vs) gs) [] Goes p2 k3 (i + 1) (e3 ∙ rw (e2, e1, low q.0)) (omega (arith, N.address)) refl)))
        go c0 a0 cs (v ∷ vs) gs (u ∷ us) root (inr q) N =
            supplied (cell_ty m c0 root b) bad_frame _ (λ z ez. supplied (get_elem? (root_of u us).cells b) bad_frame _ (λ c e. demanded (fits (ty_of v) z) bad_type _ (λ h.
            let d : n - 1 ≡ length vs = omega (arith, N.depth) in
            let rd = read-operand N.on [] v vs (n - 1) refl d (omega arith) in
            let p1 = on-root N.on v w y (ew ∙ rd.0) (ey ∙ rd.1) b (index_below (root_of u us).cells b c e) few in
            let p2 = on-pop v p1 (n - 1) d (omega arith) in
            goes-on (activation c0 a0 cs (v ∷ vs) gs) [] Goes p2 k3 (i + 1) (e3 ∙ rw (e2, e1, low q.0)) (omega (arith, N.address)) refl)))

  -- ── operators ──
  module _ (a x y : ℕ) (r : Worked) (some-operand : 0 < n) (many : n ≤ 32) (ex : x ≡ word_at l (f + (operand_words_at + 4 * (n - 1))))
      (ey : y ≡ byte_at l (f + (operand_types_at + (n - 1)))) (W : Works1 a y x r) where
    unary-by : (k : List ℕ) (z : Out)
        → ((m : Macro) (rs : Shared) (c0 a0 : ℕ) (cs : List Cell) (v : Value) (vs : List Value) (gs : List ℕ) (fs : List Activation) → Now m l f n i rs (activation c0 a0 cs (v ∷ vs) gs) fs
        → (u : Value) → r ≡ Ok (typed (value_word u) (type_byte u)) → Told (goes_on [] (u ∷ vs) (here rs (activation c0 a0 cs (v ∷ vs) gs) fs)) k z)
        → ((d : Condition) → r ≡ Err d → Tells (λ m h. condition (number_of d) h) l f n i k z)
        → (o : Unary) → unary_of a ≡ some o → Tells (λ m h. do_operate (unary o) h) l f n i k z
    unfolding do_operate
    unary-by k z G E o eo m rs t fs N = go t.body t.address t.cells t.operands t.holds N
      where
        go : (c0 a0 : ℕ) (cs : List Cell) (vs : List Value) (gs : List ℕ) → Now m l f n i rs (activation c0 a0 cs vs gs) fs → Told (do_operate (unary o) (here rs (activation c0 a0 cs vs gs) fs)) k z
        go c0 a0 cs [] gs N = record { are = tt }
        go c0 a0 cs (v ∷ vs) gs N =
            let d : n - 1 ≡ length vs = omega (arith, N.depth) in
            let rd = read-operand N.on [] v vs (n - 1) refl d (omega arith) in
            let vb = value-back rs.records v (all_first (sound_value rs.records) v vs (stands N).operands).0 in
            let s : Says (apply1 o v) r = rw (← vb, ← rd.0, ← ex) (W o (ty_of v) eo (ey ∙ rd.1) (rw (ex ∙ rd.0) (word-valid v))) in
            by-outcome m rs (activation c0 a0 cs (v ∷ vs) gs) fs r k z (apply1 o v) vs s (λ u eu. G m rs c0 a0 cs v vs gs fs N u eu) (λ c ec. E c ec m rs _ fs N)

    pub unary-gives : (w : Typed) (k1 k2 : List ℕ) → r ≡ Ok w → k1 ≡ operand_set l f (n - 1) w.word w.ty → k2 ≡ went_to k1 f (i + 1)
        → (o : Unary) → unary_of a ≡ some o → Tells (λ m h. do_operate (unary o) h) l f n i k2 Goes
    unary-gives w k1 k2 er e1 e2 = unary-by k2 Goes
        (λ m rs c0 a0 cs v vs gs fs N z ez.
        let e : w ≡ typed (value_word z) (type_byte z) = cc in
        let p = on-operand z w.word w.ty (ap (λ (q : Typed). q.word) e) (ap (λ (q : Typed). q.ty) e) [] v vs N.on (n - 1) (omega (arith, N.depth)) (omega arith) in
        goes-on (activation c0 a0 cs (v ∷ vs) gs) [] Goes p k2 (i + 1) (e2 ∙ rw e1) (omega (arith, N.address)) refl)
        (λ c ec. let z : ◌≡◌ {A = ℕ} 0 1 = cc in absurd (omega arith))

    pub unary-ends : (c : Condition) (k : List ℕ) (z : Out) → r ≡ Err c → Tells (λ m h. condition (number_of c) h) l f n i k z
        → (o : Unary) → unary_of a ≡ some o → Tells (λ m h. do_operate (unary o) h) l f n i k z
    unary-ends c k z er C = unary-by k z
        (λ m rs c0 a0 cs v vs gs fs N u eu. let q : ◌≡◌ {A = ℕ} 0 1 = cc in absurd (omega arith))
        (λ d ed. let q : c ≡ d = cc in rw (← q) C)

-- ── by number ──
pub unary-number : {l : List ℕ} {f n i : ℕ} (a : ℕ) (k : List ℕ) (r : Out) → 20 ≤ a → ((o : Unary) → unary_of a ≡ some o → Tells (λ m h. do_operate (unary o) h) l f n i k r)
    → (o : Operator) → operator_of a ≡ some o → Tells (λ m h. do_operate o h) l f n i k r
unfolding binary_of
unary-number {l} {f} {n} {i} a k r h U o e = go (unary_of a) refl e
  where
    none_other : binary_of a ≡ none
    none_other =
        rw (
          ne_eqb a 1 (λ z. omega arith),
          ne_eqb a 2 (λ z. omega arith),
          ne_eqb a 3 (λ z. omega arith),
          ne_eqb a 4 (λ z. omega arith),
          ne_eqb a 5 (λ z. omega arith),
          ne_eqb a 6 (λ z. omega arith),
          ne_eqb a 7 (λ z. omega arith),
          ne_eqb a 8 (λ z. omega arith),
          ne_eqb a 9 (λ z. omega arith),
          ne_eqb a 10 (λ z. omega arith),
          ne_eqb a 11 (λ z. omega arith),
          ne_eqb a 12 (λ z. omega arith),
          ne_eqb a 13 (λ z. omega arith),
          ne_eqb a 14 (λ z. omega arith),
          ne_eqb a 15 (λ z. omega arith),
        )

    go : (x : Option Unary) → unary_of a ≡ x → or_binary (keep x (λ b. some (unary b))) a ≡ some o → Tells (λ m h. do_operate o h) l f n i k r
    go none p q = let z : ◌≡◌ {A = ℕ} 0 1 = cc (none_other) in absurd (omega arith)
    go (some u) p q = let s : unary u ≡ o = cc in rw (← s) (U u p)
