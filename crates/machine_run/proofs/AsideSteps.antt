-- Steps of a state with operands aside, on the plain machine: what each op makes of the operands aside and of the bytes.
use mathlib.Core.Path.{◌≡◌, refl, sym, ap, ◌∙◌, subst}
use mathlib.Core.Bool.{Bool, true, false}
use mathlib.Core.List.{List, [], ◌∷◌, ◌++◌}
use mathlib.Core.Logic.{◌⊎◌, inl, inr}
use mathlib.Core.Option.{Option, none, some}
use Prim.Native.Nat.{ℕ, suc, ◌+◌, ◌*◌, ◌-◌, ◌≤◌, ◌<◌}
use native.Mathlib.Omega.{arith}
use native.Mathlib.Numerals.{add-one}
use lib.Dec.{leb}
use lib.ListN.{length, get_elem?, length-append}
use lib.ListN.{set as replace}
use borrow.Author.Tests.{ne_eqb}
use Rattle.logic.specs.Options.{keep}
use Rattle.logic.specs.OptionLaws.{same_some}
use Rattle.logic.specs.ListLaws.{index_below}
use Rattle.words.specs.Numbers.{byte_at, half_at, word_at, integer_of}
use Rattle.words.specs.Laws.{Bytes}
use Rattle.values.specs.Ends.{accepted}
use Rattle.values.specs.Trace.{Item}
use Rattle.values.specs.Types.{Ty, fits}
use Rattle.values.specs.Operators.{Operator, Binary, binary, unary_of, binary_of}
use Rattle.values.specs.Arithmetic.{Outcome, gives, ends, mistyped}
use Rattle.values.specs.Values.{Value, int, log, bit, ref, ty_of, as_logical, Cell, assigned, apply2}
use Rattle.bytecode.specs.Words.{value_word, word_value}
use Rattle.bytecode.specs.Macro.{Macro, read_macro}
use Rattle.bytecode.specs.Instructions.{Instr, Owner, own, root, owner_of, operator_of, push, load, operate, cell_ty, known}
use Rattle.bytecode.specs.Machine.{Activation, Shared, end_by, Machine, running, unwinding, Stuck, bad_frame, bad_type, no_step, Stepped, moved, stuck, demand, given, Here, at, max_operands}
use Rattle.bytecode.specs.Machine.{goes_on, goes, settled, condition, all_holds, root_of, cells_for, push_cell, put_lowest, put_cells, do_load, do_store, do_operate, do_go_unless, act, step}
use Rattle.bytecode.specs.Runs.{bank_of}
use Rattle.bytecode.specs.Sound.{sound, sound_value}
use Rattle.bytecode.specs.State.{type_byte, encode, decode, activations_at, activation_length, cell_words_at, cell_types_at, operand_words_at, operand_types_at}
use Rattle.bytecode_laws.specs.Terms.{Passed}
use Rattle.bytecode_safety.specs.Lists.{all_first}
use Rattle.bytecode_layout.specs.Passing.{sized}
use Rattle.bytecode_layout.specs.Layout.{decode-encode}
use Rattle.bytecode_layout.specs.Places.{phase}
use Rattle.bytecode_layout.specs.Reads.{encode-reads}
use Rattle.bytecode_layout.specs.Steps.{activation}
use Rattle.load_places.specs.Records.{count, code_place}
use Rattle.machine_frames.specs.Bytes.{went_to, pushed, popped, cell_set, conditioned}
use Rattle.machine_frames.specs.On.{On, read_count, read-depth, read-address, read-operand, read-cell, read-root, read-releasing, on_go, on-push, on-pop, on-cell, on-root, on-condition}
use Rattle.std.specs.Prelude.{Ok, Err}
use Rattle.values.specs.Answers.{number_of}
use Rattle.values.specs.declared.conditions.Condition.{Condition}
use Rattle.machine_ops.specs.declared.operators.Typed.{Typed}
use Rattle.machine_ops.specs.declared.Out.TheVariants.{Goes}
use Rattle.machine_ops.specs.Works.{Worked, typed, Says, Works2}
use Rattle.machine_ops.specs.Acts.{here, out_of, Now, Told, Room}
use Rattle.machine_ops.proofs.RunningFacts.{stands, few-records, value-back, word-valid, owner-is}
use Rattle.machine_run.specs.Held.{Held, Poised, Steps}
use Rattle.machine_run.specs.Aside.{Aside, One, Leads}
use Rattle.machine_run.proofs.OpDecode.{is-integer, is-load, is_store, is-operate, is-unless}
use Rattle.machine_run.proofs.OpAsks.{room}
use Rattle.machine_run.proofs.ByteSteps.{Next, next-at, in-macro, poised}
use Rattle.machine_run.proofs.RunLoop.{go_on}

-- ── a step that is made ──
module _ {is : List Item} {s : Machine} where
  not_stuck : {A : Type 0} {why : Stuck} → stuck why ≡ moved is s → A
  not_stuck e = let z : ◌≡◌ {A = ℕ} 0 1 = cc e in absurd (omega arith)

  demand-is : (b : Bool) (why : Stuck) (x : Stepped) → demand b why x ≡ moved is s → x ≡ moved is s
  demand-is true why x e = e
  demand-is false why x e = not_stuck e

  given_is : {A : Type 0} (o : Option A) (why : Stuck) (g : A → Stepped) → given o why g ≡ moved is s → (a : A) × (o ≡ some a) × (g a ≡ moved is s)
  given_is none why g e = not_stuck e
  given_is (some a) why g e = (a, refl, e)

  moved-is : {is' : List Item} {s' : Machine} → moved is' s' ≡ moved is s → (is ≡ is') × (s ≡ s')
  moved-is e = (cc e, cc e)

  goes-is : (vs : List Value) (h : Here) → goes_on [] vs h ≡ moved is s → (is ≡ []) × (s ≡ running h.shared (at (suc h.top.address) vs h.top) h.below)
  goes-is vs h e = moved-is (demand-is (leb (length vs) max_operands) bad_frame _ e)

  module _ (m : Macro) (bank : ℕ → ℕ) (h : Here) where
    push-is : (v : Value) → act m bank (push v) h ≡ moved is s → (is ≡ []) × (s ≡ running h.shared (at (suc h.top.address) (v ∷ h.top.operands) h.top) h.below)
    unfolding act
    push-is v e = goes-is _ h (demand-is (known m (ty_of v)) no_step _ e)

    load_is : (o : Owner) (b : ℕ) → act m bank (load o b) h ≡ moved is s
        → (v : Value) × (get_elem? (cells_for o h) b ≡ some (assigned v)) × (is ≡ []) × (s ≡ running h.shared (at (suc h.top.address) (v ∷ h.top.operands) h.top) h.below)
    unfolding act do_load
    load_is o b e =
        let u = given_is (cell_ty m h.top.body o b) bad_frame _ e in
        let c = given_is (get_elem? (cells_for o h) b) bad_frame _ u.2 in
        by u.0 c.0 c.1 c.2
      where
        by : (ty : Ty) (c : Cell) → get_elem? (cells_for o h) b ≡ some c → push_cell ty c h ≡ moved is s
            → (v : Value) × (get_elem? (cells_for o h) b ≡ some (assigned v)) × (is ≡ []) × (s ≡ running h.shared (at (suc h.top.address) (v ∷ h.top.operands) h.top) h.below)
        by ty (assigned v) q e = let g = goes-is _ h (demand-is (fits (ty_of v) ty) bad_type _ e) in (v, q, g.0, g.1)

-- what an operator makes of two operands
data Settles (r : Worked) (us : List Value) (h : Here) (is : List Item) (s : Machine) : Type 0 where
  makes : (v : Value) → r ≡ Ok (typed (value_word v) (type_byte v)) → is ≡ [] → s ≡ running h.shared (at (suc h.top.address) (v ∷ us) h.top) h.below → Settles r us h is s
  breaks : (c : Condition) → r ≡ Err c → is ≡ [] → s ≡ unwinding (all_holds (h.top ∷ h.below)) (end_by (number_of c)) → Settles r us h is s

settles : {is : List Item} {s : Machine} (x : Outcome Value) (r : Worked) (us : List Value) (h : Here) → Says x r → settled x us h ≡ moved is s → Settles r us h is s
unfolding condition
settles (gives v) r us h q e = let g = goes-is _ h e in makes v q g.0 g.1
settles (ends c) r us h q e =
    let g = moved-is e in
    breaks q.condition q.is g.0 (g.1 ∙ ap (λ (z : ℕ). unwinding (all_holds (h.top ∷ h.below)) (end_by z)) q.number)
settles mistyped r us h q e = not_stuck e

binary-of : (a : ℕ) (o : Operator) → a < 20 → operator_of a ≡ some o → (q : Binary) × (binary_of a ≡ some q) × (o ≡ binary q)
unfolding unary_of
binary-of a o h e = go (binary_of a) refl (rw (ne_eqb a 20 (λ z. omega arith), ne_eqb a 21 (λ z. omega arith), ne_eqb a 22 (λ z. omega arith)) at e)
  where
    go : (x : Option Binary) → binary_of a ≡ x → keep x (λ b. some (binary b)) ≡ some o → (q : Binary) × (binary_of a ≡ some q) × (o ≡ binary q)
    go none p q = let z : ◌≡◌ {A = ℕ} 0 1 = cc q in absurd (omega arith)
    go (some b) p q = (b, p, cc q)

-- ── bytes hold one state ──
one-macro : (code : List ℕ) {m m' : Macro} → read_macro code ≡ accepted m → read_macro code ≡ accepted m' → m ≡ m'
one-macro code r r' = let e = sym r ∙ r' in cc e

one_state : (m : Macro) → Passed m → (s s' : Machine) → sound m s ≡ true → sound m s' ≡ true → encode s ≡ encode s' → s ≡ s'
one_state m w s s' h h' e = same_some (sym (decode-encode m (sized m w) s h) ∙ ap (decode m) e ∙ decode-encode m (sized m w) s' h')

leads-by : (code readings : List ℕ) → Bytes readings → (m : Macro) → read_macro code ≡ accepted m → Passed m → (s s' : Machine) → sound m s ≡ true
    → (is : List Item) → step m (bank_of readings) s ≡ moved is s' → Goes ≡ out_of is s' → (k i : ℕ) → i < k → Leads code readings k (encode s) i (encode s') (i + 1)
leads-by code readings low m r w s s' h is e o k i more l₀ R = go_on code readings (encode s) (encode s') Goes low X k i l₀ more R refl
  where
    X : Steps code readings (encode s) (encode s') Goes
    X m' r' w' q hq eq =
        let em : m ≡ m' = one-macro code r r' in
        let es : s ≡ q = one_state m w s q h (subst (λ (x : Macro). sound x q ≡ true) (sym em) hq) eq in
        let t : Told (step m (bank_of readings) s) (encode s') Goes = rw e (record { are = (refl, o) }) in
        subst (λ (x : Macro). Told (step x (bank_of readings) q) (encode s') Goes) em (subst (λ (x : Machine). Told (step m (bank_of readings) x) (encode s') Goes) es t)

-- ── a state with operands aside ──
module _ {code l : List ℕ} {f n i : ℕ} {vs : List Value} (A : Aside code l f n i vs) where
  abbrev pub full : Activation
  full = at i (vs ++ A.top.operands) A.top

  abbrev pub whole : Machine
  whole = running A.shared full A.below

  pub on-whole : On (encode whole) f A.shared [] full A.below
  on-whole = record { few = A.on.few; place = A.on.place; bytes = refl }

  pub held_whole : Held code (encode whole)
  held_whole = record { macro = A.macro; reads = A.reads; passed = A.passed; state = whole; sounds = A.sounds; bytes = refl }

  pub now-whole : Now A.macro (encode whole) f (length vs + n) i A.shared full A.below
  now-whole = record { passed = A.passed; sounds = A.sounds; on = on-whole; depth = omega (arith, A.depth, length-append vs A.top.operands); address = refl }

  pub room_whole : Room (encode whole) f (length vs + n) i
  room_whole = room now-whole

  pub in_code : i < count code
  in_code = in-macro code (encode whole) A.macro A.reads A.passed A.shared full A.below A.sounds refl

  module _ (readings : List ℕ) (low : Bytes readings) {op a b : ℕ} (eo : op ≡ byte_at code (code_place code i + 2)) (ea : a ≡ byte_at code (code_place code i + 3))
      (eb : b ≡ word_at code (code_place code i + 4)) where
    pub next-whole : Next readings A.macro A.shared full A.below op a b
    next-whole = next-at code (encode whole) A.macro A.reads A.passed A.shared full A.below A.sounds refl readings low i op a b refl eo ea eb

    pub poised-whole : Poised code readings op a b (encode whole) f (length vs + n) i
    poised-whole =
        let few : length A.below < 32 = A.on.few in
        let pl : f ≡ 32 + 328 * length A.below = A.on.place in
        poised code (encode whole) readings low held_whole (encode-reads phase tt whole) f (length vs + n) i op a b
        (record {
          place = omega (arith, read_count on-whole);
          depth = omega (arith, read-depth on-whole, now-whole.depth);
          address = sym (read-address on-whole);
          op-is = eo;
          a-is = ea;
          b-is = eb;
        })

    pub lead : (s' : Machine) → next-whole.next ≡ s' → Goes ≡ out_of next-whole.items s' → (k j : ℕ) → j < k → Leads code readings k (encode whole) j (encode s') (j + 1)
    lead s' e o = leads-by code readings low A.macro A.reads A.passed whole s' A.sounds next-whole.items (next-whole.is ∙ ap (moved next-whole.items) e) o

    still : (s' : Machine) → next-whole.next ≡ s' → sound A.macro s' ≡ true
    still s' e = subst (λ (x : Machine). sound A.macro x ≡ true) e next-whole.still

root-cells : (t t' : Activation) (fs : List Activation) → t.cells ≡ t'.cells → (root_of t fs).cells ≡ (root_of t' fs).cells
unfolding root_of
root-cells t t' [] e = e
root-cells t t' (g ∷ gs) e = refl

-- ── a value more, by a push or a load ──
pub record More (readings : List ℕ) {code l : List ℕ} {f n i : ℕ} {vs : List Value} (A : Aside code l f n i vs) (v : Value) : Type 0 where
  pub aside : Aside code l f n (i + 1) (v ∷ vs)
  pub leads : (k j : ℕ) → j < k → Leads code readings k (encode (whole A)) j (encode (whole aside)) (j + 1)

module _ {code l : List ℕ} {f n i : ℕ} {vs : List Value} (A : Aside code l f n i vs) (readings : List ℕ) (low : Bytes readings) {op a b : ℕ} (eo : op ≡ byte_at code (code_place code i + 2))
    (ea : a ≡ byte_at code (code_place code i + 3)) (eb : b ≡ word_at code (code_place code i + 4)) where
  abbrev N : Next readings A.macro A.shared (full A) A.below op a b
  N = next-whole A readings low eo ea eb

  more : (v : Value) → N.items ≡ [] → N.next ≡ running A.shared (at (suc i) (v ∷ (vs ++ A.top.operands)) A.top) A.below → More readings A v
  more v q e =
      let s' : Machine = running A.shared (at (i + 1) (v ∷ (vs ++ A.top.operands)) A.top) A.below in
      let e' : N.next ≡ s' = e ∙ ap (λ (x : ℕ). running A.shared (at x (v ∷ (vs ++ A.top.operands)) A.top) A.below) (sym (add-one i)) in
      record {
        aside = record {
          macro = A.macro;
          reads = A.reads;
          passed = A.passed;
          shared = A.shared;
          top = A.top;
          below = A.below;
          on = A.on;
          depth = A.depth;
          sounds = still A readings low eo ea eb s' e';
        };
        leads = lead A readings low eo ea eb s' e' (ap (λ (x : List Item). out_of x s') (sym q));
      }

  pub pushes : op ≡ 1 → More readings A (int (integer_of b))
  pushes e =
      let d = subst (λ (x : Instr). act A.macro (bank_of readings) x (here A.shared (full A) A.below) ≡ moved N.items N.next) (is-integer op a b N.instr N.decoded e) N.does in
      let g = push-is A.macro (bank_of readings) (here A.shared (full A) A.below) (int (integer_of b)) d in
      more (int (integer_of b)) g.0 g.1

  -- the word and the type byte of a cell, where they stand
  cell-bytes : (o : Owner) → owner_of a ≡ some o → (v : Value) → get_elem? (cells_for o (here A.shared (full A) A.below)) b ≡ some (assigned v) → b < 32
      → (g : ℕ) → (a ≡ 0 → g ≡ f) → (a ≡ 1 → g ≡ 32) → (word_at l (g + (cell_words_at + 4 * b)) ≡ value_word v) × (byte_at l (g + (cell_types_at + b)) ≡ type_byte v)
  cell-bytes o eo' v e few g own-place root-place = by o (owner-is a o eo') e
    where
      by : (o : Owner) → ((a ≡ 0) × (o ≡ own)) ⊎ ((a ≡ 1) × (o ≡ root)) → get_elem? (cells_for o (here A.shared (full A) A.below)) b ≡ some (assigned v)
          → (word_at l (g + (cell_words_at + 4 * b)) ≡ value_word v) × (byte_at l (g + (cell_types_at + b)) ≡ type_byte v)
      by own (inl q) e = let rd = read-cell A.on b (assigned v) e few in (rw (own-place q.0) rd.0, rw (own-place q.0) rd.1)
      by own (inr q) e = let z : ◌≡◌ {A = ℕ} 0 1 = cc in absurd (omega arith)
      by root (inl q) e = let z : ◌≡◌ {A = ℕ} 0 1 = cc in absurd (omega arith)
      by root (inr q) e =
          let e' : get_elem? (root_of A.top A.below).cells b ≡ some (assigned v) = ap (λ (x : List Cell). get_elem? x b) (root-cells A.top (full A) A.below refl) ∙ e in
          let rd = read-root A.on b (assigned v) e' few in
          (rw (root-place q.0) rd.0, rw (root-place q.0) rd.1)

  pub loads : op ≡ 5 → b < 32 → (v : Value) × More readings A v
      × ((g : ℕ) → (a ≡ 0 → g ≡ f) → (a ≡ 1 → g ≡ 32) → (word_at l (g + (cell_words_at + 4 * b)) ≡ value_word v) × (byte_at l (g + (cell_types_at + b)) ≡ type_byte v))
  loads e few =
      let q = is-load op a b N.instr N.decoded e in
      let d = subst (λ (x : Instr). act A.macro (bank_of readings) x (here A.shared (full A) A.below) ≡ moved N.items N.next) q.2 N.does in
      let g = load_is A.macro (bank_of readings) (here A.shared (full A) A.below) q.0 b d in
      (g.0, more g.0 g.2 g.3, cell-bytes q.0 q.1 g.0 g.1 few)

-- ── an operand taken out of the bytes ──
pub record Taken {code l : List ℕ} {f n i : ℕ} {vs : List Value} (A : Aside code l f n i vs) (ws : Value → List Value) : Type 0 where
  pub value : Value
  pub word : word_at l (f + (operand_words_at + 4 * (n - 1))) ≡ value_word value
  pub type : byte_at l (f + (operand_types_at + (n - 1))) ≡ type_byte value
  pub aside : Aside code (popped l f (n - 1)) f (n - 1) i (ws value)
  pub same : whole A ≡ whole aside

pub take : {code l : List ℕ} {f n i : ℕ} {vs : List Value} (A : Aside code l f n i vs) (ws : Value → List Value)
    → ((x : Value) (us : List Value) → ws x ++ us ≡ vs ++ (x ∷ us)) → 0 < n → n ≤ 32 → Taken A ws
take {code} {l} {f} {n} {i} {vs} A ws joins some-operand few = go A.top.operands refl
  where
    go : (us : List Value) → A.top.operands ≡ us → Taken A ws
    go [] e = absurd (omega (arith, A.depth, ap length e))
    go (x ∷ us) e =
        let t = A.top in
        let p : On l f A.shared [] (activation t.body t.address t.cells (x ∷ us) t.holds) A.below =
        subst (λ (z : List Value). On l f A.shared [] (activation t.body t.address t.cells z t.holds) A.below) e A.on in
        let d : n - 1 ≡ length us = omega (arith, A.depth, ap length e) in
        let rd = read-operand p [] x us (n - 1) refl d (omega arith) in
        let s : whole A ≡ running A.shared (at i (ws x ++ us) t) A.below =
        ap (λ (z : List Value). running A.shared (at i (vs ++ z) t) A.below) e ∙ ap (λ (z : List Value). running A.shared (at i z t) A.below) (sym (joins x us)) in
        record {
          value = x;
          word = rd.0;
          type = rd.1;
          aside = record {
            macro = A.macro;
            reads = A.reads;
            passed = A.passed;
            shared = A.shared;
            top = activation t.body t.address t.cells us t.holds;
            below = A.below;
            on = on-pop x p (n - 1) d (omega arith);
            depth = d;
            sounds = subst (λ (z : Machine). sound A.macro z ≡ true) s A.sounds;
          };
          same = s;
        }

-- ── an operator on two operands aside ──
module _ {code l : List ℕ} {f n i : ℕ} {x y : Value} (A : Aside code l f n i (y ∷ (x ∷ []))) (readings : List ℕ) (low : Bytes readings) {op a b : ℕ} (eo : op ≡ byte_at code (code_place code i + 2))
    (ea : a ≡ byte_at code (code_place code i + 3)) (eb : b ≡ word_at code (code_place code i + 4)) (seven : op ≡ 7) (two : a < 20)
    {u p q : ℕ} (eu : u ≡ type_byte x) (ep : p ≡ value_word x) (eq : q ≡ value_word y) (r : Worked) (W : Works2 a u p q r) where
  abbrev M : Next readings A.macro A.shared (full A) A.below op a b
  M = next-whole A readings low eo ea eb

  says : (z : Binary) → binary_of a ≡ some z → Says (apply2 z x y) r
  says z ez =
      let sy = all_first (sound_value A.shared.records) y (x ∷ A.top.operands) (stands (now-whole A)).operands in
      let yb : word_value (ty_of y) q ≡ y = ap (word_value (ty_of y)) eq ∙ value-back A.shared.records y sy.0 in
      let xb : word_value (ty_of x) p ≡ x = ap (word_value (ty_of x)) ep ∙ value-back A.shared.records x (all_first (sound_value A.shared.records) x A.top.operands sy.1).0 in
      let s0 = W z (ty_of x) (ty_of y) ez eu (rw ep (word-valid x)) (rw eq (word-valid y)) in
      subst (λ (v : Value). Says (apply2 z x v) r) yb (subst (λ (v : Value). Says (apply2 z v (word_value (ty_of y) q)) r) xb s0)

  came : Settles r A.top.operands (here A.shared (full A) A.below) M.items M.next
  unfolding act do_operate
  came =
      let o = is-operate op a b M.instr M.decoded seven in
      let z = binary-of a o.0 two o.1 in
      let d = subst (λ (c : Instr). act A.macro (bank_of readings) c (here A.shared (full A) A.below) ≡ moved M.items M.next) (o.2 ∙ ap operate z.2) M.does in
      let s = says z.0 z.1 in
      settles (apply2 z.0 x y) r A.top.operands (here A.shared (full A) A.below) s d

  pub gave : (w : Typed) → r ≡ Ok w → (O : One code l f n (i + 1) w.word w.ty) × ((k j : ℕ) → j < k → Leads code readings k (encode (whole A)) j (encode (whole O.aside)) (j + 1))
  gave w er = by came
    where
      by : Settles r A.top.operands (here A.shared (full A) A.below) M.items M.next
          → (O : One code l f n (i + 1) w.word w.ty) × ((k j : ℕ) → j < k → Leads code readings k (encode (whole A)) j (encode (whole O.aside)) (j + 1))
      by (breaks c e _ _) = let z : ◌≡◌ {A = ℕ} 0 1 = cc in absurd (omega arith)
      by (makes v e ei en) =
          let q : w ≡ typed (value_word v) (type_byte v) = cc in
          let s' : Machine = running A.shared (at (i + 1) (v ∷ A.top.operands) A.top) A.below in
          let e' : M.next ≡ s' = en ∙ ap (λ (j : ℕ). running A.shared (at j (v ∷ A.top.operands) A.top) A.below) (sym (add-one i)) in (
            record {
              value = v;
              word = ap (λ (z : Typed). z.word) q;
              type = ap (λ (z : Typed). z.ty) q;
              aside = record {
                macro = A.macro;
                reads = A.reads;
                passed = A.passed;
                shared = A.shared;
                top = A.top;
                below = A.below;
                on = A.on;
                depth = A.depth;
                sounds = still A readings low eo ea eb s' e';
              };
            },
            lead A readings low eo ea eb s' e' (ap (λ (c : List Item). out_of c s') (sym ei)),
          )

  pub broke : (e : Condition) → r ≡ Err e → (c : ℕ) → c ≡ number_of e
      → Held code (conditioned l c) × (byte_at (conditioned l c) 0 ≡ 1) × ((k j : ℕ) → j < k → Leads code readings k (encode (whole A)) j (conditioned l c) (j + 1))
  unfolding all_holds
  broke e er c ec = by came
    where
      by : Settles r A.top.operands (here A.shared (full A) A.below) M.items M.next
          → Held code (conditioned l c) × (byte_at (conditioned l c) 0 ≡ 1) × ((k j : ℕ) → j < k → Leads code readings k (encode (whole A)) j (conditioned l c) (j + 1))
      by (makes v ev _ _) = let z : ◌≡◌ {A = ℕ} 0 1 = cc in absurd (omega arith)
      by (breaks d ed ei en) =
          let s' : Machine = unwinding (all_holds (A.top ∷ A.below)) (end_by c) in
          let de : d ≡ e = cc in
          let dc : number_of d ≡ c = ap number_of de ∙ sym ec in
          let e' : M.next ≡ s' = en ∙ ap (λ (z : ℕ). unwinding (all_holds (A.top ∷ A.below)) (end_by z)) dc in
          let cs : conditioned l c ≡ encode s' = on-condition A.on (few-records (now-whole A)) c in (
            record { macro = A.macro; reads = A.reads; passed = A.passed; state = s'; sounds = still A readings low eo ea eb s' e'; bytes = cs },
            (read-releasing (conditioned l c) c (all_holds (A.top ∷ A.below)) cs).0,
            λ k j more. subst (λ (z : List ℕ). Leads code readings k (encode (whole A)) j z (j + 1)) (sym cs)
                (lead A readings low eo ea eb s' e' (ap (λ (z : List Item). out_of z s') (sym ei)) k j more),
          )

-- ── all in the bytes again ──
pub record Back (code l : List ℕ) (f at' : ℕ) : Type 0 where
  pub held : Held code l
  pub runs : byte_at l 0 ≡ 0
  pub place : f ≡ activations_at + activation_length * (byte_at l 2 - 1)
  pub address : at' ≡ half_at l (f + 4)

back : {code l : List ℕ} {f : ℕ} {rs : Shared} {t : Activation} {fs : List Activation} (m : Macro) → read_macro code ≡ accepted m → Passed m → sound m (running rs t fs) ≡ true → On l f rs [] t fs
    → Back code l f t.address
back {code} {l} {f} {rs} {t} {fs} m r w s p =
    let few : length fs < 32 = p.few in
    let pl : f ≡ 32 + 328 * length fs = p.place in
    record {
      held = record { macro = m; reads = r; passed = w; state = running rs t fs; sounds = s; bytes = p.bytes };
      runs = rw p.bytes (encode-reads phase tt (running rs t fs));
      place = omega (arith, read_count p);
      address = sym (read-address p);
    }

module _ {code l : List ℕ} {f n i w t : ℕ} (O : One code l f n i w t) where
  abbrev pub one-whole : Machine
  one-whole = whole O.aside

  pub on-put : On (went_to (pushed l f n w t) f i) f O.aside.shared [] (full O.aside) O.aside.below
  on-put =
      let A = O.aside in
      let u = A.top in
      let p : On l f A.shared [] (activation u.body u.address u.cells u.operands u.holds) A.below = A.on in
      on_go (on-push O.value w t O.word O.type p n A.depth (omega (arith, (room_whole A).depth))) i

  pub put-bytes : went_to (pushed l f n w t) f i ≡ encode one-whole
  put-bytes = on-put.bytes

  pub put_back : Back code (went_to (pushed l f n w t) f i) f i
  put_back = back O.aside.macro O.aside.reads O.aside.passed O.aside.sounds on-put

-- a cell is stored
stored_on : {l : List ℕ} {f : ℕ} (rs : Shared) (c0 a0 : ℕ) (cs : List Cell) (vs : List Value) (gs : List ℕ) (fs : List Activation) (o : Owner) (a b g w t i : ℕ) (v : Value)
    → w ≡ value_word v → t ≡ type_byte v → On l f rs [] (activation c0 a0 cs vs gs) fs → ((a ≡ 0) × (o ≡ own)) ⊎ ((a ≡ 1) × (o ≡ root)) → (c : Cell)
    → get_elem? (cells_for o (here rs (activation c0 i cs (v ∷ vs) gs) fs)) b ≡ some c → b < 32 → (a ≡ 0 → g ≡ f) → (a ≡ 1 → g ≡ 32)
    → let H = here rs (activation c0 i cs (v ∷ vs) gs) fs in
    let H' = put_cells o (replace (cells_for o H) b (assigned v)) H in
    On (went_to (cell_set l g b w t) f (i + 1)) f rs [] (at (i + 1) vs H'.top) H'.below
unfolding root_of put_lowest
stored_on rs c0 a0 cs vs gs fs own a b g w t i v ew et p (inl q) c e few own-place root-place = rw (own-place q.0) (on_go (on-cell v w t ew et p b (index_below cs b c e) few) (i + 1))
stored_on rs c0 a0 cs vs gs fs own a b g w t i v ew et p (inr q) c e few own-place root-place = let z : ◌≡◌ {A = ℕ} 0 1 = cc in absurd (omega arith)
stored_on rs c0 a0 cs vs gs fs root a b g w t i v ew et p (inl q) c e few own-place root-place = let z : ◌≡◌ {A = ℕ} 0 1 = cc in absurd (omega arith)
stored_on rs c0 a0 cs vs gs [] root a b g w t i v ew et p (inr q) c e few own-place root-place =
    rw (root-place q.0) (on_go (on-root p v w t ew et b (index_below cs b c e) few) (i + 1))
stored_on rs c0 a0 cs vs gs (u ∷ us) root a b g w t i v ew et p (inr q) c e few own-place root-place =
    rw (root-place q.0) (on_go (on-root p v w t ew et b (index_below (root_of u us).cells b c e) few) (i + 1))

by-truth : {is : List Item} {s : Machine} (v : Value) (g : Bool → Stepped) → given (as_logical v) bad_type g ≡ moved is s
    → ((value_word v ≡ 0) × (g false ≡ moved is s)) ⊎ ((value_word v ≡ 1) × (g true ≡ moved is s))
by-truth (int z) g e = not_stuck e
by-truth (log false) g e = inl (refl, e)
by-truth (log true) g e = inr (refl, e)
by-truth (bit z) g e = not_stuck e
by-truth (ref c r) g e = not_stuck e

module _ {code l : List ℕ} {f n i w t : ℕ} (O : One code l f n i w t) (readings : List ℕ) (low : Bytes readings) {op a b : ℕ} (eo : op ≡ byte_at code (code_place code i + 2))
    (ea : a ≡ byte_at code (code_place code i + 3)) (eb : b ≡ word_at code (code_place code i + 4)) where
  abbrev A : Aside code l f n i (O.value ∷ [])
  A = O.aside

  abbrev K : Next readings A.macro A.shared (full A) A.below op a b
  K = next-whole A readings low eo ea eb

  abbrev Arrives : List ℕ → ℕ → Type 0
  Arrives l' at' = Back code l' f at' × ((k j : ℕ) → j < k → Leads code readings k (encode (whole A)) j l' (j + 1))

  -- in bytes that hold what the step comes to
  arrives : {rs : Shared} {u : Activation} {fs : List Activation} (l' : List ℕ) → On l' f rs [] u fs → K.items ≡ [] → K.next ≡ running rs u fs → Arrives l' u.address
  arrives {rs} {u} {fs} l' p ei en = (
    back A.macro A.reads A.passed (still A readings low eo ea eb (running rs u fs) en) p,
    λ k j more. subst (λ (z : List ℕ). Leads code readings k (encode (whole A)) j z (j + 1)) (sym p.bytes)
        (lead A readings low eo ea eb (running rs u fs) en (ap (λ (z : List Item). out_of z (running rs u fs)) (sym ei)) k j more),
  )

  pub stores : op ≡ 6 → b < 32 → (g : ℕ) → (a ≡ 0 → g ≡ f) → (a ≡ 1 → g ≡ 32) → Arrives (went_to (cell_set l g b w t) f (i + 1)) (i + 1)
  unfolding act do_store
  stores e few g own-place root-place =
      let q = is_store op a b K.instr K.decoded e in
      let H = here A.shared (full A) A.below in
      let d = subst (λ (x : Instr). act A.macro (bank_of readings) x H ≡ moved K.items K.next) q.2 K.does in
      let ty = given_is (cell_ty A.macro A.top.body q.0 b) bad_frame _ d in
      let c = given_is (get_elem? (cells_for q.0 H) b) bad_frame _ ty.2 in
      let H' = put_cells q.0 (replace (cells_for q.0 H) b (assigned O.value)) H in
      let m = goes-is A.top.operands H' (demand-is (fits (ty_of O.value) ty.0) bad_type _ c.2) in
      let u = A.top in
      let p = stored_on A.shared u.body u.address u.cells u.operands u.holds A.below q.0 a b g w t i O.value O.word O.type
      A.on (owner-is a q.0 q.1) c.0 c.1 few own-place
      root-place in
      arrives (went_to (cell_set l g b w t) f (i + 1)) p m.0 (m.1 ∙ next-is q.0 A.below _)
    where
      next-is : (o : Owner) (fs : List Activation) (cs : List Cell) → let X = put_cells o cs (here A.shared (full A) fs) in
          running X.shared (at (suc X.top.address) A.top.operands X.top) X.below ≡ running A.shared (at (i + 1) A.top.operands X.top) X.below
      next-is own fs cs = rw (add-one i)
      next-is root [] cs = rw (add-one i)
      next-is root (u ∷ us) cs = rw (add-one i)

  went : (j : ℕ) → K.items ≡ [] → K.next ≡ running A.shared (at j A.top.operands A.top) A.below → Arrives (went_to l f j) j
  went j ei en =
      let u = A.top in
      let p : On l f A.shared [] (activation u.body u.address u.cells u.operands u.holds) A.below = A.on in
      arrives (went_to l f j) (on_go p j) ei en

  truth : op ≡ 9 → ((w ≡ 0) × (K.items ≡ []) × (K.next ≡ running A.shared (at b A.top.operands A.top) A.below))
      ⊎ ((w ≡ 1) × (K.items ≡ []) × (K.next ≡ running A.shared (at (i + 1) A.top.operands A.top) A.below))
  unfolding act do_go_unless
  truth e =
      let d = subst (λ (x : Instr). act A.macro (bank_of readings) x (here A.shared (full A) A.below) ≡ moved K.items K.next) (is-unless op a b K.instr K.decoded e) K.does in
      by (by-truth O.value _ d)
    where
      H : Here
      H = here A.shared (full A) A.below

      by : ((value_word O.value ≡ 0) × (goes b A.top.operands H ≡ moved K.items K.next)) ⊎ ((value_word O.value ≡ 1) × (goes (suc i) A.top.operands H ≡ moved K.items K.next))
          → ((w ≡ 0) × (K.items ≡ []) × (K.next ≡ running A.shared (at b A.top.operands A.top) A.below))
          ⊎ ((w ≡ 1) × (K.items ≡ []) × (K.next ≡ running A.shared (at (i + 1) A.top.operands A.top) A.below))
      by (inl q) = let g = moved-is q.1 in inl (O.word ∙ q.0, g.0, g.1)
      by (inr q) =
          let g = moved-is q.1 in
          inr (O.word ∙ q.0, g.0, g.1 ∙ ap (λ (x : ℕ). running A.shared (at x A.top.operands A.top) A.below) (sym (add-one i)))

  pub jumps : op ≡ 9 → w ≡ 0 → Arrives (went_to l f b) b
  jumps e z = by (truth e)
    where
      by : ((w ≡ 0) × (K.items ≡ []) × (K.next ≡ running A.shared (at b A.top.operands A.top) A.below))
          ⊎ ((w ≡ 1) × (K.items ≡ []) × (K.next ≡ running A.shared (at (i + 1) A.top.operands A.top) A.below)) → Arrives (went_to l f b) b
      by (inl q) = went b q.1 q.2
      by (inr q) = absurd (omega (arith, q.0))

  pub passes : op ≡ 9 → (w ≡ 0 → ⊥) → Arrives (went_to l f (i + 1)) (i + 1)
  passes e n0 = by (truth e)
    where
      by : ((w ≡ 0) × (K.items ≡ []) × (K.next ≡ running A.shared (at b A.top.operands A.top) A.below))
          ⊎ ((w ≡ 1) × (K.items ≡ []) × (K.next ≡ running A.shared (at (i + 1) A.top.operands A.top) A.below)) → Arrives (went_to l f (i + 1)) (i + 1)
      by (inl q) = absurd (n0 q.0)
      by (inr q) = went (i + 1) q.1 q.2
