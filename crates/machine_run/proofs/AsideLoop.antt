-- The loop with one operand aside: its invariant, and what an operator, a store, a jump and any other op make of it.
use mathlib.Core.Path.{◌≡◌, refl, sym, ap, ◌∙◌, subst}
use mathlib.Core.List.{List, [], ◌∷◌}
use Prim.Native.Nat.{ℕ, ◌+◌, ◌*◌, ◌-◌, ◌≤◌, ◌<◌}
use native.Mathlib.Omega.{arith}
use lib.ListN.{length}
use Rattle.words.specs.Numbers.{byte_at, half_at, word_at, integer_of}
use Rattle.words.specs.Laws.{Bytes, word_back}
use Rattle.values.specs.Values.{Value, int}
use Rattle.bytecode.specs.Words.{value_word}
use Rattle.bytecode.specs.Machine.{Machine}
use Rattle.bytecode.specs.State.{type_byte, encode, state_length}
use Rattle.load_places.specs.Records.{code_place}
use Rattle.machine_frames.specs.Bytes.{went_to, pushed, popped, conditioned}
use Rattle.machine_frames.specs.On.{on-long, read_count, read-records}
use Rattle.std.specs.Prelude.{Ok, Err}
use Rattle.values.specs.Answers.{number_of}
use Rattle.values.specs.declared.conditions.Condition.{Condition}
use Rattle.machine_ops.specs.declared.operators.Typed.{Typed}
use Rattle.machine_ops.specs.Works.{Worked, Works2}
use Rattle.machine_ops.proofs.RunningFacts.{few-records}
use Rattle.machine_run.specs.declared.aside.Landing.{Landing}
use Rattle.machine_run.specs.Held.{Poised, Reaches}
use Rattle.machine_run.specs.Aside.{Coded, Aside, One, Leads, Led, Lands, Follows, Paired, operates, pushes, loads, Leaves, Grows, landed, stores, jumps, passes, puts}
use Rattle.machine_run.proofs.OpAsks.{asks-load, asks-store, asks-operate, asks-unless}
use Rattle.machine_run.proofs.AsideSteps.{whole, one-whole, now-whole, room_whole, in_code, poised-whole, take, gave, broke, Back, put-bytes, put_back}
use Rattle.machine_run.proofs.AsideSteps as steps

-- from bytes s after i₀ steps to the operand w, of type byte t, aside after n
pub record Going (code readings : List ℕ) (k : ℕ) (s : List ℕ) (at₀ i₀ : ℕ) (l₀ l : List ℕ) (f d i n w t : ℕ) : Type 0 where
  pub upto : n ≤ k
  pub grown : i₀ ≤ n
  pub fresh : n ≡ i₀ → i ≡ at₀
  pub long : length l ≡ length l₀
  pub one : One code l f d i w t
  pub leads : Leads code readings k s i₀ (encode (one-whole one)) n

pub start : {code readings l : List ℕ} {k f d i n w t : ℕ} → One code l f d i w t → n ≤ k → Going code readings k (went_to (pushed l f d w t) f i) i n l l f d i n w t
start {code} {readings} {k = k} {n = n} O h =
    record { upto = h; grown = omega arith; fresh = λ e. refl; long = refl; one = O; leads = λ l₀ R. subst (λ (x : List ℕ). Reaches code readings k l₀ x n) (put-bytes O) R }

-- the steps taken, by another name
pub recount : {code readings : List ℕ} {k : ℕ} {s : List ℕ} {at₀ i₀ : ℕ} {l₀ l : List ℕ} {f d i n m w t : ℕ} → n ≡ m → Going code readings k s at₀ i₀ l₀ l f d i n w t
    → Going code readings k s at₀ i₀ l₀ l f d i m w t
recount {code} {readings} {k} {s} {at₀} {i₀} {l₀} {l} {f} {d} {i} {w = w} {t = t} e G = subst (λ (z : ℕ). Going code readings k s at₀ i₀ l₀ l f d i z w t) e G

-- the operand is put back
pub put : {code readings : List ℕ} {k : ℕ} {s : List ℕ} {at₀ i₀ : ℕ} {l₀ l : List ℕ} {f d i n w t : ℕ} → Going code readings k s at₀ i₀ l₀ l f d i n w t
    → Lands code readings k f s i₀ (went_to (pushed l f d w t) f i) (Ok (landed i n))
put {code} {readings} {k} {s} {i₀ = i₀} {n = n} G =
    let B = put_back G.one in (
      record { held = B.held; upto = G.upto; leads = subst (λ (z : List ℕ). Leads code readings k s i₀ z n) (sym (put-bytes G.one)) G.leads },
      B.runs,
      B.place,
      B.address,
    )

-- two operands aside, and an operator to be done on them
pub record Two (code readings : List ℕ) (k : ℕ) (s : List ℕ) (i₀ : ℕ) (l₀ l : List ℕ) (f d i n c u x y : ℕ) : Type 0 where
  pub spot : ℕ
  pub taken : ℕ
  pub at-spot : spot + 1 ≡ i
  pub so_far : taken + 1 ≡ n
  pub left : Value
  pub right : Value
  pub left-type : u ≡ type_byte left
  pub left_word : x ≡ value_word left
  pub right-word : y ≡ value_word right
  pub aside : Aside code l f d spot (right ∷ (left ∷ []))
  pub op-is : 7 ≡ byte_at code (code_place code spot + 2)
  pub number : c ≡ byte_at code (code_place code spot + 3)
  pub binary : c < 20
  pub more : taken < k
  pub grown : i₀ ≤ taken
  pub long : length l ≡ length l₀
  pub leads : Leads code readings k s i₀ (encode (whole aside)) taken

module _ {code readings : List ℕ} {k : ℕ} {s : List ℕ} {i₀ : ℕ} {l₀ l : List ℕ} {f d i n c u x y : ℕ} (low : Bytes readings) (T : Two code readings k s i₀ l₀ l f d i n c u x y) (r : Worked)
    (W : Works2 c u x y r) where
  pub gives : (at₀ : ℕ) (v : Typed) → r ≡ Ok v → Going code readings k s at₀ i₀ l₀ l f d i n v.word v.ty
  gives at₀ v e =
      let g = gave T.aside readings low T.op-is T.number refl refl T.binary T.left-type T.left_word T.right-word r W v e in
      let G : Going code readings k s at₀ i₀ l₀ l f d (T.spot + 1) (T.taken + 1) v.word v.ty =
      record {
        upto = omega (arith, T.more);
        grown = omega (arith, T.grown);
        fresh = λ q. absurd (omega (arith, T.grown));
        long = T.long;
        one = g.0;
        leads = λ b R. g.1 k T.taken T.more b (T.leads b R);
      } in
      subst (λ (z : ℕ). Going code readings k s at₀ i₀ l₀ l f d i z v.word v.ty) T.so_far (subst (λ (z : ℕ). Going code readings k s at₀ i₀ l₀ l f d z (T.taken + 1) v.word v.ty) T.at-spot G)

  pub breaks : (e : Condition) → r ≡ Err e → Led code readings k s i₀ (conditioned l (number_of e)) n × (byte_at (conditioned l (number_of e)) 0 ≡ 1)
  breaks e q =
      let g = broke T.aside readings low T.op-is T.number refl refl T.binary T.left-type T.left_word T.right-word r W e q (number_of e) refl in
      let L : Led code readings k s i₀ (conditioned l (number_of e)) (T.taken + 1) =
      record { held = g.0; upto = omega (arith, T.more); leads = λ b R. g.2 k T.taken T.more b (T.leads b R) } in
      (subst (λ (z : ℕ). Led code readings k s i₀ (conditioned l (number_of e)) z) T.so_far L, g.1)

  pub break-room : (length l ≡ state_length) × (byte_at l 2 ≤ 32) × (half_at l 4 ≤ 256)
  break-room =
      let few : length T.aside.below < 32 = T.aside.on.few in
      (on-long T.aside.on, omega (arith, read_count T.aside.on), omega (arith, read-records T.aside.on, few-records (now-whole T.aside)))

pub two-room : {code readings : List ℕ} {k : ℕ} {s : List ℕ} {i₀ : ℕ} {l₀ l : List ℕ} {f d i n c u x y : ℕ} → Two code readings k s i₀ l₀ l f d i n c u x y → (i < 65536) × (n ≤ k)
two-room T = (omega (arith, (room_whole T.aside).address, T.at-spot), omega (arith, T.more, T.so_far))

pub some-steps : {code : List ℕ} {p : ℕ} {l : List ℕ} {f n op a b w t room : ℕ} {l' : List ℕ} {c u x y k s : ℕ} → Paired code p l f n op a b w t room l' c u x y k s → 0 < s
some-steps (operates _ _ _ _ _ e) = omega arith
some-steps (pushes _ _ _ _ _ _ _ e) = omega arith
some-steps (loads _ _ _ _ _ _ _ e) = omega arith

-- the next instruction is read
pub record Ready (code readings : List ℕ) (k : ℕ) (s : List ℕ) (at₀ i₀ : ℕ) (l₀ l : List ℕ) (f d i n w t base op a b : ℕ) : Type 0 where
  pub going : Going code readings k s at₀ i₀ l₀ l f d i n w t
  pub low : Bytes readings
  pub coded : Coded code base
  pub more : n < k
  pub op-is : op ≡ byte_at code (base + 8 * i + 2)
  pub a-is : a ≡ byte_at code (base + 8 * i + 3)
  pub b-is : b ≡ word_at code (base + 8 * i + 4)
  pub b-low : b < 4294967296

pub stands : {code readings : List ℕ} {k : ℕ} {s : List ℕ} {at₀ i₀ : ℕ} {l₀ l : List ℕ} {f d i n w t : ℕ} → Going code readings k s at₀ i₀ l₀ l f d i n w t → (base : ℕ) → Coded code base
    → (base + 8 * i + 8 ≤ length code) × (i < 65535) × (base < 65536)
stands G base C = (C.inside _ (in_code G.one.aside), (room_whole G.one.aside).address, C.small)

module _ {code readings : List ℕ} {k : ℕ} {s : List ℕ} {at₀ i₀ : ℕ} {l₀ l : List ℕ} {f d i n w t base op a b : ℕ} (R : Ready code readings k s at₀ i₀ l₀ l f d i n w t base op a b) where
  abbrev O : One code l f d i w t
  O = R.going.one

  abbrev A : Aside code l f d i (O.value ∷ [])
  A = O.aside

  eo : op ≡ byte_at code (code_place code i + 2)
  eo = R.op-is ∙ ap (λ (z : ℕ). byte_at code (z + 8 * i + 2)) R.coded.based

  ea : a ≡ byte_at code (code_place code i + 3)
  ea = R.a-is ∙ ap (λ (z : ℕ). byte_at code (z + 8 * i + 3)) R.coded.based

  eb : b ≡ word_at code (code_place code i + 4)
  eb = R.b-is ∙ ap (λ (z : ℕ). word_at code (z + 8 * i + 4)) R.coded.based

  P : Poised code readings op a b (encode (whole A)) f (length (O.value ∷ []) + d) i
  P = poised-whole A readings R.low eo ea eb

  few-cells : op ≡ 5 → b < 32
  few-cells e = (asks-load P e).1

  behind : {vs : List Value} → Aside code l f d (i + 1) vs → base + 8 * i + 16 ≤ length code
  behind B = omega (arith, R.coded.inside (i + 1) (in_code B))

  pub pair-asks : (length l ≡ state_length) × (f ≤ 10200) × (d ≤ 32) × (op ≡ 1 → base + 8 * i + 16 ≤ length code) × (op ≡ 5 → (base + 8 * i + 16 ≤ length code) × (b < 32)) × (op ≡ 7 → a < 20 → 0 < d)
  pair-asks = (
    on-long A.on,
    (room_whole A).place,
    omega (arith, (room_whole A).depth),
    λ e. behind (steps.pushes A readings R.low eo ea eb e).aside,
    λ e. (behind (steps.loads A readings R.low eo ea eb e (few-cells e)).1.aside, few-cells e),
    λ e h. omega (arith, (asks-operate P e).1 h),
  )

  -- the operator behind the instruction at hand
  next-op : {c room : ℕ} → Follows code (base + 8 * i) room c → (7 ≡ byte_at code (code_place code (i + 1) + 2)) × (c ≡ byte_at code (code_place code (i + 1) + 3))
  next-op F =
      let e = R.coded.based in
      (sym F.op ∙ ap (byte_at code) (omega arith), F.number ∙ ap (byte_at code) (omega arith))

  pub paired : {l' : List ℕ} {c u x y d' m room : ℕ} → room ≡ k - n → Paired code (base + 8 * i) l f d op a b w t room l' c u x y d' m
      → Two code readings k s i₀ l₀ l' f d' (i + m) (n + m) c u x y
  paired {c = c} {u = u} {x = x} {y = y} {d' = d'} {m = m} er (operates e7 ec lo T ey em) =
      let K = take A (λ z. O.value ∷ (z ∷ [])) (λ z us. refl) (omega (arith, (asks-operate P e7).1 (omega arith))) (omega (arith, (room_whole A).depth)) in
      let X : Two code readings k s i₀ l₀ (popped l f (d - 1)) f (d - 1) (i + m) (n + m) c u x y =
      record {
        spot = i;
        taken = n;
        at-spot = omega arith;
        so_far = omega arith;
        left = K.value;
        right = O.value;
        left-type = T.type ∙ K.type;
        left_word = T.word ∙ K.word;
        right-word = ey ∙ O.word;
        aside = K.aside;
        op-is = sym e7 ∙ eo;
        number = ec ∙ ea;
        binary = lo;
        more = R.more;
        grown = R.going.grown;
        long = on-long K.aside.on ∙ sym (on-long A.on) ∙ R.going.long;
        leads = subst (λ (z : Machine). Leads code readings k s i₀ (encode z) n) K.same R.going.leads;
      } in
      subst (λ (z : List ℕ). Two code readings k s i₀ l₀ z f d' (i + m) (n + m) c u x y) (sym T.bytes)
      (subst (λ (z : ℕ). Two code readings k s i₀ l₀ (popped l f (d - 1)) f z (i + m) (n + m) c u x y) (sym T.depth) X)
  paired {c = c} {u = u} {x = x} {y = y} {d' = d'} {m = m} er (pushes e1 F el eu ex ey ed em) =
      let M = steps.pushes A readings R.low eo ea eb e1 in
      let N = next-op F in
      let X : Two code readings k s i₀ l₀ l f d (i + m) (n + m) c u x y =
      record {
        spot = i + 1;
        taken = n + 1;
        at-spot = omega arith;
        so_far = omega arith;
        left = O.value;
        right = int (integer_of b);
        left-type = eu ∙ O.type;
        left_word = ex ∙ O.word;
        right-word = ey ∙ sym (word_back b R.b-low);
        aside = M.aside;
        op-is = N.0;
        number = N.1;
        binary = F.low;
        more = omega (arith, F.allowed);
        grown = omega (arith, R.going.grown);
        long = R.going.long;
        leads = λ z Q. M.leads k n R.more z (R.going.leads z Q);
      } in
      subst (λ (z : List ℕ). Two code readings k s i₀ l₀ z f d' (i + m) (n + m) c u x y) (sym el) (subst (λ (z : ℕ). Two code readings k s i₀ l₀ l f z (i + m) (n + m) c u x y) (sym ed) X)
  paired {c = c} {u = u} {x = x} {y = y} {d' = d'} {m = m} er (loads e5 F C el eu ex ed em) =
      let M = steps.loads A readings R.low eo ea eb e5 (few-cells e5) in
      let N = next-op F in
      let X : Two code readings k s i₀ l₀ l f d (i + m) (n + m) c u x y =
      record {
        spot = i + 1;
        taken = n + 1;
        at-spot = omega arith;
        so_far = omega arith;
        left = O.value;
        right = M.0;
        left-type = eu ∙ O.type;
        left_word = ex ∙ O.word;
        right-word = C.word ∙ (M.2 C.place C.own C.roots).0;
        aside = M.1.aside;
        op-is = N.0;
        number = N.1;
        binary = F.low;
        more = omega (arith, F.allowed);
        grown = omega (arith, R.going.grown);
        long = R.going.long;
        leads = λ z Q. M.1.leads k n R.more z (R.going.leads z Q);
      } in
      subst (λ (z : List ℕ). Two code readings k s i₀ l₀ z f d' (i + m) (n + m) c u x y) (sym el) (subst (λ (z : ℕ). Two code readings k s i₀ l₀ l f z (i + m) (n + m) c u x y) (sym ed) X)

  -- ── the end ──
  pub leave-asks : k < 65536 → (length l ≡ state_length) × (f ≤ 10200) × (d < 32) × (i < 65535) × (n < 65535) × (op ≡ 6 → b < 32) × (op ≡ 9 → b < 65536)
  leave-asks h = (
    on-long A.on,
    (room_whole A).place,
    omega (arith, (room_whole A).depth),
    (room_whole A).address,
    omega (arith, R.more),
    λ e. (asks-store P e).1,
    λ e. (asks-unless P e).1,
  )

  lands-at : {l' : List ℕ} {at' : ℕ} → Back code l' f at' × ((k j : ℕ) → j < k → Leads code readings k (encode (whole A)) j l' (j + 1)) → Lands code readings k f s i₀ l' (Ok (landed at' (n + 1)))
  lands-at B =
      (record { held = B.0.held; upto = omega (arith, R.more); leads = λ z Q. B.1 k n R.more z (R.going.leads z Q) }, B.0.runs, B.0.place, B.0.address)

  pub left : {l' : List ℕ} {r : Landing} → Leaves l f d i n op a b w t l' r → Lands code readings k f s i₀ l' (Ok r)
  left {l'} (stores e g p q el er) =
      subst (λ (z : Landing). Lands code readings k f s i₀ l' (Ok z)) (sym er)
      (subst (λ (z : List ℕ). Lands code readings k f s i₀ z (Ok (landed (i + 1) (n + 1)))) (sym el) (lands-at (steps.stores O readings R.low eo ea eb e (asks-store P e).1 g p q)))
  left {l'} (jumps e z el er) =
      subst (λ (z : Landing). Lands code readings k f s i₀ l' (Ok z)) (sym er)
      (subst (λ (z : List ℕ). Lands code readings k f s i₀ z (Ok (landed b (n + 1)))) (sym el) (lands-at (steps.jumps O readings R.low eo ea eb e z)))
  left {l'} (passes e z el er) =
      subst (λ (z : Landing). Lands code readings k f s i₀ l' (Ok z)) (sym er)
      (subst (λ (z : List ℕ). Lands code readings k f s i₀ z (Ok (landed (i + 1) (n + 1)))) (sym el) (lands-at (steps.passes O readings R.low eo ea eb e z)))
  left {l'} (puts el er) =
      subst (λ (z : Landing). Lands code readings k f s i₀ l' (Ok z)) (sym er) (subst (λ (z : List ℕ). Lands code readings k f s i₀ z (Ok (landed i n))) (sym el) (put R.going))

  -- steps were taken, or the first instruction is at hand still
  pub left-grows : {l' : List ℕ} {r : Landing} → (op ≡ 7 → 20 ≤ a) → Leaves l f d i n op a b w t l' r → Grows code (base + 8 * at₀) i₀ k (Ok r)
  left-grows high (stores e g p q el er) = subst (λ (z : Landing). Grows code (base + 8 * at₀) i₀ k (Ok z)) (sym er) (omega (arith, R.going.grown), λ x y z. omega (arith, R.going.grown))
  left-grows high (jumps e z el er) = subst (λ (z : Landing). Grows code (base + 8 * at₀) i₀ k (Ok z)) (sym er) (omega (arith, R.going.grown), λ x y z. omega (arith, R.going.grown))
  left-grows high (passes e z el er) = subst (λ (z : Landing). Grows code (base + 8 * at₀) i₀ k (Ok z)) (sym er) (omega (arith, R.going.grown), λ x y z. omega (arith, R.going.grown))
  left-grows high (puts el er) = subst (λ (z : Landing). Grows code (base + 8 * at₀) i₀ k (Ok z)) (sym er) (R.going.grown, λ x y z. later x y)
    where
      same_place : n ≡ i₀ → base + 8 * at₀ ≡ base + 8 * i
      same_place e = let q = R.going.fresh e in omega arith

      later : byte_at code (base + 8 * at₀ + 2) ≡ 7 → byte_at code (base + 8 * at₀ + 3) < 20 → i₀ < n
      later x y =
          let not : n ≡ i₀ → ⊥ = λ e.
          let a7 : op ≡ 7 = R.op-is ∙ ap (λ (z : ℕ). byte_at code (z + 2)) (sym (same_place e)) ∙ x in
          let a3 : a ≡ byte_at code (base + 8 * at₀ + 3) = R.a-is ∙ ap (λ (z : ℕ). byte_at code (z + 3)) (sym (same_place e)) in
          omega (arith, high a7) in
          omega (arith, not, R.going.grown)

pub put-grows : {code readings : List ℕ} {k : ℕ} {s : List ℕ} {at₀ i₀ : ℕ} {l₀ l : List ℕ} {f d i n w t : ℕ} (p : ℕ)
    → Going code readings k s at₀ i₀ l₀ l f d i n w t → k ≤ n → Grows code p i₀ k (Ok (landed i n))
put-grows p G h = (G.grown, λ x y z. omega arith)

pub put-asks : {code readings : List ℕ} {k : ℕ} {s : List ℕ} {at₀ i₀ : ℕ} {l₀ l : List ℕ} {f d i n w t : ℕ}
    → Going code readings k s at₀ i₀ l₀ l f d i n w t → (length l ≡ state_length) × (f ≤ 10200) × (d < 32)
put-asks G = let A = G.one.aside in (on-long A.on, (room_whole A).place, omega (arith, (room_whole A).depth))
