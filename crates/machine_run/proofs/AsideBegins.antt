-- From the bytes to an operand aside, and back into the step loop.
use mathlib.Core.Path.{◌≡◌, refl, sym, ap, ◌∙◌, subst}
use mathlib.Core.Bool.{true}
use mathlib.Core.List.{List, [], ◌∷◌}
use Prim.Native.Nat.{ℕ, ◌+◌, ◌*◌, ◌-◌, ◌≤◌, ◌<◌}
use native.Mathlib.Omega.{arith}
use lib.ListN.{length}
use Rattle.words.specs.Numbers.{byte_at, integer_of}
use Rattle.words.specs.Laws.{word_back}
use Rattle.values.specs.Values.{int}
use Rattle.bytecode.specs.Machine.{running, at}
use Rattle.bytecode.specs.Sound.{sound}
use Rattle.bytecode.specs.State.{encode, state_length}
use Rattle.load_check.specs.Lookups.{code_of}
use Rattle.machine_frames.specs.Bytes.{went_to, pushed, popped}
use Rattle.std.specs.Prelude.{Ok, Err}
use Rattle.machine_run.specs.declared.aside.Landing.{Landing}
use Rattle.machine_run.specs.Held.{Found, Held, Poised, Since, Reaches}
use Rattle.machine_run.specs.Aside.{Coded, Aside, One, Leads, Begin, loads, pushes, takes, Lands, Grows}
use Rattle.machine_run.proofs.OpAsks.{room, asks-load, asks-operate}
use Rattle.machine_run.proofs.LoopInvariant.{Loop, Ready, poise}
use Rattle.machine_run.proofs.AsideSteps.{whole, take, put-bytes}
use Rattle.machine_run.proofs.AsideSteps as steps

pub coded : {code bodies classes : List ℕ} {base : ℕ} → Found code bodies classes base → Coded code base
coded F = record { based = F.based; small = F.small; inside = λ i h. omega (arith, F.based, code_of _ F.bodied.well _ h) }

module _ {code readings : List ℕ} {k : ℕ} {b₀ : Since} {l : List ℕ} {f at' i n op a b : ℕ} (R : Ready code readings k b₀ l f at' i n op a b) where
  abbrev P : Poised code readings op a b l f n at'
  P = poise R

  pub begin-asks : (length l ≡ state_length) × (f ≤ 10200) × (n ≤ 32) × (op ≡ 5 → b < 32) × (op ≡ 7 → 0 < n)
  begin-asks = let r = room P.at-hand in (r.long, r.place, r.depth, λ e. (asks-load P e).1, λ e. (asks-operate P e).0)

  -- with nothing aside yet
  abbrev none : Aside code l f n at' []
  none =
      record {
        macro = P.macro;
        reads = P.reads;
        passed = P.at-hand.passed;
        shared = P.shared;
        top = P.top;
        below = P.below;
        on = P.at-hand.on;
        depth = P.at-hand.depth;
        sounds = subst (λ (z : ℕ). sound P.macro (running P.shared (at z P.top.operands P.top) P.below) ≡ true) (sym P.at-hand.address) P.at-hand.sounds;
      }

  bytes-are : l ≡ encode (whole none)
  bytes-are = P.at-hand.on.bytes ∙ ap (λ (z : ℕ). encode (running P.shared (at z P.top.operands P.top) P.below)) (sym P.at-hand.address)

  -- the operand is aside, and the loop comes to that
  abbrev pub Set : List ℕ → ℕ → ℕ → ℕ → ℕ → Type 0
  Set l' w t d s = One code l' f d (at' + s) w t × Leads code readings k l i (went_to (pushed l' f d w t) f (at' + s)) (i + s)

  moved : (l' l'' : List ℕ) (w t d d' s s' : ℕ) → l'' ≡ l' → d' ≡ d → s' ≡ s → Set l' w t d s → Set l'' w t d' s'
  moved l' l'' w t d d' s s' el ed es S =
      subst (λ (z : List ℕ). Set z w t d' s') (sym el) (subst (λ (z : ℕ). Set l' w t z s') (sym ed) (subst (λ (z : ℕ). Set l' w t d z) (sym es) S))

  stepped : {w t : ℕ} (O : One code l f n (at' + 1) w t) → ((k j : ℕ) → j < k → Leads code readings k (encode (whole none)) j (encode (whole O.aside)) (j + 1)) → i < k → Set l w t n 1
  stepped O L more = (
    O,
    λ z Q. subst (λ (y : List ℕ). Reaches code readings k z y (i + 1)) (sym (put-bytes O)) (L k i more z (subst (λ (y : List ℕ). Reaches code readings k z y i) bytes-are Q)),
  )

  pub begun : b < 4294967296 → i < k → {l' : List ℕ} {w t d s : ℕ} → Begin l f n op a b l' w t d s → Set l' w t d s
  begun low more {l'} {w} {t} {d} {s} (loads e c et el ed es) =
      let M = steps.loads none readings R.low R.read.op-is R.read.a-is R.read.b-is e (asks-load P e).1 in
      let v = M.2 c.place c.own c.roots in
      let O : One code l f n (at' + 1) w t = record { value = M.0; word = c.word ∙ v.0; type = et ∙ v.1; aside = M.1.aside } in
      moved l l' w t n d 1 s el ed es (stepped O M.1.leads more)
  begun low more {l'} {w} {t} {d} {s} (pushes e ew et el ed es) =
      let M = steps.pushes none readings R.low R.read.op-is R.read.a-is R.read.b-is e in
      let O : One code l f n (at' + 1) w t = record { value = int (integer_of b); word = ew ∙ sym (word_back b low); type = et; aside = M.aside } in
      moved l l' w t n d 1 s el ed es (stepped O M.leads more)
  begun low more {l'} {w} {t} {d} {s} (takes e h T es) =
      let K = take none (λ z. z ∷ []) (λ z us. refl) (asks-operate P e).0 (room P.at-hand).depth in
      let O : One code (popped l f (n - 1)) f (n - 1) at' w t = record { value = K.value; word = T.word ∙ K.word; type = T.type ∙ K.type; aside = K.aside } in
      let q : l ≡ went_to (pushed (popped l f (n - 1)) f (n - 1) w t) f at' = bytes-are ∙ ap encode K.same ∙ sym (put-bytes O) in
      let L : Leads code readings k l i (went_to (pushed (popped l f (n - 1)) f (n - 1) w t) f at') i = λ z Q. subst (λ (y : List ℕ). Reaches code readings k z y i) q Q in
      let S : Set (popped l f (n - 1)) w t (n - 1) 0 = (
        subst (λ (z : ℕ). One code (popped l f (n - 1)) f (n - 1) z w t) (omega arith) O,
        subst (λ (z : ℕ). Leads code readings k l i (went_to (pushed (popped l f (n - 1)) f (n - 1) w t) f (at' + 0)) z) (omega arith)
            (subst (λ (z : ℕ). Leads code readings k l i (went_to (pushed (popped l f (n - 1)) f (n - 1) w t) f z) i) (omega arith) L),
      ) in
      moved (popped l f (n - 1)) l' w t (n - 1) d 0 s T.bytes T.depth es S

  pub one-step : {l' : List ℕ} {w t d s : ℕ} → Begin l f n op a b l' w t d s → s ≤ 1
  one-step (loads e c et el ed es) = omega arith
  one-step (pushes e ew et el ed es) = omega arith
  one-step (takes e h T es) = omega arith

  -- steps are taken
  pub grows : (base : ℕ) → op ≡ byte_at code (base + 8 * at' + 2) → a ≡ byte_at code (base + 8 * at' + 3) → i < k → {l' : List ℕ} {w t d s : ℕ} (r : Landing) → Begin l f n op a b l' w t d s
      → Grows code (base + 8 * (at' + s)) (i + s) k (Ok r) → i < r.taken
  grows base eo ea more r (loads e c et el ed es) G = omega (arith, G.0)
  grows base eo ea more r (pushes e ew et el ed es) G = omega (arith, G.0)
  grows base eo ea more {s = s} r (takes e h T es) G =
      let p : base + 8 * (at' + s) ≡ base + 8 * at' = omega arith in
      let e7 : byte_at code (base + 8 * (at' + s) + 2) ≡ 7 = ap (λ (z : ℕ). byte_at code (z + 2)) p ∙ sym eo ∙ e in
      let e3 : byte_at code (base + 8 * (at' + s) + 3) ≡ a = ap (λ (z : ℕ). byte_at code (z + 3)) p ∙ sym ea in
      omega (arith, G.1 e7 (omega arith) (omega arith))

  pub landed : {l' l'' : List ℕ} {w t d : ℕ} {r : Landing} (s : ℕ) → Set l' w t d s → Lands code readings k f (went_to (pushed l' f d w t) f (at' + s)) (i + s) l'' (Ok r) → length l'' ≡ length l
      → i ≤ r.taken → Loop code readings k b₀ l'' f r.address r.taken
  landed s S L e h =
      record {
        upto = L.0.upto;
        few = omega (arith, R.loop.few);
        held = L.0.held;
        long = e ∙ R.loop.long;
        reached = L.0.leads b₀ (S.1 b₀ R.loop.reached);
        kept = record { phase = L.1; place = L.2; address = L.3 };
      }

  pub broken : {l' l'' : List ℕ} {w t d j : ℕ} (s : ℕ) → Set l' w t d s → Lands code readings k f (went_to (pushed l' f d w t) f (at' + s)) (i + s) l'' (Err j)
      → Held code l'' × (byte_at l'' 0 ≡ 1) × (j ≤ k) × Reaches code readings k b₀ l'' j
  broken s S L = (L.0.held, L.1, L.0.upto, L.0.leads b₀ (S.1 b₀ R.loop.reached))
