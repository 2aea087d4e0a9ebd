-- A run's loop, on the plain machine.
use mathlib.Core.Path.{◌≡◌, refl, sym, ap, ◌∙◌}
use mathlib.Core.Bool.{true}
use mathlib.Core.List.{List, [], ◌∷◌, ◌++◌}
use Prim.Native.Nat.{ℕ, suc, ◌+◌, ◌-◌, ◌≤◌, ◌<◌}
use native.Mathlib.Omega.{arith}
use native.Mathlib.Numerals.{add-one}
use lib.ListN.{length}
use borrow.Author.Tests.{eq-eqb}
use Rattle.words.specs.Numbers.{byte_at}
use Rattle.words.specs.Laws.{Bytes}
use Rattle.values.specs.Ends.{accepted}
use Rattle.values.specs.Trace.{Item, event, reading, readings_in}
use Rattle.bytecode.specs.Macro.{Macro, read_macro}
use Rattle.bytecode.specs.Machine.{Machine, running, unwinding, ended, moved, step}
use Rattle.bytecode.specs.Runs.{bank_of, Ran, after, visible, steps, run}
use Rattle.bytecode.specs.Sound.{sound}
use Rattle.bytecode.specs.State.{encode}
use Rattle.bytecode_laws.specs.Terms.{Passed}
use Rattle.bytecode_safety.specs.Safety.{step-safe}
use Rattle.bytecode_safety.specs.Terms.{ReadsOn}
use Rattle.bytecode_safety.specs.Traces.{readings-append, after-twice}
use Rattle.bytecode_layout.specs.Places.{phase}
use Rattle.bytecode_layout.specs.Reads.{encode-reads}
use Rattle.machine_frames.specs.On.{read-ended}
use Rattle.machine_ops.specs.declared.Event.{Event}
use Rattle.machine_ops.specs.declared.Out.{Out}
use Rattle.machine_ops.specs.declared.Out.TheVariants.{Goes, Reads, Gives, Ends}
use Rattle.machine_ops.specs.Acts.{Are, out_of, event_of}
use Rattle.machine_run.specs.declared.Answer.TheVariants.{Happens, Spends, Finishes}
use Rattle.machine_run.specs.Held.{Held, Steps, ran, Runs, Since, since, Reaches}
use Rattle.machine_run.specs.Held as held
use Rattle.machine_run.proofs.ByteSteps.{in-ended}

pub begin : (code readings l : List ℕ) (k : ℕ) → Reaches code readings k (since l 0) l 0
begin code readings l k m r w s S e =
    record { state = s; sounds = S; bytes = e; before = []; same = ap (λ (j : ℕ). steps m (bank_of readings) j 0 s) (omega arith); counted = refl }

-- a state that is not ended runs on
module _ (code readings l : List ℕ) (sixty-four : length readings ≡ 64) where
  pub run_is : (k : ℕ) (m : Macro) (s : Machine) → l ≡ encode s → (byte_at l 0 ≡ 2 → ⊥) → run m readings k s ≡ steps m (bank_of readings) k 0 s
  unfolding run
  run_is k m (running rs t fs) e n = rw (eq-eqb (length readings) 64 sixty-four)
  run_is k m (unwinding gs a) e n = rw (eq-eqb (length readings) 64 sixty-four)
  run_is k m (ended c) e n = absurd (n (read-ended l c e).0)

  pub ended-runs : (k : ℕ) → (byte_at l 0 ≡ 0 → ⊥) → (byte_at l 0 ≡ 1 → ⊥) → Runs code readings k l l (ran (Finishes (byte_at l 1) 0) 0)
  unfolding run
  ended-runs k n0 n1 m r w s S e = in-ended (λ s. held.Ends (run m readings k s) l (ran (Finishes (byte_at l 1) 0) 0)) l s e n0 n1
      (λ c q. rw (eq-eqb (length readings) 64 sixty-four) (record { answer = ap (λ (x : ℕ). Finishes x 0) (read-ended l c q).1; bytes = q; readings = refl }))

-- ── one step more ──
module _ (code readings l l' : List ℕ) (o : Out) (low : Bytes readings) (X : Steps code readings l l' o) where
  -- what the step came to
  record Next (m : Macro) (s : Machine) : Type 0 where
    items : List Item
    next : Machine
    is : step m (bank_of readings) s ≡ moved items next
    sounds : sound m next ≡ true
    few : length items ≤ 1
    reads_on : ReadsOn items next
    bytes : l' ≡ encode next
    out : o ≡ out_of items next

  next_of : (m : Macro) → read_macro code ≡ accepted m → Passed m → (s : Machine) → sound m s ≡ true → l ≡ encode s → Next m s
  next_of m r w s S e =
      let q = step-safe m w (bank_of readings) (λ k. low (k - 1)) s S in
      let t = (X m r w s S e).are in
      let t' : Are (moved q.0 q.1) l' o = rw q.2 at t in
      record {
        items = q.0;
        next = q.1;
        is = q.2;
        sounds = q.3.still-sound;
        few = q.3.one-item;
        reads_on = q.3.reads_on;
        bytes = t'.0;
        out = t'.1;
      }

  pub held-on : Held code l → Held code l'
  held-on H =
      let x = next_of H.macro H.reads H.passed H.state H.sounds H.bytes in
      record { macro = H.macro; reads = H.reads; passed = H.passed; state = x.next; sounds = x.sounds; bytes = x.bytes }

  -- a step that took a reading left the state running
  pub reads-running : Held code l → o ≡ Reads → byte_at l' 0 ≡ 0
  reads-running H q =
      let x = next_of H.macro H.reads H.passed H.state H.sounds H.bytes in
      by x.items x.next x.reads_on x.bytes (sym q ∙ x.out)
    where
      by : (is : List Item) (t : Machine) → ReadsOn is t → l' ≡ encode t → Reads ≡ out_of is t → byte_at l' 0 ≡ 0
      by is (running rs u us) h e z = rw e (encode-reads phase tt (running rs u us))
      by [] (unwinding gs a) h e z = let z : ◌≡◌ {A = ℕ} 0 1 = cc in absurd (omega arith)
      by (event v ∷ is) (unwinding gs a) h e z = let z : ◌≡◌ {A = ℕ} 0 1 = cc in absurd (omega arith)
      by (reading x y ∷ is) (unwinding gs a) h e z = absurd (omega arith)
      by [] (ended c) h e z = let z : ◌≡◌ {A = ℕ} 0 1 = cc in absurd (omega arith)
      by (event v ∷ is) (ended c) h e z = let z : ◌≡◌ {A = ℕ} 0 1 = cc in absurd (omega arith)
      by (reading x y ∷ is) (ended c) h e z = absurd (omega arith)

  -- the rest of the run, by what the step gave, and how many readings it took
  goes-rest : (is : List Item) (t : Machine) (n : ℕ) (f : Machine → Ran) → Goes ≡ out_of is t → (visible is t n f ≡ f t) × (readings_in is ≡ 0)
  goes-rest [] (running rs u us) n f e = (refl, refl)
  goes-rest [] (unwinding gs a) n f e = (refl, refl)
  goes-rest [] (ended c) n f e = let z : ◌≡◌ {A = ℕ} 0 1 = cc in absurd (omega arith)
  goes-rest (event v ∷ is) t n f e = let z : ◌≡◌ {A = ℕ} 0 1 = cc in absurd (omega arith)
  goes-rest (reading x y ∷ is) t n f e = let z : ◌≡◌ {A = ℕ} 0 1 = cc in absurd (omega arith)

  reads-rest : (is : List Item) (t : Machine) (n : ℕ) (f : Machine → Ran) → length is ≤ 1 → ReadsOn is t → Reads ≡ out_of is t → (visible is t n f ≡ f t) × (readings_in is ≡ 1)
  reads-rest [] (running rs u us) n f k h e = let z : ◌≡◌ {A = ℕ} 0 1 = cc in absurd (omega arith)
  reads-rest [] (unwinding gs a) n f k h e = let z : ◌≡◌ {A = ℕ} 0 1 = cc in absurd (omega arith)
  reads-rest [] (ended c) n f k h e = let z : ◌≡◌ {A = ℕ} 0 1 = cc in absurd (omega arith)
  reads-rest (event v ∷ is) t n f k h e = let z : ◌≡◌ {A = ℕ} 0 1 = cc in absurd (omega arith)
  reads-rest (reading x y ∷ []) (running rs u us) n f k h e = (refl, refl)
  reads-rest (reading x y ∷ []) (unwinding gs a) n f k h e = absurd (omega arith)
  reads-rest (reading x y ∷ []) (ended c) n f k h e = absurd (omega arith)
  reads-rest (reading x y ∷ (j ∷ is)) t n f k h e = absurd (omega arith)

  -- after what was given before, of which c are readings
  module _ (before : List Item) (c : ℕ) (count : c ≡ readings_in before) where
    more-read : (is : List Item) (n : ℕ) → readings_in is ≡ n → c + n ≡ readings_in (before ++ is)
    more-read is n e = omega (arith, readings-append before is)

    gives-rest : (is : List Item) (t : Machine) (n : ℕ) (f : Machine → Ran) (v : Event) → length is ≤ 1 → Gives v ≡ out_of is t → l' ≡ encode t
        → held.Ends (after (before ++ is) (visible is t n f)) l' (ran (Happens v n) c)
    gives-rest [] (running rs u us) n f v k e b = let z : ◌≡◌ {A = ℕ} 0 1 = cc in absurd (omega arith)
    gives-rest [] (unwinding gs a) n f v k e b = let z : ◌≡◌ {A = ℕ} 0 1 = cc in absurd (omega arith)
    gives-rest [] (ended d) n f v k e b = let z : ◌≡◌ {A = ℕ} 0 1 = cc in absurd (omega arith)
    gives-rest (event w ∷ []) t n f v k e b =
        let q : v ≡ event_of w = cc in
        let z = readings-append before (event w ∷ []) in
        let y = readings-append (before ++ (event w ∷ [])) [] in
        record { answer = ap (λ (x : Event). Happens x n) q; bytes = b; readings = omega arith }
    gives-rest (event w ∷ (j ∷ is)) t n f v k e b = absurd (omega arith)
    gives-rest (reading x y ∷ is) t n f v k e b = let z : ◌≡◌ {A = ℕ} 0 1 = cc in absurd (omega arith)

    ends-rest : (is : List Item) (t : Machine) (n : ℕ) (f : Machine → Ran) (d : ℕ) → Ends d ≡ out_of is t → l' ≡ encode t
        → held.Ends (after (before ++ is) (visible is t n f)) l' (ran (Finishes d n) c)
    ends-rest [] (running rs u us) n f d e b = let z : ◌≡◌ {A = ℕ} 0 1 = cc in absurd (omega arith)
    ends-rest [] (unwinding gs a) n f d e b = let z : ◌≡◌ {A = ℕ} 0 1 = cc in absurd (omega arith)
    ends-rest [] (ended v) n f d e b =
        let q : d ≡ v = cc in
        let z = readings-append before [] in
        let y = readings-append (before ++ []) [] in
        record { answer = ap (λ (x : ℕ). Finishes x n) q; bytes = b; readings = omega arith }
    ends-rest (event w ∷ is) t n f d e b = let z : ◌≡◌ {A = ℕ} 0 1 = cc in absurd (omega arith)
    ends-rest (reading x y ∷ is) t n f d e b = let z : ◌≡◌ {A = ℕ} 0 1 = cc in absurd (omega arith)

  module _ (k i : ℕ) (b : Since) (more : i < k) (R : Reaches code readings k b l i) where
    unroll : (m : Macro) (s₀ s : Machine) (x : Next m s) (before : List Item) → steps m (bank_of readings) k 0 s₀ ≡ after before (steps m (bank_of readings) (k - i) i s)
        → steps m (bank_of readings) k 0 s₀ ≡ after (before ++ x.items) (visible x.items x.next (i + 1) (λ t. steps m (bank_of readings) (k - (i + 1)) (i + 1) t))
    unfolding steps
    unroll m s₀ s x before e =
        let j : k - i ≡ suc (k - (i + 1)) = omega arith in
        e ∙ rw (j, x.is, add-one i) (after-twice before x.items _)

    -- with so many readings more
    goes_further : (c : ℕ) → ((m : Macro) (s : Machine) (x : Next m s) (f : Machine → Ran) → (visible x.items x.next (i + 1) f ≡ f x.next) × (readings_in x.items ≡ c))
        → Reaches code readings k (since b.first (b.read + c)) l' (i + 1)
    goes_further c h m r w s S e =
        let p = R m r w s S e in
        let x = next_of m r w p.state p.sounds p.bytes in
        record {
          state = x.next;
          sounds = x.sounds;
          bytes = x.bytes;
          before = p.before ++ x.items;
          same = unroll m s p.state x p.before p.same ∙ ap (after (p.before ++ x.items)) (h m p.state x _).0;
          counted = more-read p.before b.read p.counted x.items c (h m p.state x (λ t. steps m (bank_of readings) k 0 t)).1;
        }

    pub go_on : o ≡ Goes → Reaches code readings k b l' (i + 1)
    go_on q =
        let z : b.read + 0 ≡ b.read = omega arith in
        rw z at (goes_further 0 (λ m s x f. goes-rest x.items x.next (i + 1) f (sym q ∙ x.out)))

    pub read-on : o ≡ Reads → Reaches code readings k (since b.first (b.read + 1)) l' (i + 1)
    read-on q = goes_further 1 (λ m s x f. reads-rest x.items x.next (i + 1) f x.few x.reads_on (sym q ∙ x.out))

    module _ (sixty-four : length readings ≡ 64) (alive : byte_at b.first 0 ≡ 2 → ⊥) where
      pub gave : (v : Event) → o ≡ Gives v → Runs code readings k b.first l' (ran (Happens v (i + 1)) b.read)
      gave v q m r w s S e =
          let p = R m r w s S e in
          let x = next_of m r w p.state p.sounds p.bytes in
          rw (run_is code readings b.first sixty-four k m s e alive, unroll m s p.state x p.before p.same)
          (gives-rest p.before b.read p.counted x.items x.next (i + 1) _ v x.few (sym q ∙ x.out) x.bytes)

      pub finished : (c : ℕ) → o ≡ Ends c → Runs code readings k b.first l' (ran (Finishes c (i + 1)) b.read)
      finished c q m r w s S e =
          let p = R m r w s S e in
          let x = next_of m r w p.state p.sounds p.bytes in
          rw (run_is code readings b.first sixty-four k m s e alive, unroll m s p.state x p.before p.same)
          (ends-rest p.before b.read p.counted x.items x.next (i + 1) _ c (sym q ∙ x.out) x.bytes)

pub spent : (code readings l : List ℕ) (b : Since) (k i : ℕ) → length readings ≡ 64 → (byte_at b.first 0 ≡ 2 → ⊥) → i ≡ k → Reaches code readings k b l i
    → Runs code readings k b.first l (ran (Spends i) b.read)
unfolding steps
spent code readings l b k i sixty-four alive h R m r w s S e =
    let p = R m r w s S e in
    let j : k - i ≡ 0 = omega arith in
    let z = readings-append p.before [] in
    rw (run_is code readings b.first sixty-four k m s e alive, p.same, j) (record { answer = refl; bytes = p.bytes; readings = omega (arith, p.counted) })
