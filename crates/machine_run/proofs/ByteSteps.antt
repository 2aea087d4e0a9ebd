-- A step, from what the bytes say of the state and of the macro.
use mathlib.Core.Path.{◌≡◌, refl, sym, ap, ◌∙◌}
use mathlib.Core.Bool.{true}
use mathlib.Core.List.{List, [], ◌∷◌}
use mathlib.Core.Option.{some}
use Prim.Native.Nat.{ℕ, suc, ◌+◌, ◌*◌, ◌-◌, ◌≤◌, ◌<◌}
use native.Mathlib.Omega.{arith}
use lib.Dec.{leb}
use lib.ListN.{length, get_elem?}
use lib.Seq.{sets}
use borrow.Author.Tests.{lt-ltb, leb-true}
use Rattle.words.specs.Numbers.{byte_at, half_at, word_at}
use Rattle.words.specs.Laws.{Bytes}
use Rattle.values.specs.Ends.{accepted, is_condition}
use Rattle.values.specs.Values.{tys_of}
use Rattle.bytecode.specs.Macro.{Macro, shape, read_macro}
use Rattle.bytecode.specs.Instructions.{Instr, instruction, instr_at}
use Rattle.values.specs.Trace.{Item}
use Rattle.bytecode.specs.Machine.{Activation, Shared, end_by, Machine, running, unwinding, ended, moved, act, fetch, step}
use Rattle.bytecode.specs.Runs.{bank_of}
use Rattle.bytecode.specs.Sound.{sound}
use Rattle.bytecode.specs.State.{encode, activation_length, activations_at, holds_at, state_length}
use Rattle.bytecode_laws.specs.Terms.{Passed, Allowed}
use Rattle.bytecode_laws.specs.Promises.{ops, in_code}
use Rattle.bytecode_safety.specs.States.{running-sound}
use Rattle.bytecode_safety.specs.Safety.{step-safe}
use Rattle.load_places.specs.Records.{count, code_place, code_base}
use Rattle.load_check.specs.Views.{code_on, below, viewed}
use Rattle.logic.specs.Tests.{halves}
use Rattle.bytecode_layout.specs.Places.{frame_place, phase}
use Rattle.bytecode_layout.specs.Parts.{length-encode}
use Rattle.bytecode_layout.specs.Reads.{encode-reads}
use Rattle.machine_frames.specs.Bytes.{released}
use Rattle.machine_frames.specs.On.{On, read_count, read-depth, read-address, read-releasing, read-last, read-ended, releases-last, finishes-by}
use Rattle.machine_ops.specs.declared.Event.TheVariants.{Release}
use Rattle.machine_ops.specs.declared.Out.{Out}
use Rattle.machine_ops.specs.declared.Out.TheVariants.{Gives, Ends}
use Rattle.machine_ops.specs.Acts.{here, Now, Told}
use Rattle.machine_run.specs.Held.{Held, record_of, Poised, Acts, Steps}

pub held-long : {code l : List ℕ} → Held code l → length l ≡ state_length
held-long H = rw H.bytes (length-encode H.state)

-- ── which phase ──
-- the state of bytes whose first is 0, 1 and another
in-running : (P : Machine → Type 0) (l : List ℕ) (s : Machine) → l ≡ encode s → byte_at l 0 ≡ 0
    → ((rs : Shared) (t : Activation) (fs : List Activation) → l ≡ encode (running rs t fs) → P (running rs t fs)) → P s
in-running P l (running rs t fs) e z f = f rs t fs e
in-running P l (unwinding gs (end_by c)) e z f = absurd (omega (arith, (read-releasing l c gs e).0))
in-running P l (ended c) e z f = absurd (omega (arith, (read-ended l c e).0))

in-releasing : (P : Machine → Type 0) (l : List ℕ) (s : Machine) → l ≡ encode s → byte_at l 0 ≡ 1 → ((gs : List ℕ) (c : ℕ) → l ≡ encode (unwinding gs (end_by c)) → P (unwinding gs (end_by c))) → P s
in-releasing P l (running rs t fs) e z f =
    let p : byte_at l 0 ≡ 0 = rw e (encode-reads phase tt (running rs t fs)) in
    absurd (omega arith)
in-releasing P l (unwinding gs (end_by c)) e z f = f gs c e
in-releasing P l (ended c) e z f = absurd (omega (arith, (read-ended l c e).0))

pub in-ended : (P : Machine → Type 0) (l : List ℕ) (s : Machine) → l ≡ encode s → (byte_at l 0 ≡ 0 → ⊥) → (byte_at l 0 ≡ 1 → ⊥) → ((c : ℕ) → l ≡ encode (ended c) → P (ended c)) → P s
in-ended P l (running rs t fs) e z o f =
    let p : byte_at l 0 ≡ 0 = rw e (encode-reads phase tt (running rs t fs)) in
    absurd (z p)
in-ended P l (unwinding gs (end_by c)) e z o f = absurd (o (read-releasing l c gs e).0)
in-ended P l (ended c) e z o f = f c e

-- ── a running state ──
-- the numbers that are read
pub record Read (code l : List ℕ) (f n i op a b : ℕ) : Type 0 where
  pub place : f ≡ activations_at + activation_length * (byte_at l 2 - 1)
  pub depth : n ≡ byte_at l (f + 1)
  pub address : i ≡ half_at l (f + 4)
  pub op-is : op ≡ byte_at code (code_place code i + 2)
  pub a-is : a ≡ byte_at code (code_place code i + 3)
  pub b-is : b ≡ word_at code (code_place code i + 4)

-- how many activations there are
pub record Top (l : List ℕ) : Type 0 where
  pub low : 1 ≤ byte_at l 2
  pub high : byte_at l 2 ≤ 32

-- the step of a sound running state, by the instruction that stands at its address
pub record Next (readings : List ℕ) (m : Macro) (rs : Shared) (t : Activation) (fs : List Activation) (op a b : ℕ) : Type 0 where
  pub instr : Instr
  pub decoded : instruction (record_of op a b) ≡ some instr
  pub items : List Item
  pub next : Machine
  pub is : step m (bank_of readings) (running rs t fs) ≡ moved items next
  pub does : act m (bank_of readings) instr (here rs t fs) ≡ moved items next
  pub still : sound m next ≡ true

module _ (code l : List ℕ) (m : Macro) (reads : read_macro code ≡ accepted m) (w : Passed m) (rs : Shared) (t : Activation) (fs : List Activation)
    (sounds : sound m (running rs t fs) ≡ true) (bytes : l ≡ encode (running rs t fs)) where
  on-at : (f : ℕ) → f ≡ activations_at + activation_length * (byte_at l 2 - 1) → On l f rs [] t fs
  on-at f e =
      let few : suc (length fs) ≤ 32 = (running-sound m rs t fs sounds).0.few in
      let p0 : On l (frame_place (length fs)) rs [] t fs = record { few = omega arith; place = refl; bytes = bytes } in
      let c : byte_at l 2 ≡ suc (length fs) = read_count p0 in
      record { few = omega arith; place = omega arith; bytes = bytes }

  allowed : Allowed m t.body t.address (shape (length t.holds) (tys_of t.operands))
  allowed = (running-sound m rs t fs sounds).1.allowed

  now-at : (f n i op a b : ℕ) → Read code l f n i op a b → Now m l f n i rs t fs
  now-at f n i op a b R =
      let p = on-at f R.place in
      record { passed = w; sounds = sounds; on = p; depth = R.depth ∙ read-depth p; address = R.address ∙ read-address p }

  pub in-macro : t.address < count code
  in-macro = rw (← (viewed code m reads).codes) (in_code m w t.body t.address allowed.inside)

  -- the op there, and that a step does it
  op-there : (x : Instr) → instr_at m t.address ≡ some x → (i op a b : ℕ) → i ≡ t.address → op ≡ byte_at code (code_place code i + 2)
      → a ≡ byte_at code (code_place code i + 3) → b ≡ word_at code (code_place code i + 4)
      → instruction (record_of op a b) ≡ some x
  op-there x e i op a b ei eo ea eb =
      let v : get_elem? m.code t.address ≡ below t.address (count code) (code_on code (code_place code t.address)) = (viewed code m reads).code t.address in
      let v1 : get_elem? m.code t.address ≡ some (code_on code (code_place code t.address)) = v ∙ rw (lt-ltb t.address (count code) in-macro) in
      let e1 : instruction (code_on code (code_place code t.address)) ≡ some x = rw v1 at e in
      rw (eo, ea, eb, ei) e1

  step_is : (bank : ℕ → ℕ) (x : Instr) → instr_at m t.address ≡ some x → step m bank (running rs t fs) ≡ act m bank x (here rs t fs)
  unfolding step fetch
  step_is bank x e = rw (allowed.inside, e)

  poised-at : (readings : List ℕ) → Bytes readings → (f n i op a b : ℕ) → Read code l f n i op a b → Poised code readings op a b l f n i
  poised-at readings low f n i op a b R =
      let M = now-at f n i op a b R in
      let o = ops m w t.body t.address (shape (length t.holds) (tys_of t.operands)) allowed in
      let q = step-safe m w (bank_of readings) (λ k. low (k - 1)) (running rs t fs) sounds in
      record {
        macro = m;
        reads = reads;
        shared = rs;
        top = t;
        below = fs;
        at-hand = M;
        instr = o.0;
        decoded = op-there o.0 o.1 i op a b M.address R.op-is R.a-is R.b-is;
        items = q.0;
        next = q.1;
        moves = sym (step_is (bank_of readings) o.0 o.1) ∙ q.2;
        still = q.3.still-sound;
        finds = o.2;
      }

  pub next-at : (readings : List ℕ) → Bytes readings → (i op a b : ℕ) → i ≡ t.address → op ≡ byte_at code (code_place code i + 2) → a ≡ byte_at code (code_place code i + 3)
      → b ≡ word_at code (code_place code i + 4) → Next readings m rs t fs op a b
  next-at readings low i op a b ei eo ea eb =
      let o = ops m w t.body t.address (shape (length t.holds) (tys_of t.operands)) allowed in
      let q = step-safe m w (bank_of readings) (λ k. low (k - 1)) (running rs t fs) sounds in
      record {
        instr = o.0;
        decoded = op-there o.0 o.1 i op a b ei eo ea eb;
        items = q.0;
        next = q.1;
        is = q.2;
        does = sym (step_is (bank_of readings) o.0 o.1) ∙ q.2;
        still = q.3.still-sound;
      }

  told_at : (readings k : List ℕ) (r : Out) (f n i op a b : ℕ) → Read code l f n i op a b → Acts code readings op a b l f n i k r → Told (step m (bank_of readings) (running rs t fs)) k r
  told_at readings k r f n i op a b R A =
      let M = now-at f n i op a b R in
      let o = ops m w t.body t.address (shape (length t.holds) (tys_of t.operands)) allowed in
      rw (step_is (bank_of readings) o.0 o.1) (A m reads rs t fs M o.0 (op-there o.0 o.1 i op a b M.address R.op-is R.a-is R.b-is))

module _ (code l : List ℕ) where
  pub top_of : Held code l → byte_at l 0 ≡ 0 → Top l
  top_of H z = in-running (λ s. sound H.macro s ≡ true → Top l) l H.state H.bytes z (λ rs t fs e s. go rs t fs e s) H.sounds
    where
      go : (rs : Shared) (t : Activation) (fs : List Activation) → l ≡ encode (running rs t fs) → sound H.macro (running rs t fs) ≡ true → Top l
      go rs t fs e s =
          let few : suc (length fs) ≤ 32 = (running-sound H.macro rs t fs s).0.few in
          let p0 : On l (frame_place (length fs)) rs [] t fs = record { few = omega arith; place = refl; bytes = e } in
          let c : byte_at l 2 ≡ suc (length fs) = read_count p0 in
          record { low = omega arith; high = omega arith }

  -- the address is one of the macro's
  pub address-in : Held code l → byte_at l 0 ≡ 0 → (f i : ℕ) → f ≡ activations_at + activation_length * (byte_at l 2 - 1) → i ≡ half_at l (f + 4) → i < count code
  address-in H z f i ef ei = in-running (λ s. sound H.macro s ≡ true → i < count code) l H.state H.bytes z (λ rs t fs e s.
      rw (ei ∙ read-address (on-at code l H.macro H.reads H.passed rs t fs s e f ef)) (in-macro code l H.macro H.reads H.passed rs t fs s e)) H.sounds

  pub poised : (readings : List ℕ) → Bytes readings → Held code l → byte_at l 0 ≡ 0 → (f n i op a b : ℕ) → Read code l f n i op a b → Poised code readings op a b l f n i
  poised readings low H z f n i op a b R = in-running (λ s. sound H.macro s ≡ true → Poised code readings op a b l f n i) l H.state H.bytes z
      (λ rs t fs e s. poised-at code l H.macro H.reads H.passed rs t fs s e readings low f n i op a b R) H.sounds

  pub running-steps : (readings k : List ℕ) (r : Out) → byte_at l 0 ≡ 0 → (f n i op a b : ℕ) → Read code l f n i op a b → Acts code readings op a b l f n i k r → Steps code readings l k r
  running-steps readings k r z f n i op a b R A m reads w s sounds bytes = in-running (λ s. sound m s ≡ true → Told (step m (bank_of readings) s) k r) l s bytes z
      (λ rs t fs e q. told_at code l m reads w rs t fs q e readings k r f n i op a b R A) sounds

-- ── a releasing state ──
module _ (code l : List ℕ) where
  pub few-open : Held code l → byte_at l 0 ≡ 1 → half_at l 6 ≤ 512
  unfolding sound
  few-open H z = in-releasing (λ s. sound H.macro s ≡ true → half_at l 6 ≤ 512) l H.state H.bytes z (λ gs c e s.
      let a = halves (is_condition c) _ s in
      let b = halves (leb (length gs) 512) _ a.1 in
      rw (read-releasing l c gs e).2 (leb-true (length gs) 512 b.0)) H.sounds

  pub releasing-ends : (readings k : List ℕ) (r : Out) (h c : ℕ) → byte_at l 0 ≡ 1 → h ≡ half_at l 6 → h ≡ 0 → k ≡ sets l 0 (2 ∷ []) → r ≡ Ends (byte_at l 1) → Steps code readings l k r
  unfolding step
  releasing-ends readings k r h c z eh e0 ek er m reads w s sounds bytes = in-releasing (λ s. Told (step m (bank_of readings) s) k r) l s bytes z (λ gs d e. go gs d e)
    where
      go : (gs : List ℕ) (d : ℕ) → l ≡ encode (unwinding gs (end_by d)) → Told (step m (bank_of readings) (unwinding gs (end_by d))) k r
      go [] d e = record { are = (ek ∙ finishes-by l d e, er ∙ ap Ends (read-releasing l d [] e).1) }
      go (g ∷ gs) d e = absurd (omega (arith, (read-releasing l d (g ∷ gs) e).2))

  pub releasing-gives : (readings k : List ℕ) (h g : ℕ) → byte_at l 0 ≡ 1 → h ≡ half_at l 6 → (h ≡ 0 → ⊥) → h ≤ 512 → g ≡ byte_at l (holds_at + (h - 1))
      → k ≡ released l (h - 1) → Steps code readings l k (Gives (Release g))
  unfolding step
  releasing-gives readings k h g z eh nz few eg ek m reads w s sounds bytes = in-releasing (λ s. Told (step m (bank_of readings) s) k (Gives (Release g))) l s bytes z (λ gs d e. go gs d e)
    where
      go : (gs : List ℕ) (d : ℕ) → l ≡ encode (unwinding gs (end_by d)) → Told (step m (bank_of readings) (unwinding gs (end_by d))) k (Gives (Release g))
      go [] d e = absurd (nz (eh ∙ (read-releasing l d [] e).2))
      go (x ∷ gs) d e =
          let c : half_at l 6 ≡ suc (length gs) = (read-releasing l d (x ∷ gs) e).2 in
          let n : h - 1 ≡ length gs = omega arith in
          record { are = (ek ∙ releases-last l d x gs (h - 1) e n (omega arith), ap (λ (y : ℕ). Gives (Release y)) (eg ∙ read-last l d x gs (h - 1) e n (omega arith))) }

-- the numbers as the code reads them
pub read_of : (code l : List ℕ) (base w f n i op a b : ℕ) → base ≡ code_base code → w ≡ byte_at l 2 → f ≡ activations_at + activation_length * (w - 1) → n ≡ byte_at l (f + 1) → i ≡ half_at l (f + 4)
    → op ≡ byte_at code (base + 8 * i + 2) → a ≡ byte_at code (base + 8 * i + 3) → b ≡ word_at code (base + 8 * i + 4) → Read code l f n i op a b
read_of code l base w f n i op a b eb ew ef en ei eo ea e4 =
    record { place = ef ∙ rw ew; depth = en; address = ei; op-is = eo ∙ rw eb; a-is = ea ∙ rw eb; b-is = e4 ∙ rw eb }
