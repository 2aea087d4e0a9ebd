-- What the loop keeps beside the bytes, after an op: the place of the top activation and its address.
use mathlib.Core.Path.{◌≡◌, refl, sym, ap, ◌∙◌, subst}
use mathlib.Core.Bool.{Bool, true, false}
use mathlib.Core.List.{List, [], ◌∷◌}
use mathlib.Core.Option.{some}
use Prim.Native.Nat.{ℕ, suc, ◌+◌, ◌≤◌}
use native.Mathlib.Omega.{arith}
use lib.Dec.{eqb}
use lib.ListN.{length}
use borrow.Author.Tests.{eqb-true, eqb-false}
use Rattle.words.specs.Numbers.{byte_at, half_at}
use Rattle.values.specs.Trace.{Item, event, reading}
use Rattle.bytecode.specs.Instructions.{Instr, instruction}
use Rattle.bytecode.specs.Machine.{Activation, Shared, end_by, Machine, running, unwinding, ended, moved, act}
use Rattle.bytecode.specs.Runs.{bank_of}
use Rattle.bytecode.specs.Sound.{sound}
use Rattle.bytecode.specs.State.{encode}
use Rattle.bytecode_safety.specs.States.{running-sound}
use Rattle.bytecode_layout.specs.Places.{frame_place, phase, activations}
use Rattle.bytecode_layout.specs.Reads.{encode-reads}
use Rattle.machine_frames.specs.On.{On, read_count, read-address, read-releasing, read-ended}
use Rattle.machine_ops.specs.declared.Out.{Out}
use Rattle.machine_ops.specs.declared.Out.TheVariants.{Goes}
use Rattle.machine_ops.specs.Acts.{here, out_of}
use Rattle.machine_run.specs.Held.{record_of, Poised, Acts}
use Rattle.machine_run.proofs.OpDecode.{is-end, is-integer, is-logical, is-bits, is-null, is-load, is_store, is-operate, is-go, is-unless, is-return, is-make}
use Rattle.machine_run.proofs.OpDecode.{is_get, is-put, is_set, is-fader, is-hold, is-release, is-assert, is_stop, other}
use Rattle.machine_run.proofs.StepKeeps.{Plain, Next, onward, Within, jumps, jumps-unless, Ran, returns}

-- ── which ops are plain ──
decide : {A : Type 0} (op k : ℕ) → (op ≡ k → A) → ((op ≡ k → ⊥) → A) → A
decide {A} op k is not = by (eqb op k) refl
  where
    by : (t : Bool) → eqb op k ≡ t → A
    by true e = is (eqb-true op k e)
    by false e = not (eqb-false op k e)

plain_op : (op a b : ℕ) (x : Instr) → instruction (record_of op a b) ≡ some x → (op ≡ 8 → ⊥) → (op ≡ 9 → ⊥) → (op ≡ 10 → ⊥) → (op ≡ 11 → ⊥) → Plain x
plain_op op a b x d n8 n9 n10 n11 =
    decide op 0 (λ e. rw (is-end op a b x d e) tt) (λ n0.
    decide op 1 (λ e. rw (is-integer op a b x d e) tt) (λ n1.
    decide op 2 (λ e. rw (is-logical op a b x d e).0 tt) (λ n2.
    decide op 3 (λ e. rw (is-bits op a b x d e) tt) (λ n3.
    decide op 4 (λ e. rw (is-null op a b x d e) tt) (λ n4.
    decide op 5 (λ e. rw (is-load op a b x d e).2 tt) (λ n5.
    decide op 6 (λ e. rw (is_store op a b x d e).2 tt) (λ n6.
    decide op 7 (λ e. rw (is-operate op a b x d e).2 tt) (λ n7.
    decide op 12 (λ e. rw (is-make op a b x d e) tt) (λ n12.
    decide op 13 (λ e. rw (is_get op a b x d e) tt) (λ n13.
    decide op 14 (λ e. rw (is-put op a b x d e) tt) (λ n14.
    decide op 15 (λ e. rw (is_set op a b x d e) tt) (λ n15.
    decide op 16 (λ e. rw (is-fader op a b x d e) tt) (λ n16.
    decide op 17 (λ e. rw (is-hold op a b x d e).0 tt) (λ n17.
    decide op 18 (λ e. rw (is-release op a b x d e) tt) (λ n18.
    decide op 19 (λ e. rw (is-assert op a b x d e) tt) (λ n19.
    rw (is_stop op a b x d (other n0 n1 n2 n3 n4 n5 n6 n7 n8 n9 n10 n11 n12 n13 n14 n15 n16 n17 n18 n19)) tt))))))))))))))))

-- ── after an op, by the bytes that it left ──
module _ (code readings l : List ℕ) (op a b f n i : ℕ) (P : Poised code readings op a b l f n i) (k : List ℕ) (o : Out) (A : Acts code readings op a b l f n i k o) where
  are : (k ≡ encode P.next) × (o ≡ out_of P.items P.next)
  are = rw P.moves at (A P.macro P.reads P.shared P.top P.below P.at-hand P.instr P.decoded).are

  is-running : (rs : Shared) (u : Activation) (us : List Activation) → k ≡ encode (running rs u us) → byte_at k 0 ≡ 0
  is-running rs u us e = rw e (encode-reads phase tt (running rs u us))

  -- a step that gave nothing and left off running is releasing
  pub releasing : o ≡ Goes → (byte_at k 0 ≡ 0 → ⊥) → byte_at k 0 ≡ 1
  releasing q not = by P.items P.next are.0 (sym q ∙ are.1)
    where
      by : (is : List Item) (s : Machine) → k ≡ encode s → Goes ≡ out_of is s → byte_at k 0 ≡ 1
      by is (running rs u us) e h = absurd (not (is-running rs u us e))
      by is (unwinding gs (end_by c)) e h = (read-releasing k c gs e).0
      by [] (ended c) e h = let z : ◌≡◌ {A = ℕ} 0 1 = cc h in absurd (omega arith)
      by (event v ∷ is) (ended c) e h = let z : ◌≡◌ {A = ℕ} 0 1 = cc h in absurd (omega arith)
      by (reading x v ∷ is) (ended c) e h = let z : ◌≡◌ {A = ℕ} 0 1 = cc h in absurd (omega arith)

  counts : (rs : Shared) (u : Activation) (us : List Activation) → k ≡ encode (running rs u us) → sound P.macro (running rs u us) ≡ true → length us ≡ length P.below
      → On k f rs [] u us
  counts rs u us e s c =
      let few : suc (length us) ≤ 32 = (running-sound P.macro rs u us s).0.few in
      record { few = omega arith; place = P.at-hand.on.place ∙ ap frame_place (sym c); bytes = e }

  same_count : {rs : Shared} {u : Activation} {us : List Activation} → On k f rs [] u us → length us ≡ length P.below → byte_at k 2 ≡ byte_at l 2
  same_count q c = read_count q ∙ ap suc c ∙ sym (read_count P.at-hand.on)

  pub goes-on : (op ≡ 8 → ⊥) → (op ≡ 9 → ⊥) → (op ≡ 10 → ⊥) → (op ≡ 11 → ⊥) → byte_at k 0 ≡ 0 → (byte_at k 2 ≡ byte_at l 2) × (half_at k (f + 4) ≡ i + 1)
  goes-on n8 n9 n10 n11 z =
      by P.next are.0 P.still
      (subst (Next P.top P.below) P.moves (onward P.top P.below P.macro (bank_of readings) P.shared P.instr (plain_op op a b P.instr P.decoded n8 n9 n10 n11)).next)
    where
      by : (s : Machine) → k ≡ encode s → sound P.macro s ≡ true → Next P.top P.below (moved P.items s) → (byte_at k 2 ≡ byte_at l 2) × (half_at k (f + 4) ≡ i + 1)
      by (running rs u us) e s x =
          let q = counts rs u us e s x.1 in
          let j : suc P.top.address ≡ i + 1 = omega (arith, P.at-hand.address) in
          (same_count q x.1, read-address q ∙ x.0 ∙ j)
      by (unwinding gs (end_by c)) e s x = absurd (omega (arith, (read-releasing k c gs e).0))
      by (ended c) e s x = absurd (omega (arith, (read-ended k c e).0))

  within : Within (length P.below) (act P.macro (bank_of readings) P.instr (here P.shared P.top P.below)) → (byte_at k 0 ≡ 0) × (byte_at k 2 ≡ byte_at l 2)
  within w = by P.next are.0 P.still (subst (Within (length P.below)) P.moves w)
    where
      by : (s : Machine) → k ≡ encode s → sound P.macro s ≡ true → Within (length P.below) (moved P.items s) → (byte_at k 0 ≡ 0) × (byte_at k 2 ≡ byte_at l 2)
      by (running rs u us) e s x = (is-running rs u us e, same_count (counts rs u us e s x) x)
      by (unwinding gs (end_by c)) e s x = absurd x
      by (ended c) e s x = absurd x

  pub goes-to : op ≡ 8 → (byte_at k 0 ≡ 0) × (byte_at k 2 ≡ byte_at l 2)
  goes-to e = within (rw (is-go op a b P.instr P.decoded e) (jumps P.macro (bank_of readings) P.shared P.top P.below b))

  pub goes-unless : op ≡ 9 → (byte_at k 0 ≡ 0) × (byte_at k 2 ≡ byte_at l 2)
  goes-unless e = within (rw (is-unless op a b P.instr P.decoded e) (jumps-unless P.macro (bank_of readings) P.shared P.top P.below b))

  -- and in the activation below
  pub comes_back : op ≡ 11 → (byte_at k 0 ≡ 0) × (suc (byte_at k 2) ≡ byte_at l 2)
  comes_back e =
      by P.next are.0
      (subst (Ran (length P.below)) P.moves (rw (is-return op a b P.instr P.decoded e) (returns P.macro (bank_of readings) P.shared P.top P.below).ran))
    where
      by : (s : Machine) → k ≡ encode s → Ran (length P.below) (moved P.items s) → (byte_at k 0 ≡ 0) × (suc (byte_at k 2) ≡ byte_at l 2)
      by (running rs u us) e x =
          let count : byte_at k 2 ≡ suc (length us) = rw e (encode-reads activations tt (running rs u us)) in
          (is-running rs u us e, ap suc (count ∙ x) ∙ sym (read_count P.at-hand.on))
      by (unwinding gs a) e x = absurd x
      by (ended c) e x = absurd x
