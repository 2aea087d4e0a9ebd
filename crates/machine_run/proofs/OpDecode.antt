-- The instruction of each op's number, and that the op's function does what the instruction does.
use mathlib.Core.Path.{◌≡◌, refl, sym, subst}
use mathlib.Core.Bool.{Bool, true, false, ◌&&◌}
use mathlib.Core.List.{List, [], ◌∷◌}
use mathlib.Core.Option.{none, some}
use Prim.Native.Nat.{ℕ, zero, suc, ◌+◌, ◌≤◌, ◌<◌}
use native.Mathlib.Omega.{arith}
use lib.Dec.{eqb, leb, ltb}
use lib.ListN.{length}
use borrow.Author.Tests.{ne_eqb, ltb-true, leb-true}
use Rattle.bytecode.specs.Words.{log_word}
use Rattle.logic.specs.Choice.{If◌then◌else◌}
use Rattle.words.specs.Numbers.{integer_of}
use Rattle.words.specs.Laws.{word_back}
use Rattle.values.specs.Operators.{Operator}
use Rattle.values.specs.Values.{int, log, bit, ref}
use Rattle.bytecode.specs.Instructions.{Owner, Instr, end, push, load, store, operate, go, go_unless, call, return, make, get_field, put_field, set_level, read_fader}
use Rattle.bytecode.specs.Instructions.{take_hold, let_hold, assert, stop, exactly, stops_by, owner_of, operator_of, instruction}
use Rattle.bytecode.specs.Machine.{no_step, condition, goes_on, do_load, do_store, do_operate, do_go_unless, do_call, do_return, do_end, do_make, do_get_field, do_put_field, do_set}
use Rattle.bytecode.specs.Machine.{do_fader, do_take_hold, letting, do_assert, act}
use Rattle.bytecode.specs.Runs.{bank_of}
use Rattle.machine_ops.specs.declared.Out.{Out}
use Rattle.machine_ops.specs.Acts.{here, Tells, Pushes, Jumps}
use Rattle.logic.specs.Tests.{halves}
use Rattle.logic.specs.OptionLaws.{kept}
use Rattle.machine_ops.proofs.RunningFacts.{demanded}
use Rattle.machine_ops.specs.Moves.{TellsOf}
use Rattle.machine_run.specs.Held.{record_of, Poised, Acts}

-- ── the instruction ──
exact : {A : Type 0} (p : Bool) (y x : A) → exactly p y ≡ some x → (p ≡ true) × (x ≡ y)
exact true y x e = (refl, cc)
exact false y x e = let z : ◌≡◌ {A = ℕ} 0 1 = cc in absurd (omega arith)

module _ (op a b : ℕ) (x : Instr) (d : instruction (record_of op a b) ≡ some x) where
  pub is-end : op ≡ 0 → x ≡ end
  unfolding instruction
  is-end e = (exact (eqb a 0 && eqb b 0) end x (rw e at d)).1

  pub is-integer : op ≡ 1 → x ≡ push (int (integer_of b))
  unfolding instruction
  is-integer e = (exact (eqb a 0) (push (int (integer_of b))) x (rw e at d)).1

  pub is-logical : op ≡ 2 → (x ≡ push (log (eqb b 1))) × (b < 2)
  unfolding instruction
  is-logical e = let q = exact (eqb a 0 && ltb b 2) _ _ (rw e at d) in (q.1, ltb-true b 2 (halves (eqb a 0) (ltb b 2) q.0).1)

  pub is-bits : op ≡ 3 → x ≡ push (bit b)
  unfolding instruction
  is-bits e = (exact (eqb a 0) (push (bit b)) x (rw e at d)).1

  pub is-null : op ≡ 4 → x ≡ push (ref a none)
  unfolding instruction
  is-null e = (exact (eqb b 0) (push (ref a none)) x (rw e at d)).1

  pub is-load : op ≡ 5 → (o : Owner) × (owner_of a ≡ some o) × (x ≡ load o b)
  unfolding instruction
  is-load e = let q = kept (owner_of a) (λ o. some (load o b)) x (rw e at d) in (q.0, q.1, cc q.2)

  pub is_store : op ≡ 6 → (o : Owner) × (owner_of a ≡ some o) × (x ≡ store o b)
  unfolding instruction
  is_store e = let q = kept (owner_of a) (λ o. some (store o b)) x (rw e at d) in (q.0, q.1, cc q.2)

  pub is-operate : op ≡ 7 → (o : Operator) × (operator_of a ≡ some o) × (x ≡ operate o)
  unfolding instruction
  is-operate e = let q = kept (operator_of a) (λ o. exactly (eqb b 0) (operate o)) x (rw e at d) in (q.0, q.1, (exact (eqb b 0) (operate q.0) x q.2).1)

  pub is-go : op ≡ 8 → x ≡ go b
  unfolding instruction
  is-go e = (exact (eqb a 0) (go b) x (rw e at d)).1

  pub is-unless : op ≡ 9 → x ≡ go_unless b
  unfolding instruction
  is-unless e = (exact (eqb a 0) (go_unless b) x (rw e at d)).1

  pub is_call : op ≡ 10 → x ≡ call b
  unfolding instruction
  is_call e = (exact (eqb a 0) (call b) x (rw e at d)).1

  pub is-return : op ≡ 11 → x ≡ return
  unfolding instruction
  is-return e = (exact (eqb a 0 && eqb b 0) return x (rw e at d)).1

  pub is-make : op ≡ 12 → x ≡ make a
  unfolding instruction
  is-make e = (exact (eqb b 0) (make a) x (rw e at d)).1

  pub is_get : op ≡ 13 → x ≡ get_field a b
  unfolding instruction
  is_get e = let q : some (get_field a b) ≡ some x = rw e at d in cc

  pub is-put : op ≡ 14 → x ≡ put_field a b
  unfolding instruction
  is-put e = let q : some (put_field a b) ≡ some x = rw e at d in cc

  pub is_set : op ≡ 15 → x ≡ set_level
  unfolding instruction
  is_set e = (exact (eqb a 0 && eqb b 0) set_level x (rw e at d)).1

  pub is-fader : op ≡ 16 → x ≡ read_fader
  unfolding instruction
  is-fader e = (exact (eqb a 0 && eqb b 0) read_fader x (rw e at d)).1

  pub is-hold : op ≡ 17 → (x ≡ take_hold b) × (b ≤ 63)
  unfolding instruction
  is-hold e = let q = exact (eqb a 0 && leb b 63) _ _ (rw e at d) in (q.1, leb-true b 63 (halves (eqb a 0) (leb b 63) q.0).1)

  pub is-release : op ≡ 18 → x ≡ let_hold
  unfolding instruction
  is-release e = (exact (eqb a 0 && eqb b 0) let_hold x (rw e at d)).1

  pub is-assert : op ≡ 19 → x ≡ assert
  unfolding instruction
  is-assert e = (exact (eqb a 0 && eqb b 0) assert x (rw e at d)).1

-- none of the others
pub data Other (op : ℕ) : Type 0 where
  other : (op ≡ 0 → ⊥) → (op ≡ 1 → ⊥) → (op ≡ 2 → ⊥) → (op ≡ 3 → ⊥) → (op ≡ 4 → ⊥) → (op ≡ 5 → ⊥) → (op ≡ 6 → ⊥) → (op ≡ 7 → ⊥) → (op ≡ 8 → ⊥) → (op ≡ 9 → ⊥) → (op ≡ 10 → ⊥)
      → (op ≡ 11 → ⊥) → (op ≡ 12 → ⊥) → (op ≡ 13 → ⊥) → (op ≡ 14 → ⊥) → (op ≡ 15 → ⊥) → (op ≡ 16 → ⊥) → (op ≡ 17 → ⊥) → (op ≡ 18 → ⊥) → (op ≡ 19 → ⊥) → Other op

pub is_stop : (op a b : ℕ) (x : Instr) → instruction (record_of op a b) ≡ some x → Other op → x ≡ stop a
unfolding instruction
is_stop op a b x d (other n0 n1 n2 n3 n4 n5 n6 n7 n8 n9 n10 n11 n12 n13 n14 n15 n16 n17 n18 n19) = go (eqb op 20) q
  where
    q : (If eqb op 20 then exactly (stops_by a && eqb b 0) (stop a) else none) ≡ some x
    q = rw (
      ne_eqb op 0 n0,
      ne_eqb op 1 n1,
      ne_eqb op 2 n2,
      ne_eqb op 3 n3,
      ne_eqb op 4 n4,
      ne_eqb op 5 n5,
      ne_eqb op 6 n6,
      ne_eqb op 7 n7,
      ne_eqb op 8 n8,
      ne_eqb op 9 n9,
      ne_eqb op 10 n10,
      ne_eqb op 11 n11,
      ne_eqb op 12 n12,
      ne_eqb op 13 n13,
      ne_eqb op 14 n14,
      ne_eqb op 15 n15,
      ne_eqb op 16 n16,
      ne_eqb op 17 n17,
      ne_eqb op 18 n18,
      ne_eqb op 19 n19,
    ) at d

    go : (z : Bool) → (If z then exactly (stops_by a && eqb b 0) (stop a) else none) ≡ some x → x ≡ stop a
    go true e = (exact (stops_by a && eqb b 0) (stop a) x e).1
    go false e = let z : ◌≡◌ {A = ℕ} 0 1 = cc in absurd (omega arith)

-- ── what it does ──
pub as_number : {code readings l : List ℕ} {op k a b f n i : ℕ} → Poised code readings op a b l f n i → op ≡ k → Poised code readings k a b l f n i
as_number {code} {readings} {l} {a = a} {b = b} {f = f} {n = n} {i = i} P e = subst (λ (x : ℕ). Poised code readings x a b l f n i) e P

module _ {code readings : List ℕ} {op a b : ℕ} {l : List ℕ} {f n i : ℕ} (at-hand : Poised code readings op a b l f n i) {k : List ℕ} {o : Out} where
  pub by_end : op ≡ 0 → Tells (λ m h. do_end h) l f n i k o → Acts code readings op a b l f n i k o
  unfolding act
  by_end e T m r rs t fs N x d = rw (is-end op a b x d e) (T m rs t fs N)

  pub by-integer : op ≡ 1 → b < 4294967296 → Pushes b 1 l f n i k o → Acts code readings op a b l f n i k o
  unfolding act
  by-integer e h P m r rs t fs N x d = rw (is-integer op a b x d e) (P (int (integer_of b)) (sym (word_back b h)) refl m rs t fs N)

  pub by-logical : op ≡ 2 → Pushes b 2 l f n i k o → Acts code readings op a b l f n i k o
  unfolding act
  by-logical e P m r rs t fs N x d = let q = is-logical op a b x d e in rw q.0 (P (log (eqb b 1)) (bit_word b q.1) refl m rs t fs N)
    where
      bit_word : (b : ℕ) → b < 2 → b ≡ log_word (eqb b 1)
      bit_word zero h = refl
      bit_word (suc zero) h = refl
      bit_word (suc (suc b)) h = absurd (omega arith)

  pub by_bits : op ≡ 3 → Pushes b 3 l f n i k o → Acts code readings op a b l f n i k o
  unfolding act
  by_bits e P m r rs t fs N x d = rw (is-bits op a b x d e) (P (bit b) refl refl m rs t fs N)

  pub by-null : op ≡ 4 → Pushes 0 (16 + a) l f n i k o → Acts code readings op a b l f n i k o
  unfolding act
  by-null e P m r rs t fs N x d =
      rw (is-null op a b x d e) (demanded (ltb a (length m.classes)) no_step (goes_on [] (ref a none ∷ t.operands) (here rs t fs))
      (λ h. P (ref a none) refl refl m rs t fs N))

  pub by-load : op ≡ 5 → ((w : Owner) → owner_of a ≡ some w → Tells (λ m h. do_load m w b h) l f n i k o) → Acts code readings op a b l f n i k o
  unfolding act
  by-load e T m r rs t fs N x d = let q = is-load op a b x d e in rw q.2 (T q.0 q.1 m rs t fs N)

  pub by-store : op ≡ 6 → ((w : Owner) → owner_of a ≡ some w → Tells (λ m h. do_store m w b h) l f n i k o) → Acts code readings op a b l f n i k o
  unfolding act
  by-store e T m r rs t fs N x d = let q = is_store op a b x d e in rw q.2 (T q.0 q.1 m rs t fs N)

  pub by-operate : op ≡ 7 → ((w : Operator) → operator_of a ≡ some w → Tells (λ m h. do_operate w h) l f n i k o) → Acts code readings op a b l f n i k o
  unfolding act
  by-operate e T m r rs t fs N x d = let q = is-operate op a b x d e in rw q.2 (T q.0 q.1 m rs t fs N)

  pub by-go : op ≡ 8 → Jumps b l f n i k o → Acts code readings op a b l f n i k o
  unfolding act
  by-go e T m r rs t fs N x d = rw (is-go op a b x d e) (T m rs t fs N)

  pub by-unless : op ≡ 9 → Tells (λ m h. do_go_unless b h) l f n i k o → Acts code readings op a b l f n i k o
  unfolding act
  by-unless e T m r rs t fs N x d = rw (is-unless op a b x d e) (T m rs t fs N)

  pub by_call : op ≡ 10 → TellsOf code (λ m h. do_call m b h) l f n i k o → Acts code readings op a b l f n i k o
  unfolding act
  by_call e T m r rs t fs N x d = rw (is_call op a b x d e) (T m r rs t fs N)

  pub by-return : op ≡ 11 → Tells (λ m h. do_return m h) l f n i k o → Acts code readings op a b l f n i k o
  unfolding act
  by-return e T m r rs t fs N x d = rw (is-return op a b x d e) (T m rs t fs N)

  pub by-make : op ≡ 12 → TellsOf code (λ m h. do_make m a h) l f n i k o → Acts code readings op a b l f n i k o
  unfolding act
  by-make e T m r rs t fs N x d = rw (is-make op a b x d e) (T m r rs t fs N)

  pub by-get : op ≡ 13 → Tells (λ m h. do_get_field m a b h) l f n i k o → Acts code readings op a b l f n i k o
  unfolding act
  by-get e T m r rs t fs N x d = rw (is_get op a b x d e) (T m rs t fs N)

  pub by-put : op ≡ 14 → Tells (λ m h. do_put_field m a b h) l f n i k o → Acts code readings op a b l f n i k o
  unfolding act
  by-put e T m r rs t fs N x d = rw (is-put op a b x d e) (T m rs t fs N)

  pub by-set : op ≡ 15 → Tells (λ m h. do_set h) l f n i k o → Acts code readings op a b l f n i k o
  unfolding act
  by-set e T m r rs t fs N x d = rw (is_set op a b x d e) (T m rs t fs N)

  pub by-fader : op ≡ 16 → Tells (λ m h. do_fader (bank_of readings) h) l f n i k o → Acts code readings op a b l f n i k o
  unfolding act
  by-fader e T m r rs t fs N x d = rw (is-fader op a b x d e) (T m rs t fs N)

  pub by-hold : op ≡ 17 → Tells (λ m h. do_take_hold b h) l f n i k o → Acts code readings op a b l f n i k o
  unfolding act
  by-hold e T m r rs t fs N x d = rw (is-hold op a b x d e).0 (T m rs t fs N)

  pub by-release : op ≡ 18 → Tells (λ m h. letting h.top.holds h) l f n i k o → Acts code readings op a b l f n i k o
  unfolding act
  by-release e T m r rs t fs N x d = rw (is-release op a b x d e) (T m rs t fs N)

  pub by-assert : op ≡ 19 → Tells (λ m h. do_assert h) l f n i k o → Acts code readings op a b l f n i k o
  unfolding act
  by-assert e T m r rs t fs N x d = rw (is-assert op a b x d e) (T m rs t fs N)

  pub by-stop : Other op → Tells (λ m h. condition a h) l f n i k o → Acts code readings op a b l f n i k o
  unfolding act
  by-stop e T m r rs t fs N x d = rw (is_stop op a b x d e) (T m rs t fs N)
