-- What is known of a sound running state, and of steps that are told.
use mathlib.Core.Path.{◌≡◌, refl, sym, ap, ◌∙◌}
use mathlib.Core.Bool.{Bool, true, false}
use mathlib.Core.List.{List, []}
use mathlib.Core.Logic.{◌⊎◌, inl, inr}
use mathlib.Core.Option.{Option, none, some}
use Prim.Native.Nat.{ℕ, suc, ◌≤◌, ◌<◌}
use native.Mathlib.Omega.{arith}
use lib.Dec.{eqb, leb}
use lib.IntN.{ℤ, pos, negsuc}
use lib.ListN.{length}
use lib.Signed.{mag}
use borrow.Author.Tests.{ltb-true, eqb-true, le-leb, lt-leb}
use Rattle.bytecode.specs.Words.{value_word, valid_word, word_value}
use Rattle.logic.specs.Choice.{If◌then◌else◌}
use Rattle.words.specs.Numbers.{word_of}
use Rattle.words.specs.Laws.{integer-back}
use Rattle.values.specs.Values.{Value, int, log, bit, ref, ty_of, tys_of, between, size, Cell}
use Rattle.bytecode.specs.Macro.{Macro, shape}
use Rattle.bytecode.specs.Instructions.{Owner, own, root, owner_of}
use Rattle.bytecode.specs.Machine.{Activation, Made, Shared, running, Stuck, bad_frame, Stepped, moved, demand, given, at, goes_on, max_operands}
use Rattle.bytecode.specs.Sound.{sound_value}
use Rattle.bytecode.specs.State.{encode}
use Rattle.bytecode_laws.specs.Promises.{limits}
use Rattle.values.specs.Identical.{length_types}
use Rattle.bytecode_safety.specs.States.{running-sound, Stands, Around}
use Rattle.bytecode_layout.specs.Steps.{activation}
use Rattle.machine_frames.specs.Bytes.{went_to}
use Rattle.machine_frames.specs.On.{On, on_go}
use Rattle.machine_ops.specs.declared.Out.{Out}
use Rattle.values.specs.Trace.{Item}
use Rattle.machine_ops.specs.Acts.{here, Now, Told, out_of}
use Rattle.logic.specs.Tests.{and-false}

-- ── a sound state ──
module _ {m : Macro} {l : List ℕ} {f n i : ℕ} {rs : Shared} {t : Activation} {fs : List Activation} (N : Now m l f n i rs t fs) where
  pub around : Around m (record { shared = rs; top = t; below = fs })
  around = (running-sound m rs t fs N.sounds).0

  pub stands : Stands m rs.records [] t
  stands = (running-sound m rs t fs N.sounds).1

  pub few-operands : length t.operands ≤ 32
  few-operands = omega (arith, length_types t.operands, (limits m N.passed t.body t.address (shape (length t.holds) (tys_of t.operands)) stands.allowed).1)

  pub few-holds : length t.holds ≤ 16
  few-holds = (limits m N.passed t.body t.address (shape (length t.holds) (tys_of t.operands)) stands.allowed).0

  pub few-records : length rs.records ≤ 256
  few-records = around.few-records

-- a sound value is that of its word
pub value-back : (rs : List Made) (v : Value) → sound_value rs v ≡ true → word_value (ty_of v) (value_word v) ≡ v
unfolding sound_value
value-back rs (int z) h = ap int (integer-back z (record { sfits = ltb-true (mag z) 2147483648 h }))
value-back rs (log false) h = refl
value-back rs (log true) h = refl
value-back rs (bit n) h = refl
value-back rs (ref c none) h = refl
value-back rs (ref c (some n)) h = refl

pub word-valid : (v : Value) → valid_word (ty_of v) (value_word v) ≡ true
word-valid (int z) = refl
word-valid (log false) = refl
word-valid (log true) = refl
word-valid (bit n) = refl
word-valid (ref c r) = refl

pub integer-small : (rs : List Made) (z : ℤ) → sound_value rs (int z) ≡ true → mag z < 2147483648
unfolding sound_value
integer-small rs z h = ltb-true (mag z) 2147483648 h

-- ── ranges of integers by their words ──
module _ (lo hi : ℕ) (low : hi < 2147483648) where
  pub in-range : (z : ℤ) (x : ℕ) → mag z < 2147483648 → x ≡ word_of z → lo ≤ x → x ≤ hi → (between lo hi z ≡ true) × (size z ≡ x)
  in-range (pos n) x h e a b = (rw (le-leb lo n (omega arith), le-leb n hi (omega arith)), sym e)
  in-range (negsuc n) x h e a b = absurd (omega arith)

  pub below-range : (z : ℤ) (x : ℕ) → x ≡ word_of z → x < lo → between lo hi z ≡ false
  below-range (pos n) x e a = rw (lt-leb lo n (omega arith))
  below-range (negsuc n) x e a = refl

  pub above-range : (z : ℤ) (x : ℕ) → x ≡ word_of z → hi < x → between lo hi z ≡ false
  above-range (pos n) x e a = rw (lt-leb n hi (omega arith)) (and-false (leb lo n))
  above-range (negsuc n) x e a = refl

-- ── what is told ──
pub demanded : (b : Bool) (why : Stuck) (s : Stepped) {k : List ℕ} {o : Out} → (b ≡ true → Told s k o) → Told (demand b why s) k o
demanded true why s h = h refl
demanded false why s h = record { are = tt }

pub supplied : {A : Type 0} (x : Option A) (why : Stuck) (g : A → Stepped) {k : List ℕ} {o : Out} → ((a : A) → x ≡ some a → Told (g a) k o) → Told (given x why g) k o
supplied none why g h = record { are = tt }
supplied (some a) why g h = h a refl

-- the top goes on at y
pub goes-to : {k : List ℕ} {f : ℕ} {rs : Shared} {fs : List Activation} {b a : ℕ} {cs : List Cell} {vs : List Value} {gs : List ℕ} → On k f rs [] (activation b a cs vs gs) fs
    → (j : List ℕ) (x y : ℕ) → j ≡ went_to k f x → x ≡ y → j ≡ encode (running rs (activation b y cs vs gs) fs)
goes-to p j x y e q = e ∙ rw q (on_go p y).bytes

pub goes-on : {k : List ℕ} {f : ℕ} {rs : Shared} {fs : List Activation} {us : List Value} {a : ℕ} (t : Activation) (is : List Item) (o : Out)
    → On k f rs [] (activation t.body a t.cells us t.holds) fs → (j : List ℕ) (x : ℕ) → j ≡ went_to k f x → x ≡ suc t.address
    → o ≡ out_of is (running rs (at (suc t.address) us t) fs) → Told (goes_on is us (here rs t fs)) j o
goes-on {rs = rs} {fs = fs} {us = us} t is o p j x e q eo =
    demanded (leb (length us) max_operands) bad_frame (moved is (running rs (at (suc t.address) us t) fs))
    (λ h. record { are = (goes-to p j x (suc t.address) e q, eo) })

-- whose cells are meant
pub owner-is : (a : ℕ) (o : Owner) → owner_of a ≡ some o → ((a ≡ 0) × (o ≡ own)) ⊎ ((a ≡ 1) × (o ≡ root))
owner-is a o e = go (eqb a 0) refl (eqb a 1) refl e
  where
    go : (p : Bool) → eqb a 0 ≡ p → (q : Bool) → eqb a 1 ≡ q → (If p then some own else If q then some root else none) ≡ some o → ((a ≡ 0) × (o ≡ own)) ⊎ ((a ≡ 1) × (o ≡ root))
    go true ep q eq h = inl (eqb-true a 0 ep, cc)
    go false ep true eq h = inr (eqb-true a 1 eq, cc)
    go false ep false eq h = let z : ◌≡◌ {A = ℕ} 0 1 = cc in absurd (omega arith)
