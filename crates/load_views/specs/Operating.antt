-- Op 7: an operator takes and gives the same by its number over type bytes and by its types.
use Rattle.std.specs.Prelude.{◌≡◌, ℕ, zero, suc, ◌+◌, ◌≤◌, eqb}
use Rattle.std.proofs.Math.Path.{refl, sym}
use Rattle.std.proofs.Common.{◌∙◌, arith}
use Rattle.std.proofs.Math.Bool.{true, false, and-false}
use mathlib.Core.List.{List, [], ◌∷◌, ◌++◌}
use Rattle.std.proofs.Math.Option.{Option, none, some}
use Rattle.std.proofs.Math.Dec.{leb, ltb}
use borrow.Author.Tests.{eq-eqb, ne_eqb, eqb-true}
use Rattle.values.specs.Types.{Ty, integer, logical, bits, reference, ty_code, ty_byte, same, sames}
use Rattle.values.specs.Operators.{Unary, negate, absolute, complement, Binary, plus, minus, times, divide, remainder, less, at_most, greater, at_least, equal, unequal}
use Rattle.values.specs.Operators.{both, either, shift_left, shift_right, Operator, unary, binary, unary_of, binary_of, takes, any_one, logical_or_bits, op_type}
use Rattle.bytecode.specs.Macro.{shape, Macro}
use Rattle.bytecode.specs.Instructions.{operator_of}
use Rattle.bytecode.specs.Rules.{operating, giving, roomy, flow}
use Rattle.load_places.specs.Rules.{Flow, goes, bad, need, push, pop, chain, top_of, trade1, trade2, twofold, operates}
use Rattle.load_views.specs.View.{bytes}
use Rattle.logic.specs.Tests.{tests, by-test, eqb_comm}
use Rattle.load_views.specs.Stack.{same_byte, draws}
use Rattle.load_views.specs.Flows.{sends, gives_one}

-- what an operator gives goes onto the stack
abbrev pushed : Option Ty → ℕ → List ℕ → Flow
pushed none h s = bad
pushed (some t) h s = push (ty_byte t) h s

-- operands of their own types come off
draws-all : (us ts : List Ty) (h : ℕ) (f : ℕ → List ℕ → Flow) → draws (bytes us) h (bytes (us ++ ts)) f ≡ f h (bytes ts)
unfolding draws pop
draws-all [] ts h f = refl
draws-all (u ∷ us) ts h f = rw (eq-eqb (ty_byte u) (ty_byte u) refl) (draws-all us ts h f)

-- a reference is neither logical nor bits
never : (c : ℕ) → twofold (16 + c) ≡ false
never c = rw (ne_eqb (16 + c) 2 (omega arith), ne_eqb (16 + c) 3 (omega arith))

never-same : (c : ℕ) → (same (reference c) logical ≡ false) × (same (reference c) bits ≡ false)
never-same c = (ne_eqb (65536 + c) 2 (omega arith), ne_eqb (65536 + c) 3 (omega arith))

module _ (m : Macro) (k h : ℕ) where
  gives : (us ts : List Ty) (room : roomy (shape h (us ++ ts)) ≡ true) (r : Option Ty)
      → pushed r h (bytes ts) ≡ sends m k h (us ++ ts) room (giving r us)
  gives us ts room none = (unfold flow in refl)
  gives us ts room (some r) = sym (draws-all us ts h (λ g s. push (ty_byte r) g s)) ∙ gives_one m k h (us ++ ts) room us r

  -- an operator that asks for these types
  asked1 : (o : Unary) (x r : Ty) → ((us : List Ty) → op_type (unary o) us ≡ takes (x ∷ []) r us)
      → (ts : List Ty) (room : roomy (shape h ts) ≡ true)
      → trade1 (ty_byte x) (ty_byte r) h (bytes ts) ≡ sends m k h ts room (operating (unary o) ts)
  unfolding trade1 pop sames
  asked1 o x r e [] room = (unfold flow in refl)
  asked1 o x r e (t ∷ ts) room =
      (rw (e (t ∷ []), same_byte t x) (by-test (eqb (ty_byte t) (ty_byte x)) (λ q. rw q) (λ q. rw q))
      ∙ gives (t ∷ []) ts room (op_type (unary o) (t ∷ [])))

  asked2 : (o : Binary) (x y r : Ty) → ((us : List Ty) → op_type (binary o) us ≡ takes (x ∷ y ∷ []) r us)
      → (ts : List Ty) (room : roomy (shape h ts) ≡ true)
      → trade2 (ty_byte x) (ty_byte y) (ty_byte r) h (bytes ts) ≡ sends m k h ts room (operating (binary o) ts)
  unfolding trade2 pop sames
  asked2 o x y r e [] room = (unfold flow in refl)
  asked2 o x y r e (t ∷ []) room = (unfold flow in by-test (eqb (ty_byte t) (ty_byte y)) (λ q. rw q) (λ q. rw q))
  asked2 o x y r e (t ∷ (u ∷ ts)) room =
      (rw (e (u ∷ t ∷ []), same_byte t y, same_byte u x) (by-test (eqb (ty_byte t) (ty_byte y))
      (λ q. rw q (by-test (eqb (ty_byte u) (ty_byte x)) (λ q. rw q) (λ q. rw q))) (λ q. rw (q, and-false)))
      ∙ gives (t ∷ u ∷ []) ts room (op_type (binary o) (u ∷ t ∷ [])))

  -- of any one type
  any2 : (o : Binary) → ((us : List Ty) → op_type (binary o) us ≡ any_one us)
      → (ts : List Ty) (room : roomy (shape h ts) ≡ true)
      → trade2 (top_of (bytes ts)) (top_of (bytes ts)) 2 h (bytes ts) ≡ sends m k h ts room (operating (binary o) ts)
  unfolding trade2 pop sames
  any2 o e [] room = (unfold flow in refl)
  any2 o e (t ∷ []) room = (unfold flow in rw (eq-eqb (ty_byte t) (ty_byte t) refl))
  any2 o e (t ∷ (u ∷ ts)) room =
      (rw (e (u ∷ t ∷ []), eq-eqb (ty_byte t) (ty_byte t) refl, eq-eqb (ty_code u) (ty_code u) refl, same_byte t u, eqb_comm (ty_byte u) (ty_byte t))
      (by-test (eqb (ty_byte t) (ty_byte u)) (λ q. rw q) (λ q. rw q)) ∙ gives (t ∷ u ∷ []) ts room (op_type (binary o) (u ∷ t ∷ [])))

  -- of logical or bits
  either1 : (o : Unary) → ((us : List Ty) → op_type (unary o) us ≡ logical_or_bits (λ t. t ∷ []) us)
      → (ts : List Ty) (room : roomy (shape h ts) ≡ true)
      → need (twofold (top_of (bytes ts))) (trade1 (top_of (bytes ts)) (top_of (bytes ts)) h (bytes ts)) ≡ sends m k h ts room (operating (unary o) ts)
  unfolding trade1 pop sames
  either1 o e [] room = (unfold flow in refl)
  either1 o e (t ∷ ts) room = (rw (e (t ∷ []), eq-eqb (ty_byte t) (ty_byte t) refl) (go t) ∙ gives (t ∷ []) ts room (op_type (unary o) (t ∷ [])))
    where
      go : (t : Ty) → need (twofold (ty_byte t)) (push (ty_byte t) h (bytes ts)) ≡ pushed (logical_or_bits (λ t. t ∷ []) (t ∷ [])) h (bytes ts)
      go integer = refl
      go logical = refl
      go bits = refl
      go (reference c) = rw (never c, (never-same c).0, (never-same c).1)

  either2 : (o : Binary) → ((us : List Ty) → op_type (binary o) us ≡ logical_or_bits (λ t. t ∷ t ∷ []) us)
      → (ts : List Ty) (room : roomy (shape h ts) ≡ true)
      → need (twofold (top_of (bytes ts))) (trade2 (top_of (bytes ts)) (top_of (bytes ts)) (top_of (bytes ts)) h (bytes ts))
      ≡ sends m k h ts room (operating (binary o) ts)
  unfolding trade2 pop sames
  either2 o e [] room = (unfold flow in refl)
  either2 o e (t ∷ []) room = (unfold flow in rw (eq-eqb (ty_byte t) (ty_byte t) refl) (by-test (twofold (ty_byte t)) (λ q. rw q) (λ q. rw q)))
  either2 o e (t ∷ (u ∷ ts)) room =
      (rw (e (u ∷ t ∷ []), eq-eqb (ty_byte t) (ty_byte t) refl) (go t) ∙ gives (t ∷ u ∷ []) ts room (op_type (binary o) (u ∷ t ∷ [])))
    where
      go : (t : Ty) → need (twofold (ty_byte t)) (chain (need (eqb (ty_byte u) (ty_byte t)) (goes h (bytes ts))) (λ f p. push (ty_byte t) f p))
          ≡ pushed (logical_or_bits (λ t. t ∷ t ∷ []) (u ∷ t ∷ [])) h (bytes ts)
      go integer = rw (and-false (same u logical), and-false (same u bits))
      go logical = rw (same_byte u logical, and-false (same u bits)) (by-test (eqb (ty_byte u) 2) (λ q. rw q) (λ q. rw q))
      go bits = rw (same_byte u bits, and-false (same u logical)) (by-test (eqb (ty_byte u) 3) (λ q. rw q) (λ q. rw q))
      go (reference c) = rw (never c, (never-same c).0, (never-same c).1, and-false (same u logical), and-false (same u bits))

-- ── every number ──
-- a thing of each of the n numbers from j on
abbrev From : (ℕ → Type 0) → ℕ → ℕ → Type 0
From P j zero = Unit {0}
From P j (suc n) = P j × From P (suc j) n

infixr 10 ◌⨾◌
abbrev ◌⨾◌ : {A B : Type 0} → A → B → A × B
a ⨾ b = (a, b)

pick : (P : ℕ → Type 0) (n j a : ℕ) → From P j n → ((x : ℕ) → j + n ≤ x → P x) → j ≤ a → P a
pick P zero j a t above h = above a (omega arith)
pick P (suc n) j a t above h =
    by-test (eqb a j) (λ e. rw (eqb-true a j e) t.0) (λ e. pick P n (suc j) a t.1 (λ x g. above x (omega arith)) (omega tests))

module _ (m : Macro) (k h : ℕ) (ts : List Ty) (room : roomy (shape h ts) ≡ true) where
  -- what an operator that there may be sends on
  abbrev operated : Option Operator → Flow
  operated none = bad
  operated (some o) = sends m k h ts room (operating o ts)

  abbrev Numbered : ℕ → Type 0
  Numbered a = operates a h (bytes ts) ≡ operated (operator_of a)

  two : (x y r : Ty) (o : Binary) → ((us : List Ty) → op_type (binary o) us ≡ takes (x ∷ y ∷ []) r us)
      → trade2 (ty_byte x) (ty_byte y) (ty_byte r) h (bytes ts) ≡ operated (some (binary o))
  two x y r o e = asked2 m k h o x y r e ts room

  one : (x r : Ty) (o : Unary) → ((us : List Ty) → op_type (unary o) us ≡ takes (x ∷ []) r us)
      → trade1 (ty_byte x) (ty_byte r) h (bytes ts) ≡ operated (some (unary o))
  one x r o e = asked1 m k h o x r e ts room

  numbered : From Numbered 0 23
  unfolding operates unary_of binary_of op_type
  numbered =
      refl
      ⨾ two integer integer integer plus (λ us. refl)
      ⨾ two integer integer integer minus (λ us. refl)
      ⨾ two integer integer integer times (λ us. refl)
      ⨾ two integer integer integer divide (λ us. refl)
      ⨾ two integer integer integer remainder (λ us. refl)
      ⨾ two integer integer logical less (λ us. refl)
      ⨾ two integer integer logical at_most (λ us. refl)
      ⨾ two integer integer logical greater (λ us. refl)
      ⨾ two integer integer logical at_least (λ us. refl)
      ⨾ any2 m k h equal (λ us. refl) ts room
      ⨾ any2 m k h unequal (λ us. refl) ts room
      ⨾ either2 m k h both (λ us. refl) ts room
      ⨾ either2 m k h either (λ us. refl) ts room
      ⨾ two bits integer bits shift_left (λ us. refl)
      ⨾ two bits integer bits shift_right (λ us. refl)
      ⨾ refl
      ⨾ refl
      ⨾ refl
      ⨾ refl
      ⨾ one integer integer negate (λ us. refl)
      ⨾ one integer integer absolute (λ us. refl)
      ⨾ either1 m k h complement (λ us. refl) ts room
      ⨾ tt

  beyond : (x : ℕ) → 23 ≤ x → Numbered x
  unfolding operates unary_of binary_of
  beyond x g = simp (above, other)
    where
      above : (j : ℕ) → leb j 23 ≡ true → ltb x j ≡ false
      above j h = omega tests

      other : (j : ℕ) → ltb j 23 ≡ true → eqb x j ≡ false
      other j h = omega tests

  pub operates-same : (a : ℕ) → operates a h (bytes ts) ≡ operated (operator_of a)
  operates-same a = pick Numbered 23 0 a numbered beyond (omega arith)
