-- Each sort of operator on the words of two values.
use mathlib.Core.Path.{◌≡◌, refl, sym, ◌∙◌}
use mathlib.Core.Bool.{Bool, true, false, not, ◌&&◌, ◌||◌, beq}
use mathlib.Core.Option.{none, some}
use Prim.Native.Nat.{ℕ, zero, suc, ◌+◌}
use native.Mathlib.Omega.{arith}
use lib.Dec.{eqb, ltb, eqb-suc-suc}
use lib.IntN.{ℤ}
use lib.Signed.{lt_z, le_z}
use borrow.Author.Tests.{ltb-true, ne_eqb}
use mir.Syntax.{w32}
use mir.Val.{Fits, to_z, of_z}
use mir.ValLaws.{to_z-of_z, to_z-Fits}
use Rattle.bytecode.specs.Words.{log_word, word_ref, valid_word, word_value}
use Rattle.logic.specs.Choice.{If◌then◌else◌}
use Rattle.words.specs.Numbers.{integer_of}
use Rattle.values.specs.Types.{Ty, integer, logical, bits, reference, ty_byte}
use Rattle.values.specs.Operators.{Unary, negate, absolute, complement, Binary, plus, minus, times, divide, remainder, less, at_most, greater, at_least, equal, unequal}
use Rattle.values.specs.Operators.{both, either, shift_left, shift_right, unary_of, binary_of}
use Rattle.values.specs.Arithmetic.{Outcome, gives, mistyped, sum, difference, product, quotient, rest, negation, magnitude, each_bit, and_bits, or_bits, not_bits, shifted_left, shifted_right}
use Rattle.values.specs.Values.{int, log, map_outcome, arithmetic, ordering, shift, junction, equality, same_integer, same_ref, as_integer, asked, apply1, apply2}
use Rattle.values.specs.Answers.{outcome_of}
use Rattle.values.specs.declared.conditions.Condition.{Condition}
use Rattle.std.specs.Prelude.{Result, Ok, Err}
use Rattle.machine_ops.specs.Works.{Worked, typed, worked, Says, Works1, Works2}

abbrev Gives : ℕ → ℕ → Worked
Gives w t = Ok (typed w t)

-- an integer is held as its word
pub held : (x : ℕ) (z : ℤ) → z ≡ integer_of x → Fits w32 x → to_z w32 (of_z w32 z) ≡ integer_of x
held x z e f = to_z-of_z w32 z (rw e (to_z-Fits w32 x f)) ∙ e

number : (z : Result ℤ Condition) → Says (map_outcome int (outcome_of z)) (worked z)
number (Ok z) = refl
number (Err e) = record { condition = e; is = refl; number = refl }

of-outcome : (o : Outcome ℤ) (z : Result ℤ Condition) → outcome_of z ≡ o → Says (map_outcome int o) (worked z)
of-outcome o z e = rw (← e) (number z)

-- ── by sort ──
module _ (x y : ℕ) where
  arithmetic-says : (f : ℤ → ℤ → Outcome ℤ) (z : Result ℤ Condition) → outcome_of z ≡ f (integer_of x) (integer_of y) → (ty tu : Ty)
      → Says (arithmetic f (word_value ty x) (word_value tu y)) (worked z)
  arithmetic-says f z e integer integer = of-outcome (f (integer_of x) (integer_of y)) z e
  arithmetic-says f z e integer logical = tt
  arithmetic-says f z e integer bits = tt
  arithmetic-says f z e integer (reference d) = tt
  arithmetic-says f z e logical tu = tt
  arithmetic-says f z e bits tu = tt
  arithmetic-says f z e (reference c) tu = tt

  ordering-says : (f : ℤ → ℤ → Bool) (ty tu : Ty) → Says (ordering f (word_value ty x) (word_value tu y)) (Gives (log_word (f (integer_of x) (integer_of y))) 2)
  ordering-says f integer integer = refl
  ordering-says f integer logical = tt
  ordering-says f integer bits = tt
  ordering-says f integer (reference d) = tt
  ordering-says f logical tu = tt
  ordering-says f bits tu = tt
  ordering-says f (reference c) tu = tt

  shift_says : (f : ℕ → ℤ → ℕ) (t : ℕ) (ty tu : Ty) → t ≡ ty_byte ty → Says (shift f (word_value ty x) (word_value tu y)) (Gives (f x (integer_of y)) t)
  shift_says f t integer tu e = tt
  shift_says f t logical tu e = tt
  shift_says f t bits integer e = rw e
  shift_says f t bits logical e = tt
  shift_says f t bits bits e = tt
  shift_says f t bits (reference d) e = tt
  shift_says f t (reference c) tu e = tt

-- ── logical words are 0 and 1 ──
below_two : (P : ℕ → Type 0) (x : ℕ) → ltb x 2 ≡ true → P 0 → P 1 → P x
below_two P zero h a b = a
below_two P (suc zero) h a b = b
below_two P (suc (suc x)) h a b = absurd (omega (arith, ltb-true (suc (suc x)) 2 h))

two-words : (P : ℕ → ℕ → Type 0) (x y : ℕ) → ltb x 2 ≡ true → ltb y 2 ≡ true → P 0 0 → P 0 1 → P 1 0 → P 1 1 → P x y
two-words P x y h k a b c d = below_two (λ (z : ℕ). P z y) x h (below_two (P 0) y k a b) (below_two (P 1) y k c d)

junction-says : (f : Bool → Bool → Bool) (g : ℕ → ℕ → ℕ) → g 0 0 ≡ log_word (f false false) → g 0 1 ≡ log_word (f false true) → g 1 0 ≡ log_word (f true false) → g 1 1 ≡ log_word (f true true)
    → (x y t : ℕ) (ty tu : Ty) → t ≡ ty_byte ty → valid_word ty x ≡ true → valid_word tu y ≡ true → Says (junction f g (word_value ty x) (word_value tu y)) (Gives (g x y) t)
junction-says f g a b c d x y t integer tu e h k = tt
junction-says f g a b c d x y t logical integer e h k = tt
junction-says f g a b c d x y t logical logical e h k =
    two-words (λ (x y : ℕ). Gives (g x y) t ≡ Gives (log_word (f (eqb x 1) (eqb y 1))) 2) x y h k (rw (a, e)) (rw (b, e)) (rw (c, e)) (rw (d, e))
junction-says f g a b c d x y t logical bits e h k = tt
junction-says f g a b c d x y t logical (reference r) e h k = tt
junction-says f g a b c d x y t bits integer e h k = tt
junction-says f g a b c d x y t bits logical e h k = tt
junction-says f g a b c d x y t bits bits e h k = rw e
junction-says f g a b c d x y t bits (reference r) e h k = tt
junction-says f g a b c d x y t (reference r) tu e h k = tt

-- ── equality ──
abbrev alike : ℕ → ℕ → ℕ → Bool
alike t x y = If eqb t 1 then same_integer (integer_of x) (integer_of y) else eqb x y

same_word : (x y : ℕ) → same_ref (word_ref x) (word_ref y) ≡ eqb x y
same_word zero zero = refl
same_word zero (suc y) = sym (ne_eqb 0 (suc y) (λ e. omega arith))
same_word (suc x) zero = sym (ne_eqb (suc x) 0 (λ e. omega arith))
same_word (suc x) (suc y) = sym (eqb-suc-suc x y)

references : (f : Bool → Bool) (x y c d : ℕ) → Says (If eqb c d then gives (log (f (same_ref (word_ref x) (word_ref y)))) else mistyped) (Gives (log_word (f (eqb x y))) 2)
references f x y c d = go (eqb c d)
  where
    go : (b : Bool) → Says (If b then gives (log (f (same_ref (word_ref x) (word_ref y)))) else mistyped) (Gives (log_word (f (eqb x y))) 2)
    go true = rw (same_word x y)
    go false = tt

equality-says : (f : Bool → Bool) (x y t : ℕ) (ty tu : Ty) → t ≡ ty_byte ty → valid_word ty x ≡ true → valid_word tu y ≡ true
    → Says (equality f (word_value ty x) (word_value tu y)) (Gives (log_word (f (alike t x y))) 2)
equality-says f x y t integer integer e h k = rw e
equality-says f x y t integer logical e h k = tt
equality-says f x y t integer bits e h k = tt
equality-says f x y t integer (reference d) e h k = tt
equality-says f x y t logical integer e h k = tt
equality-says f x y t logical logical e h k =
    rw e (two-words (λ (x y : ℕ). Gives (log_word (f (eqb x y))) 2 ≡ Gives (log_word (f (beq (eqb x 1) (eqb y 1)))) 2) x y h k refl refl refl refl)
equality-says f x y t logical bits e h k = tt
equality-says f x y t logical (reference d) e h k = tt
equality-says f x y t bits integer e h k = tt
equality-says f x y t bits logical e h k = tt
equality-says f x y t bits bits e h k = rw e
equality-says f x y t bits (reference d) e h k = tt
equality-says f x y t (reference c) integer e h k = tt
equality-says f x y t (reference c) logical e h k = tt
equality-says f x y t (reference c) bits e h k = tt
equality-says f x y t (reference c) (reference d) e h k =
    let n : eqb (16 + c) 1 ≡ false = ne_eqb (16 + c) 1 (λ q. omega arith) in
    rw (e, n) (references f x y c d)

-- ── by number ──
-- the operator's number, the type byte of the left operand, the words of both, and their integers
pub record Operands (n t x y : ℕ) (a b : ℤ) : Type 0 where
  pub left : a ≡ integer_of x
  pub right : b ≡ integer_of y

module _ {n t x y : ℕ} {a b : ℤ} (O : Operands n t x y a b) (r : Worked) where
  sort-2 : (o : Binary) → binary_of n ≡ some o → ((ty tu : Ty) → t ≡ ty_byte ty → valid_word ty x ≡ true → valid_word tu y ≡ true → Says (apply2 o (word_value ty x) (word_value tu y)) r)
      → Works2 n t x y r
  sort-2 o e f o' ty tu e' et h k =
      let s : o ≡ o' = cc in
      rw (← s) (f ty tu et h k)

  by-arithmetic : (f : ℤ → ℤ → Outcome ℤ) (o : Binary) → binary_of n ≡ some o → apply2 o ≡ arithmetic f → (z : Result ℤ Condition) → outcome_of z ≡ f a b → r ≡ worked z
      → Works2 n t x y r
  by-arithmetic f o e q z ez er = sort-2 o e (λ ty tu et h k. rw (q, er) (arithmetic-says x y f z (ez ∙ rw (O.left, O.right)) ty tu))

  by_ordering : (f : ℤ → ℤ → Bool) (o : Binary) → binary_of n ≡ some o → apply2 o ≡ ordering f → r ≡ Gives (log_word (f a b)) 2 → Works2 n t x y r
  by_ordering f o e q er = sort-2 o e (λ ty tu et h k. rw (q, er, O.left, O.right) (ordering-says x y f ty tu))

  pub works-plus : n ≡ 1 → (z : Result ℤ Condition) → outcome_of z ≡ sum a b → r ≡ worked z → Works2 n t x y r
  unfolding binary_of apply2
  works-plus e z ez er = by-arithmetic sum plus (rw e) refl z ez er

  pub works-minus : n ≡ 2 → (z : Result ℤ Condition) → outcome_of z ≡ difference a b → r ≡ worked z → Works2 n t x y r
  unfolding binary_of apply2
  works-minus e z ez er = by-arithmetic difference minus (rw e) refl z ez er

  pub works-times : n ≡ 3 → (z : Result ℤ Condition) → outcome_of z ≡ product a b → r ≡ worked z → Works2 n t x y r
  unfolding binary_of apply2
  works-times e z ez er = by-arithmetic product times (rw e) refl z ez er

  pub works-divide : n ≡ 4 → (z : Result ℤ Condition) → outcome_of z ≡ quotient a b → r ≡ worked z → Works2 n t x y r
  unfolding binary_of apply2
  works-divide e z ez er = by-arithmetic quotient divide (rw e) refl z ez er

  pub works-remainder : n ≡ 5 → (z : Result ℤ Condition) → outcome_of z ≡ rest a b → r ≡ worked z → Works2 n t x y r
  unfolding binary_of apply2
  works-remainder e z ez er = by-arithmetic rest remainder (rw e) refl z ez er

  pub works-less : n ≡ 6 → r ≡ Gives (log_word (lt_z a b)) 2 → Works2 n t x y r
  unfolding binary_of apply2
  works-less e er = by_ordering lt_z less (rw e) refl er

  pub works-at-most : n ≡ 7 → r ≡ Gives (log_word (le_z a b)) 2 → Works2 n t x y r
  unfolding binary_of apply2
  works-at-most e er = by_ordering le_z at_most (rw e) refl er

  pub works-greater : n ≡ 8 → r ≡ Gives (log_word (lt_z b a)) 2 → Works2 n t x y r
  unfolding binary_of apply2
  works-greater e er = by_ordering (λ x y. lt_z y x) greater (rw e) refl er

  pub works-at-least : n ≡ 9 → r ≡ Gives (log_word (le_z b a)) 2 → Works2 n t x y r
  unfolding binary_of apply2
  works-at-least e er = by_ordering (λ x y. le_z y x) at_least (rw e) refl er

  pub works-left : n ≡ 14 → r ≡ Gives (shifted_left x b) t → Works2 n t x y r
  unfolding binary_of apply2
  works-left e er = sort-2 shift_left (rw e) (λ ty tu et h k. rw (er, O.right) (shift_says x y shifted_left t ty tu et))

  pub works-right : (n ≡ 1 → ⊥) → (n ≡ 2 → ⊥) → (n ≡ 3 → ⊥) → (n ≡ 4 → ⊥) → (n ≡ 5 → ⊥) → (n ≡ 6 → ⊥) → (n ≡ 7 → ⊥) → (n ≡ 8 → ⊥) → (n ≡ 9 → ⊥)
      → (n ≡ 10 → ⊥) → (n ≡ 11 → ⊥) → (n ≡ 12 → ⊥) → (n ≡ 13 → ⊥) → (n ≡ 14 → ⊥)
      → r ≡ Gives (shifted_right x b) t → Works2 n t x y r
  unfolding binary_of
  works-right n1 n2 n3 n4 n5 n6 n7 n8 n9 n10 n11 n12 n13 n14 er o ty tu eo et h k = go (eqb n 15) q
    where
      q : (If eqb n 15 then some shift_right else none) ≡ some o
      q =
          rw (
            ne_eqb n 1 n1,
            ne_eqb n 2 n2,
            ne_eqb n 3 n3,
            ne_eqb n 4 n4,
            ne_eqb n 5 n5,
            ne_eqb n 6 n6,
            ne_eqb n 7 n7,
            ne_eqb n 8 n8,
            ne_eqb n 9 n9,
            ne_eqb n 10 n10,
            ne_eqb n 11 n11,
            ne_eqb n 12 n12,
            ne_eqb n 13 n13,
            ne_eqb n 14 n14,
          ) at eo

      shifted : Says (apply2 shift_right (word_value ty x) (word_value tu y)) r
      shifted = rw (er, O.right) (unfold apply2 in shift_says x y shifted_right t ty tu et)

      go : (z : Bool) → (If z then some shift_right else none) ≡ some o → Says (apply2 o (word_value ty x) (word_value tu y)) r
      go true e = let s : shift_right ≡ o = cc in rw (← s) shifted
      go false e = let s : ◌≡◌ {A = ℕ} 0 1 = cc in absurd (omega arith)

  pub works-equal : n ≡ 10 → r ≡ Gives (log_word (alike t x y)) 2 → Works2 n t x y r
  unfolding binary_of apply2
  works-equal e er = sort-2 equal (rw e) (λ ty tu et h k. rw er (equality-says (λ (z : Bool). z) x y t ty tu et h k))

  pub works-unequal : n ≡ 11 → r ≡ Gives (log_word (not (alike t x y))) 2 → Works2 n t x y r
  unfolding binary_of apply2
  works-unequal e er = sort-2 unequal (rw e) (λ ty tu et h k. rw er (equality-says not x y t ty tu et h k))

  pub works-both : n ≡ 12 → r ≡ Gives (and_bits x y) t → Works2 n t x y r
  unfolding binary_of apply2 each_bit
  works-both e er = sort-2 both (rw e) (λ ty tu et h k. rw er (junction-says ◌&&◌ and_bits refl refl refl refl x y t ty tu et h k))

  pub works-either : n ≡ 13 → r ≡ Gives (or_bits x y) t → Works2 n t x y r
  unfolding binary_of apply2 each_bit
  works-either e er = sort-2 either (rw e) (λ ty tu et h k. rw er (junction-says ◌||◌ or_bits refl refl refl refl x y t ty tu et h k))

-- ── one operand ──
module _ (n t x : ℕ) (r : Worked) where
  sort-1 : (o : Unary) → unary_of n ≡ some o → ((ty : Ty) → t ≡ ty_byte ty → valid_word ty x ≡ true → Says (apply1 o (word_value ty x)) r) → Works1 n t x r
  sort-1 o e f o' ty e' et h =
      let s : o ≡ o' = cc in
      rw (← s) (f ty et h)

  integer-says : (f : ℤ → Outcome ℤ) (z : Result ℤ Condition) → outcome_of z ≡ f (integer_of x) → (ty : Ty) → Says (asked (as_integer (word_value ty x)) (λ z. map_outcome int (f z))) (worked z)
  integer-says f z e integer = of-outcome (f (integer_of x)) z e
  integer-says f z e logical = tt
  integer-says f z e bits = tt
  integer-says f z e (reference c) = tt

  pub works-negate : (a : ℤ) → a ≡ integer_of x → n ≡ 20 → (z : Result ℤ Condition) → outcome_of z ≡ negation a → r ≡ worked z → Works1 n t x r
  unfolding unary_of apply1
  works-negate a ea e z ez er = sort-1 negate (rw e) (λ ty et h. rw er (integer-says negation z (ez ∙ rw ea) ty))

  pub works-absolute : (a : ℤ) → a ≡ integer_of x → n ≡ 21 → (z : Result ℤ Condition) → outcome_of z ≡ magnitude a → r ≡ worked z → Works1 n t x r
  unfolding unary_of apply1
  works-absolute a ea e z ez er = sort-1 absolute (rw e) (λ ty et h. rw er (integer-says magnitude z (ez ∙ rw ea) ty))

  -- the last: on logical values and on bits
  module _ (n1 : n ≡ 20 → ⊥) (n2 : n ≡ 21 → ⊥) where
    only : (o : Unary) → unary_of n ≡ some o → ((ty : Ty) → t ≡ ty_byte ty → valid_word ty x ≡ true → Says (apply1 complement (word_value ty x)) r)
        → (ty : Ty) → t ≡ ty_byte ty → valid_word ty x ≡ true → Says (apply1 o (word_value ty x)) r
    unfolding unary_of
    only o e f ty et h = go (eqb n 22) q
      where
        q : (If eqb n 22 then some complement else none) ≡ some o
        q = rw (ne_eqb n 20 n1, ne_eqb n 21 n2) at e

        go : (z : Bool) → (If z then some complement else none) ≡ some o → Says (apply1 o (word_value ty x)) r
        go true e = let s : complement ≡ o = cc in rw (← s) (f ty et h)
        go false e = let s : ◌≡◌ {A = ℕ} 0 1 = cc in absurd (omega arith)

    pub works-not-logical : t ≡ 2 → r ≡ Gives (log_word (eqb x 0)) 2 → Works1 n t x r
    unfolding apply1
    works-not-logical e er o ty eo et h = only o eo by ty et h
      where
        by : (ty : Ty) → t ≡ ty_byte ty → valid_word ty x ≡ true → Says (apply1 complement (word_value ty x)) r
        by integer et h = tt
        by logical et h = below_two (λ (x : ℕ). r ≡ Gives (log_word (eqb x 0)) 2 → r ≡ Gives (log_word (not (eqb x 1))) 2) x h (λ q. q) (λ q. q) er
        by bits et h = absurd (omega arith)
        by (reference c) et h = tt

    pub works-not-bits : (t ≡ 2 → ⊥) → r ≡ Gives (not_bits x) t → Works1 n t x r
    unfolding apply1
    works-not-bits ne er o ty eo et h = only o eo by ty et h
      where
        by : (ty : Ty) → t ≡ ty_byte ty → valid_word ty x ≡ true → Says (apply1 complement (word_value ty x)) r
        by integer et h = tt
        by logical et h = absurd (ne et)
        by bits et h = er ∙ rw et
        by (reference c) et h = tt
