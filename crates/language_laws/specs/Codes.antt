-- The codes of types and operators, and the numbers in an entry: each gives back what it stands for.
use Rattle.std.specs.Prelude.{◌≡◌, refl, Bool, true, false, ◌&&◌, ℕ, suc, ◌+◌, ◌-◌, ◌≤◌, eqb, leb, ℤ, pos, negsuc, nat_abs}
use Rattle.std.proofs.Common.{sym, ◌∙◌, arith, eqb-true, ne_eqb, le-leb, leb-true}
use Rattle.std.proofs.Math.Option.{Option, none, some, get_or}
use Rattle.values.specs.Arithmetic.{is_zero}
use Rattle.values.specs.Values.{between}
use Rattle.logic.specs.Options.{is_some}
use Rattle.logic.specs.Choice.{If◌then◌else◌}
use Rattle.values.specs.Types.{Ty, integer, logical, bits, reference, ty_code}
use Rattle.values.specs.Operators.{Unary, negate, absolute, complement, Binary, plus, minus, times, divide, remainder, less, at_most, greater, at_least, equal, unequal}
use Rattle.values.specs.Operators.{both, either, shift_left, shift_right, unary_code, binary_code, unary_of, binary_of}
use Rattle.language.specs.Table.{natural, ty_of_code}
use Rattle.logic.specs.Tests.{clash, both_left}

-- ── what a code stands for ──
reference-back : (c : ℕ) → ty_of_code (65536 + c) ≡ (If leb (65536 + c) 131071 then some (reference c) else none)
reference-back c =
    let e : 65536 + c - 65536 ≡ c = omega arith in
    rw (ne_eqb (65536 + c) 1 (λ z. omega arith), ne_eqb (65536 + c) 2 (λ z. omega arith), ne_eqb (65536 + c) 3 (λ z. omega arith), le-leb 65536 (65536 + c) (omega arith), e)

pub type-back : (t : Ty) → is_some (ty_of_code (ty_code t)) ≡ true → ty_of_code (ty_code t) ≡ some t
type-back integer h = refl
type-back logical h = refl
type-back bits h = refl
type-back (reference c) h = rw (reference-back c) (pick (leb (65536 + c) 131071) (rw (reference-back c) at h))
  where
    pick : (b : Bool) → is_some {A = Ty} (If b then some (reference c) else none) ≡ true
        → ◌≡◌ {A = Option Ty} (If b then some (reference c) else none) (some (reference c))
    pick true e = refl
    pick false e = clash (cc)

pub unary-back : (o : Unary) → unary_of (unary_code o) ≡ some o
unfolding unary_of
unary-back negate = refl
unary-back absolute = refl
unary-back complement = refl

pub binary-back : (o : Binary) → binary_of (binary_code o) ≡ some o
unfolding binary_of
binary-back plus = refl
binary-back minus = refl
binary-back times = refl
binary-back divide = refl
binary-back remainder = refl
binary-back less = refl
binary-back at_most = refl
binary-back greater = refl
binary-back at_least = refl
binary-back equal = refl
binary-back unequal = refl
binary-back both = refl
binary-back either = refl
binary-back shift_left = refl
binary-back shift_right = refl

-- ── the code of what a number stands for ──
pub record Coded {A : Type 0} (code : A → ℕ) (default : A) (n : ℕ) (x : Option A) : Type 0 where
  pub back : is_some x ≡ true → code (get_or x default) ≡ n

module _ {A : Type 0} {code : A → ℕ} {default : A} {n : ℕ} where
  coded_none : Coded code default n none
  coded_none = record { back = λ h. clash (cc) }

  coded-if : {x : Option A} (b : Bool) (o : A) → (b ≡ true → code o ≡ n) → Coded code default n x
      → Coded code default n (If b then some o else x)
  coded-if true o p h = record { back = λ s. p refl }
  coded-if false o p h = h

  coded-at : {x : Option A} (k : ℕ) (o : A) → code o ≡ k → Coded code default n x → Coded code default n (If eqb n k then some o else x)
  coded-at k o p h = coded-if (eqb n k) o (λ q. p ∙ sym (eqb-true n k q)) h

pub unary-coded : (n : ℕ) → Coded unary_code negate n (unary_of n)
unfolding unary_of
unary-coded n = coded-at 20 negate refl (coded-at 21 absolute refl (coded-at 22 complement refl coded_none))

pub binary-coded : (n : ℕ) → Coded binary_code plus n (binary_of n)
unfolding binary_of
binary-coded n =
    coded-at 1 plus refl
    (coded-at 2 minus refl
    (coded-at 3 times refl
    (coded-at 4 divide refl
    (coded-at 5 remainder refl
    (coded-at 6 less refl
    (coded-at 7 at_most refl
    (coded-at 8 greater refl
    (coded-at 9 at_least refl
    (coded-at 10 equal refl
    (coded-at 11 unequal refl
    (coded-at 12 both refl
    (coded-at 13 either refl
    (coded-at 14 shift_left refl
    (coded-at 15 shift_right refl
    coded_none))))))))))))))

pub type-coded : (n : ℕ) → Coded ty_code integer n (ty_of_code n)
type-coded n =
    coded-at 1 integer refl (coded-at 2 logical refl (coded-at 3 bits refl
    (coded-if (leb 65536 n && leb n 131071) (reference (n - 65536)) (λ q. let h : 65536 ≤ n = leb-true 65536 n (both_left (leb 65536 n) (leb n 131071) q) in omega arith) coded_none)))

-- ── b of an entry ──
pub nothing-zero : (z : ℤ) → is_zero z ≡ true → z ≡ pos 0
nothing-zero (pos n) h = rw (eqb-true n 0 h)
nothing-zero (negsuc n) h = absurd (omega (arith, eqb-true (suc n) 0 h))

pub natural-pos : (z : ℤ) → natural z ≡ true → z ≡ pos (nat_abs z)
natural-pos (pos n) h = refl
natural-pos (negsuc n) h = clash (cc)

pub within-natural : (lo hi : ℕ) (z : ℤ) → between lo hi z ≡ true → natural z ≡ true
within-natural lo hi (pos n) h = refl
within-natural lo hi (negsuc n) h = h
