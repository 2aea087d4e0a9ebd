-- Types as numbers: what the operators give, and which types fit.
use Rattle.std.specs.Prelude.{◌≡◌, refl, Bool, true, false, not, ◌&&◌, List, [], ◌∷◌, map, ℕ, eqb}
use Rattle.std.proofs.Common.{sym, arith, eq-eqb, ne_eqb}
use Rattle.std.proofs.Math.Option.{Option, none, some}
use Rattle.std.proofs.Math.Decide.{ℕ_discrete}
use Rattle.logic.specs.Options.{or_else}
use Rattle.logic.specs.Choice.{If◌then◌else◌}
use Rattle.values.specs.Types.{Ty, integer, logical, bits, reference, ty_code, sames, all_fit}
use Rattle.values.specs.Operators.{Unary, negate, absolute, complement, Binary, plus, minus, times, divide, remainder, less, at_most, greater, at_least, equal, unequal}
use Rattle.values.specs.Operators.{both, either, shift_left, shift_right, unary_code, binary_code, Operator, unary, binary, takes, logical_or_bits, any_one, op_type}
use Rattle.language.specs.Faults.{cons_ty, is_ty, same_ty, fits_ty, fit_tys}
use Rattle.table_types.specs.Settle.{if_both, if_either, operated_by, same_all}
use Rattle.table_types.specs.Operations.{sequence, oper_ty}
use Rattle.logic.specs.Tests.{eqb_comm}

-- the number of a type, 0 for none
abbrev pub ty_num : Option Ty → ℕ
ty_num none = 0
ty_num (some t) = ty_code t

pub code-some : (t : Ty) → ¬ (ty_code t ≡ 0)
code-some integer e = omega arith
code-some logical e = omega arith
code-some bits e = omega arith
code-some (reference c) e = omega arith

pub none-not : (t : Ty) → eqb 0 (ty_code t) ≡ false
none-not t = ne_eqb 0 (ty_code t) (λ z. code-some t (sym z))

-- an operand has a type
pub is_number : (u : Ty) (t : Option Ty) → is_ty u t ≡ eqb (ty_num t) (ty_code u)
is_number u none = sym (none-not u)
is_number u (some t) = refl

-- where both have one type, that type
pub both-same : (t u : Option Ty) (n : ℕ) → if_both (eqb (ty_num t) (ty_num u)) (not (eqb (ty_num t) 0)) n ≡ if_both (same_ty t u) true n
both-same none none n = refl
both-same none (some u) n = rw (none-not u)
both-same (some t) none n = rw (ne_eqb (ty_code t) 0 (code-some t))
both-same (some t) (some u) n = rw (ne_eqb (ty_code t) 0 (code-some t), eqb_comm (ty_code t) (ty_code u))

pub both-fit : (t u : Option Ty) (n : ℕ) → if_both (eqb (ty_num t) (ty_num u)) (not (eqb (ty_num t) 0)) n ≡ if_both (fits_ty u t) true n
both-fit none none n = refl
both-fit none (some u) n = rw (none-not u)
both-fit (some t) none n = rw (ne_eqb (ty_code t) 0 (code-some t))
both-fit (some t) (some u) n = rw (ne_eqb (ty_code t) 0 (code-some t), eqb_comm (ty_code t) (ty_code u))

-- ── operators ──
if_none : (x : Bool) (n : ℕ) → if_both x false n ≡ 0
if_none true n = refl
if_none false n = refl

taken1 : (x : Bool) (g : Ty) → if_both x true (ty_code g) ≡ ty_num (If x && true then some g else none)
taken1 true g = refl
taken1 false g = refl

taken2 : (x y : Bool) (g : Ty) → if_both x y (ty_code g) ≡ ty_num (If x && (y && true) then some g else none)
taken2 true true g = refl
taken2 true false g = refl
taken2 false y g = refl

-- two operands: none where one has no type
abbrev paired : Option Ty → Option Ty → (List Ty → Option Ty) → Option Ty
paired none u f = none
paired (some t) none f = none
paired (some t) (some u) f = f (t ∷ u ∷ [])

oper2 : (o : Operator) (t u : Option Ty) → oper_ty o (t ∷ u ∷ []) ≡ paired t u (op_type o)
unfolding sequence
oper2 o none u = refl
oper2 o (some t) none = refl
oper2 o (some t) (some u) = refl

plain2 : (x y g : Ty) (t u : Option Ty) → if_both (eqb (ty_num t) (ty_code x)) (eqb (ty_num u) (ty_code y)) (ty_code g) ≡ ty_num (paired t u (takes (x ∷ y ∷ []) g))
unfolding sames
plain2 x y g none u = rw (none-not x)
plain2 x y g (some t) none = rw (none-not y) (if_none (eqb (ty_code t) (ty_code x)) (ty_code g))
plain2 x y g (some t) (some u) = taken2 (eqb (ty_code t) (ty_code x)) (eqb (ty_code u) (ty_code y)) g

any2 : (t u : Option Ty) → if_both (eqb (ty_num t) (ty_num u)) (not (eqb (ty_num t) 0)) 2 ≡ ty_num (paired t u any_one)
unfolding sames
any2 none none = refl
any2 none (some u) = rw (none-not u)
any2 (some t) none = rw (ne_eqb (ty_code t) 0 (code-some t))
any2 (some t) (some u) = rw (ne_eqb (ty_code t) 0 (code-some t), eq-eqb (ty_code t) (ty_code t) refl, eqb_comm (ty_code t) (ty_code u)) (taken1 (eqb (ty_code u) (ty_code t)) logical)

-- logical or bits
either1 : (n : ℕ) → if_either (eqb n 2) (eqb n 3) n ≡ ty_num (or_else (If eqb n 2 && true then some logical else none) (If eqb n 3 && true then some bits else none))
either1 n = elim (ℕ_discrete n 2) [ yes e ↦ rw e | no e ↦ elim (ℕ_discrete n 3) [ yes z ↦ rw z | no z ↦ rw (ne_eqb n 2 e, ne_eqb n 3 z) ] ]

either2 : (n m : ℕ) → if_both (eqb n m) true (if_either (eqb n 2) (eqb n 3) n)
    ≡ ty_num (or_else (If eqb n 2 && (eqb m 2 && true) then some logical else none) (If eqb n 3 && (eqb m 3 && true) then some bits else none))
either2 n m = elim (ℕ_discrete n m) [ yes e ↦ rw (← e, eq-eqb n n refl) (go n) | no e ↦ rw (ne_eqb n m e) (apart n m e) ]
  where
    go : (n : ℕ) → if_either (eqb n 2) (eqb n 3) n ≡ ty_num (or_else (If eqb n 2 && (eqb n 2 && true) then some logical else none) (If eqb n 3 && (eqb n 3 && true) then some bits else none))
    go n = elim (ℕ_discrete n 2) [ yes e ↦ rw e | no e ↦ elim (ℕ_discrete n 3) [ yes z ↦ rw z | no z ↦ rw (ne_eqb n 2 e, ne_eqb n 3 z) ] ]

    apart : (n m : ℕ) → ¬ (n ≡ m) → 0 ≡ ty_num (or_else (If eqb n 2 && (eqb m 2 && true) then some logical else none) (If eqb n 3 && (eqb m 3 && true) then some bits else none))
    apart n m e =
        elim (ℕ_discrete n 2) [
          | yes y ↦ rw (y, ne_eqb m 2 (λ z. omega arith))
          | no y ↦ elim
              (ℕ_discrete n 3) [ yes z ↦ rw (z, ne_eqb m 3 (λ w. omega arith)) | no z ↦ rw (ne_eqb n 2 y, ne_eqb n 3 z) ]
        ]

join2 : (t u : Option Ty) → if_both (eqb (ty_num t) (ty_num u)) true (if_either (eqb (ty_num t) 2) (eqb (ty_num t) 3) (ty_num t)) ≡ ty_num (paired t u (logical_or_bits (λ x. x ∷ x ∷ [])))
unfolding sames
join2 none none = refl
join2 none (some u) = rw (none-not u)
join2 (some t) none = rw (ne_eqb (ty_code t) 0 (code-some t))
join2 (some t) (some u) = either2 (ty_code t) (ty_code u)

pub unary-number : (o : Unary) (t : Option Ty) (n : ℕ) → operated_by (unary_code o) (ty_num t) n ≡ ty_num (oper_ty (unary o) (t ∷ []))
unfolding operated_by sequence op_type sames
unary-number negate none n = refl
unary-number absolute none n = refl
unary-number complement none n = refl
unary-number negate (some t) n = taken1 (eqb (ty_code t) 1) integer
unary-number absolute (some t) n = taken1 (eqb (ty_code t) 1) integer
unary-number complement (some t) n = either1 (ty_code t)

pub binary-number : (o : Binary) (t u : Option Ty) → operated_by (binary_code o) (ty_num t) (ty_num u) ≡ ty_num (oper_ty (binary o) (t ∷ u ∷ []))
unfolding operated_by op_type
binary-number plus t u = rw (oper2 (binary plus) t u) (plain2 integer integer integer t u)
binary-number minus t u = rw (oper2 (binary minus) t u) (plain2 integer integer integer t u)
binary-number times t u = rw (oper2 (binary times) t u) (plain2 integer integer integer t u)
binary-number divide t u = rw (oper2 (binary divide) t u) (plain2 integer integer integer t u)
binary-number remainder t u = rw (oper2 (binary remainder) t u) (plain2 integer integer integer t u)
binary-number less t u = rw (oper2 (binary less) t u) (plain2 integer integer logical t u)
binary-number at_most t u = rw (oper2 (binary at_most) t u) (plain2 integer integer logical t u)
binary-number greater t u = rw (oper2 (binary greater) t u) (plain2 integer integer logical t u)
binary-number at_least t u = rw (oper2 (binary at_least) t u) (plain2 integer integer logical t u)
binary-number equal t u = rw (oper2 (binary equal) t u) (any2 t u)
binary-number unequal t u = rw (oper2 (binary unequal) t u) (any2 t u)
binary-number both t u = rw (oper2 (binary both) t u) (join2 t u)
binary-number either t u = rw (oper2 (binary either) t u) (join2 t u)
binary-number shift_left t u = rw (oper2 (binary shift_left) t u) (plain2 bits integer bits t u)
binary-number shift_right t u = rw (oper2 (binary shift_right) t u) (plain2 bits integer bits t u)

-- ── arguments ──
and-false : (b : Bool) → (If b then false else false) ≡ false
and-false true = refl
and-false false = refl

pub arguments : (ts : List (Option Ty)) (us : List Ty) → same_all (map ty_num ts) (map ty_code us) ≡ fit_tys (sequence ts) us
unfolding same_all sequence all_fit
arguments [] [] = refl
arguments [] (u ∷ us) = refl
arguments (none ∷ ts) [] = refl
arguments (some t ∷ ts) [] = go (sequence ts)
  where
    go : (x : Option (List Ty)) → false ≡ fit_tys (cons_ty (some t) x) []
    go none = refl
    go (some xs) = refl
arguments (none ∷ ts) (u ∷ us) = rw (none-not u)
arguments (some t ∷ ts) (u ∷ us) = rw (arguments ts us) (go (sequence ts))
  where
    split : (b c : Bool) → (If b then c else false) ≡ (b && c)
    split true c = refl
    split false c = refl

    go : (x : Option (List Ty)) → (If eqb (ty_code t) (ty_code u) then fit_tys x us else false) ≡ fit_tys (cons_ty (some t) x) (u ∷ us)
    go none = and-false (eqb (ty_code t) (ty_code u))
    go (some xs) = split (eqb (ty_code t) (ty_code u)) (all_fit xs us)
