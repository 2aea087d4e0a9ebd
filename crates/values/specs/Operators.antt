-- The operators of kinds 48 and 49 and of op 7: their numbers, and the types that they take and give.
use Rattle.std.specs.Prelude.{List, [], ◌∷◌, ℕ, eqb}
use Rattle.std.proofs.Math.Option.{Option, none, some}
use Rattle.logic.specs.Choice.{If◌then◌else◌}
use Rattle.logic.specs.Options.{or_else}
use Rattle.values.specs.Types.{Ty, integer, logical, bits, sames}

-- "48 unary a (E)", "49 binary a (E, E)"
pub data Unary : Type 0 where
  negate absolute complement : Unary

pub data Binary : Type 0 where
  plus minus times divide remainder : Binary
  less at_most greater at_least equal unequal : Binary
  both either : Binary
  shift_left shift_right : Binary

-- "20 negate, 21 abs, 22 not"
abbrev pub unary_code : Unary → ℕ
unary_code negate = 20
unary_code absolute = 21
unary_code complement = 22

-- "1 +, 2 −, 3 ×, 4 div, 5 rem, 6 <, 7 <=, 8 >, 9 >=, 10 =, 11 ¬=, 12 and, 13 or, 14 shl, 15 shr"
abbrev pub binary_code : Binary → ℕ
binary_code plus = 1
binary_code minus = 2
binary_code times = 3
binary_code divide = 4
binary_code remainder = 5
binary_code less = 6
binary_code at_most = 7
binary_code greater = 8
binary_code at_least = 9
binary_code equal = 10
binary_code unequal = 11
binary_code both = 12
binary_code either = 13
binary_code shift_left = 14
binary_code shift_right = 15

-- the operator of a number
unfoldable pub unary_of : ℕ → Option Unary
unary_of n =
    If eqb n 20 then some negate else
    If eqb n 21 then some absolute else
    If eqb n 22 then some complement else none

unfoldable pub binary_of : ℕ → Option Binary
binary_of n =
    If eqb n 1 then some plus else
    If eqb n 2 then some minus else
    If eqb n 3 then some times else
    If eqb n 4 then some divide else
    If eqb n 5 then some remainder else
    If eqb n 6 then some less else
    If eqb n 7 then some at_most else
    If eqb n 8 then some greater else
    If eqb n 9 then some at_least else
    If eqb n 10 then some equal else
    If eqb n 11 then some unequal else
    If eqb n 12 then some both else
    If eqb n 13 then some either else
    If eqb n 14 then some shift_left else
    If eqb n 15 then some shift_right else none

-- ── types ──
-- an operator of either sort, for the one typing function
pub data Operator : Type 0 where
  unary : Unary → Operator
  binary : Binary → Operator

-- the type given where the operands' types are those asked for
abbrev pub takes : List Ty → Ty → List Ty → Option Ty
takes asked given ts = If sames ts asked then some given else none

-- "`and`, `or`, `not` take logical or bits"
abbrev pub logical_or_bits : (Ty → List Ty) → List Ty → Option Ty
logical_or_bits asked ts = or_else (takes (asked logical) logical ts) (takes (asked bits) bits ts)

-- "= and ¬= any one type"
abbrev pub any_one : List Ty → Option Ty
any_one [] = none
any_one (t ∷ ts) = takes (t ∷ t ∷ []) logical (t ∷ ts)

-- "+ − × div rem and orderings take integers, …, shifts bits by integer"; operands left to right; negate and abs take an integer (N21)
unfoldable pub op_type : Operator → List Ty → Option Ty
op_type (unary negate) = takes (integer ∷ []) integer
op_type (unary absolute) = takes (integer ∷ []) integer
op_type (unary complement) = logical_or_bits (λ t. t ∷ [])
op_type (binary plus) = takes (integer ∷ integer ∷ []) integer
op_type (binary minus) = takes (integer ∷ integer ∷ []) integer
op_type (binary times) = takes (integer ∷ integer ∷ []) integer
op_type (binary divide) = takes (integer ∷ integer ∷ []) integer
op_type (binary remainder) = takes (integer ∷ integer ∷ []) integer
op_type (binary less) = takes (integer ∷ integer ∷ []) logical
op_type (binary at_most) = takes (integer ∷ integer ∷ []) logical
op_type (binary greater) = takes (integer ∷ integer ∷ []) logical
op_type (binary at_least) = takes (integer ∷ integer ∷ []) logical
op_type (binary equal) = any_one
op_type (binary unequal) = any_one
op_type (binary both) = logical_or_bits (λ t. t ∷ t ∷ [])
op_type (binary either) = logical_or_bits (λ t. t ∷ t ∷ [])
op_type (binary shift_left) = takes (bits ∷ integer ∷ []) bits
op_type (binary shift_right) = takes (bits ∷ integer ∷ []) bits
