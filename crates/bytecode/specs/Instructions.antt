-- The instructions: what op, a and b of a record stand for. (paper 01, Compiled macro)
use Rattle.std.specs.Prelude.{Bool, true, false, ◌&&◌, ◌||◌, ℕ, zero, suc, List, [], ◌∷◌, eqb, leb, ltb, length}
use Rattle.std.proofs.Math.Option.{Option, none, some}
use Rattle.std.proofs.Math.ListN.{get_elem?}
use Rattle.logic.specs.Choice.{If◌then◌else◌}
use Rattle.logic.specs.Options.{keep}
use Rattle.words.specs.Numbers.{integer_of}
use Rattle.values.specs.Operators.{Operator, unary, binary, unary_of, binary_of}
use Rattle.values.specs.Values.{Value, int, log, bit, ref}
use Rattle.values.specs.Types.{Ty, integer, logical, bits, reference}
use Rattle.values.specs.Ends.{case_index, step_zero}
use Rattle.bytecode.specs.Macro.{Body, Code, Macro}

-- whose cells: "a 0 own, 1 root's", in the root too (M17)
pub data Owner : Type 0 where
  own root : Owner

pub data Instr : Type 0 where
  end : Instr  -- 0
  push : Value → Instr  -- 1, 2, 3, 4
  load : Owner → ℕ → Instr  -- 5
  store : Owner → ℕ → Instr  -- 6
  operate : Operator → Instr  -- 7
  go : ℕ → Instr  -- 8
  go_unless : ℕ → Instr  -- 9
  call : ℕ → Instr  -- 10
  return : Instr  -- 11
  make : ℕ → Instr  -- 12
  get_field : ℕ → ℕ → Instr  -- 13
  put_field : ℕ → ℕ → Instr  -- 14
  set_level : Instr  -- 15
  read_fader : Instr  -- 16
  take_hold : ℕ → Instr  -- 17
  let_hold : Instr  -- 18
  assert : Instr  -- 19
  stop : ℕ → Instr  -- 20, by this condition

abbrev pub exactly : {A : Type 0} → Bool → A → Option A
exactly b x = If b then some x else none

abbrev pub owner_of : ℕ → Option Owner
owner_of n = If eqb n 0 then some own else If eqb n 1 then some root else none

abbrev pub or_binary : Option Operator → ℕ → Option Operator
or_binary none n = keep (binary_of n) (λ o. some (binary o))
or_binary (some o) n = some o

abbrev pub operator_of : ℕ → Option Operator
operator_of n = or_binary (keep (unary_of n) (λ o. some (unary o))) n

-- "Op 20 stops by its a, 24 or 28." (paper 02, ticket 1)
abbrev pub stops_by : ℕ → Bool
stops_by n = eqb n case_index || eqb n step_zero

-- "An unknown op is a fault, and an a or b out of range, or unused and not 0."; what is in range by the macro is the rules' to say
unfoldable pub instruction : Code → Option Instr
instruction c =
    let k = c.op in let x = c.a in let n = c.b in
    let plain = eqb x 0 && eqb n 0 in
    If eqb k 0 then exactly plain end else  -- 0 end
    If eqb k 1 then exactly (eqb x 0) (push (int (integer_of n))) else  -- 1 push integer b
    If eqb k 2 then exactly (eqb x 0 && ltb n 2) (push (log (eqb n 1))) else  -- 2 push logical b
    If eqb k 3 then exactly (eqb x 0) (push (bit n)) else  -- 3 push bits b
    If eqb k 4 then exactly (eqb n 0) (push (ref x none)) else  -- 4 push null of class a
    If eqb k 5 then keep (owner_of x) (λ o. some (load o n)) else  -- 5 push cell b (a 0 own, 1 root's)
    If eqb k 6 then keep (owner_of x) (λ o. some (store o n)) else  -- 6 store cell b
    If eqb k 7 then keep (operator_of x) (λ o. exactly (eqb n 0) (operate o)) else  -- 7 operator a
    If eqb k 8 then exactly (eqb x 0) (go n) else  -- 8 go to b
    If eqb k 9 then exactly (eqb x 0) (go_unless n) else  -- 9 go to b if false
    If eqb k 10 then exactly (eqb x 0) (call n) else  -- 10 call body b
    If eqb k 11 then exactly plain return else  -- 11 return
    If eqb k 12 then exactly (eqb n 0) (make x) else  -- 12 make class a
    If eqb k 13 then some (get_field x n) else  -- 13 push field b of class a
    If eqb k 14 then some (put_field x n) else  -- 14 store field b of class a
    If eqb k 15 then exactly plain set_level else  -- 15 set
    If eqb k 16 then exactly plain read_fader else  -- 16 fader
    If eqb k 17 then exactly (eqb x 0 && leb n 63) (take_hold n) else  -- 17 hold b
    If eqb k 18 then exactly plain let_hold else  -- 18 release
    If eqb k 19 then exactly plain assert else  -- 19 assert
    If eqb k 20 then exactly (stops_by x && eqb n 0) (stop x) else none  -- 20 stop by a

-- ── where the code of each body lies ──
abbrev pub body_at : Macro → ℕ → Option Body
body_at m k = get_elem? m.bodies k

-- the bodies lie one after the other: body k ends where the next begins, the last where the code does
unfoldable pub end_of : List Body → ℕ → ℕ → ℕ
end_of [] n k = n
end_of (b ∷ []) n k = n
end_of (b ∷ (c ∷ bs)) n zero = c.first
end_of (b ∷ (c ∷ bs)) n (suc k) = end_of (c ∷ bs) n k

abbrev pub from_to : Option Body → ℕ → ℕ → Bool
from_to none e i = false
from_to (some b) e i = leb b.first i && ltb i e

-- address i stands in body k
unfoldable pub in_body : Macro → ℕ → ℕ → Bool
in_body m k i = from_to (body_at m k) (end_of m.bodies (length m.code) k) i

abbrev pub instr_at : Macro → ℕ → Option Instr
instr_at m i = keep (get_elem? m.code i) instruction

-- ── what a macro declares: the types of cells and fields, the classes of references ──
abbrev pub cells_of : Option Body → List Ty
cells_of none = []
cells_of (some b) = b.cells

-- cell x, where code of body k names it
abbrev pub cell_ty : Macro → ℕ → Owner → ℕ → Option Ty
cell_ty m k own x = get_elem? (cells_of (body_at m k)) x
cell_ty m k root x = get_elem? (cells_of (body_at m 0)) x

abbrev pub field_ty : Macro → ℕ → ℕ → Option Ty
field_ty m c x = keep (get_elem? m.classes c) (λ ts. get_elem? ts x)

-- a type whose class, if it has one, the macro has
abbrev pub known : Macro → Ty → Bool
known m integer = true
known m logical = true
known m bits = true
known m (reference c) = ltb c (length m.classes)

-- body k, if it is a procedure's: the root is not called and does not return
abbrev pub procedure_at : Macro → ℕ → Option Body
procedure_at m zero = none
procedure_at m (suc k) = body_at m (suc k)
