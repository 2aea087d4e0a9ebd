-- The loading rules: the state found at each address, the faults at an address, and the verdict (refusal 9).
use Rattle.std.specs.Prelude.{Bool, true, false, not, ◌&&◌, ◌||◌, List, [], ◌∷◌, ◌++◌, reverse, ℕ, zero, suc, ◌-◌, eqb, leb, ltb, length, take}
use Rattle.std.proofs.Math.Option.{Option, none, some}
use Rattle.std.proofs.Math.ListN.{get_elem?}
use Rattle.logic.specs.Choice.{If◌then◌else◌}
use Rattle.logic.specs.Options.{is_some, keep, or_else}
use Rattle.values.specs.Types.{Ty, integer, logical, reference, sames, fits}
use Rattle.values.specs.Ends.{refusal, Judged, accepted, refused}
use Rattle.values.specs.Operators.{Operator, unary, binary, op_type}
use Rattle.values.specs.Values.{Value, ty_of}
use Rattle.bytecode.specs.Macro.{Body, Shape, shape, Macro, shape_in, read_macro}
use Rattle.bytecode.specs.Instructions.{Instr, end, push, load, store, operate, go, go_unless, call, return, make, get_field, put_field, set_level}
use Rattle.bytecode.specs.Instructions.{read_fader, take_hold, let_hold, assert, stop, in_body, instr_at, cell_ty, field_ty, known, procedure_at}

-- ── bodies and addresses ──
-- the body that an address stands in: the last that begins at it or before
unfoldable pub body_of : List Body → ℕ → ℕ → ℕ
body_of [] k i = k - 1
body_of (b ∷ bs) k i = If leb b.first i then body_of bs (suc k) i else k - 1

unfoldable pub is_first : List Body → ℕ → Bool
is_first [] i = false
is_first (b ∷ bs) i = eqb b.first i || is_first bs i

-- ── what an op does to a state ──
pub data Effect : Type 0 where
  plain : List Ty → List Ty → Effect  -- takes operands, the top first, and gives others, the top first
  takes : Effect  -- one hold more
  lets : Effect  -- one hold less
  jumps : ℕ → Effect
  forks : ℕ → Effect  -- takes a logical, and goes on or to the address
  leaves : List Ty → Effect  -- ends the body with exactly these operands and no open hold
  stops : Effect  -- ends by a condition
  wrong : Effect  -- may not stand here

-- the operands that a list of types makes on the working stack, the last on top
abbrev pub on_stack : List Ty → List Ty
on_stack ts = reverse ts

abbrev pub giving : Option Ty → List Ty → Effect
giving none ins = wrong
giving (some t) ins = plain ins (t ∷ [])

abbrev pub taking : Option Ty → List Ty → Effect
taking none ins = wrong
taking (some t) ins = plain (t ∷ ins) []

-- an operator takes the types of the operands that are there (M18)
abbrev pub operating : Operator → List Ty → Effect
operating (unary o) [] = wrong
operating (unary o) (t ∷ ts) = giving (op_type (unary o) (t ∷ [])) (t ∷ [])
operating (binary o) [] = wrong
operating (binary o) (t ∷ []) = wrong
operating (binary o) (t ∷ (u ∷ ts)) = giving (op_type (binary o) (u ∷ t ∷ [])) (t ∷ u ∷ [])

abbrev pub pushing : Macro → Value → Effect
pushing m v = If known m (ty_of v) then plain [] (ty_of v ∷ []) else wrong

-- "10 call body b, not 0 (arguments fill its first cells …)", the first argument deepest (M23)
abbrev pub calling : Option Body → Effect
calling none = wrong
calling (some b) = plain (on_stack (take b.parameters b.cells)) b.results

abbrev pub making : Option (List Ty) → ℕ → Effect
making none c = wrong
making (some ts) c = plain (on_stack ts) (reference c ∷ [])

-- "Op 0 (root only, empty stack) and 11 (procedures only, exactly the result)"
abbrev pub ending_in : ℕ → Effect
ending_in zero = leaves []
ending_in (suc k) = wrong

abbrev pub returning : Option Body → Effect
returning none = wrong
returning (some b) = leaves b.results

-- the effect of an op in body k, where this state is found
unfoldable pub effect : Macro → ℕ → Instr → Shape → Effect
effect m k end s = ending_in k
effect m k (push v) s = pushing m v
effect m k (load o x) s = giving (cell_ty m k o x) []
effect m k (store o x) s = taking (cell_ty m k o x) []
effect m k (operate o) s = operating o s.operands
effect m k (go t) s = jumps t
effect m k (go_unless t) s = forks t
effect m k (call b) s = calling (procedure_at m b)
effect m k return s = returning (procedure_at m k)
effect m k (make c) s = making (get_elem? m.classes c) c
effect m k (get_field c x) s = giving (field_ty m c x) (reference c ∷ [])
effect m k (put_field c x) s = taking (field_ty m c x) (reference c ∷ [])
effect m k set_level s = plain (integer ∷ integer ∷ []) []
effect m k read_fader s = plain (integer ∷ []) (integer ∷ [])
effect m k (take_hold g) s = takes
effect m k let_hold s = lets
effect m k assert s = plain (logical ∷ []) []
effect m k (stop c) s = stops

-- ── where control goes from an op, and with what state ──
pub data Flow : Type 0 where
  on : Shape → Flow  -- to the next address
  fork : Shape → ℕ → Flow  -- to the next address or to this one
  jump : Shape → ℕ → Flow  -- to this address
  halt : Flow  -- nowhere
  broken : Flow

-- "Every operand has its type": the operands asked for are taken off
unfoldable pub strip : List Ty → List Ty → Option (List Ty)
strip [] ts = some ts
strip (u ∷ us) [] = none
strip (u ∷ us) (t ∷ ts) = If fits t u then strip us ts else none

-- "a body's limits hold": 32 operands, 16 holds (M13)
abbrev pub roomy : Shape → Bool
roomy s = leb s.holds 16 && leb (length s.operands) 32

abbrev pub on_if : Bool → Flow → Flow
on_if b f = If b then f else broken

abbrev pub stripped : Option (List Ty) → (List Ty → Flow) → Flow
stripped none f = broken
stripped (some ts) f = f ts

abbrev pub one_less : ℕ → List Ty → Flow
one_less zero ts = broken
one_less (suc h) ts = on (shape h ts)

abbrev pub same_shape : Shape → Shape → Bool
same_shape s t = eqb s.holds t.holds && sames s.operands t.operands

unfoldable pub flow : Effect → Shape → Flow
flow (plain ins outs) s = stripped (strip ins s.operands) (λ ts. let t = shape s.holds (outs ++ ts) in on_if (roomy t) (on t))
flow takes s = let t = shape (suc s.holds) s.operands in on_if (roomy t) (on t)
flow lets s = one_less s.holds s.operands
flow (jumps t) s = jump s t
flow (forks t) s = stripped (strip (logical ∷ []) s.operands) (λ ts. fork (shape s.holds ts) t)
flow (leaves ts) s = on_if (same_shape s (shape 0 ts)) halt
flow stops s = halt
flow wrong s = broken

abbrev pub flow_of : Option Instr → Macro → ℕ → Shape → Flow
flow_of none m k s = broken
flow_of (some x) m k s = flow (effect m k x s) s

abbrev pub flow_at : Macro → ℕ → Shape → Flow
flow_at m i s = flow_of (instr_at m i) m (body_of m.bodies 0 i) s

-- ── the state found at each address ──
-- what goes on to the next address
abbrev pub passed : Flow → Option Shape
passed (on s) = some s
passed (fork s t) = some s
passed (jump s t) = none
passed halt = none
passed broken = none

-- "The loading check follows each body from its first instruction with no holds and nothing on the working stack."
abbrev pub at_first : Option Shape
at_first = some (shape 0 [])

-- what flows into an address from the one before it
unfoldable pub into : Macro → ℕ → Option Shape
into m zero = at_first
into m (suc i) =
    let before = or_else (shape_in m.shapes i) (into m i) in
    If is_first m.bodies (suc i) then at_first else keep before (λ s. passed (flow_at m i s))

-- an SH says what is found; code behind ops 0, 8, 11 and 20 is judged from its SH, reached or not (M14)
unfoldable pub found_at : Macro → ℕ → Option Shape
found_at m i = or_else (shape_in m.shapes i) (into m i)

-- ── the faults at an address ──
-- "its body's first address": the root without parameters or result, at most 32 cells (M7)
abbrev pub head_fault : ℕ → Body → Bool
head_fault zero b = not (eqb b.parameters 0 && sames b.results []) || ltb 32 (length b.cells)
head_fault (suc k) b = ltb 32 (length b.cells)

unfoldable pub body_fault : List Body → ℕ → ℕ → Bool
body_fault [] k i = false
body_fault (b ∷ bs) k i = (eqb b.first i && head_fault k b) || body_fault bs (suc k) i

-- "At an SH the state equals it." (M8, M15)
abbrev pub shape_fault : Option Shape → Option Shape → Bool
shape_fault none f = false
shape_fault (some s) none = not (roomy s)
shape_fault (some s) (some t) = not (roomy s && same_shape t s)

-- "A jump stays in its body and finds an equal SH." (M10, M16)
abbrev pub equal_shape : Option Shape → Shape → Bool
equal_shape none s = false
equal_shape (some t) s = same_shape t s

abbrev pub lands : Macro → ℕ → ℕ → Shape → Bool
lands m k t s = in_body m k t && equal_shape (shape_in m.shapes t) s

-- "After ops 0, 8, 11, 20 comes an SH or the body's end, and no body runs past its end." (M11, M12)
abbrev pub closes : Macro → ℕ → ℕ → Bool
closes m k i = not (in_body m k (suc i)) || is_some (shape_in m.shapes (suc i))

abbrev pub flow_fault : Macro → ℕ → ℕ → Flow → Bool
flow_fault m k i (on s) = not (in_body m k (suc i))
flow_fault m k i (fork s t) = not (in_body m k (suc i) && lands m k t s)
flow_fault m k i (jump s t) = not (closes m k i && lands m k t s)
flow_fault m k i halt = not (closes m k i)
flow_fault m k i broken = true

-- an address that nothing flows into and that has no SH lies behind an op at fault
abbrev pub op_fault : Macro → ℕ → Option Shape → Bool
op_fault m i none = false
op_fault m i (some s) = flow_fault m (body_of m.bodies 0 i) i (flow_at m i s)

unfoldable pub fault_at : Macro → ℕ → Bool
fault_at m i = body_fault m.bodies 0 i || (shape_fault (shape_in m.shapes i) (into m i) || op_fault m i (found_at m i))

-- ── the verdict: "every other fault is 9, at the lowest address that has one" ──
-- the lowest of the n addresses from i on at which a test holds
unfoldable pub lowest : (ℕ → Bool) → ℕ → ℕ → Option ℕ
lowest f zero i = none
lowest f (suc n) i = let r = lowest f n (suc i) in If f i then some i else r

abbrev pub or_passes : Option ℕ → Macro → Judged Macro
or_passes none m = accepted m
or_passes (some i) m = refused (refusal 9 i)

abbrev pub judge_code : Judged Macro → Judged Macro
judge_code (accepted m) = or_passes (lowest (fault_at m) (length m.code) 0) m
judge_code (refused r) = refused r

unfoldable pub judge_macro : List ℕ → Judged Macro
judge_macro l = judge_code (read_macro l)
