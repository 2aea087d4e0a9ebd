-- The plain machine: one step at a time, with every way of having no next step named. It calls nothing of the loading rules (S13).
-- (paper 01, Running)
use Rattle.std.specs.Prelude.{Bool, true, false, ◌&&◌, List, [], ◌∷◌, ◌++◌, ℕ, zero, suc, eqb, leb, ltb, pos, length, take, drop, set as put}
use Rattle.std.proofs.Math.Option.{Option, none, some}
use Rattle.std.proofs.Math.ListN.{get_elem?}
use Rattle.logic.specs.Choice.{If◌then◌else◌}
use Rattle.logic.specs.Options.{if_some}
use Rattle.values.specs.Types.{Ty, fits, all_fit, sames}
use Rattle.values.specs.Ends.{field_of_null, assert_false, out_of_range, too_many_activations, too_many_records}
use Rattle.values.specs.Operators.{Operator, unary, binary}
use Rattle.values.specs.Arithmetic.{Outcome, gives, ends, mistyped}
use Rattle.values.specs.Values.{Value, int, ref, ty_of, tys_of, as_integer, as_logical, as_reference, Cell, assigned, fresh_all, between, size, apply1, apply2}
use Rattle.values.specs.Trace.{set, hold, release, Item, event, reading}
use Rattle.bytecode.specs.Macro.{Body, Macro}
use Rattle.bytecode.specs.Instructions.{Owner, own, root, Instr, end, push, load, store, operate, go, go_unless, call, return, make, get_field, put_field, set_level}
use Rattle.bytecode.specs.Instructions.{read_fader, take_hold, let_hold, assert, stop, in_body, instr_at, cell_ty, field_ty, known, procedure_at}

-- ── states ──
-- "activations from the root up: body, address, cells, working stack, holds, each value with its type"
pub record Activation : Type 0 where
  pub body : ℕ
  pub address : ℕ
  pub cells : List Cell
  pub operands : List Value  -- the top first
  pub holds : List ℕ  -- the latest first

pub record Made : Type 0 where
  pub class : ℕ
  pub fields : List Value

-- what all activations share
pub record Shared : Type 0 where
  pub records : List Made  -- in the order in which they were made

-- what comes after the last of the holds that are being released
pub data After : Type 0 where
  end_by : ℕ → After

-- "It keeps records, a condition or end once reached, and activations"
pub data Machine : Type 0 where
  running : Shared → Activation → List Activation → Machine  -- the top, and those below it, the nearest first
  unwinding : List ℕ → After → Machine  -- the holds still to be released, in that order
  ended : ℕ → Machine

-- "Fresh, it has the root alone, at its first address."
abbrev pub root_cells : List Body → List Ty
root_cells [] = []
root_cells (b ∷ bs) = b.cells

unfoldable pub fresh_machine : Macro → Machine
fresh_machine m =
    running (record { records = [] })
    (record { body = 0; address = 0; cells = fresh_all (root_cells m.bodies); operands = []; holds = [] }) []

-- ── steps ──
-- the ways of having no next step (S12)
pub data Stuck : Type 0 where
  no_step : Stuck  -- "the address is outside its body, or the op there is not allowed in that body"
  bad_type : Stuck  -- "an operand, cell, field or result is not as the op asks"
  bad_record : Stuck  -- "13 or 14 works on another class, or a number never made"
  bad_frame : Stuck  -- "a cell, operand or hold is missing, or a body's limit passed"
  group_held : Stuck  -- a body is left with a hold open

pub data Stepped : Type 0 where
  moved : List Item → Machine → Stepped  -- with what it gives: nothing, an event or a reading
  stuck : Stuck → Stepped

abbrev pub demand : Bool → Stuck → Stepped → Stepped
demand b why s = If b then s else stuck why

-- "then likewise those below it"
unfoldable pub all_holds : List Activation → List ℕ
all_holds [] = []
all_holds (f ∷ fs) = f.holds ++ all_holds fs

-- what is shared, the top and those below, as an op finds them
pub record Here : Type 0 where
  pub shared : Shared
  pub top : Activation
  pub below : List Activation

-- "A condition … releases every open hold": its own step gives nothing (S11)
unfoldable pub condition : ℕ → Here → Stepped
condition c h = moved [] (unwinding (all_holds (h.top ∷ h.below)) (end_by c))

-- the top goes on at an address with these operands
abbrev pub at : ℕ → List Value → Activation → Activation
at i vs f = record { body = f.body; address = i; cells = f.cells; operands = vs; holds = f.holds }

abbrev pub with_holds : List ℕ → Activation → Activation
with_holds gs f = record { body = f.body; address = suc f.address; cells = f.cells; operands = f.operands; holds = gs }

abbrev pub with_cells : List Cell → Activation → Activation
with_cells cs f = record { body = f.body; address = f.address; cells = cs; operands = f.operands; holds = f.holds }

-- "33rd value": the limits of a body
abbrev pub max_operands : ℕ
max_operands = 32

abbrev pub max_holds : ℕ
max_holds = 16

-- "it pops operands, pushes the result, and goes on"; what is given stands first
abbrev pub goes_on : List Item → List Value → Here → Stepped
goes_on is vs h =
    demand (leb (length vs) max_operands) bad_frame (moved is (running h.shared (at (suc h.top.address) vs h.top) h.below))

abbrev pub settled : Outcome Value → List Value → Here → Stepped
settled (gives v) vs h = goes_on [] (v ∷ vs) h
settled (ends c) vs h = condition c h
settled mistyped vs h = stuck bad_type

-- the topmost operands
abbrev pub pop : List Value → (Value → List Value → Stepped) → Stepped
pop [] f = stuck bad_frame
pop (v ∷ vs) f = f v vs

abbrev pub given : {A : Type 0} → Option A → Stuck → (A → Stepped) → Stepped
given o why f = if_some o f (stuck why)

-- ── cells ──
-- the root is the lowest activation
unfoldable pub root_of : Activation → List Activation → Activation
root_of f [] = f
root_of f (g ∷ gs) = root_of g gs

unfoldable pub put_lowest : List Cell → List Activation → List Activation
put_lowest cs [] = []
put_lowest cs (f ∷ []) = with_cells cs f ∷ []
put_lowest cs (f ∷ (g ∷ gs)) = f ∷ put_lowest cs (g ∷ gs)

abbrev pub cells_for : Owner → Here → List Cell
cells_for own h = h.top.cells
cells_for root h = (root_of h.top h.below).cells

abbrev pub put_top : List Cell → Activation → List Activation → Activation
put_top cs f [] = with_cells cs f
put_top cs f (g ∷ gs) = f

abbrev pub put_cells : Owner → List Cell → Here → Here
put_cells own cs h = record { shared = h.shared; top = with_cells cs h.top; below = h.below }
put_cells root cs h = record { shared = h.shared; top = put_top cs h.top h.below; below = put_lowest cs h.below }

-- cell x, as the body declares it and as it lies there
abbrev pub on_cell : Macro → Owner → ℕ → Here → (Ty → Cell → Stepped) → Stepped
on_cell m o x h f = given (cell_ty m h.top.body o x) bad_frame (λ t. given (get_elem? (cells_for o h) x) bad_frame (λ c. f t c))

-- a value in a place of type t: a cell or a field
abbrev pub in_place : Value → Ty → Stepped → Stepped
in_place v t s = demand (fits (ty_of v) t) bad_type s

abbrev pub push_cell : Ty → Cell → Here → Stepped
push_cell t (assigned v) h = in_place v t (goes_on [] (v ∷ h.top.operands) h)

unfoldable pub do_load : Macro → Owner → ℕ → Here → Stepped
do_load m o x h = on_cell m o x h (λ t c. push_cell t c h)

unfoldable pub do_store : Macro → Owner → ℕ → Here → Stepped
do_store m o x h = pop h.top.operands (λ v vs. on_cell m o x h (λ t c.
    in_place v t (goes_on [] vs (put_cells o (put (cells_for o h) x (assigned v)) h))))

-- ── operators, jumps ──
unfoldable pub do_operate : Operator → Here → Stepped
do_operate (unary o) h = pop h.top.operands (λ v vs. settled (apply1 o v) vs h)
do_operate (binary o) h = pop h.top.operands (λ w vs. pop vs (λ v us. settled (apply2 o v w) us h))

abbrev pub goes : ℕ → List Value → Here → Stepped
goes i vs h = moved [] (running h.shared (at i vs h.top) h.below)

unfoldable pub do_go_unless : ℕ → Here → Stepped
do_go_unless i h = pop h.top.operands (λ v vs. given (as_logical v) bad_type (λ b. goes (If b then suc h.top.address else i) vs h))

-- ── calls ──
-- the topmost n operands, the deepest first, and those below them
unfoldable pub pop_many : ℕ → List Value → List Value → (List Value → List Value → Stepped) → Stepped
pop_many zero taken vs f = f taken vs
pop_many (suc n) taken [] f = stuck bad_frame
pop_many (suc n) taken (v ∷ vs) f = pop_many n (v ∷ taken) vs f

unfoldable pub assign_all : List Value → List Cell
assign_all [] = []
assign_all (v ∷ vs) = assigned v ∷ assign_all vs

-- "arguments fill its first cells; other cells … start as variables do"
abbrev pub activation : ℕ → Body → List Value → Activation
activation k b vs =
    record { body = k; address = b.first; cells = assign_all vs ++ fresh_all (drop (length vs) b.cells); operands = []; holds = [] }

-- 26: "33rd open activation, the root counting 1"
abbrev pub max_activations : ℕ
max_activations = 32

-- 16 in each of them
abbrev pub max_open_holds : ℕ
max_open_holds = 512

abbrev pub entering : ℕ → Body → List Value → List Value → Here → Stepped
entering k b vs us h =
    If ltb (length (h.top ∷ h.below)) max_activations
    then moved [] (running h.shared (activation k b vs) (at h.top.address us h.top ∷ h.below))
    else condition too_many_activations h

-- "A call waits until a return drops the activation above and hands the result down." (S1, S2)
unfoldable pub do_call : Macro → ℕ → Here → Stepped
do_call m k h = given (procedure_at m k) no_step (λ b. pop_many b.parameters [] h.top.operands (λ vs us.
    demand (all_fit (tys_of vs) (take b.parameters b.cells)) bad_type
    (demand (leb (length b.cells) 32) bad_frame (entering k b vs us h))))

abbrev pub hand_down : List Value → Shared → List Activation → Stepped
hand_down vs s [] = stuck bad_frame
hand_down vs s (f ∷ fs) = goes_on [] (vs ++ f.operands) (record { shared = s; top = f; below = fs })

abbrev pub is_empty : {A : Type 0} → List A → Bool
is_empty [] = true
is_empty (x ∷ xs) = false

-- procedures only, exactly the result, no open holds
unfoldable pub do_return : Macro → Here → Stepped
do_return m h = given (procedure_at m h.top.body) no_step (λ b.
    demand (sames (tys_of h.top.operands) b.results) bad_type
    (demand (is_empty h.top.holds) group_held (hand_down h.top.operands h.shared h.below)))

-- root only, empty stack, no open holds; "op 0 ends by 0"
unfoldable pub do_end : Here → Stepped
do_end h =
    demand (eqb h.top.body 0) no_step
    (demand (is_empty h.top.operands) bad_type
    (demand (is_empty h.below) bad_frame
    (demand (is_empty h.top.holds) group_held (moved [] (ended 0)))))

-- ── records ──
-- 27: "257th record made"
abbrev pub max_records : ℕ
max_records = 256

abbrev pub with_records : List Made → Here → Here
with_records rs h = record { shared = record { records = rs }; top = h.top; below = h.below }

abbrev pub recording : ℕ → List Value → List Value → Here → Stepped
recording c vs us h =
    let rs = h.shared.records in
    If ltb (length rs) max_records
    then goes_on [] (ref c (some (length rs)) ∷ us) (with_records (rs ++ (record { class = c; fields = vs } ∷ [])) h)
    else condition too_many_records h

unfoldable pub do_make : Macro → ℕ → Here → Stepped
do_make m c h = given (get_elem? m.classes c) no_step (λ ts. pop_many (length ts) [] h.top.operands (λ vs us.
    demand (all_fit (tys_of vs) ts) bad_type (recording c vs us h)))

-- a made record of class c; 22: "field of null"
abbrev pub on_made : ℕ → Option ℕ → Here → (ℕ → Made → Stepped) → Stepped
on_made c none h f = condition field_of_null h
on_made c (some n) h f = given (get_elem? h.shared.records n) bad_record (λ r. demand (eqb r.class c) bad_record (f n r))

-- field x of the record of class c that v refers to, as the class declares it and as it lies there
abbrev pub on_field : Macro → ℕ → ℕ → Value → Here → (ℕ → Made → Ty → Value → Stepped) → Stepped
on_field m c x v h f = given (as_reference v) bad_type (λ r. demand (eqb r.class c) bad_record (on_made c r.target h (λ n q.
    given (field_ty m c x) bad_type (λ t. given (get_elem? q.fields x) bad_type (λ w. f n q t w)))))

unfoldable pub do_get_field : Macro → ℕ → ℕ → Here → Stepped
do_get_field m c x h = pop h.top.operands (λ v vs. on_field m c x v h (λ n q t w. in_place w t (goes_on [] (w ∷ vs) h)))

abbrev pub field_put : ℕ → ℕ → Value → Made → List Made → List Made
field_put n x w q rs = put rs n (record { class = q.class; fields = put q.fields x w })

unfoldable pub do_put_field : Macro → ℕ → ℕ → Here → Stepped
do_put_field m c x h = pop h.top.operands (λ w vs. pop vs (λ v us. on_field m c x v h (λ n q t u.
    in_place w t (goes_on [] us (with_records (field_put n x w q h.shared.records) h)))))

-- ── events and readings ──
-- 25: "channel, level or fader out of range"
unfoldable pub do_set : Here → Stepped
do_set h = pop h.top.operands (λ w vs. pop vs (λ v us. given (as_integer v) bad_type (λ x. given (as_integer w) bad_type (λ y.
    If between 1 512 x && between 0 255 y then goes_on (event (set (size x) (size y)) ∷ []) us h else condition out_of_range h))))

-- the reading of each fader enters here
unfoldable pub do_fader : (ℕ → ℕ) → Here → Stepped
do_fader bank h = pop h.top.operands (λ v vs. given (as_integer v) bad_type (λ x.
    If between 1 64 x
    then goes_on (reading (size x) (bank (size x)) ∷ []) (int (pos (bank (size x))) ∷ vs) h
    else condition out_of_range h))

unfoldable pub do_take_hold : ℕ → Here → Stepped
do_take_hold g h =
    demand (ltb (length h.top.holds) max_holds) bad_frame
    (moved (event (hold g) ∷ []) (running h.shared (with_holds (g ∷ h.top.holds) h.top) h.below))

abbrev pub letting : List ℕ → Here → Stepped
letting [] h = stuck bad_frame
letting (g ∷ gs) h = moved (event (release g) ∷ []) (running h.shared (with_holds gs h.top) h.below)

unfoldable pub do_assert : Here → Stepped
do_assert h = pop h.top.operands (λ v vs. given (as_logical v) bad_type (λ b. If b then goes_on [] vs h else condition assert_false h))

-- a null is of a class that the macro has
abbrev pub do_push : Macro → Value → Here → Stepped
do_push m v h = demand (known m (ty_of v)) no_step (goes_on [] (v ∷ h.top.operands) h)

-- ── one step ──
unfoldable pub act : Macro → (ℕ → ℕ) → Instr → Here → Stepped
act m bank end h = do_end h
act m bank (push v) h = do_push m v h
act m bank (load o x) h = do_load m o x h
act m bank (store o x) h = do_store m o x h
act m bank (operate o) h = do_operate o h
act m bank (go i) h = goes i h.top.operands h
act m bank (go_unless i) h = do_go_unless i h
act m bank (call k) h = do_call m k h
act m bank return h = do_return m h
act m bank (make c) h = do_make m c h
act m bank (get_field c x) h = do_get_field m c x h
act m bank (put_field c x) h = do_put_field m c x h
act m bank set_level h = do_set h
act m bank read_fader h = do_fader bank h
act m bank (take_hold g) h = do_take_hold g h
act m bank let_hold h = letting h.top.holds h
act m bank assert h = do_assert h
act m bank (stop c) h = condition c h

-- the op at the top's address, where that lies in its body
unfoldable pub fetch : Macro → ℕ → ℕ → Option Instr
fetch m k i = If in_body m k i then instr_at m i else none

-- "each step gives one release, the top's last first, then likewise those below it, and once none is open one more step ends"
unfoldable pub step : Macro → (ℕ → ℕ) → Machine → Stepped
step m bank (running s f fs) = given (fetch m f.body f.address) no_step (λ i. act m bank i (record { shared = s; top = f; below = fs }))
step m bank (unwinding (g ∷ gs) a) = moved (event (release g) ∷ []) (unwinding gs a)
step m bank (unwinding [] (end_by c)) = moved [] (ended c)
step m bank (ended c) = moved [] (ended c)
