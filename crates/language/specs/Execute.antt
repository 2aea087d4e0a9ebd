-- How the tree runs: by names and blocks. (paper 01, How the tree runs; 000, section 7)
-- Fuel bounds the loop rounds and turns, caught gotos and calls under way; an execution that needs more is still going on.
use Rattle.std.specs.Prelude.{Bool, true, false, ◌&&◌, List, [], ◌∷◌, ◌++◌, reverse, ℕ, zero, suc, eqb, ltb, ℤ, pos, length, set as put}
use Rattle.std.specs.Bool.{beq}
use Rattle.std.proofs.Math.Option.{Option, none, some}
use Rattle.std.proofs.Math.ListN.{get_elem?}
use Rattle.std.specs.Int.Signed.{lt_z, le_z}
use Rattle.logic.specs.Choice.{If◌then◌else◌}
use Rattle.logic.specs.Options.{is_some, or_else, if_some}
use Rattle.words.specs.Numbers.{word_of}
use Rattle.values.specs.Ends.{field_of_null, assert_false, case_index, out_of_range, too_many_activations, too_many_records, step_zero}
use Rattle.values.specs.Operators.{Binary, both, either, binary_code}
use Rattle.values.specs.Arithmetic.{Outcome, gives, ends, mistyped, is_zero, sum}
use Rattle.values.specs.Values.{Value, int, log, bit, ref, as_integer, as_logical, as_reference, Cell, assigned, fresh, between, size, apply1, apply2}
use Rattle.values.specs.Trace.{Event, set, hold, release, Item, event, reading}
use Rattle.language.specs.Tree.{Typed, Decl, declare, holding, Stmt, block, assign, when, choose, while, goto, assert, call, set_level, select, for, Items, no_item, label}
use Rattle.language.specs.Tree.{item, Arms, last_arm, arm, Target, to_variable, to_field, Expr, number, truth, pattern, null, variable, invoke, field, make, operate1}
use Rattle.language.specs.Tree.{operate2, conditional, fader, block_expr, Exprs, no_expr, expr, Body, proper, function, Global, local, class, procedure, Tree, locals}

-- ── the state of an execution ──
-- a variable or a field: its name and what it holds
pub record Slot : Type 0 where
  pub name : ℕ
  pub cell : Cell

abbrev pub slot : ℕ → Cell → Slot
slot a c = record { name = a; cell = c }

pub record Made : Type 0 where
  pub fields : List Slot

pub record Store : Type 0 where
  pub root : List Slot  -- the root's variables, one copy for all activations (T11)
  pub blocks : List (List Slot)  -- the blocks entered in this activation, innermost first, with their variables
  pub records : List Made  -- in the order in which they were made
  pub trace : List Item  -- the latest first
  pub taken : ℕ  -- readings so far

abbrev pub with_blocks : List (List Slot) → Store → Store
with_blocks bs σ = record { root = σ.root; blocks = bs; records = σ.records; trace = σ.trace; taken = σ.taken }

abbrev pub with_root : List Slot → Store → Store
with_root r σ = record { root = r; blocks = σ.blocks; records = σ.records; trace = σ.trace; taken = σ.taken }

abbrev pub with_records : List Made → Store → Store
with_records rs σ = record { root = σ.root; blocks = σ.blocks; records = rs; trace = σ.trace; taken = σ.taken }

abbrev pub say : Event → Store → Store
say e σ = record { root = σ.root; blocks = σ.blocks; records = σ.records; trace = event e ∷ σ.trace; taken = σ.taken }

abbrev pub read : ℕ → ℕ → Store → Store
read n v σ = record { root = σ.root; blocks = σ.blocks; records = σ.records; trace = reading n v ∷ σ.trace; taken = suc σ.taken }

-- by name
unfoldable pub cell_in : ℕ → List Slot → Option Cell
cell_in a [] = none
cell_in a (s ∷ ss) = If eqb s.name a then some s.cell else cell_in a ss

unfoldable pub cell_of : ℕ → List (List Slot) → Option Cell
cell_of a [] = none
cell_of a (b ∷ bs) = or_else (cell_in a b) (cell_of a bs)

unfoldable pub put_in : ℕ → Cell → List Slot → List Slot
put_in a c [] = []
put_in a c (s ∷ ss) = If eqb s.name a then slot a c ∷ ss else s ∷ put_in a c ss

-- the innermost block that has the variable
unfoldable pub put_of : ℕ → Cell → List (List Slot) → List (List Slot)
put_of a c [] = []
put_of a c (b ∷ bs) = If is_some (cell_in a b) then put_in a c b ∷ bs else b ∷ put_of a c bs

unfoldable pub value_of : ℕ → Store → Option Cell
value_of a σ = or_else (cell_of a σ.blocks) (cell_in a σ.root)

unfoldable pub assign_to : ℕ → Value → Store → Store
assign_to a v σ =
    If is_some (cell_of a σ.blocks) then with_blocks (put_of a (assigned v) σ.blocks) σ else with_root (put_in a (assigned v) σ.root) σ

-- a block's variable; the root's own block is entered with no block open
abbrev pub declare_first : Slot → List (List Slot) → Store → Store
declare_first s [] σ = with_root (s ∷ σ.root) σ
declare_first s (b ∷ bs) σ = with_blocks ((s ∷ b) ∷ bs) σ

unfoldable pub declare_in : Typed → Store → Store
declare_in x σ = declare_first (slot x.name (fresh x.type)) σ.blocks σ

-- ── how a part ends ──
pub data Result (A : Type 0) : Type 0 where
  done : A → Store → Result A
  jump : ℕ → Store → Result A  -- a goto under way to a label
  ended : ℕ → Store → Result A  -- by a condition, every hold released
  later : Store → Result A  -- out of fuel: still going on
  wrong : Result A  -- no program of the subset comes here

unfoldable pub next : {A B : Type 0} → Result A → (A → Store → Result B) → Result B
next (done x σ) f = f x σ
next (jump a σ) f = jump a σ
next (ended c σ) f = ended c σ
next (later σ) f = later σ
next wrong f = wrong

-- where a part stands: the open holds, the latest first, and the open activations, the root counting 1
pub record Place : Type 0 where
  pub holds : List ℕ
  pub activations : ℕ

abbrev pub under : ℕ → Place → Place
under g X = record { holds = g ∷ X.holds; activations = X.activations }

abbrev pub deeper : Place → Place
deeper X = record { holds = X.holds; activations = suc X.activations }

unfoldable pub release_all : List ℕ → Store → Store
release_all [] σ = σ
release_all (g ∷ gs) σ = release_all gs (say (release g) σ)

-- "A condition (20 to 27) stops execution, releases every open hold, last first, and ends."
abbrev pub condition : {A : Type 0} → ℕ → Place → Store → Result A
condition c X σ = ended c (release_all X.holds σ)

unfoldable pub settled : {A : Type 0} → Outcome A → Place → Store → Result A
settled (gives x) X σ = done x σ
settled (ends c) X σ = condition c X σ
settled mistyped X σ = wrong

-- go on with what is asked for, or come where no program of the subset comes
abbrev pub asked : {A B : Type 0} → Option A → (A → Result B) → Result B
asked o f = if_some o f wrong

unfoldable pub branch : {A : Type 0} → Value → (Store → Result A) → (Store → Result A) → Store → Result A
branch v f g σ = asked (as_logical v) (λ b. If b then f σ else g σ)

-- ── effects on values ──
-- "set (channel 1 to 512, level 0 to 255)" (T2); 25: "channel, level or fader out of range"
unfoldable pub do_set : Value → Value → Place → Store → Result (Unit {0})
do_set v w X σ = asked (as_integer v) (λ x. asked (as_integer w) (λ y.
    If between 1 512 x && between 0 255 y then done tt (say (set (size x) (size y)) σ) else condition out_of_range X σ))

-- "A fader (1 to 64) reads a byte."; out of range it reads none (T6)
unfoldable pub do_fader : (ℕ → ℕ → ℕ) → Value → Place → Store → Result Value
do_fader oracle v X σ = asked (as_integer v) (λ x.
    If between 1 64 x then (let r = oracle σ.taken (size x) in done (int (pos r)) (read (size x) r σ)) else condition out_of_range X σ)

-- 22: "field of null"
abbrev pub cell_value : Option Cell → Store → Result Value
cell_value none σ = wrong
cell_value (some (assigned v)) σ = done v σ

abbrev pub on_made : {A : Type 0} → Option ℕ → Place → Store → (ℕ → Made → Result A) → Result A
on_made none X σ f = condition field_of_null X σ
on_made (some n) X σ f = asked (get_elem? σ.records n) (f n)

abbrev pub on_record : {A : Type 0} → Value → Place → Store → (ℕ → Made → Result A) → Result A
on_record v X σ f = asked (as_reference v) (λ r. on_made r.target X σ f)

unfoldable pub do_field : ℕ → Value → Place → Store → Result Value
do_field a v X σ = on_record v X σ (λ n m. cell_value (cell_in a m.fields) σ)

unfoldable pub do_put_field : ℕ → Value → Value → Place → Store → Result (Unit {0})
do_put_field a v w X σ = on_record v X σ (λ n m.
    done tt (with_records (put σ.records n (record { fields = put_in a (assigned w) m.fields })) σ))

-- "a target's reference before the value, and a null target ends by 22 after the value" (T5)
pub data Location : Type 0 where
  of_variable : ℕ → Location
  of_field : ℕ → Value → Location

unfoldable pub do_assign : Location → Value → Place → Store → Result (Unit {0})
do_assign (of_variable a) v X σ = done tt (assign_to a v σ)
do_assign (of_field a r) v X σ = do_put_field a r v X σ

unfoldable pub pair_up : List Typed → List Value → List Slot
pair_up [] vs = []
pair_up (x ∷ xs) [] = []
pair_up (x ∷ xs) (v ∷ vs) = slot x.name (assigned v) ∷ pair_up xs vs

-- 27: "257th record made", after its values (T3)
unfoldable pub do_make : ℕ → Option (List Typed) → List Value → Place → Store → Result Value
do_make c none vs X σ = wrong
do_make c (some xs) vs X σ =
    If ltb (length σ.records) 256
    then done (ref c (some (length σ.records))) (with_records (σ.records ++ (record { fields = pair_up xs vs } ∷ [])) σ)
    else condition too_many_records X σ

-- "Logical `X and Y` is Y only where X is true, and `or` likewise": the first operand may decide alone
abbrev pub same_binary : Binary → Binary → Bool
same_binary o p = eqb (binary_code o) (binary_code p)

-- the value that decides
unfoldable pub deciding : Binary → Option Bool
deciding o = If same_binary o both then some false else If same_binary o either then some true else none

unfoldable pub decides : Binary → Value → Bool
decides o v = if_some (deciding o) (λ d. if_some (as_logical v) (beq d) false) false

-- ── blocks ──
-- "Holds are taken in order when a block is entered, and released last first on every way out."
unfoldable pub let_go : {A : Type 0} → ℕ → Result A → Result A
let_go g (done x σ) = done x (say (release g) σ)
let_go g (jump a σ) = jump a (say (release g) σ)
let_go g (ended c σ) = ended c σ
let_go g (later σ) = later σ
let_go g wrong = wrong

-- "Variables of a block start at 0, false, #0 or null each time the block is entered." (T10)
unfoldable pub within : {A : Type 0} → List Decl → Place → Store → (Place → Store → Result A) → Result A
within [] X σ f = f X σ
within (declare x ∷ ds) X σ f = within ds X (declare_in x σ) f
within (holding g ∷ ds) X σ f = let_go g (within ds (under g X) (say (hold g) σ) f)

unfoldable pub outer_blocks : List (List Slot) → List (List Slot)
outer_blocks [] = []
outer_blocks (b ∷ bs) = bs

-- the blocks as they were outside
unfoldable pub leaving : {A : Type 0} → (Store → List (List Slot)) → Result A → Result A
leaving f (done x σ) = done x (with_blocks (f σ) σ)
leaving f (jump a σ) = jump a (with_blocks (f σ) σ)
leaving f (ended c σ) = ended c σ
leaving f (later σ) = later σ
leaving f wrong = wrong

abbrev pub new_block : {A : Type 0} → List Decl → Place → Store → (Place → Store → Result A) → Result A
new_block ds X σ f = leaving (λ τ. outer_blocks τ.blocks) (within ds X (with_blocks ([] ∷ σ.blocks) σ) f)

-- the statements after a label
unfoldable pub from : ℕ → Items → Option Items
from a no_item = none
from a (label b is) = If eqb a b then some is else from a is
from a (item s is) = from a is

-- ── loops ──
-- a for whose step and limit are known
pub record Loop : Type 0 where
  pub control : ℕ
  pub step : ℤ
  pub limit : ℤ
  pub statement : Stmt

-- a turn is due: the value has not passed the limit in the direction of the step (000, 7.8.1; O6)
unfoldable pub due : Loop → ℤ → Bool
due l v = If lt_z l.step (pos 0) then le_z l.limit v else le_z v l.limit

-- the value is tested before each turn
unfoldable pub if_due : Loop → ℤ → (Store → Result (Unit {0})) → Store → Result (Unit {0})
if_due l v f σ = If due l v then f σ else done tt σ

-- the statement, in a block of its own where the control name has this value
unfoldable pub turning : ℕ → ℤ → (Place → Store → Result (Unit {0})) → Place → Store → Result (Unit {0})
turning a v f X σ = leaving (λ τ. outer_blocks τ.blocks) (f X (with_blocks ((slot a (assigned (int v)) ∷ []) ∷ σ.blocks) σ))

-- the next value is exact: "A loop whose next value would pass the 32-bit range ends there without a condition." (ticket 1)
unfoldable pub advancing : Outcome ℤ → (ℤ → Store → Result (Unit {0})) → Store → Result (Unit {0})
advancing (gives w) f σ = f w σ
advancing (ends c) f σ = done tt σ
advancing mistyped f σ = wrong

-- ── one level of execution over what is run with less fuel ──
pub record Less : Type 0 where
  pub again : Expr → Stmt → Place → Store → Result (Unit {0})  -- a while's next round
  pub further : Loop → ℤ → Place → Store → Result (Unit {0})  -- a for's next turn, with this value
  pub resume : Items → Items → Place → Store → Result (Unit {0})  -- a block's statements from a label on
  pub call_s : Body → Place → Store → Result (Unit {0})
  pub call_e : Body → Place → Store → Result Value

abbrev pub caught : Less → Items → Option Items → ℕ → Place → Store → Result (Unit {0})
caught r is none a X σ = jump a σ
caught r is (some js) a X σ = r.resume is js X σ

-- "A goto … leaves exactly the blocks that do not contain the label."
unfoldable pub catch : Less → Items → Place → Result (Unit {0}) → Result (Unit {0})
catch r is X (done u σ) = done u σ
catch r is X (jump a σ) = caught r is (from a is) a X σ
catch r is X (ended c σ) = ended c σ
catch r is X (later σ) = later σ
catch r is X wrong = wrong

-- what is declared in the root's head
pub record Procedure : Type 0 where
  pub parameters : List Typed
  pub body : Body

abbrev pub else_find : {A : Type 0} → Bool → A → Option A → Option A
else_find b x y = If b then some x else y

unfoldable pub procedure_in : ℕ → List Global → Option Procedure
procedure_in a [] = none
procedure_in a (local d ∷ gs) = procedure_in a gs
procedure_in a (class c xs ∷ gs) = procedure_in a gs
procedure_in a (procedure b xs d ∷ gs) = else_find (eqb a b) (record { parameters = xs; body = d }) (procedure_in a gs)

unfoldable pub class_in : ℕ → List Global → Option (List Typed)
class_in c [] = none
class_in c (local d ∷ gs) = class_in c gs
class_in c (class b xs ∷ gs) = else_find (eqb c b) xs (class_in c gs)
class_in c (procedure b xs d ∷ gs) = class_in c gs

pub record World : Type 0 where
  pub oracle : ℕ → ℕ → ℕ  -- the k-th reading of an execution, of fader n (T12)
  pub globals : List Global

-- a call: 26, "33rd open activation, the root counting 1", after its arguments (T4); the parameters are a block around the body
unfoldable pub activate : {A : Type 0} → Option Procedure → (Body → Place → Store → Result A) → List Value → Place → Store → Result A
activate none f vs X σ = wrong
activate (some q) f vs X σ =
    If ltb X.activations 32
    then leaving (λ τ. σ.blocks) (f q.body (deeper X) (with_blocks (pair_up q.parameters vs ∷ []) σ))
    else condition too_many_activations X σ

-- the alternative of a number, counted down over the alternatives
abbrev pub arm_at : ℕ → (Store → Result (Unit {0})) → (ℕ → Store → Result (Unit {0})) → Place → Store → Result (Unit {0})
arm_at zero f g X σ = condition case_index X σ
arm_at (suc zero) f g X σ = f σ
arm_at (suc (suc n)) f g X σ = g (suc n) σ

-- a turn, and those after it: "statement-0; statement-1; …" (000, 7.8.1)
unfoldable pub turns : Less → Loop → (Place → Store → Result (Unit {0})) → ℤ → Place → Store → Result (Unit {0})
turns r l f v X σ =
    next (turning l.control v f X σ) (λ u τ. advancing (sum v l.step) (λ w ρ. if_due l w (λ π. r.further l w X π) ρ) τ)

-- 28: "step zero, found after the limit"
unfoldable pub counted : Less → Loop → (Place → Store → Result (Unit {0})) → ℤ → Place → Store → Result (Unit {0})
counted r l f v X σ = If is_zero l.step then condition step_zero X σ else if_due l v (λ ρ. turns r l f v X ρ) σ

module _ (W : World) (r : Less) where
  unfoldable mutual
    pub exec : Stmt → Place → Store → Result (Unit {0})
    exec (block ds is) X σ = new_block ds X σ (λ Y τ. catch r is Y (exec_items is Y τ))
    exec (assign x e) X σ = next (locate x X σ) (λ w τ. next (eval e X τ) (λ v ρ. do_assign w v X ρ))
    exec (when e s) X σ = next (eval e X σ) (λ v τ. branch v (λ ρ. exec s X ρ) (λ ρ. done tt ρ) τ)
    exec (choose e s t) X σ = next (eval e X σ) (λ v τ. branch v (λ ρ. exec s X ρ) (λ ρ. exec t X ρ) τ)
    exec (while e s) X σ =
        next (eval e X σ) (λ v τ. branch v (λ ρ. next (exec s X ρ) (λ u π. r.again e s X π)) (λ ρ. done tt ρ) τ)
    exec (goto a) X σ = jump a σ
    exec (assert e) X σ = next (eval e X σ) (λ v τ. branch v (λ ρ. done tt ρ) (λ ρ. condition assert_false X ρ) τ)
    exec (call a es) X σ = next (evals es X σ) (λ vs τ. activate (procedure_in a W.globals) r.call_s vs X τ)
    exec (set_level e f) X σ = next (eval e X σ) (λ v τ. next (eval f X τ) (λ w ρ. do_set v w X ρ))
    exec (select e rs) X σ = next (eval e X σ) (λ v τ. asked (as_integer v) (λ z. exec_arm rs (size z) X τ))
    -- "The three are evaluated once, in that order." (ticket 1)
    exec (for a e f g s) X σ =
        next (eval e X σ) (λ u τ. next (eval f X τ) (λ v ρ. next (eval g X ρ) (λ w π.
        asked (as_integer u) (λ x. asked (as_integer v) (λ y. asked (as_integer w) (λ z.
        counted r (record { control = a; step = y; limit = z; statement = s }) (λ Y μ. exec s Y μ) x X π))))))

    pub exec_items : Items → Place → Store → Result (Unit {0})
    exec_items no_item X σ = done tt σ
    exec_items (label a is) X σ = exec_items is X σ
    exec_items (item s is) X σ = next (exec s X σ) (λ u τ. exec_items is X τ)

    -- 24: "case index not 1 to a"
    pub exec_arm : Arms → ℕ → Place → Store → Result (Unit {0})
    exec_arm (last_arm s) n X σ = arm_at n (λ ρ. exec s X ρ) (λ m ρ. condition case_index X ρ) X σ
    exec_arm (arm s rs) n X σ = arm_at n (λ ρ. exec s X ρ) (λ m ρ. exec_arm rs m X ρ) X σ

    pub locate : Target → Place → Store → Result Location
    locate (to_variable a) X σ = done (of_variable a) σ
    locate (to_field a e) X σ = next (eval e X σ) (λ v τ. done (of_field a v) τ)

    -- "Operands are evaluated left to right"
    pub eval : Expr → Place → Store → Result Value
    eval (number z) X σ = done (int z) σ
    eval (truth b) X σ = done (log b) σ
    eval (pattern z) X σ = done (bit (word_of z)) σ
    eval (null c) X σ = done (ref c none) σ
    eval (variable a) X σ = cell_value (value_of a σ) σ
    eval (invoke a es) X σ = next (evals es X σ) (λ vs τ. activate (procedure_in a W.globals) r.call_e vs X τ)
    eval (field a e) X σ = next (eval e X σ) (λ v τ. do_field a v X τ)
    eval (make c es) X σ = next (evals es X σ) (λ vs τ. do_make c (class_in c W.globals) vs X τ)
    eval (operate1 o e) X σ = next (eval e X σ) (λ v τ. settled (apply1 o v) X τ)
    eval (operate2 o e f) X σ =
        next (eval e X σ) (λ v τ. If decides o v then done v τ else next (eval f X τ) (λ w ρ. settled (apply2 o v w) X ρ))
    eval (conditional e f g) X σ = next (eval e X σ) (λ v τ. branch v (λ ρ. eval f X ρ) (λ ρ. eval g X ρ) τ)
    eval (fader e) X σ = next (eval e X σ) (λ v τ. do_fader W.oracle v X τ)
    eval (block_expr ds is e) X σ = new_block ds X σ (λ Y τ. next (catch r is Y (exec_items is Y τ)) (λ u ρ. eval e Y ρ))

    pub evals : Exprs → Place → Store → Result (List Value)
    evals no_expr X σ = done [] σ
    evals (expr e es) X σ = next (eval e X σ) (λ v τ. next (evals es X τ) (λ vs ρ. done (v ∷ vs) ρ))

  unfoldable pub exec_body : Body → Place → Store → Result (Unit {0})
  exec_body (proper s) X σ = exec s X σ
  exec_body (function t e) X σ = wrong

  unfoldable pub eval_body : Body → Place → Store → Result Value
  eval_body (proper s) X σ = wrong
  eval_body (function t e) X σ = eval e X σ

-- with so much fuel
unfoldable pub fueled : World → ℕ → Less
fueled W zero = record { again = λ e s X σ. later σ; further = λ l v X σ. later σ; resume = λ is js X σ. later σ; call_s = λ b X σ. later σ; call_e = λ b X σ. later σ }
fueled W (suc n) = let r = fueled W n in record {
  again = λ e s X σ. exec W r (while e s) X σ;
  further = λ l v X σ. turns r l (λ Y μ. exec W r l.statement Y μ) v X σ;
  resume = λ is js X σ. catch r is X (exec_items W r js X σ);
  call_s = λ b X σ. exec_body W r b X σ;
  call_e = λ b X σ. eval_body W r b X σ;
}

-- ── a whole execution ──
pub data Ran : Type 0 where
  finished : List Item → ℕ → Ran  -- its trace in order, and its end: 0 or a condition
  going : List Item → Ran  -- its trace so far
  ill_formed : Ran

unfoldable pub ran : Result (Unit {0}) → Ran
ran (done u σ) = finished (reverse σ.trace) 0
ran (jump a σ) = ill_formed
ran (ended c σ) = finished (reverse σ.trace) c
ran (later σ) = going (reverse σ.trace)
ran wrong = ill_formed

abbrev pub at_start : Store
at_start = record { root = []; blocks = []; records = []; trace = []; taken = 0 }

abbrev pub outermost : Place
outermost = record { holds = []; activations = 1 }

-- the root is a block whose variables are the root's
unfoldable pub execute : (ℕ → ℕ → ℕ) → Tree → ℕ → Ran
execute oracle t n =
    let W : World = record { oracle = oracle; globals = t.head } in
    let r = fueled W n in
    ran (within (locals t.head) outermost at_start (λ X σ. catch r t.items X (exec_items W r t.items X σ)))
