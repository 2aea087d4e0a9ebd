-- What the promises speak of: a macro that reads, one that passes, and the states that its addresses allow.
use Rattle.std.specs.Prelude.{◌≡◌, true, false, List, [], ◌∷◌, ◌++◌, ℕ, suc, ◌≤◌, ◌<◌, length, take}
use Rattle.std.proofs.Math.Option.{some}
use Rattle.std.proofs.Math.ListN.{get_elem?}
use Rattle.values.specs.Types.{Ty, integer, logical, bits, reference, all_fit}
use Rattle.values.specs.Ends.{is_condition}
use Rattle.values.specs.Operators.{unary, binary, op_type}
use Rattle.values.specs.Values.{Value, ty_of}
use Rattle.bytecode.specs.Macro.{Body, Code, Shape, shape, Placed, Macro}
use Rattle.bytecode.specs.Instructions.{Instr, end, push, load, store, operate, go, go_unless, call, return, make, get_field, put_field, set_level, read_fader, take_hold}
use Rattle.bytecode.specs.Instructions.{let_hold, assert, stop, body_at, in_body, cell_ty}
use Rattle.bytecode.specs.Rules.{Effect, plain, takes, lets, jumps, forks, leaves, stops, wrong, Flow, on, fork, jump, halt, broken, found_at, fault_at, on_stack}
use Rattle.bytecode.specs.Machine.{Made}
use Rattle.bytecode.specs.Sound.{sound_value}
use Rattle.logic.specs.Lists.{Each}

-- ── a macro that reads ──
-- a reference is to one of so many classes
abbrev pub Named : ℕ → Ty → Type 0
Named classes integer = Unit {0}
Named classes logical = Unit {0}
Named classes bits = Unit {0}
Named classes (reference c) = c < classes

pub record ReadClass (classes : ℕ) (fields : List Ty) : Type 0 where
  pub some-field : 1 ≤ length fields
  pub few-fields : length fields ≤ 8
  pub named : Each (Named classes) fields

pub record ReadBody (classes instructions : ℕ) (b : Body) : Type 0 where
  pub begins : b.first < instructions
  pub fewer-parameters : b.parameters ≤ length b.cells
  pub one-result : length b.results ≤ 1
  pub named-results : Each (Named classes) b.results
  pub named-cells : Each (Named classes) b.cells

pub record ReadShape (classes instructions : ℕ) (p : Placed) : Type 0 where
  pub stands : p.address < instructions
  pub named : Each (Named classes) p.found.operands

-- addresses, each at least a and above the one before it
abbrev pub Rises : {A : Type 0} → (A → ℕ) → ℕ → List A → Type 0
Rises at a [] = Unit {0}
Rises at a (x ∷ xs) = (a ≤ at x) × Rises at (suc (at x)) xs

-- first addresses of bodies, and addresses of shapes
abbrev pub RisesFrom : ℕ → List Body → Type 0
RisesFrom a bs = Rises (λ (b : Body). b.first) a bs

abbrev pub Ascends : ℕ → List Placed → Type 0
Ascends a ps = Rises (λ (p : Placed). p.address) a ps

pub record WellFormed (m : Macro) : Type 0 where
  pub some-body : 1 ≤ length m.bodies
  pub few-bodies : length m.bodies ≤ 64
  pub few-classes : length m.classes ≤ 16
  pub classes-read : Each (ReadClass (length m.classes)) m.classes
  pub root-first : (b : Body) → body_at m 0 ≡ some b → b.first ≡ 0
  pub rises : RisesFrom 0 m.bodies
  pub bodies-read : Each (ReadBody (length m.classes) (length m.code)) m.bodies
  pub shapes-read : Each (ReadShape (length m.classes) (length m.code)) m.shapes
  pub ascends : Ascends 0 m.shapes

-- the numbers of a macro that was read from bytes
pub record OfBytes (c : Code) : Type 0 where
  pub op-byte : c.op < 256
  pub a_byte : c.a < 256
  pub b-word : c.b < 4294967296

pub record Narrow (m : Macro) : Type 0 where
  pub few-instructions : length m.code < 65536
  pub instructions-narrow : Each OfBytes m.code

-- ── a macro that passes ──
pub record Passed (m : Macro) : Type 0 where
  pub well-formed : WellFormed m
  pub narrow : Narrow m
  pub faultless : (i : ℕ) → i < length m.code → fault_at m i ≡ false

-- address i stands in body k, and this is the state found there
pub record Allowed (m : Macro) (k i : ℕ) (s : Shape) : Type 0 where
  pub inside : in_body m k i ≡ true
  pub found : found_at m i ≡ some s

-- where control goes from address i of body k, what it finds is allowed
abbrev pub Follows : Macro → ℕ → ℕ → Flow → Type 0
Follows m k i (on t) = Allowed m k (suc i) t
Follows m k i (fork t j) = Allowed m k (suc i) t × Allowed m k j t
Follows m k i (jump t j) = Allowed m k j t
Follows m k i halt = Unit {0}
Follows m k i broken = ⊥

-- the operands found are some that fit those asked for, the top first, and others under them
pub record Takes (asked found under : List Ty) : Type 0 where
  pub taken : List Ty
  pub fit : all_fit taken asked ≡ true
  pub parts : found ≡ taken ++ under

-- what an op of this effect finds and leaves behind, at address i of body k with state s
abbrev pub Does : Macro → ℕ → ℕ → Shape → Effect → Type 0
Does m k i s (plain ins outs) = (under : List Ty) × Takes ins s.operands under × Allowed m k (suc i) (shape s.holds (outs ++ under))
Does m k i s takes = Allowed m k (suc i) (shape (suc s.holds) s.operands)
Does m k i s lets = (h : ℕ) × (s.holds ≡ suc h) × Allowed m k (suc i) (shape h s.operands)
Does m k i s (jumps j) = Allowed m k j s
Does m k i s (forks j) =
    (under : List Ty) × Takes (logical ∷ []) s.operands under × Allowed m k (suc i) (shape s.holds under)
    × Allowed m k j (shape s.holds under)
Does m k i s (leaves ts) = s ≡ shape 0 ts
Does m k i s stops = Unit {0}
Does m k i s wrong = ⊥

-- a value that an instruction holds is sound whatever records are made
abbrev pub Literal : Value → Type 0
Literal v = (rs : List Made) → sound_value rs v ≡ true

-- the same by instruction, with what it names: an op takes operands off the stack and puts others on, the top first; an operator is chosen
-- by the very types that lie there, the others ask for operands that fit
abbrev pub Finds : Macro → ℕ → ℕ → Shape → Instr → Type 0
Finds m k i s end = (k ≡ 0) × (s ≡ shape 0 [])
Finds m k i s (push v) = Literal v × Named (length m.classes) (ty_of v) × Does m k i s (plain [] (ty_of v ∷ []))
Finds m k i s (load o x) = (t : Ty) × (cell_ty m k o x ≡ some t) × Does m k i s (plain [] (t ∷ []))
Finds m k i s (store o x) = (t : Ty) × (cell_ty m k o x ≡ some t) × Does m k i s (plain (t ∷ []) [])
Finds m k i s (operate (unary o)) =
    (t : Ty) × (u : Ty) × (under : List Ty) × (s.operands ≡ t ∷ under) × (op_type (unary o) (t ∷ []) ≡ some u)
    × Allowed m k (suc i) (shape s.holds (u ∷ under))
Finds m k i s (operate (binary o)) =
    (t : Ty) × (u : Ty) × (v : Ty) × (under : List Ty) × (s.operands ≡ t ∷ u ∷ under) × (op_type (binary o) (u ∷ t ∷ []) ≡ some v)
    × Allowed m k (suc i) (shape s.holds (v ∷ under))
Finds m k i s (go j) = Does m k i s (jumps j)
Finds m k i s (go_unless j) = Does m k i s (forks j)
Finds m k i s (call j) =
    (b : Body) × (0 < j) × (body_at m j ≡ some b) × Does m k i s (plain (on_stack (take b.parameters b.cells)) b.results)
Finds m k i s return = (b : Body) × (0 < k) × (body_at m k ≡ some b) × (s ≡ shape 0 b.results)
Finds m k i s (make c) = (ts : List Ty) × (get_elem? m.classes c ≡ some ts) × Does m k i s (plain (on_stack ts) (reference c ∷ []))
Finds m k i s (get_field c x) =
    (ts : List Ty) × (t : Ty) × (get_elem? m.classes c ≡ some ts) × (get_elem? ts x ≡ some t) × Does m k i s (plain (reference c ∷ []) (t ∷ []))
Finds m k i s (put_field c x) =
    (ts : List Ty) × (t : Ty) × (get_elem? m.classes c ≡ some ts) × (get_elem? ts x ≡ some t) × Does m k i s (plain (t ∷ reference c ∷ []) [])
Finds m k i s set_level = Does m k i s (plain (integer ∷ integer ∷ []) [])
Finds m k i s read_fader = Does m k i s (plain (integer ∷ []) (integer ∷ []))
Finds m k i s (take_hold g) = (g ≤ 63) × Does m k i s takes
Finds m k i s let_hold = Does m k i s lets
Finds m k i s assert = Does m k i s (plain (logical ∷ []) [])
Finds m k i s (stop c) = is_condition c ≡ true
