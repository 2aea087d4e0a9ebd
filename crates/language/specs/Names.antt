-- Blocks, the names that they define, and the lookup of section 3 of 000. "Names follow section 3 of 000: innermost block first."
use Rattle.std.specs.Prelude.{Bool, true, false, List, [], ◌∷◌, ◌++◌, ℕ, eqb}
use Rattle.std.proofs.Math.Option.{Option, none, some}
use Rattle.logic.specs.Choice.{If◌then◌else◌}
use Rattle.values.specs.Types.{Ty, integer}
use Rattle.language.specs.Tree.{Typed, Decl, declare, holding, Items, no_item, label, item, Body, proper, function, Global, local, class, procedure, Tree}

-- what a name may be defined as
pub data Sort : Type 0 where
  is_variable : Ty → Sort  -- a variable or a parameter
  is_label : Sort
  is_class : List Ty → Sort  -- the types of its fields
  is_field : ℕ → Ty → Sort  -- the class that owns it, and its type
  is_procedure : List Ty → List Ty → Sort  -- the types of its parameters, and of its result, if it has one
  is_control : Sort  -- a control name: "an integer of the loop only", which "cannot be assigned" (ticket 1)

-- each sort asked for: what a name of it is, if it is of that one
abbrev pub as_variable : Sort → Option Ty
as_variable (is_variable t) = some t
as_variable is_label = none
as_variable (is_class ts) = none
as_variable (is_field c t) = none
as_variable (is_procedure ts us) = none
as_variable is_control = some integer

-- what may be assigned to
abbrev pub as_assignable : Sort → Option Ty
as_assignable (is_variable t) = some t
as_assignable is_label = none
as_assignable (is_class ts) = none
as_assignable (is_field c t) = none
as_assignable (is_procedure ts us) = none
as_assignable is_control = none

abbrev pub as_label : Sort → Bool
as_label (is_variable t) = false
as_label is_label = true
as_label (is_class ts) = false
as_label (is_field c t) = false
as_label (is_procedure ts us) = false
as_label is_control = false

abbrev pub as_class : Sort → Option (List Ty)
as_class (is_variable t) = none
as_class is_label = none
as_class (is_class ts) = some ts
as_class (is_field c t) = none
as_class (is_procedure ts us) = none
as_class is_control = none

-- its class, and its type
abbrev pub as_field : Sort → Option (ℕ × Ty)
as_field (is_variable t) = none
as_field is_label = none
as_field (is_class ts) = none
as_field (is_field c t) = some (c, t)
as_field (is_procedure ts us) = none
as_field is_control = none

-- the types of its parameters, and of its result
abbrev pub as_procedure : Sort → Option (List Ty × List Ty)
as_procedure (is_variable t) = none
as_procedure is_label = none
as_procedure (is_class ts) = none
as_procedure (is_field c t) = none
as_procedure (is_procedure ts us) = some (ts, us)
as_procedure is_control = none

pub record Definition : Type 0 where
  pub name : ℕ
  pub sort : Sort

abbrev pub define : ℕ → Sort → Definition
define a s = record { name = a; sort = s }

unfoldable pub types : List Typed → List Ty
types [] = []
types (x ∷ xs) = x.type ∷ types xs

-- a head's variables, a parameter list
unfoldable pub defines_typed : List Typed → List Definition
defines_typed [] = []
defines_typed (x ∷ xs) = define x.name (is_variable x.type) ∷ defines_typed xs

unfoldable pub defines_head : List Decl → List Definition
defines_head [] = []
defines_head (declare x ∷ ds) = define x.name (is_variable x.type) ∷ defines_head ds
defines_head (holding g ∷ ds) = defines_head ds

-- "labels to their block"
unfoldable pub defines_items : Items → List Definition
defines_items no_item = []
defines_items (label a is) = define a is_label ∷ defines_items is
defines_items (item s is) = defines_items is

-- "Fields belong to the root's head" (N4)
unfoldable pub defines_fields : ℕ → List Typed → List Definition
defines_fields c [] = []
defines_fields c (x ∷ xs) = define x.name (is_field c x.type) ∷ defines_fields c xs

abbrev pub results : Body → List Ty
results (proper s) = []
results (function t e) = t ∷ []

unfoldable pub defines_globals : List Global → List Definition
defines_globals [] = []
defines_globals (local d ∷ gs) = defines_head (d ∷ []) ++ defines_globals gs
defines_globals (class c xs ∷ gs) = define c (is_class (types xs)) ∷ (defines_fields c xs ++ defines_globals gs)
defines_globals (procedure a xs b ∷ gs) = define a (is_procedure (types xs) (results b)) ∷ defines_globals gs

-- what lies around an entry (N3), with all names of a block's head and its labels in one name space (N4), whichever stand before or behind the
-- entry (N2): "All names of a head are visible throughout it."
pub data Scope : Type 0 where
  in_block : List Definition → Scope  -- a block
  in_expression : List Definition → Scope  -- a block expression, which no goto leaves
  in_procedure : List Definition → Scope  -- a procedure heading, by its parameters: "parameters to one around the body", which no goto leaves
  in_loop : Definition → Scope  -- a for clause, by its control name

-- what it defines
abbrev pub definitions : Scope → List Definition
definitions (in_block ds) = ds
definitions (in_expression ds) = ds
definitions (in_procedure ds) = ds
definitions (in_loop d) = d ∷ []

abbrev pub block_of : List Decl → Items → Scope
block_of ds is = in_block (defines_head ds ++ defines_items is)

abbrev pub expression_of : List Decl → Items → Scope
expression_of ds is = in_expression (defines_head ds ++ defines_items is)

abbrev pub procedure_of : List Typed → Scope
procedure_of xs = in_procedure (defines_typed xs)

-- "The control name is an integer of the loop only": it stands in a block of its own around the statement, not around start, step and limit (N28)
abbrev pub loop_of : ℕ → Scope
loop_of a = in_loop (define a is_control)

abbrev pub root_of : Tree → Scope
root_of t = in_block (defines_globals t.head ++ defines_items t.items)

-- what a name denotes where it stands, and whether a block expression or a procedure lies between
pub data Found : Type 0 where
  nowhere : Found
  found : Sort → Bool → Found

-- of two definitions in a block the first is found (N8)
unfoldable pub first_of : ℕ → List Definition → Found
first_of a [] = nowhere
first_of a (d ∷ ds) = If eqb d.name a then found d.sort false else first_of a ds

abbrev pub otherwise : Found → Found → Found
otherwise nowhere g = g
otherwise (found s w) g = found s w

abbrev pub across : Found → Found
across nowhere = nowhere
across (found s w) = found s true

-- ── the blocks that section 3 of 000 speaks of ──
-- what stands before a block: nothing, a procedure heading with its formal parameters, or a for clause with its control identifier
pub data Heading : Type 0 where
  no_heading : Heading
  parameters : List Definition → Heading
  control : Definition → Heading

pub record Block : Type 0 where
  pub names : List Definition  -- declared in it, and its labels
  pub closed : Bool  -- a block expression
  pub heading : Heading

-- the heading that stands directly around what is inside
abbrev pub heading_of : List Scope → Heading
heading_of [] = no_heading
heading_of (in_block ds ∷ ss) = no_heading
heading_of (in_expression ds ∷ ss) = no_heading
heading_of (in_procedure xs ∷ ss) = parameters xs
heading_of (in_loop d ∷ ss) = control d

-- "A statement following a procedure heading (cf. 5.3) or a for clause (cf. 7.8) is considered to be a block.": a heading is that of the block
-- directly inside it, which has then `taken` it, and else that of a block without names (N26)
unfoldable pub blocks_from : Bool → List Scope → List Block
blocks_from taken [] = []
blocks_from taken (in_block ds ∷ ss) = record { names = ds; closed = false; heading = heading_of ss } ∷ blocks_from true ss
blocks_from taken (in_expression ds ∷ ss) = record { names = ds; closed = true; heading = heading_of ss } ∷ blocks_from true ss
blocks_from taken (in_procedure xs ∷ ss) =
    If taken then blocks_from false ss else record { names = []; closed = false; heading = parameters xs } ∷ blocks_from false ss
blocks_from taken (in_loop d ∷ ss) =
    If taken then blocks_from false ss else record { names = []; closed = false; heading = control d } ∷ blocks_from false ss

-- ── the lookup of section 3 of 000 ──
-- Step 1. "If the identifier is defined by a declaration of a quantity or by its standing as a label within the smallest block (cf. 7.1)
-- embracing a given occurrence of that identifier, then it denotes that quantity or label."
abbrev pub step1 : ℕ → Block → Found
step1 a b = first_of a b.names

-- Step 2. "Otherwise, if that block is a procedure body and if the given identifier is identical with a formal parameter in the associated
-- procedure heading, then it stands as that formal parameter."
abbrev pub formal_parameters : Heading → List Definition
formal_parameters no_heading = []
formal_parameters (parameters xs) = xs
formal_parameters (control d) = []

abbrev pub step2 : ℕ → Block → Found
step2 a b = first_of a (formal_parameters b.heading)

-- Step 3. "Otherwise, if that block is preceded by a for clause and the identifier is identical to the control identifier of that for clause,
-- then it stands as that control identifier."
abbrev pub control_identifier : Heading → List Definition
control_identifier no_heading = []
control_identifier (parameters xs) = []
control_identifier (control d) = d ∷ []

abbrev pub step3 : ℕ → Block → Found
step3 a b = first_of a (control_identifier b.heading)

-- no goto leaves a block expression, nor what follows a procedure heading: what is found beyond is seen across it
abbrev pub out_of : Block → Found → Found
out_of b f = If b.closed then across f else f

abbrev pub before : Heading → Found → Found
before no_heading f = f
before (parameters xs) f = across f
before (control d) f = f

-- "Otherwise, these rules are applied considering the smallest block embracing the block which has previously been considered."
unfoldable pub identify : ℕ → List Block → Found
identify a [] = nowhere
identify a (b ∷ bs) =
    otherwise (step1 a b) (out_of b
    (otherwise (step2 a b)
    (otherwise (step3 a b) (before b.heading
    (identify a bs)))))

-- what a name denotes with this around it, innermost first
unfoldable pub lookup : ℕ → List Scope → Found
lookup a ss = identify a (blocks_from false ss)
