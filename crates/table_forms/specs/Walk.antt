-- What a walker asks, and what it answers: for every tree that stands where it is called, and all blocks around that the names in sight agree with.
use Rattle.std.specs.Prelude.{◌≡◌, Bool, true, false, List, map, ℕ, ◌+◌, ◌*◌, ◌≤◌, ◌<◌, eqb, ltb, length, drop, Ok, Err}
use Rattle.language.specs.Program.{flat_items, flat_es, deep_items, deep_es}
use Rattle.logic.specs.Choice.{If◌then◌else◌}
use Rattle.values.specs.Ends.{Refusal}
use Rattle.language.specs.Tree.{Items, Exprs, count_items, count_exprs}
use Rattle.language.specs.Names.{Scope}
use Rattle.language.specs.Faults.{faults_items, faults_es}
use Rattle.language_laws.specs.Claims.{entries_of}
use Rattle.words.specs.Numbers.{half_at}
use Rattle.table_scopes.specs.Environment.{Found, env_of, find}
use Rattle.table_entries.specs.Stands.{Stands}
use Rattle.table_entries.specs.Sizes.{Known}
use Rattle.table_entries.specs.declared.Fault.TheVariants.{Mistyped}
use Rattle.table_scopes.specs.Flaws.{Verdict, Says}
use Rattle.table_scopes.specs.Sees.{Legible, Sees}
use Rattle.table_scopes.specs.Defines.{OnceItems, bulk}
use Rattle.table_types.specs.Settle.{values, controls}
use Rattle.table_types.specs.Types.{ty_num}
use Rattle.table_types.specs.Settles.{Settled}
use Rattle.table_forms.specs.Forms.{Form, simple, guard, counted, blocked, bodied, labelled, flat_f, deep_f, Valid, OnceF, faults_f, type_f, types_of}

-- the part of a table that begins at a place
pub record Table (l part sizes : List ℕ) (at : ℕ) : Type 0 where
  pub whole : part ≡ drop (8 * at) l
  pub legible : Legible l
  pub known : Known l sizes

-- how many items are pushed below it, at most; a label's is there already
abbrev pub room_f : Form → ℕ
room_f (simple o es) = length (flat_f (simple o es))
room_f (guard g e is) = length (flat_f (guard g e is))
room_f (counted a e f g s) = length (flat_f (counted a e f g s))
room_f (blocked ds is) = length (flat_f (blocked ds is))
room_f (bodied ds is e) = length (flat_f (bodied ds is e))
room_f (labelled a) = 0

pub record Ready (f : Form) (ss : List Scope) (seen l part : List ℕ) (nesting at : ℕ) (sizes env : List ℕ) (top : ℕ) : Type 0 where
  pub table : Table l part sizes at
  pub valid : Valid f
  pub stands : Stands (entries_of l) at (flat_f f)
  pub deep : deep_f f ≤ nesting
  pub room : 4 * (top + room_f f) ≤ length env
  pub sees : Sees l (env_of env top) ss
  pub once : OnceF (env_of env top) seen at f

pub record Asks (P : Form → Type 0) (l part : List ℕ) (nesting at : ℕ) (sizes env : List ℕ) (top : ℕ) : Type 0 where
  pub form : Form
  pub scopes : List Scope
  pub seen : List ℕ
  pub holds : P form
  pub ready : Ready form scopes seen l part nesting at sizes env top

pub record Answers (P : Form → Type 0) (l part : List ℕ) (nesting at : ℕ) (sizes old new : List ℕ) (top : ℕ) (r : Verdict) : Type 0 where
  pub kept : env_of new top ≡ env_of old top
  pub same : length new ≡ length old
  pub judged : (f : Form) (ss : List Scope) (seen : List ℕ) → P f → Ready f ss seen l part nesting at sizes old top → Says r (faults_f ss seen at f)

-- and the type
pub record Typed (P : Form → Type 0) (l part : List ℕ) (nesting at : ℕ) (sizes old new : List ℕ) (top : ℕ) (r : Verdict) : Type 0 where
  pub kept : env_of new top ≡ env_of old top
  pub same : length new ≡ length old
  pub judged : (f : Form) (ss : List Scope) (seen : List ℕ) → P f → Ready f ss seen l part nesting at sizes old top → Settled r (faults_f ss seen at f) (type_f ss f)

-- ── expressions one after the other ──
pub record ReadyEs (es : Exprs) (ss : List Scope) (l part : List ℕ) (count nesting at : ℕ) (sizes env : List ℕ) (top : ℕ) : Type 0 where
  pub table : Table l part sizes at
  pub stands : Stands (entries_of l) at (flat_es es)
  pub deep : deep_es es ≤ nesting
  pub room : 4 * (top + length (flat_es es)) ≤ length env
  pub sees : Sees l (env_of env top) ss
  pub many : count ≡ count_exprs es

pub record AsksEs (l part : List ℕ) (count nesting at : ℕ) (sizes env : List ℕ) (top : ℕ) : Type 0 where
  pub exprs : Exprs
  pub scopes : List Scope
  pub ready : ReadyEs exprs scopes l part count nesting at sizes env top

abbrev pub Holds : Verdict → Type 0 → Type 0
Holds (Ok t) X = X
Holds (Err f) X = Unit {0}

pub record Listed (r : Verdict) (fs : List Refusal) (vs ts : List ℕ) : Type 0 where
  pub says : Says r fs
  pub held : Holds r (vs ≡ ts)

pub record AnswersEs (l part : List ℕ) (count nesting at : ℕ) (sizes old new : List ℕ) (top : ℕ) (r : Verdict) : Type 0 where
  pub kept : env_of new top ≡ env_of old top
  pub same : length new ≡ length old
  pub judged : (es : Exprs) (ss : List Scope) → ReadyEs es ss l part count nesting at sizes old top
      → Listed r (faults_es ss at es) (values count (env_of new (top + count))) (map ty_num (types_of ss es))

-- the types of i operands stand above the names: below them a lookup finds the same
pub record Alike (env : List ℕ) (top i : ℕ) : Type 0 where
  pub finds : (a : ℕ) → a < 65536 → find a (env_of env (top + i)) ≡ find a (env_of env top)

-- ── labels and statements one after the other ──
pub record ReadyItems (is : Items) (ss : List Scope) (seen l part : List ℕ) (count nesting at : ℕ) (sizes env : List ℕ) (top : ℕ) : Type 0 where
  pub table : Table l part sizes at
  pub stands : Stands (entries_of l) at (flat_items is)
  pub deep : deep_items is ≤ nesting
  pub room : 4 * (top + bulk is) ≤ length env
  pub sees : Sees l (env_of env top) ss
  pub once : OnceItems (env_of env top) seen at is
  pub many : count ≡ count_items is

pub record AsksItems (l part : List ℕ) (count nesting at : ℕ) (sizes env : List ℕ) (top : ℕ) : Type 0 where
  pub items : Items
  pub scopes : List Scope
  pub seen : List ℕ
  pub ready : ReadyItems items scopes seen l part count nesting at sizes env top

pub record AnswersItems (l part : List ℕ) (count nesting at : ℕ) (sizes old new : List ℕ) (top : ℕ) (r : Verdict) : Type 0 where
  pub kept : env_of new top ≡ env_of old top
  pub same : length new ≡ length old
  pub judged : (is : Items) (ss : List Scope) (seen : List ℕ) → ReadyItems is ss seen l part count nesting at sizes old top → Says r (faults_items ss seen at is)

-- an assignment's target is a control name, f being what is found of the name that stands there
unfoldable pub fixed_by : List ℕ → Found → Bool
fixed_by part f = If eqb (half_at part 0) 21 then If eqb (half_at part 8) 44 then controls f else false else false

-- ── counts of operands, near the code ──
unfoldable pub operands_by : ℕ → ℕ → ℕ
operands_by k b =
    If eqb k 21 then 2 else
    If eqb k 26 then 1 else
    If eqb k 27 then b else
    If eqb k 28 then 2 else
    If eqb k 45 then b else
    If eqb k 46 then 1 else
    If eqb k 47 then b else
    If eqb k 48 then 1 else
    If eqb k 49 then 2 else
    If eqb k 50 then 3 else
    If eqb k 51 then 1 else 0

-- a statement with expressions only below it
unfoldable pub is_plain : ℕ → Bool
is_plain k = If eqb k 21 then true else If ltb k 25 then false else ltb k 29

unfoldable pub guarded_by : ℕ → ℕ → ℕ
guarded_by k a = If eqb k 23 then 2 else If eqb k 30 then a else 1

unfoldable pub tested_by : ℕ → ℕ → ℕ → Verdict
tested_by k t p = If eqb k 30 then If eqb t 1 then Ok 1 else Err (Mistyped p) else If eqb t 2 then Ok 1 else Err (Mistyped p)
