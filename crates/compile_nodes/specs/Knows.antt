-- What the names in sight stand for: the items of the lent stack beside what lies around a part in the definition of its code.
use Rattle.std.specs.Prelude.{◌≡◌, Bool, false, List, [], ◌∷◌, ◌++◌, ℕ, suc, ◌+◌, ◌<◌, eqb, get_or, drop}
use Rattle.std.proofs.Math.Option.{some}
use Rattle.logic.specs.Choice.{If◌then◌else◌}
use Rattle.values.specs.Types.{Ty, integer, ty_byte}
use Rattle.language.specs.Tree.{Global}
use Rattle.language.specs.Names.{Sort, is_variable, is_label, is_class, is_field, is_procedure, is_control, lookup}
use Rattle.language.specs.Names as names
use Rattle.bytecode.specs.Instructions.{Owner}
use Rattle.compile_code.specs.Compile.{Around, inside, outermost, bound, global, held, labels, scopes_of, passing, the_labels, has_label, size_goto, label_at, kept, cell_of}
use Rattle.compile_code.specs.Compile.{ty_in, class_number, body_number, field_number}
use Rattle.compile_code.specs.Encode.{owner_code}
use Rattle.table_scopes.specs.Environment.{Item, item, Found, Nothing, Def, find}
use Rattle.compile_symbols.specs.Numbers.{packed}

-- numbers that stand at a place of a list
pub record Lies (l : List ℕ) (p : ℕ) (us : List ℕ) : Type 0 where
  pub rest : List ℕ
  pub split : drop p l ≡ us ++ rest

-- what stays the same while a body's code is walked
pub record Walk : Type 0 where
  pub globals : List Global
  pub known : List ℕ  -- by entry, what a definition stands for
  pub aims : List ℕ  -- by entry, where its code ends
  pub dry : Bool  -- the ends are not known yet
  pub within : Bool  -- a procedure's body

-- the mark of a hold, which no name is
abbrev pub hold_mark : ℕ
hold_mark = 65539

-- the holds between here and the definition of a name
unfoldable pub passed_to : ℕ → List Item → ℕ
passed_to a [] = 0
passed_to a (item m s n q ∷ v) = If eqb m a then 0 else If eqb m hold_mark then suc (passed_to a v) else passed_to a v

-- where a goto lands
unfoldable pub target_of : List Around → ℕ → ℕ
target_of [] a = 0
target_of (inside s ∷ Γ) a = target_of Γ a
target_of (outermost s ∷ Γ) a = target_of Γ a
target_of (bound b c ∷ Γ) a = target_of Γ a
target_of (global o b c ∷ Γ) a = target_of Γ a
target_of (held g ∷ Γ) a = target_of Γ a
target_of (labels is x ∷ Γ) a = If has_label a is then label_at is (scopes_of Γ) (the_labels is ∷ passing Γ) x a else target_of Γ a

-- the byte of a procedure's result; 0 where it has none
abbrev pub result_of : List Global → List Ty → ℕ
result_of gs [] = 0
result_of gs (t ∷ ts) = ty_byte (ty_in gs t)

-- a variable: its cell is the one that the definition finds
pub record MeansCell (W : Walk) (Γ : List Around) (a q : ℕ) (t : Ty) : Type 0 where
  pub owner : Owner
  pub cell : ℕ
  pub whose : ℕ
  pub found : cell_of a Γ ≡ some (kept owner cell)
  pub number : get_or W.known q 0 ≡ packed (ty_byte (ty_in W.globals t)) whose cell
  pub owned : (If W.within then whose else 0) ≡ owner_code owner
  pub small-type : ty_byte (ty_in W.globals t) < 256
  pub small-whose : whose < 256
  pub small-cell : cell < 256

-- a label that a goto reaches
pub record MeansLabel (W : Walk) (v : List Item) (Γ : List Around) (a q : ℕ) : Type 0 where
  pub passed : suc (passed_to a v) ≡ size_goto (passing Γ) a
  pub aimed : W.dry ≡ false → get_or W.aims q 0 ≡ target_of Γ a

pub record MeansClass (W : Walk) (a q : ℕ) : Type 0 where
  pub number : get_or W.known q 0 ≡ packed (16 + class_number W.globals a) (class_number W.globals a) 0
  pub small : class_number W.globals a < 240

pub record MeansField (W : Walk) (a q : ℕ) (t : Ty) : Type 0 where
  pub number : get_or W.known q 0 ≡ packed (ty_byte (ty_in W.globals t)) (field_number W.globals a).class (field_number W.globals a).index
  pub small-type : ty_byte (ty_in W.globals t) < 256
  pub small-class : (field_number W.globals a).class < 256
  pub small-index : (field_number W.globals a).index < 256

pub record MeansBody (W : Walk) (a q : ℕ) (us : List Ty) : Type 0 where
  pub number : get_or W.known q 0 ≡ packed (result_of W.globals us) 0 (body_number W.globals a)
  pub small-type : result_of W.globals us < 256
  pub small-body : body_number W.globals a < 256

-- what the definition at q stands for, by its sort; a label: see Lands
abbrev pub Means : Walk → List Around → ℕ → ℕ → Sort → Type 0
Means W Γ a q (is_variable t) = MeansCell W Γ a q t
Means W Γ a q is_label = Unit {0}
Means W Γ a q (is_class ts) = MeansClass W a q
Means W Γ a q (is_field c t) = MeansField W a q t
Means W Γ a q (is_procedure ts us) = MeansBody W a q us
Means W Γ a q is_control = MeansCell W Γ a q integer

abbrev pub Known : Walk → List Around → ℕ → Found → names.Found → Type 0
Known W Γ a Nothing f = Unit {0}
Known W Γ a (Def s n q w) names.nowhere = Unit {0}
Known W Γ a (Def s n q w) (names.found t b) = Means W Γ a q t

pub record Knows (W : Walk) (v : List Item) (Γ : List Around) : Type 0 where
  pub knows : (a : ℕ) → a < 65536 → Known W Γ a (find a v) (lookup a (scopes_of Γ))

-- the labels that a goto reaches from a statement; within an expression there are none
pub record Lands (W : Walk) (v : List Item) (Γ : List Around) : Type 0 where
  pub lands : (a n q : ℕ) → a < 65536 → find a v ≡ Def 5 n q false → MeansLabel W v Γ a q
