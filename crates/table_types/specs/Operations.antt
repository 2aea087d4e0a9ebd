-- What is done to expressions: one operation for each kind of entry that has expressions only below it, and none where it has none.
use Rattle.std.specs.Prelude.{◌≡◌, ◌&&◌, List, [], ◌∷◌, ℕ, zero, suc, ℤ, pos}
use Rattle.std.proofs.Math.Option.{Option, none, some}
use Rattle.logic.specs.Options.{is_some}
use Rattle.values.specs.Types.{Ty, integer, logical, bits, reference}
use Rattle.values.specs.Ends.{Refusal}
use Rattle.values.specs.Operators.{Unary, Binary, Operator, unary, binary, unary_code, binary_code, op_type}
use Rattle.language.specs.Table.{Entry, entry}
use Rattle.language.specs.Names.{Scope, lookup}
use Rattle.language.specs.Faults.{variable_ty, result_ty, field_ty, cons_ty, is_ty, same_ty, fits_ty, mistyped_unless, named, variable_sort, class_sort, class_from, field_of, call_of, aimed}

pub data Operation : Type 0 where
  numeral truth pattern : ℤ → Operation
  null_of variable_of invokes field_at makes calls goes_to : ℕ → Operation
  unary_op : Unary → Operation
  binary_op : Binary → Operation
  chooses reads assigns asserts sets : Operation

abbrev pub kind_op : Operation → ℕ
kind_op (numeral z) = 40
kind_op (truth z) = 41
kind_op (pattern z) = 42
kind_op (null_of c) = 43
kind_op (variable_of a) = 44
kind_op (invokes a) = 45
kind_op (field_at a) = 46
kind_op (makes c) = 47
kind_op (calls a) = 27
kind_op (goes_to a) = 25
kind_op (unary_op o) = 48
kind_op (binary_op o) = 49
kind_op chooses = 50
kind_op reads = 51
kind_op assigns = 21
kind_op asserts = 26
kind_op sets = 28

abbrev pub name_op : Operation → ℕ
name_op (numeral z) = 0
name_op (truth z) = 0
name_op (pattern z) = 0
name_op (null_of c) = c
name_op (variable_of a) = a
name_op (invokes a) = a
name_op (field_at a) = a
name_op (makes c) = c
name_op (calls a) = a
name_op (goes_to a) = a
name_op (unary_op o) = unary_code o
name_op (binary_op o) = binary_code o
name_op chooses = 0
name_op reads = 0
name_op assigns = 0
name_op asserts = 0
name_op sets = 0

-- b of the entry, of so many operands
abbrev pub number_op : Operation → ℕ → ℤ
number_op (numeral z) n = z
number_op (truth z) n = z
number_op (pattern z) n = z
number_op (null_of c) n = pos 0
number_op (variable_of a) n = pos 0
number_op (invokes a) n = pos n
number_op (field_at a) n = pos 0
number_op (makes c) n = pos n
number_op (calls a) n = pos n
number_op (goes_to a) n = pos 0
number_op (unary_op o) n = pos 0
number_op (binary_op o) n = pos 0
number_op chooses n = pos 0
number_op reads n = pos 0
number_op assigns n = pos 0
number_op asserts n = pos 0
number_op sets n = pos 0

abbrev pub entry_op : Operation → ℕ → Entry
entry_op o n = entry (kind_op o) (name_op o) (number_op o n)

-- as many operands as it takes
abbrev pub Takes : Operation → ℕ → Type 0
Takes (numeral z) n = n ≡ 0
Takes (truth z) n = n ≡ 0
Takes (pattern z) n = n ≡ 0
Takes (null_of c) n = n ≡ 0
Takes (variable_of a) n = n ≡ 0
Takes (invokes a) n = Unit {0}
Takes (field_at a) n = n ≡ 1
Takes (makes c) n = Unit {0}
Takes (calls a) n = Unit {0}
Takes (goes_to a) n = n ≡ 0
Takes (unary_op o) n = n ≡ 1
Takes (binary_op o) n = n ≡ 2
Takes chooses n = n ≡ 3
Takes reads n = n ≡ 1
Takes assigns n = n ≡ 2
Takes asserts n = n ≡ 1
Takes sets n = n ≡ 2

-- ── types of operands ──
unfoldable pub sequence : List (Option Ty) → Option (List Ty)
sequence [] = some []
sequence (t ∷ ts) = cons_ty t (sequence ts)

abbrev pub nth : ℕ → List (Option Ty) → Option Ty
nth i [] = none
nth zero (t ∷ ts) = t
nth (suc i) (t ∷ ts) = nth i ts

abbrev pub with_tys : Option (List Ty) → (List Ty → Option Ty) → Option Ty
with_tys none f = none
with_tys (some ts) f = f ts

abbrev pub oper_ty : Operator → List (Option Ty) → Option Ty
oper_ty o ts = with_tys (sequence ts) (op_type o)

-- ── the type that it gives, and its own faults ──
abbrev pub gives : List Scope → Operation → List (Option Ty) → Option Ty
gives ss (numeral z) ts = some integer
gives ss (truth z) ts = some logical
gives ss (pattern z) ts = some bits
gives ss (null_of c) ts = some (reference c)
gives ss (variable_of a) ts = variable_ty (lookup a ss)
gives ss (invokes a) ts = result_ty (lookup a ss)
gives ss (field_at a) ts = field_ty (lookup a ss)
gives ss (makes c) ts = some (reference c)
gives ss (calls a) ts = none
gives ss (goes_to a) ts = some integer
gives ss (unary_op o) ts = oper_ty (unary o) ts
gives ss (binary_op o) ts = oper_ty (binary o) ts
gives ss chooses ts = nth 1 ts
gives ss reads ts = some integer
gives ss assigns ts = some integer
gives ss asserts ts = some integer
gives ss sets ts = some integer

abbrev pub own : List Scope → Operation → List (Option Ty) → ℕ → List Refusal
own ss (numeral z) ts p = []
own ss (truth z) ts p = []
own ss (pattern z) ts p = []
own ss (null_of c) ts p = named (lookup c ss) class_sort p
own ss (variable_of a) ts p = named (lookup a ss) variable_sort p
own ss (invokes a) ts p = named (lookup a ss) (call_of 1 (sequence ts)) p
own ss (field_at a) ts p = named (lookup a ss) (field_of (nth 0 ts)) p
own ss (makes c) ts p = named (lookup c ss) (class_from (sequence ts)) p
own ss (calls a) ts p = named (lookup a ss) (call_of 0 (sequence ts)) p
own ss (goes_to a) ts p = aimed (lookup a ss) p
own ss (unary_op o) ts p = mistyped_unless (is_some (oper_ty (unary o) ts)) p
own ss (binary_op o) ts p = mistyped_unless (is_some (oper_ty (binary o) ts)) p
own ss chooses ts p = mistyped_unless (is_ty logical (nth 0 ts) && same_ty (nth 1 ts) (nth 2 ts)) p
own ss reads ts p = mistyped_unless (is_ty integer (nth 0 ts)) p
own ss assigns ts p = mistyped_unless (fits_ty (nth 1 ts) (nth 0 ts)) p
own ss asserts ts p = mistyped_unless (is_ty logical (nth 0 ts)) p
own ss sets ts p = mistyped_unless (is_ty integer (nth 0 ts) && is_ty integer (nth 1 ts)) p
