-- The decoded macro as a view on the places in its bytes: each record by what stands at its place.
use Rattle.std.specs.Prelude.{◌≡◌, List, [], ◌∷◌, map, ℕ, ◌+◌, ◌-◌, ◌<◌, eqb, ltb}
use Rattle.std.proofs.Math.Option.{Option, none, some}
use Rattle.logic.specs.Choice.{If◌then◌else◌}
use Rattle.words.specs.Numbers.{byte_at, half_at, word_at}
use Rattle.values.specs.Types.{Ty, integer, logical, bits, reference, ty_byte}
use Rattle.values.specs.Ends.{Judged, accepted, refused as refused_by}
use Rattle.bytecode.specs.Macro.{Body, Code, Shape, shape, Placed, Macro}
use Rattle.load_places.specs.Records.{classes, bodies, count, shapes, class_place, body_place, code_place, shape_place}
use Rattle.load_places.specs.Rules.{Verdict, passes, refused}
use Rattle.load_views.specs.Lists.{span, backs}

-- the type of a type byte; what is none gives some reference
unfoldable pub ty_on : ℕ → Ty
ty_on t = If eqb t 1 then integer else If eqb t 2 then logical else If eqb t 3 then bits else reference (t - 16)

-- the n types from q on, in their order and the last first
abbrev pub types_on : List ℕ → ℕ → ℕ → List Ty
types_on l q n = span (λ k. ty_on (byte_at l (q + k))) 0 n

abbrev pub stack_on : List ℕ → ℕ → ℕ → List Ty
stack_on l q n = backs (λ k. ty_on (byte_at l (q + k))) n

-- the n bytes from q are types, so that the types there have these bytes
abbrev pub Typed : List ℕ → ℕ → ℕ → Type 0
Typed l q n = (k : ℕ) → k < n → ty_byte (ty_on (byte_at l (q + k))) ≡ byte_at l (q + k)

-- operands as type bytes
abbrev pub bytes : List Ty → List ℕ
bytes ts = map ty_byte ts

-- 0 or a type
unfoldable pub result_on : ℕ → List Ty
result_on t = If eqb t 0 then [] else ty_on t ∷ []

-- the records at a place
abbrev pub class_on : List ℕ → ℕ → List Ty
class_on l p = types_on l (p + 3) (byte_at l (p + 2))

abbrev pub body_on : List ℕ → ℕ → Body
body_on l p = record {
  first = half_at l (p + 2);
  parameters = byte_at l (p + 4);
  results = result_on (byte_at l (p + 5));
  cells = types_on l (p + 7) (byte_at l (p + 6));
}

abbrev pub code_on : List ℕ → ℕ → Code
code_on l p = record { op = byte_at l (p + 2); a = byte_at l (p + 3); b = word_at l (p + 4) }

abbrev pub state_on : List ℕ → ℕ → Shape
state_on l p = shape (byte_at l (p + 4)) (stack_on l (p + 6) (byte_at l (p + 5)))

abbrev pub placed_on : List ℕ → ℕ → Placed
placed_on l p = record { address = half_at l (p + 2); found = state_on l p }

unfoldable pub view : List ℕ → Macro
view l = record {
  classes = span (λ k. class_on l (class_place l k)) 0 (classes l);
  bodies = span (λ k. body_on l (body_place l k)) 0 (bodies l);
  code = span (λ i. code_on l (code_place l i)) 0 (count l);
  shapes = span (λ k. placed_on l (shape_place l k)) 0 (shapes l);
}

-- the numbers of body k, of class c and of instruction i
abbrev pub params_at : List ℕ → ℕ → ℕ
params_at l k = byte_at l (body_place l k + 4)

abbrev pub result_at : List ℕ → ℕ → ℕ
result_at l k = byte_at l (body_place l k + 5)

abbrev pub cells_at : List ℕ → ℕ → ℕ
cells_at l k = byte_at l (body_place l k + 6)

abbrev pub cell_at : List ℕ → ℕ → ℕ → ℕ
cell_at l k x = byte_at l (body_place l k + 7 + x)

abbrev pub fields_at : List ℕ → ℕ → ℕ
fields_at l c = byte_at l (class_place l c + 2)

abbrev pub field_at : List ℕ → ℕ → ℕ → ℕ
field_at l c x = byte_at l (class_place l c + 3 + x)

abbrev pub op_at : List ℕ → ℕ → ℕ
op_at l i = byte_at l (code_place l i + 2)

abbrev pub a_at : List ℕ → ℕ → ℕ
a_at l i = byte_at l (code_place l i + 3)

abbrev pub b_at : List ℕ → ℕ → ℕ
b_at l i = word_at l (code_place l i + 4)

-- the k-th where there are n
abbrev pub below : {A : Type 0} → ℕ → ℕ → A → Option A
below k n x = If ltb k n then some x else none

-- the state that the shape at a place gives, where 0 is no place
abbrev pub shape_on : List ℕ → ℕ → Option Shape
shape_on l p = If eqb p 0 then none else some (state_on l p)

-- the verdict of a judged macro
abbrev pub verdict_of : Judged Macro → Verdict
verdict_of (accepted m) = passes
verdict_of (refused_by r) = refused r.number r.place
