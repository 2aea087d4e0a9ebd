-- How the code holds a flow, and what its workers may take for granted.
use Rattle.std.specs.Prelude.{◌≡◌, Bool, true, false, cond, List, ℕ, ◌+◌, ◌*◌, ◌<◌, ◌≤◌, ltb, length, Option, Some, None}
use Rattle.words.specs.Numbers.{byte_at, word_at}
use Rattle.load_places.specs.Search.{tops}
use Rattle.load_places.specs.Records.{classes, bodies, count, shapes, class_place, body_place, first_of, code_base, code_place, shape_place, address_of, least}
use Rattle.load_places.specs.Rules.{Flow, goes, ends, bad, shape_at, body_of, end_of, effect}
use Rattle.load_places.specs.Index.{Well, Ended, Indexed, Placed}
use Rattle.load_places.specs.declared.Moved.{Moved}
use Rattle.load_places.specs.declared.Moved.TheVariants.{Goes, Ends, Bad}
use Rattle.load_places.specs.declared.Within.{Within}
use Rattle.load_places.specs.declared.NextShape.{NextShape}
use Rattle.load_rules.specs.declared.located.Located.{Located}

-- the type bytes stand in st from the bottom; a move says how many of them count
abbrev pub flow_of : Moved → List ℕ → Flow
flow_of (Goes h d) st = goes h (tops st 0 d)
flow_of Ends st = ends
flow_of Bad st = bad

abbrev pub Fit : Moved → Type 0
Fit (Goes h d) = (h ≤ 16) × (d ≤ 32)
Fit Ends = Unit {0}
Fit Bad = Unit {0}

-- with the types in st, r is the flow f
abbrev pub Moves : List ℕ → Moved → Flow → Type 0
Moves st r f = (flow_of r st ≡ f) × Fit r

abbrev pub is_bad_move : Moved → Bool
is_bad_move (Goes h d) = false
is_bad_move Ends = false
is_bad_move Bad = true

-- what the op at address i of body k makes of a state
abbrev pub effect_at : List ℕ → ℕ → ℕ → ℕ → List ℕ → Flow
effect_at l k i h s = effect l k (byte_at l (code_place l i + 2)) (byte_at l (code_place l i + 3)) (word_at l (code_place l i + 4)) h s

-- a stack of d types and h holds
abbrev pub Stack : List ℕ → ℕ → ℕ → Type 0
Stack st h d = (length st ≡ 32) × (d ≤ 32) × (h ≤ 16)

-- the records read, and the index of bodies, of classes, of shapes, of all is there
pub record Bodied (l bx : List ℕ) : Type 0 where
  pub well : Well l
  pub of-bodies : Placed (body_place l) bx (bodies l)
  pub long : 64 ≤ length bx

pub record Classed (l cx : List ℕ) : Type 0 where
  pub well : Well l
  pub of-classes : Placed (class_place l) cx (classes l)
  pub long : 16 ≤ length cx

pub record Shaped (l ix : List ℕ) : Type 0 where
  pub well : Well l
  pub ended : Ended l
  pub indexed : Indexed l ix (count l) (shapes l)
  pub long : count l ≤ 8 * length ix

pub record Able (l ix bx cx : List ℕ) : Type 0 where
  pub shaped : Shaped l ix
  pub bodied : Bodied l bx
  pub classed : Classed l cx

-- a macro with its indexes, and the place of its first instruction
abbrev pub Stands : Located → Type 0
Stands p = Able p.code.now p.shapes.now p.bodies.now p.classes.now × (p.base ≡ code_base p.code.now)

-- w is the body of address i, with its bounds
pub record InBody (l : List ℕ) (i : ℕ) (w : Within) : Type 0 where
  pub is : w.body ≡ body_of l i
  pub counted : w.body < bodies l
  pub from : w.first ≡ first_of l w.body
  pub upto : w.end ≡ end_of l w.body

-- what is known of the place r of body b, of class a, of the shape of address x
pub record BodyAt (l : List ℕ) (b r : ℕ) : Type 0 where
  pub is : r ≡ body_place l b
  pub small : r < 4294967296
  pub inside : r + 7 + byte_at l (r + 6) ≤ length l
  pub parameters : byte_at l (r + 4) ≤ byte_at l (r + 6)

pub record ClassAt (l : List ℕ) (a r : ℕ) : Type 0 where
  pub is : r ≡ class_place l a
  pub small : r < 4294967296
  pub inside : r + 3 + byte_at l (r + 2) ≤ length l

pub record ShapeAt (l : List ℕ) (x r : ℕ) : Type 0 where
  pub is : r ≡ shape_at l x
  pub inside : (r ≡ 0 → ⊥) → r + 6 + byte_at l (r + 5) ≤ length l

-- the place of the shape of address x, or none where there is none
abbrev pub ShapeFound : List ℕ → ℕ → Option ℕ → Type 0
ShapeFound l x (Some p) = (p ≡ 0 → ⊥) × ShapeAt l x p
ShapeFound l x None = ShapeAt l x 0

-- ── shapes by rising address ──
-- p is the place of a shape, or of the end behind the last
abbrev pub OneOfShapes : List ℕ → ℕ → Type 0
OneOfShapes l p = (j : ℕ) × (j ≤ shapes l) × (p ≡ shape_place l j)

-- of one that is not past address x
abbrev pub NotPast : List ℕ → ℕ → ℕ → Type 0
NotPast l x p = (j : ℕ) × (j ≤ shapes l) × (p ≡ shape_place l j) × (least l j ≤ x)

-- the j-th shape's address; behind the last, one that there is not
abbrev pub next_address : List ℕ → ℕ → ℕ
next_address l j = cond (ltb j (shapes l)) (address_of l j) 65536

-- s is the first shape not before address i
pub record Next (l : List ℕ) (i : ℕ) (s : NextShape) : Type 0 where
  pub index : ℕ
  pub within : index ≤ shapes l
  pub stands : s.place ≡ shape_place l index
  pub passed : least l index ≤ i
  pub is : s.address ≡ next_address l index
  pub ahead : i ≤ s.address
  pub few : count l < 65536
