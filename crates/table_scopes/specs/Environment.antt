-- The names in sight as lent numbers hold them, innermost first, and the steps of a lookup among them.
use Rattle.std.specs.Prelude.{◌≡◌, Option, Some, None, Bool, true, false, ◌||◌, List, [], ◌∷◌, ℕ, zero, suc, ◌+◌, ◌*◌, ◌≤◌, length, get_or, ltb, eqb}
use Rattle.logic.specs.Choice.{If◌then◌else◌}
use Rattle.table_scopes.specs.declared.environment.Definition.{Definition}

-- a definition: its name, its sort, its number and its place; or a mark, whose name is no name
pub data Item : Type 0 where
  item : ℕ → ℕ → ℕ → ℕ → Item

-- the marks: a block begins; a block expression or a procedure begins, which no goto leaves; the type of an operand
abbrev pub opened : ℕ
opened = 65536

abbrev pub shut : ℕ
shut = 65537

abbrev pub value : ℕ
value = 65538

-- what is found of a name: nothing, or the sort, the number and the place of its definition, and whether a wall lies between
pub data Found : Type 0 where
  Nothing : Found
  Def : ℕ → ℕ → ℕ → Bool → Found

-- as the code has it
abbrev pub found_of : Option Definition → Found
found_of None = Nothing
found_of (Some d) = Def d.sort d.number d.place d.walled

-- what was found, seen from behind a wall
abbrev pub passing : Bool → Found → Found
passing b Nothing = Nothing
passing b (Def s n q c) = Def s n q (b || c)

-- the definition of a name: that of the smallest block that has one, and whether a wall lies between
unfoldable pub find : ℕ → List Item → Found
find a [] = Nothing
find a (item m s n q ∷ v) = If eqb m a then Def s n q false else passing (eqb m shut) (find a v)

-- whether the innermost block defines the name
unfoldable pub here : ℕ → List Item → Bool
here a [] = false
here a (item m s n q ∷ v) = If ltb 65535 m then false else If eqb m a then true else here a v

abbrev pub name_of : Item → ℕ
name_of (item a s n q) = a

-- one definition more: of two in a block the first counts
abbrev pub adding : Item → List Item → List Item
adding i v = If here (name_of i) v then v else i ∷ v

unfoldable pub add_all : List Item → List Item → List Item
add_all [] v = v
add_all (i ∷ is) v = add_all is (adding i v)

-- the items that the first n fours of the lent numbers hold
unfoldable pub env_of : List ℕ → ℕ → List Item
env_of l zero = []
env_of l (suc n) = item (get_or l (4 * n) 0) (get_or l (4 * n + 1) 0) (get_or l (4 * n + 2) 0) (get_or l (4 * n + 3) 0) ∷ env_of l n

-- the stack went from `top` items to r, of which the lower ones are as before
pub record Grown (top : ℕ) (old new : List ℕ) (r : ℕ) (v : List Item) (more : ℕ) : Type 0 where
  pub now : env_of new r ≡ v
  pub kept : env_of new top ≡ env_of old top
  pub same : length new ≡ length old
  pub least : top ≤ r
  pub most : r ≤ top + more
