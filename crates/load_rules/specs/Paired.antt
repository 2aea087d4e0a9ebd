-- What one function of the code says for two ops, and the test that several make.
use Rattle.std.specs.Prelude.{Bool, cond, not, ◌&&◌, List, ℕ, ◌+◌, eqb, ltb, Option, Some, None}
use Rattle.words.specs.Numbers.{byte_at}
use Rattle.load_places.specs.Records.{classes, class_place, body_place}
use Rattle.load_places.specs.Rules.{owner_body}

-- whether an instruction that has no use for operands has one
unfoldable pub has_operands : ℕ → ℕ → Bool
has_operands a b = not (eqb a 0 && eqb b 0)

-- the type of the cell that is loaded or stored into, none where there is no such cell
unfoldable pub cell_type : List ℕ → ℕ → ℕ → ℕ → Option ℕ
cell_type l k a b =
    let p = body_place l (owner_body k a) in cond (ltb a 2) (cond (ltb b (byte_at l (p + 6))) (Some (byte_at l (p + 7 + b))) None) None

-- the type of the field that is got or put, none where there is no such field
unfoldable pub field_type : List ℕ → ℕ → ℕ → Option ℕ
field_type l a b = cond (ltb a (classes l)) (cond (ltb b (byte_at l (class_place l a + 2))) (Some (byte_at l (class_place l a + 3 + b))) None) None
