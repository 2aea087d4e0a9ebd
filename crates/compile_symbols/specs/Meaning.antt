-- What a name in sight stands for: what is known of the entry that defines it.
use Rattle.std.specs.Prelude.{List, ℕ, get_or}
use Rattle.table_scopes.specs.Environment.{Item, Found, Nothing, Def, find}

abbrev pub known_of : List ℕ → Found → ℕ
known_of known Nothing = 0
known_of known (Def s n q w) = get_or known q 0

abbrev pub meaning_of : ℕ → List Item → List ℕ → ℕ
meaning_of a v known = known_of known (find a v)
