-- What the reader leaves in the sizes: those of all entries that it took, from the place on at which it began.
use Rattle.std.specs.Prelude.{List, ℕ, ◌+◌, ◌*◌, ◌/◌, ◌≤◌, ◌<◌, length, Result, Ok, Err, ⊤}
use Rattle.language.specs.Table.{Entry}
use Rattle.table_entries.specs.Sizes.{Known, Sized}
use Rattle.table_entries.specs.declared.Fault.{Fault}

-- room for those of a part that begins at a place
abbrev pub Room : List ℕ → ℕ → List ℕ → Type 0
Room part at sizes = (8 * at + length part ≤ 8 * length sizes) × (length sizes < 65536)

-- of what did not read nothing is said
abbrev pub Fills : List Entry → ℕ → List ℕ → List ℕ → Result ℕ ℕ → Type 0
Fills es at old new (Ok n) = Sized es at n old new
Fills es at old new (Err p) = Unit {0}

-- of a table: room for as many as a table has, and what is handed on
abbrev pub Wide : List ℕ → List ℕ → Type 0
Wide l sizes = (length l ≤ 16384 → length l / 8 ≤ length sizes) × (length sizes < 65536)

abbrev pub Hands : List ℕ → List ℕ → Result ⊤ Fault → Type 0
Hands l sizes (Ok u) = Known l sizes
Hands l sizes (Err f) = Unit {0}
