-- The verdict on a table as the code answers it.
use Rattle.std.specs.Prelude.{◌≡◌, refl, List, ℕ, ◌≤◌, length, Result, Ok, Err, ⊤}
use Rattle.values.specs.Ends.{Judged, accepted, refused}
use Rattle.values.specs.Refusals.{in_code}
use Rattle.values.specs.declared.Refusal.{Refusal}
use Rattle.language.specs.Tree.{Tree}
use Rattle.language.specs.Table.{read_table}
use Rattle.logic.specs.Tests.{clash}
use Rattle.table_entries.specs.Sizes.{Known}
use Rattle.table_read.specs.Walk.{reading_of}
use Rattle.table_read.specs.Filling.{Wide}
use Rattle.table_forms.specs.Tables.{Reads}

-- accepted, or the refusal with its number and its place
abbrev pub checked_of : Judged Tree → Result ⊤ Refusal
checked_of (accepted t) = Ok tt
checked_of (refused r) = Err (in_code r)

-- ── what is lent, and what is left ──
abbrev pub Lends : List ℕ → List ℕ → List ℕ → Type 0
Lends l sizes env = Wide l sizes × (length l ≤ 16384 → length l ≤ length env)

abbrev pub Leaves : List ℕ → List ℕ → Result ⊤ Refusal → Type 0
Leaves l sizes (Ok u) = Known l sizes
Leaves l sizes (Err r) = Unit {0}

pub leaves-known : {l sizes : List ℕ} (r : Result ⊤ Refusal) → Known l sizes → Leaves l sizes r
leaves-known (Ok u) k = k
leaves-known (Err r) k = tt

-- ── reading ──
pub reads : (l : List ℕ) → Ok tt ≡ reading_of (read_table l) → Reads l
reads l e = go (read_table l) refl e
  where
    go : (j : Judged Tree) → read_table l ≡ j → Ok tt ≡ reading_of j → Reads l
    go (accepted t) h k = (t, h)
    go (refused r) h k = clash (cc)
