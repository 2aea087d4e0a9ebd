-- How many parts stand directly below an entry.
use Rattle.std.specs.Prelude.{ℕ, ◌+◌, ◌/◌, eqb}
use Rattle.logic.specs.Choice.{If◌then◌else◌}

-- the parts below an entry, of fields k, a and b
unfoldable pub parts : ℕ → ℕ → ℕ → ℕ
parts k a b =
    If eqb k 1 then a + b else
    If eqb k 11 then b else
    If eqb k 12 then b / 256 + 1 else
    If eqb k 21 then 2 else
    If eqb k 22 then 2 else
    If eqb k 23 then 3 else
    If eqb k 24 then 2 else
    If eqb k 26 then 1 else
    If eqb k 27 then b else
    If eqb k 28 then 2 else
    If eqb k 30 then a + 1 else
    If eqb k 31 then 4 else
    If eqb k 45 then b else
    If eqb k 46 then 1 else
    If eqb k 47 then b else
    If eqb k 48 then 1 else
    If eqb k 49 then 2 else
    If eqb k 50 then 3 else
    If eqb k 51 then 1 else
    If eqb k 53 then a + b + 1 else 0
