-- What an entry takes of a body's limits, and how its operands are summed.
use Rattle.std.specs.Prelude.{Bool, not, ◌&&◌, ◌||◌, ℕ, ◌+◌, ◌*◌, ◌^◌, ◌≤◌, ◌<◌, max, eqb, leb, ltb}
use Rattle.logic.specs.Choice.{If◌then◌else◌}
use Rattle.table_read.specs.Walk.{tally}
use Rattle.table_limits.specs.declared.sums.Used.{Used}

abbrev pub used : ℕ → ℕ → ℕ → ℕ → Used
used n d c h = record { entries = n; need = d; cells = c; holds = h }

-- without its operands: "at least 1 … a case needs at least 2"; cells are "variables of all its blocks, one per case", "Each loop counts three cells."
unfoldable pub alone_of : ℕ → Used
alone_of k =
    If eqb k 10 then used 1 1 1 0 else
    If eqb k 14 then used 1 1 0 1 else
    If eqb k 30 then used 1 2 1 0 else
    If eqb k 31 then used 1 1 3 0 else used 1 1 0 0

-- "the largest over i of i − 1 plus the need of its i-th operand": the kinds whose operands wait for the last. Here i counts from 0.
unfoldable pub stacks : ℕ → Bool
stacks k = eqb k 21 || (eqb k 27 || (eqb k 28 || (eqb k 31 || (eqb k 45 || (eqb k 47 || (eqb k 49 || eqb k 50))))))

-- "an operand that is a statement counts its own need alone": of these kinds a for has one, its last
abbrev pub weight_of : ℕ → ℕ → ℕ
weight_of k i = If stacks k then If eqb k 31 && eqb i 3 then 0 else i else 0

-- how many operands are a block's head, and the holds that stay open after an operand
unfoldable pub head_of : ℕ → ℕ → ℕ
head_of k a = If eqb k 1 || eqb k 53 then a else 0

abbrev pub kept_of : ℕ → ℕ → ℕ → ℕ
kept_of head i h = If ltb i head then h else 0

-- one operand more, where w values wait and o holds are open
abbrev pub joined : ℕ → ℕ → Used → Used → Used
joined w o u v = used (u.entries + v.entries) (max u.need (w + v.need)) (u.cells + v.cells) (max u.holds (o + v.holds))

-- ── bodies ──
abbrev pub keeps_all : Used → Bool
keeps_all u = leb u.cells 32 && (leb u.holds 16 && leb u.need 32)

abbrev pub over_of : ℕ → Used → Bool
over_of k u = eqb k 12 && not (keeps_all u)

-- the root's own after one more declaration of its head
abbrev pub declared_of : ℕ → Used → Used → Used
declared_of k own u = used (own.entries + u.entries) own.need (own.cells + tally k 10) (own.holds + tally k 14)

-- ── bounds, so that no sum wraps ──
abbrev pub Small : Used → Type 0
Small u = (u.entries < 2 ^ 62) × (u.need < 2 ^ 62) × (u.cells < 2 ^ 62) × (u.holds < 2 ^ 62)

abbrev pub Level : Used → Type 0
Level u = (u.need ≤ u.entries + 1) × (u.cells ≤ 3 * u.entries) × (u.holds ≤ u.entries)
