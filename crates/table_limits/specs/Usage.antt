-- What an entry and all below it take, as the code finds it: over entries, whatever they are.
use Rattle.std.specs.Prelude.{◌≡◌, Bool, ◌&&◌, List, [], ◌∷◌, ℕ, zero, suc, ◌+◌, ◌*◌, ◌≤◌, ltb, length, drop, Option, Some, None, Result, Ok, Err, ⊤}
use Rattle.logic.specs.Choice.{If◌then◌else◌}
use Rattle.values.specs.Ends.{Refusal, accepted}
use Rattle.language.specs.Tree.{Tree}
use Rattle.language.specs.Table.{Entry, read_table}
use Rattle.language.specs.Limits.{limits}
use Rattle.table_read.specs.Operands.{is_leaf}
use Rattle.table_read.specs.Walk.{kind_at, name_at, size_at, sorts_of}
use Rattle.table_limits.specs.declared.sums.Used.{Used}
use Rattle.table_limits.specs.Sums.{alone_of, weight_of, head_of, kept_of, joined, keeps_all, over_of, declared_of, Level}

-- ── entries ──
abbrev pub onward : Option Used → (Used → Option Used) → Option Used
onward (Some u) g = g u
onward None g = None

-- n operands from the i-th on, each found by f: o holds are open, and u is what was taken so far
unfoldable pub through : (List Entry → Option Used) → ℕ → ℕ → ℕ → ℕ → ℕ → Used → List Entry → Option Used
through f k head zero i o u es = Some u
through f k head (suc n) i o u es =
    onward (f es) (λ v. through f k head n (suc i) (o + kept_of head i v.holds) (joined (weight_of k i) o u v) (drop v.entries es))

abbrev pub entry_usage : (List Entry → Option Used) → List Entry → Option Used
entry_usage f [] = None
entry_usage f (e ∷ es) = through f e.kind (head_of e.kind e.a) (length (sorts_of e)) 0 0 (alone_of e.kind) es

-- the need "by calling itself on each operand", nested so deep at most
unfoldable pub usage_at : ℕ → List Entry → Option Used
usage_at zero es = None
usage_at (suc d) es = entry_usage (λ x. usage_at d x) es

-- an entry that takes what it takes alone
abbrev pub leaf_at : ℕ → List Entry → Bool
leaf_at d es = ltb 0 d && is_leaf (kind_at es)

abbrev pub Bounded : Option Used → ℕ → Type 0
Bounded (Some u) l = Level u × (1 ≤ u.entries) × (8 * u.entries ≤ l)
Bounded None l = Unit {0}

-- ── the root ──
abbrev pub head_onward : Option Used → (Used → Result (Option Used) ℕ) → Result (Option Used) ℕ
head_onward (Some u) g = g u
head_onward None g = Ok None

-- its head, of which n declarations are left
unfoldable pub head_from : ℕ → Used → List Entry → Result (Option Used) ℕ
head_from zero own es = Ok (Some own)
head_from (suc n) own es =
    head_onward (usage_at 63 es) (λ u.
    If over_of (kind_at es) u then Err own.entries else head_from n (declared_of (kind_at es) own u) (drop u.entries es))

abbrev pub head_at : ℕ → List Entry → Result (Option Used) ℕ
head_at n es = head_from n (alone_of 1) es

abbrev pub HeadBounded : Result (Option Used) ℕ → ℕ → Type 0
HeadBounded (Ok (Some u)) l = Level u × (8 * u.entries ≤ 8 + l)
HeadBounded (Err p) l = Unit {0}
HeadBounded (Ok None) l = Unit {0}

-- its statements
abbrev pub items_at : ℕ → Used → List Entry → Option Used
items_at n own es = through (usage_at 63) 1 0 n 0 own.holds own es

abbrev pub root_of : Option Used → Result ⊤ ℕ
root_of (Some u) = If keeps_all u then Ok tt else Err 0
root_of None = Ok tt

abbrev pub bodies_of : List Entry → Result (Option Used) ℕ → Result ⊤ ℕ
bodies_of es (Ok (Some own)) = root_of (items_at (size_at es) own (drop own.entries es))
bodies_of es (Err p) = Err p
bodies_of es (Ok None) = Ok tt

unfoldable pub limits_at : List Entry → Result ⊤ ℕ
limits_at es = bodies_of es (head_at (name_at es) (drop 1 es))

-- ── what the code answers ──
abbrev pub limited_of : List Refusal → Result ⊤ ℕ
limited_of [] = Ok tt
limited_of (r ∷ rs) = Err r.place

-- of a table that reads, the first of its limits that is passed
abbrev pub Limits : List ℕ → Result ⊤ ℕ → Type 0
Limits l r = (t : Tree) → read_table l ≡ accepted t → r ≡ limited_of (limits t)
