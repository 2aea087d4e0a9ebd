-- How the code reads, in its own terms: answers count entries from the start of the part that is read.
use Rattle.std.specs.Prelude.{Bool, false, ◌&&◌, ◌||◌, List, [], ◌∷◌, ℕ, zero, suc, ◌+◌, eqb, ltb, nat_abs, drop, replicate, Result, Ok, Err, ⊤}
use Rattle.logic.specs.Choice.{If◌then◌else◌}
use Rattle.values.specs.Ends.{Refusal, Judged, accepted, refused}
use Rattle.language.specs.Tree as tree
use Rattle.language.specs.Table.{Entry, in_layout}
use Rattle.table_read.specs.declared.kinds.Sort.{Sort}
use Rattle.table_read.specs.declared.kinds.Sort.TheVariants.{Typed, Decl, Part, Stmt, Target, Expr}
use Rattle.table_read.specs.Operands.{is_s, is_e, sorts}

-- ── what the code tells of what is read ──
abbrev pub reading_of : Judged tree.Tree → Result ⊤ Refusal
reading_of (accepted t) = Ok tt
reading_of (refused r) = Err r

-- ── answers ──
-- the number that it holds
abbrev pub counted : Result ℕ ℕ → ℕ
counted (Ok n) = n
counted (Err p) = p

-- the same, k entries further on
abbrev pub moved : ℕ → Result ℕ ℕ → Result ℕ ℕ
moved k (Ok n) = Ok (k + n)
moved k (Err p) = Err (k + p)

-- the same, where what was read begins at a place and a fault is told by its place
abbrev pub placed : ℕ → Result ℕ ℕ → Result ℕ ℕ
placed at (Ok n) = Ok n
placed at (Err p) = Err (at + p)

-- one, and then what follows it
abbrev pub onward : Result ℕ ℕ → (ℕ → Result ℕ ℕ) → Result ℕ ℕ
onward (Ok n) g = moved n (g n)
onward (Err p) g = Err p

-- operands, one after the other
unfoldable pub chain : (Sort → List Entry → Result ℕ ℕ) → List Sort → List Entry → Result ℕ ℕ
chain w [] es = Ok 0
chain w (s ∷ ss) es = onward (w s es) (λ n. chain w ss (drop n es))

-- ── the entry that stands here ──
abbrev pub kind_at : List Entry → ℕ
kind_at [] = 0
kind_at (e ∷ es) = e.kind

abbrev pub laid_at : List Entry → Bool
laid_at [] = false
laid_at (e ∷ es) = in_layout e

abbrev pub stands_at : ℕ → List Entry → Bool
stands_at k es = eqb (kind_at es) k && laid_at es

abbrev pub sorts_of : Entry → List Sort
sorts_of e = sorts e.kind e.a (nat_abs e.b)

abbrev pub sorts_at : List Entry → List Sort
sorts_at [] = []
sorts_at (e ∷ es) = sorts_of e

-- which kinds can stand as an operand
unfoldable pub admits : Sort → ℕ → Bool
admits Typed k = eqb k 10
admits Decl k = eqb k 10 || eqb k 14
admits Part k = eqb k 20 || is_s k
admits Stmt k = is_s k
admits Target k = eqb k 44 || eqb k 46
admits Expr k = is_e k

-- an entry and its operands, each read by w
abbrev pub under : (Sort → List Entry → Result ℕ ℕ) → List Entry → Result ℕ ℕ
under w es = moved 1 (chain w (sorts_at es) (drop 1 es))

-- the same where the entry is laid out and of a kind that is admitted
unfoldable pub entered : (Sort → List Entry → Result ℕ ℕ) → (ℕ → Bool) → List Entry → Result ℕ ℕ
entered w p es = If laid_at es && p (kind_at es) then under w es else Err 0

-- whether an operand of a sort stands here, where so much nesting is left
abbrev pub admitted_at : ℕ → Sort → List Entry → Bool
admitted_at d s es = ltb 0 d && (laid_at es && admits s (kind_at es))

unfoldable pub walk : ℕ → Sort → List Entry → Result ℕ ℕ
walk zero s es = Err 0
walk (suc d) s es = entered (λ t x. walk d t x) (admits s) es

-- ── the root ──
-- a declaration of the root's head, after so many classes and procedures
unfoldable pub is_global : ℕ → ℕ → ℕ → Bool
is_global c p k =
    If eqb k 11 then ltb c 16 else
    If eqb k 12 then ltb p 63 else (eqb k 10 || eqb k 14)

abbrev pub tally : ℕ → ℕ → ℕ
tally k j = If eqb k j then 1 else 0

unfoldable pub walk_head : ℕ → ℕ → ℕ → List Entry → Result ℕ ℕ
walk_head zero c p es = Ok 0
walk_head (suc n) c p es =
    onward (entered (walk 62) (is_global c p) es) (λ m. walk_head n (c + tally (kind_at es) 11) (p + tally (kind_at es) 12) (drop m es))

-- the first entry's a, and how far its b is from 0
abbrev pub name_at : List Entry → ℕ
name_at [] = 0
name_at (e ∷ es) = e.a

abbrev pub size_at : List Entry → ℕ
size_at [] = 0
size_at (e ∷ es) = nat_abs e.b

-- its declarations, and then its statements
unfoldable pub walk_below : ℕ → ℕ → List Entry → Result ℕ ℕ
walk_below a n es = onward (walk_head a 0 0 es) (λ m. chain (walk 63) (replicate n Part) (drop m es))

unfoldable pub walk_root : List Entry → Result ℕ ℕ
walk_root es = If stands_at 1 es then moved 1 (walk_below (name_at es) (size_at es) (drop 1 es)) else Err 0
