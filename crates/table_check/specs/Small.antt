-- How large the numbers of a refusal can be: its number is 1 to 6, its place at most the number of entries, of which a table has at most 2,048.
use Rattle.std.specs.Prelude.{◌≡◌, refl, Bool, true, false, not, ◌||◌, List, [], ◌∷◌, ◌++◌, ℕ, suc, ◌+◌, ◌/◌, ◌%◌, ◌≤◌, ◌<◌, eqb, ltb, length}
use Rattle.std.proofs.Common.{ap, arith, length-append, ltb-false}
use Rattle.language.specs.Program.{flat_items, flat_head, flatten, total}
use Rattle.logic.specs.Choice.{If◌then◌else◌}
use Rattle.values.specs.Ends.{Refusal, refusal, Judged, accepted, refused}
use Rattle.language.specs.Tree.{Global, local, class, procedure, Tree}
use Rattle.language.specs.Table.{Entry, Read, took, stop, first, form_root, one_tree, read_table}
use Rattle.language.specs.Faults.{fault_if, size_items, size_global, faults}
use Rattle.language.specs.Limits.{Usage, keeps_limits, body_usage, root_usage, over_limits, procedure_limits, limits}
use Rattle.language.specs.Judge.{first_fault, judge_tree, judge_table}
use Rattle.language_laws.specs.Claims.{entries_of}
use Rattle.language_laws.proofs.Order.{first-fault}
use Rattle.table_entries.specs.Entries.{length-entries}
use Rattle.table_scopes.specs.Trees.{length-Items, length-head}
use Rattle.table_forms.specs.Tables.{read_held}

abbrev pub Narrow : Judged Tree → Type 0
Narrow (accepted t) = Unit {0}
Narrow (refused r) = (r.number ≤ 6) × (r.place ≤ 2048)

-- ── how many entries a tree has ──

entry-count : (l : List ℕ) (t : Tree) → read_table l ≡ accepted t → 1 + (total size_global t.head + size_items t.items) ≤ 2048
unfolding flatten
entry-count l t e =
    let h = read_held l t e in
    omega (arith, h.short, ap length h.same, length-entries (length l / 8) l, length-append (flat_head t.head) (flat_items t.items), length-head t.head, length-Items t.items)

-- ── the limits of bodies: all are 6, at a place below m ──
abbrev pub Sixes : ℕ → List Refusal → Type 0
Sixes m [] = Unit {0}
Sixes m (r ∷ rs) = (r.number ≡ 6) × (r.place < m) × Sixes m rs

sixes-append : (m : ℕ) (rs ss : List Refusal) → Sixes m rs → Sixes m ss → Sixes m (rs ++ ss)
sixes-append m [] ss h k = k
sixes-append m (r ∷ rs) ss h k = (h.0, h.1, sixes-append m rs ss h.2 k)

sixes-over : (u : Usage) (p m : ℕ) → p < m → Sixes m (over_limits u p)
sixes-over u p m h = go (not (keeps_limits u))
  where
    go : (b : Bool) → Sixes m (fault_if b 6 p)
    go true = (refl, h, tt)
    go false = tt

sixes-procedures : (gs : List Global) (p m : ℕ) → p + total size_global gs ≤ m → Sixes m (procedure_limits p gs)
unfolding procedure_limits total
sixes-procedures [] p m h = tt
sixes-procedures (local d ∷ gs) p m h = sixes-procedures gs (suc p) m (omega arith)
sixes-procedures (class c xs ∷ gs) p m h = sixes-procedures gs (p + size_global (class c xs)) m (omega arith)
sixes-procedures (procedure a xs b ∷ gs) p m h =
    sixes-append m (over_limits (body_usage xs b) p) _ (sixes-over (body_usage xs b) p m (omega arith))
    (sixes-procedures gs (p + size_global (procedure a xs b)) m (omega arith))

pub sixes : (l : List ℕ) (t : Tree) → read_table l ≡ accepted t → Sixes 2048 (limits t)
unfolding limits
sixes l t e =
    sixes-append 2048 (procedure_limits 1 t.head) _ (sixes-procedures t.head 1 2048 (omega (arith, entry-count l t e)))
    (sixes-over (root_usage t) 0 2048 (omega arith))

-- ── the verdict ──
one-narrow : (es : List Entry) → length es ≤ 2048 → (x : Read Tree) → Narrow (one_tree es x)
unfolding one_tree
one-narrow es h (took t []) = tt
one-narrow es h (took t (x ∷ xs)) = (omega arith, omega arith)
one-narrow es h (stop xs) = (omega arith, omega arith)

read-narrow : (l : List ℕ) → Narrow (read_table l)
unfolding read_table
read-narrow l = go (eqb (length l) 0) (ltb 16384 (length l)) (eqb (length l % 8) 0) refl
  where
    go : (a b c : Bool) → ltb 16384 (length l) ≡ b
        → Narrow (If a || (b || not c) then refused (refusal 1 0) else one_tree (entries_of l) (first form_root (entries_of l)))
    go true b c e = (omega arith, omega arith)
    go false true c e = (omega arith, omega arith)
    go false false false e = (omega arith, omega arith)
    go false false true e =
        one-narrow (entries_of l) (omega (arith, length-entries (length l / 8) l, ltb-false 16384 (length l) e)) (first form_root (entries_of l))

first-narrow : (t : Tree) (fs ls : List Refusal) → ((r : Refusal) (rs : List Refusal) → fs ≡ r ∷ rs → (r.number ≤ 5) × (r.place < 2048)) → Sixes 2048 ls
    → Narrow (first_fault t (fs ++ ls))
first-narrow t [] [] h s = tt
first-narrow t [] (r ∷ rs) h s = (omega (arith, s.0), omega (arith, s.1))
first-narrow t (r ∷ rs) ls h s = let k = h r rs refl in (omega (arith, k.0), omega (arith, k.1))

pub narrow : (l : List ℕ) → Narrow (judge_table l)
unfolding judge_table
narrow l = go (read_table l) refl (read-narrow l)
  where
    go : (j : Judged Tree) → read_table l ≡ j → Narrow j → Narrow (judge_tree j)
    go (accepted t) e h =
        first-narrow t (faults t) (limits t) (λ r rs k. ((first-fault t r rs k).0, omega (arith, (first-fault t r rs k).1, entry-count l t e))) (sixes l t e)
    go (refused r) e h = h
