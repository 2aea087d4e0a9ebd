-- Which tables are programs, and what a refusal says: the theorems, over the terms of Claims. The proofs stand in the other files.
use Rattle.std.specs.Prelude.{◌≡◌, true, List, [], ◌∷◌, ◌++◌, ◌↔◌, ℕ, ◌*◌, ◌/◌, ◌%◌, ◌≤◌, ◌<◌, length}
use Rattle.std.proofs.Common.{arith}
use Rattle.language.specs.Program.{flatten, table_bytes, nesting, Program, in_fields}
use Rattle.logic.specs.Lists.{all}
use Rattle.words.specs.Laws.{Bytes}
use Rattle.values.specs.Ends.{Refusal, accepted, refused}
use Rattle.language.specs.Tree.{Tree}
use Rattle.language.specs.Table.{Entry, took, first, form_root}
use Rattle.language.specs.Faults.{faults}
use Rattle.language.specs.Limits.{limits}
use Rattle.language.specs.Formed.{WellFormed, KeepsLimits}
use Rattle.language.specs.Judge.{judge_table}
use Rattle.language_laws.specs.Bytes.{bytes_back, fields-kept, entries-all, length-bytes}
use Rattle.language_laws.specs.Claims.{Readable, entries_of, FirstUnread, Walk, Stands, Earlier, Ordered, Verdict}
use Rattle.language_laws.proofs.Order.{walk-faults}
use Rattle.language_laws.specs.Outline.{depths, deepest, postorder, outline}
use Rattle.language_laws.specs.Roots.{takes-root, yields-root}
use Rattle.language_laws.specs.Sizes
use Rattle.language_laws.proofs.StopRoots
use Rattle.language_laws.specs.Trees.{faultless-formed, formed-faultless, limited-keeps, keeps-limited}
use Rattle.language_laws.proofs.Verdicts
use Rattle.language_laws.specs.Walks.{walk-order, ordered_same, within-postorder, within-once, postorder-all}

-- ── trees and entries ──
-- the entries of a tree are read as the tree, whatever comes after them
pub read-flatten : (t : Tree) → Readable t → (rest : List Entry) → first form_root (flatten t ++ rest) ≡ took t rest
read-flatten t h = (takes-root t h).takes

-- entries that are read as a tree are its entries, and the tree is readable
pub flatten-read : (es rest : List Entry) (t : Tree) → first form_root es ≡ took t rest → (es ≡ flatten t ++ rest) × Readable t
flatten-read es rest t h = let a = yields-root.yields es rest t h in (rw (← a.holds.0) a.split, a.holds.1)

-- two trees have two lists of entries
pub flatten-injective : (t u : Tree) → Readable t → Readable u → flatten t ≡ flatten u → t ≡ u
flatten-injective t u h k e = cc (Verdicts.read_whole t h, Verdicts.read_whole u k)

-- the nesting of a tree is the depth of its deepest entry
pub nesting-deepest : (t : Tree) → nesting t ≡ deepest (depths 1 (outline t))
nesting-deepest t = Sizes.nesting-deepest t

-- ── entries and bytes ──
pub bytes-entries : (l : List ℕ) → Bytes l → length l % 8 ≡ 0 → (table_bytes (entries_of l) ≡ l) × (all in_fields (entries_of l) ≡ true)
bytes-entries l b h = (bytes_back (length l / 8) l b (omega arith), fields-kept (length l / 8) l b)

pub entries-bytes : (es : List Entry) → all in_fields es ≡ true → (entries_of (table_bytes es) ≡ es) × (length (table_bytes es) ≡ 8 * length es)
entries-bytes es h = (entries-all es h, length-bytes es)

-- ── what the check answers ──
pub verdict : (l : List ℕ) → Verdict l (judge_table l)
verdict l = Verdicts.verdict l

-- by cases, if it refuses
pub refusal-says : (l : List ℕ) (r : Refusal) → judge_table l ≡ refused r → Verdict l (refused r)
refusal-says l r e = rw e at (verdict l)

-- there is only one first entry that does not read
pub one-unread : (es : List Entry) (p q : ℕ) → FirstUnread es p → FirstUnread es q → p ≡ q
one-unread es p q f g = StopRoots.one-unread f g

-- ── the order of the faults ──
-- "Table entries are judged inner before outer, left to right": all faults are met on one walk over the entries in postorder
pub faults-postorder : (t : Tree) → Walk 3 (postorder 0 (outline t)) (faults t)
faults-postorder t = walk-faults t

-- which comes to every entry, and to none twice
pub postorder-every : (t : Tree) → Readable t → (p : ℕ) → p < length (flatten t) → Stands p (postorder 0 (outline t))
postorder-every t r p h = postorder-all (outline t) 0 p (omega arith) (omega (arith, StopRoots.size-flatten t r))

pub postorder-once : (t : Tree) (p : ℕ) → Earlier p p (postorder 0 (outline t)) → ⊥
postorder-once t p h = within-once (within-postorder (outline t) 0) p h

-- so of two faults the first stands at an entry earlier in postorder, or at the same entry with no larger number
pub faults-ordered : (t : Tree) (xs ys zs : List Refusal) (a b : Refusal) → faults t ≡ xs ++ (a ∷ (ys ++ (b ∷ zs))) → Ordered a b (postorder 0 (outline t))
faults-ordered t xs ys zs a b e = walk-order (walk-faults t) xs ys zs a b e

-- at one entry no larger number stands before a smaller one: 3, 4, 5 in that order
pub faults-order : (t : Tree) (xs ys zs : List Refusal) (a b : Refusal) → faults t ≡ xs ++ (a ∷ (ys ++ (b ∷ zs))) → a.place ≡ b.place
    → a.number ≤ b.number
faults-order t xs ys zs a b e p = ordered_same (faults-ordered t xs ys zs a b e) p (postorder-once t a.place)

-- ── what the lists of faults come to: the rules, which know no place and no order ──
pub faultless : (t : Tree) → (faults t ≡ []) ↔ WellFormed t
faultless t = (faultless-formed t, formed-faultless t)

pub within-limits : (t : Tree) → (limits t ≡ []) ↔ KeepsLimits t
within-limits t = (limited-keeps t, keeps-limited t)

-- ── programs: the check accepts a table exactly if it is one, and answers its tree ──
pub accepted-program : (l : List ℕ) → Bytes l → (t : Tree) → judge_table l ≡ accepted t → (p : Program l) × (p.tree ≡ t)
accepted-program l b t e = Verdicts.accepted-verdict b (rw e at (verdict l))

pub program-accepted : (l : List ℕ) (p : Program l) → judge_table l ≡ accepted p.tree
program-accepted l p = Verdicts.program-verdict p (verdict l)

pub accepts-programs : (l : List ℕ) → Bytes l → ((t : Tree) × (judge_table l ≡ accepted t)) ↔ Program l
accepts-programs l b = (λ a. (accepted-program l b a.0 a.1).0, λ p. (p.tree, program-accepted l p))

-- a program has one tree
pub one-tree : (l : List ℕ) (p q : Program l) → p.tree ≡ q.tree
one-tree l p q = cc (program-accepted l p, program-accepted l q)
