-- What the theorems of Programs speak of: trees that can be read, tables that hold them, and what the check answers.
use Rattle.std.specs.Prelude.{◌≡◌, true, List, [], ◌∷◌, ◌++◌, ◌⊎◌, ℕ, suc, ◌/◌, ◌%◌, ◌≤◌, ◌<◌, length, take, get_or}
use Rattle.language.specs.Program.{flatten, nesting, total}
use Rattle.logic.specs.Lists.{all}
use Rattle.values.specs.Ends.{Refusal, refusal, Judged, accepted, refused}
use Rattle.language.specs.Tree.{Tree}
use Rattle.language.specs.Table.{Entry, in_layout, class_count, procedure_count, entries}
use Rattle.language.specs.Faults.{faults}
use Rattle.language.specs.Limits.{limits}
use Rattle.language_laws.specs.Outline.{depths, outline}

-- a tree that entries can be read as: it keeps to the layout, the nesting and the counts
pub record Readable (t : Tree) : Type 0 where
  pub layout : all in_layout (flatten t) ≡ true
  pub depth : nesting t ≤ 64
  pub classes : total class_count t.head ≤ 16
  pub procedures : total procedure_count t.head ≤ 63

-- the entries that a table's bytes stand for
abbrev pub entries_of : List ℕ → List Entry
entries_of l = entries (length l / 8) l

-- "empty, over 16,384 bytes, or not in eights"
pub data Misshapen (l : List ℕ) : Type 0 where
  empty : length l ≡ 0 → Misshapen l
  over : 16384 < length l → Misshapen l
  uneven : (length l % 8 ≡ 0 → ⊥) → Misshapen l

pub record Shaped (l : List ℕ) : Type 0 where
  pub some : 1 ≤ length l
  pub most : length l ≤ 16384
  pub eights : length l % 8 ≡ 0

-- the table is the entries of a tree, and of nothing else
pub record Holds (l : List ℕ) (t : Tree) : Type 0 where
  pub shaped : Shaped l
  pub readable : Readable t
  pub same : entries_of l ≡ flatten t

-- the first n entries begin a tree that keeps to the layout and the counts, and none of these n is deeper than 64. "An entry does not read if a
-- reader that takes entries from left to right cannot accept it at its position" (R1): so nothing is asked of how deep the rest of the tree is, nor
-- of how long
pub record Begins (es : List Entry) (n : ℕ) : Type 0 where
  pub tree : Tree
  pub rest : List Entry
  pub same : flatten tree ≡ take n es ++ rest
  pub layout : all in_layout (flatten tree) ≡ true
  pub depth : (i : ℕ) → i < n → get_or (depths 1 (outline tree)) i 0 ≤ 64
  pub classes : total class_count tree.head ≤ 16
  pub procedures : total procedure_count tree.head ≤ 63

-- "2: the first that does not read, or the entry count where the table ends early"
pub record FirstUnread (es : List Entry) (p : ℕ) : Type 0 where
  pub within : p ≤ length es
  pub before : Begins es p
  pub here : p < length es → Begins es (suc p) → ⊥

-- "at one entry 3, 4, 5 in that order": the faults that are met where these entries are judged one after the other, the first with numbers from n
pub data Walk : ℕ → List ℕ → List Refusal → Type 0 where
  end : Walk 3 [] []
  pass : {n p : ℕ} {ps : List ℕ} {rs : List Refusal} → Walk 3 ps rs → Walk n (p ∷ ps) rs  -- on to the next entry
  meet : {n m p : ℕ} {ps : List ℕ} {rs : List Refusal} → n ≤ m → m ≤ 5 → Walk m (p ∷ ps) rs → Walk n (p ∷ ps) (refusal m p ∷ rs)

abbrev pub Stands : ℕ → List ℕ → Type 0
Stands p ps = (us : List ℕ) × (ws : List ℕ) × (ps ≡ us ++ (p ∷ ws))

-- p stands before q
abbrev pub Earlier : ℕ → ℕ → List ℕ → Type 0
Earlier p q ps = (us : List ℕ) × (vs : List ℕ) × (ws : List ℕ) × (ps ≡ us ++ (p ∷ (vs ++ (q ∷ ws))))

-- of two faults that were met the first stands at the same entry and has no larger number, or at an entry that was judged earlier
abbrev pub Ordered : Refusal → Refusal → List ℕ → Type 0
Ordered a b ps = ((a.place ≡ b.place) × (a.number ≤ b.number)) ⊎ Earlier a.place b.place ps

-- what the check answers, and when: 1 at 0; 2, where the table holds no tree, at the first entry that does not read; the first of all faults of
-- the tree that it holds and of the limits of its bodies; or that tree, if there is none
pub data Verdict (l : List ℕ) : Judged Tree → Type 0 where
  misshapen : Misshapen l → Verdict l (refused (refusal 1 0))
  unread : Shaped l → ((t : Tree) → Holds l t → ⊥) → (place : ℕ) → FirstUnread (entries_of l) place → Verdict l (refused (refusal 2 place))
  faulty : (t : Tree) → Holds l t → (r : Refusal) (rs : List Refusal) → faults t ++ limits t ≡ r ∷ rs → Verdict l (refused r)
  sound : (t : Tree) → Holds l t → faults t ++ limits t ≡ [] → Verdict l (accepted t)
