-- What the walkers read and write, as the laws of crates/compile_steps speak of it.
use Rattle.std.specs.Prelude.{◌≡◌, ℕ}
use mathlib.Core.List.{List}
use Rattle.compile_output.specs.declared.Cursor.{Cursor}
use Rattle.compile_nodes.specs.Ready.{Node, Asks, Answers, AsksEs, AnswersEs, AsksItems, AnswersItems, AsksArms, AnswersArms}
use Rattle.compile_nodes.specs.Ready.{Lent as Arrays}
use Rattle.compile_steps.specs.Parts.{lent}
use Rattle.compile_walk.specs.declared.Source.{Source}
use Rattle.compile_walk.specs.declared.Lent.{Lent}

abbrev pub arrays : Lent → List ℕ → Arrays
arrays l stack = lent l.env.now l.ends.now stack l.out.now

-- the references are those that were lent
abbrev pub Same : Lent → Lent → Type 0
Same l m = (m.env.ghost_name ≡ l.env.ghost_name) × (m.ends.ghost_name ≡ l.ends.ghost_name) × (m.out.ghost_name ≡ l.out.ghost_name)

abbrev pub AsksAt : (Node → Type 0) → Source → List ℕ → ℕ → ℕ → Lent → List ℕ → ℕ → ℕ → ℕ → Cursor → Type 0
AsksAt is s part nesting at l stack top holds depth p = Asks is s.known.now s.aims.now s.table.now part nesting at s.sizes.now (arrays l stack) top holds depth p

abbrev pub AnswersAt : (Node → Type 0) → Source → List ℕ → ℕ → ℕ → Lent → List ℕ → Lent → List ℕ → ℕ → ℕ → ℕ → Cursor → Cursor → Type 0
AnswersAt is s part nesting at l stack m left top holds depth p r = Answers is s.known.now s.aims.now s.table.now part nesting at s.sizes.now (arrays l stack) (arrays m left) top holds depth p r

abbrev pub AsksEsAt : Source → List ℕ → ℕ → ℕ → ℕ → Lent → List ℕ → ℕ → ℕ → ℕ → Cursor → Type 0
AsksEsAt s part count nesting at l stack top holds depth p = AsksEs s.known.now s.aims.now s.table.now part count nesting at s.sizes.now (arrays l stack) top holds depth p

abbrev pub AnswersEsAt : Source → List ℕ → ℕ → ℕ → ℕ → Lent → List ℕ → Lent → List ℕ → ℕ → ℕ → ℕ → Cursor → Cursor → Type 0
AnswersEsAt s part count nesting at l stack m left top holds depth p r = AnswersEs s.known.now s.aims.now s.table.now part count nesting at s.sizes.now (arrays l stack) (arrays m left) top holds depth p r

abbrev pub AsksItemsAt : Source → List ℕ → ℕ → ℕ → ℕ → Lent → List ℕ → ℕ → ℕ → ℕ → Cursor → Type 0
AsksItemsAt s part count nesting at l stack top holds depth p = AsksItems s.known.now s.aims.now s.table.now part count nesting at s.sizes.now (arrays l stack) top holds depth p

abbrev pub AnswersItemsAt : Source → List ℕ → ℕ → ℕ → ℕ → Lent → List ℕ → Lent → List ℕ → ℕ → ℕ → ℕ → Cursor → Cursor → Type 0
AnswersItemsAt s part count nesting at l stack m left top holds depth p r = AnswersItems s.known.now s.aims.now s.table.now part count nesting at s.sizes.now (arrays l stack) (arrays m left) top holds depth p r

abbrev pub AsksArmsAt : Source → List ℕ → ℕ → ℕ → ℕ → ℕ → Lent → List ℕ → ℕ → ℕ → ℕ → Cursor → Type 0
AsksArmsAt s part owner count nesting at l stack top holds depth p = AsksArms s.known.now s.aims.now s.table.now part owner count nesting at s.sizes.now (arrays l stack) top holds depth p

abbrev pub AnswersArmsAt : Source → List ℕ → ℕ → ℕ → ℕ → ℕ → Lent → List ℕ → Lent → List ℕ → ℕ → ℕ → ℕ → Cursor → Cursor → Type 0
AnswersArmsAt s part owner count nesting at l stack m left top holds depth p r = AnswersArms s.known.now s.aims.now s.table.now part owner count nesting at s.sizes.now (arrays l stack) (arrays m left) top holds depth p r
