-- The statements are not empty: small trees that leave blocks by a goto and by a condition, and one that goes on for ever.
use Rattle.std.specs.Prelude.{true, false, ◌≡◌, refl, [], ◌∷◌, ℕ, zero, suc, pos}
use Rattle.values.specs.Computes.{values_compute}
use Rattle.values.specs.Ends.{assert_false}
use Rattle.values.specs.Trace.{set, hold, release, event}
use Rattle.language.specs.Computes.{language_computes}
use Rattle.language.specs.Tree.{Stmt, Tree, holding, local, procedure, proper, block, while, goto, assert, call, set_level, no_item, item, label, number, truth, no_expr}
use Rattle.language.specs.Execute.{Store, say, Place, World, jump, later, exec, fueled}
use Rattle.language_laws.specs.Endings.{EndsBy, GoesOn}
use Rattle.language_laws.specs.Exits.{Since, Balanced, exits}

abbrev zeros : ℕ → ℕ → ℕ
zeros k n = 0

abbrev world : World
world = record { oracle = zeros; globals = [] }

-- ── the listing example of paper 01: a goto leaves a block that holds 7 ──
abbrev held : Stmt
held = block (holding 7 ∷ []) (item (set_level (number (pos 3)) (number (pos 200))) (item (goto 5) no_item))

-- the block alone, wherever it is entered: a goto is under way
abbrev left : Store → Store
left σ = say (release 7) (say (set 3 200) (say (hold 7) σ))

pub leaves-by-goto : (X : Place) (σ : Store) → exec world (fueled world 0) held X σ ≡ jump 5 (left σ)
unfolding values_compute language_computes
leaves-by-goto X σ = refl

-- so that `exits` speaks of it
pub balanced : (X : Place) (σ : Store) → Since σ (left σ) (Balanced X)
balanced X σ = (exits.of-block world 0 _ _ X σ).by-a-goto 5 (left σ) (leaves-by-goto X σ)

-- the whole, where the goto is caught
abbrev listing : Tree
listing = record { head = []; items = item held (item (set_level (number (pos 4)) (number (pos 9))) (label 5 no_item)) }

pub listing-ends : EndsBy zeros listing (event (hold 7) ∷ event (set 3 200) ∷ event (release 7) ∷ []) 0
unfolding values_compute language_computes
listing-ends = (1, refl)

-- ── a condition in a procedure, with 7 open twice: the caller's holds are released, too ──
abbrev failing : Tree
failing = record {
  head = local (holding 7) ∷ procedure 1 [] (proper (block (holding 8 ∷ holding 7 ∷ []) (item (assert (truth false)) no_item))) ∷ [];
  items = item (call 1 no_expr) no_item;
}

pub failing-ends : EndsBy zeros failing
    (event (hold 7) ∷ event (hold 8) ∷ event (hold 7) ∷ event (release 7) ∷ event (release 8) ∷ event (release 7) ∷ []) assert_false
unfolding values_compute language_computes
failing-ends = (1, refl)

-- ── for ever ──
abbrev loop : Stmt
loop = while (truth true) (block [] no_item)

loops : (n : ℕ) (X : Place) (σ : Store) → exec world (fueled world n) loop X σ ≡ later σ
unfolding language_computes
loops zero X σ = refl
loops (suc n) X σ = loops n X σ

pub looping-goes-on : GoesOn zeros (record { head = []; items = item loop no_item })
unfolding language_computes
looping-goes-on n = ([], rw (loops n) refl)
