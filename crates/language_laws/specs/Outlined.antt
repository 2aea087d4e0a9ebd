-- Paper 01's listing example: the depth of each of its entries, and the order in which they are judged.
use Rattle.std.specs.Prelude.{◌≡◌, refl, List, [], ◌∷◌, ℕ, pos}
use Rattle.language.specs.Computes.{language_computes}
use Rattle.language.specs.Tree.{Tree}
use Rattle.language.specs.Table.{Entry, entry, Read, took, stop, first, form_root}
use Rattle.language_laws.specs.Outline.{Outline, none, size, depths, postorder, leaves_of, outline_s, outline_head, outline}

abbrev e : ℕ → ℕ → ℕ → Entry
e k a b = entry k a (pos b)

-- "For the entries 1 0 3, 1 1 2, 14 7 0, 28 0 0, 40 0 3, 40 0 200, 25 5 0, 28 0 0, 40 0 4, 40 0 9, 20 5 0 it prints"
abbrev listing : List Entry
listing = e 1 0 3 ∷ e 1 1 2 ∷ e 14 7 0 ∷ e 28 0 0 ∷ e 40 0 3 ∷ e 40 0 200 ∷ e 25 5 0 ∷ e 28 0 0 ∷ e 40 0 4 ∷ e 40 0 9 ∷ e 20 5 0 ∷ []

abbrev outline_of : Read Tree → Outline
outline_of (took t es) = outline t
outline_of (stop es) = none

pub listing-depths : depths 1 (outline_of (first form_root listing)) ≡ 1 ∷ 2 ∷ 3 ∷ 3 ∷ 4 ∷ 4 ∷ 3 ∷ 2 ∷ 3 ∷ 3 ∷ 2 ∷ []
unfolding language_computes depths leaves_of outline_s outline_head outline
listing-depths = refl

-- the block 1 after its hold, its set with both operands, and its goto; the root last
pub listing-postorder : postorder 0 (outline_of (first form_root listing)) ≡ 2 ∷ 4 ∷ 5 ∷ 3 ∷ 6 ∷ 1 ∷ 8 ∷ 9 ∷ 7 ∷ 10 ∷ 0 ∷ []
unfolding language_computes size postorder leaves_of outline_s outline_head outline
listing-postorder = refl
