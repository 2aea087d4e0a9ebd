-- `table_read::layout::in_layout` meets its contract.
use mathlib.Core.Path.{◌≡◌}
use mathlib.Core.Logic.{◌⊎◌, inl, inr}
use Prim.Native.Nat.{ℕ}
use lib.IntN.{ℤ}
use mir.Syntax.{w32}
use mir.ValLaws.{to_z-of_z}
use Rattle.language.specs.Table.{natural, entry, in_layout}
use Rattle.table_read.proofs.Fields.{natural-least}
use Rattle.table_read.proofs.layout.in_layout.Goals as goal

-- the kinds whose b is a count
counts : (k a : ℕ) (b : ℤ) → (k ≡ 1) ⊎ ((k ≡ 27) ⊎ ((k ≡ 45) ⊎ ((k ≡ 47) ⊎ (k ≡ 53)))) → natural b ≡ in_layout (entry k a b)
unfolding in_layout
counts k a b (inl e) = rw e
counts k a b (inr (inl e)) = rw e
counts k a b (inr (inr (inl e))) = rw e
counts k a b (inr (inr (inr (inl e)))) = rw e
counts k a b (inr (inr (inr (inr e)))) = rw e

pub returns-in-1 : goal.returns-in-1
returns-in-1 c = rw (to_z-of_z w32 _ c.ranges.b, natural-least c.args.b) (counts c.args.kind c.args.a c.args.b c.in-1.is)
