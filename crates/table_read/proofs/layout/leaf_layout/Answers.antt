-- `table_read::layout::leaf_layout` meets its contract: past the first five kinds only those are left whose b is 0.
use native.Mathlib.Omega.{arith}
use Rattle.std.proofs.lemmas.Grind.{common_steps}
use mathlib.Core.Path.{◌≡◌}
use mathlib.Core.Bool.{true}
use Prim.Native.Nat.{ℕ}
use borrow.Author.Tests.{eqb-true}
use lib.IntN.{ℤ}
use Rattle.values.specs.Arithmetic.{is_zero}
use Rattle.language.specs.Table.{entry, in_layout}
use Rattle.table_read.specs.Operands.{is_leaf}
use Rattle.table_read.proofs.Sorts.{kind-or}
use Rattle.table_read.proofs.layout.leaf_layout.Goals as goal

named : (k a : ℕ) (b : ℤ) → is_leaf k ≡ true → (k ≡ 10 → ⊥) → (k ≡ 14 → ⊥) → (k ≡ 41 → ⊥) → (k ≡ 40 → ⊥) → (k ≡ 42 → ⊥) → is_zero b ≡ in_layout (entry k a b)
unfolding is_leaf in_layout
named k a b t n10 n14 n41 n40 n42 =
    kind-or k 10 (λ e. absurd (n10 e)) (kind-or k 14 (λ e. absurd (n14 e)) (kind-or k 20 (λ e. rw e) (kind-or k 25 (λ e. rw e) (kind-or k 40 (λ e. absurd (n40 e))
    (kind-or k 41 (λ e. absurd (n41 e)) (kind-or k 42 (λ e. absurd (n42 e)) (kind-or k 43 (λ e. rw e) (λ u. rw (eqb-true k 44 u))))))))) t

pub returns-in_default : goal.returns-in_default
returns-in_default c =
    rw (← named c.args.kind c.args.a c.args.b c.requires (λ e. grind arith) (λ e. grind arith) (λ e. grind arith) (λ e. grind arith) (λ e. grind arith)) (grind (arith, common_steps))
