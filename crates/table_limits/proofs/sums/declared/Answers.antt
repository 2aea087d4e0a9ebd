-- `table_limits::sums::declared` meets its contract.
use Prim.Native.Nat.{ℕ, ◌+◌}
use native.Mathlib.Omega.{arith}
use mathlib.Core.Path.{refl, ap}
use Rattle.table_read.proofs.Roots.{tally-small}
use Rattle.table_limits.proofs.Trees.{used-same}
use Rattle.table_limits.proofs.sums.declared.Goals as goal

pub overflow_add-result-2 : goal.overflow_add-result-2
overflow_add-result-2 c =
    omega (arith, tally-small c.args.kind 10, c.tally.ensures)

pub overflow_add-result-3 : goal.overflow_add-result-3
overflow_add-result-3 c =
    omega (arith, tally-small c.args.kind 14, c.tally-2.ensures)

pub returns : goal.returns
returns c =
    let own = c.args.own in
    used-same refl refl (ap (λ (n : ℕ). own.cells + n) c.tally.ensures) (ap (λ (n : ℕ). own.holds + n) c.tally-2.ensures)
