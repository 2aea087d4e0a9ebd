-- `table_types::operated` meets its contract.
use native.Mathlib.Omega.{arith}
use borrow.Author.Tests.{ne_eqb, le-ltb}
use Rattle.table_types.specs.Settle.{operated_by}
use Rattle.table_types.proofs.operated.Goals as goal

pub returns-else-op-lt6 : goal.returns-else-op-lt6
unfolding operated_by
returns-else-op-lt6 c =
    rw (
      ne_eqb c.args.op 10 (λ z. grind arith),
      ne_eqb c.args.op 11 (λ z. grind arith),
      ne_eqb c.args.op 12 (λ z. grind arith),
      ne_eqb c.args.op 13 (λ z. grind arith),
      ne_eqb c.args.op 14 (λ z. grind arith),
      ne_eqb c.args.op 15 (λ z. grind arith),
      ne_eqb c.args.op 20 (λ z. grind arith),
      ne_eqb c.args.op 21 (λ z. grind arith),
      ne_eqb c.args.op 22 (λ z. grind arith),
      le-ltb _ _ c.if-op-lt6.false,
    ) c.if_both-else-op-lt6.ensures
