-- `load_rules::lookup::instruction_at` meets its contract.
use native.Mathlib.Omega.{arith}
use Rattle.load_records.proofs.Known.{code_of}
use Rattle.load_rules.proofs.lookup.instruction_at.Goals as goal

pub overflow_add-at : goal.overflow_add-at
overflow_add-at c = omega (arith, code_of _ c.requires.0 c.args.address c.requires.2)

pub overflow_add-at-2 : goal.overflow_add-at-2
overflow_add-at-2 c = omega (arith, code_of _ c.requires.0 c.args.address c.requires.2)

pub byte_at-op-requires : goal.byte_at-op-requires
byte_at-op-requires c = omega (arith, code_of _ c.requires.0 c.args.address c.requires.2)

pub overflow_add-at-3 : goal.overflow_add-at-3
overflow_add-at-3 c =
    omega (arith, code_of _ c.requires.0 c.args.address c.requires.2)

pub byte_at-a-requires : goal.byte_at-a-requires
byte_at-a-requires c =
    omega (arith, code_of _ c.requires.0 c.args.address c.requires.2)

pub overflow_add-at-4 : goal.overflow_add-at-4
overflow_add-at-4 c =
    omega (arith, code_of _ c.requires.0 c.args.address c.requires.2)

pub word_at-b-requires : goal.word_at-b-requires
word_at-b-requires c =
    omega (arith, code_of _ c.requires.0 c.args.address c.requires.2)
