-- `table_names::faults::class` meets its contract.
use Prim.Native.Nat.{◌+◌}
use Rattle.std.proofs.lemmas.Result.{err_from_is_err_and}
use Rattle.words.specs.Numbers.{half_at, word_at}
use Rattle.table_scopes.specs.Environment.{env_of}
use Rattle.table_scopes.specs.Flaws.{once_flaw, head_flaws, says_then, says_first}
use Rattle.table_names.proofs.faults.class.Goals as goal

pub returns : goal.returns
returns c =
    says_then c.head.result c.once.result _ (head_flaws c.args.table.now
    (env_of c.args.env.now c.args.top) (c.args.at + 1) (word_at c.args.part.now 4))
    (once_flaw (env_of c.args.env.now c.args.top) (half_at c.args.part.now 2) c.args.at)
    c.in_ok-head.was (rw c.b_at-fields.ensures at c.head.ensures) (rw c.a_at-name.ensures at c.once.ensures)

pub returns-in_err-head : goal.returns-in_err-head
returns-in_err-head c =
    let p = err_from_is_err_and c.from_residual.result c.from_residual.ensures.1 in
    rw (p.1, p.2) (says_first c.head.result _ (head_flaws c.args.table.now (env_of c.args.env.now c.args.top)
    (c.args.at + 1) (word_at c.args.part.now 4))
    (once_flaw (env_of c.args.env.now c.args.top) (half_at c.args.part.now 2) c.args.at)
    c.in_err-head.was (rw c.b_at-fields.ensures at c.head.ensures))
