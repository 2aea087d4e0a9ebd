-- `table_scopes::environment::note_block` meets its contract: the filter is right about the names that were passed.
use mathlib.Core.Path.{◌∙◌}
use Prim.Native.Nat.{◌-◌, ◌*◌}
use native.Mathlib.Omega.{arith}
use lib.ListN.{get_or}
use Rattle.table_scopes.specs.Filter.{noted-length, but-next, but-mark, but-none}
use Rattle.table_scopes.proofs.environment.note_block.Goals as goal

pub returns-then-n-gt-LAST_NAME : goal.returns-then-n-gt-LAST_NAME
returns-then-n-gt-LAST_NAME c =
    (but-mark c.args.env.now c.loop-i.i c.loop-i.invariant.0 (omega arith) (omega arith), c.loop-i.invariant.1)

pub loop-i-preserved : goal.loop-i-preserved
loop-i-preserved c = (
  rw c.note.ensures (but-next c.args.env.now c.loop-i.i c.loop-i.invariant.0 (omega arith) (omega arith)),
  rw c.note.ensures (noted-length c.loop-i.seen (get_or c.args.env.now (4 * (c.loop-i.i - 1)) 0) ∙ c.loop-i.invariant.1),
)

pub returns : goal.returns
returns c = (but-none c.args.env.now c.loop-i.i c.loop-i.invariant.0 (omega arith), c.loop-i.invariant.1)
