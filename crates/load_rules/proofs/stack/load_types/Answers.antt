-- `load_rules::stack::load_types` meets its contract.
use native.Mathlib.Omega.{arith}
use mathlib.Core.Path.{refl}
use lib.ListN.{length-set}
use Rattle.load_rules.proofs.RecordTypes.{tops-none, tops-load}
use Rattle.load_rules.proofs.stack.load_types.Goals as goal

pub loop-i-init : goal.loop-i-init
loop-i-init c = (refl, tops-none _ _ _)

pub loop-i-preserved : goal.loop-i-preserved
loop-i-preserved c = (simp length-set c.loop-i.invariant.0, tops-load _ _ _ _ (omega arith) c.loop-i.invariant.1)
