-- `load_rules::ops::op_load` meets its contract.
use mathlib.Core.Path.{◌∙◌}
use Rattle.std.specs.Prelude.{Some, None}
use Rattle.load_rules.proofs.Cells.{loads}
use Rattle.load_rules.proofs.ops.op_load.Goals as goal

pub returns-in-Some : goal.returns-in-Some
returns-in-Some c = (c.push_type.ensures.0 ∙ loads _ _ _ _ _ _ (Some _) c.in-Some.ensures, c.push_type.ensures.1)

pub returns-in-None : goal.returns-in-None
returns-in-None c = (loads _ _ _ _ _ _ None c.in-None.ensures, tt)
