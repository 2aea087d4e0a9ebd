-- `load_rules::ops::op_store` meets its contract.
use mathlib.Core.Path.{◌∙◌}
use Rattle.std.specs.Prelude.{Some, None}
use Rattle.load_rules.proofs.Cells.{stores}
use Rattle.load_rules.proofs.ops.op_store.Goals as goal

pub returns-in-Some : goal.returns-in-Some
returns-in-Some c = (c.pop_type.ensures.0 ∙ stores _ _ _ _ _ _ (Some _) c.in-Some.ensures, c.pop_type.ensures.1)

pub returns-in-None : goal.returns-in-None
returns-in-None c = (stores _ _ _ _ _ _ None c.in-None.ensures, tt)
