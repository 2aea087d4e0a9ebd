-- `load_rules::ops::op_get_field` meets its contract.
use mathlib.Core.Path.{refl, ◌∙◌}
use Rattle.std.specs.Prelude.{Some, None}
use Rattle.load_rules.proofs.Fields.{gets}
use Rattle.load_rules.proofs.ops.op_get_field.Goals as goal

pub returns-in-Some : goal.returns-in-Some
returns-in-Some c = (c.trade_one.ensures.0 ∙ gets _ _ _ _ _ (Some _) c.in-Some.ensures.field _ c.class_type.ensures, c.trade_one.ensures.1)

pub returns-in-None : goal.returns-in-None
returns-in-None c = (gets _ _ _ _ _ None c.in-None.ensures.field _ refl, tt)
