-- `load_rules::ops::op_put_field` meets its contract.
use mathlib.Core.Path.{refl, ◌∙◌}
use Rattle.std.specs.Prelude.{Some, None}
use Rattle.load_places.specs.Rules.{pop}
use Rattle.load_rules.proofs.Chains.{after}
use Rattle.load_rules.proofs.Fields.{puts}
use Rattle.load_rules.proofs.ops.op_put_field.Goals as goal

pub returns-in-Some : goal.returns-in-Some
returns-in-Some c = (
  after (λ g r. pop c.class_type.result g r) c.pop_type-f.ensures.0 c.pop_after.ensures.0
      ∙ puts _ _ _ _ _ (Some _) c.in-Some.ensures.field _ c.class_type.ensures,
  c.pop_after.ensures.1,
)

pub returns-in-None : goal.returns-in-None
returns-in-None c = (puts _ _ _ _ _ None c.in-None.ensures.field _ refl, tt)
