-- `state_check::tests::value_fits` meets its contract.
use mathlib.Core.Path.{◌∙◌}
use Rattle.state_check.proofs.TestExits as law
use Rattle.state_check.proofs.tests.value_fits.Goals as goal

pub returns-then-no_type : goal.returns-then-no_type
returns-then-no_type c =
    law.value_none _ _ _ _ _ (law.told-type c.args.code.now _ _ _ _ c.byte_at-n.ensures.0 c.no_type.ensures c.if-no_type.true)

pub returns-then-t-ge-TYPE_CLASS : goal.returns-then-t-ge-TYPE_CLASS
returns-then-t-ge-TYPE_CLASS c =
    c.points_to.ensures ∙ law.value-reference _ _ _ _ _ (law.told-type c.args.code.now _ _ _ _ c.byte_at-n.ensures.0
    c.no_type.ensures c.if-no_type.false) c.if-t-ge-TYPE_CLASS.true

pub returns-then-t-eq-TYPE_LOGICAL : goal.returns-then-t-eq-TYPE_LOGICAL
returns-then-t-eq-TYPE_LOGICAL c =
    law.value-logical _ _ _ _ _ (law.told-type c.args.code.now _ _ _ _ c.byte_at-n.ensures.0
    c.no_type.ensures c.if-no_type.false) c.if-t-ge-TYPE_CLASS.false c.if-t-eq-TYPE_LOGICAL.true

pub returns : goal.returns
returns c =
    law.value-any _ _ _ _ _ (law.told-type c.args.code.now _ _ _ _ c.byte_at-n.ensures.0
    c.no_type.ensures c.if-no_type.false) c.if-t-ge-TYPE_CLASS.false c.if-t-eq-TYPE_LOGICAL.false
