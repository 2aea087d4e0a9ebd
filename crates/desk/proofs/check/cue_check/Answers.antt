-- `desk::check::cue_check` meets its contract.
use mathlib.Core.Path.{◌∙◌}
use Rattle.desk.proofs.Laws as law
use Rattle.desk.proofs.check.cue_check.Goals as goal

pub pack_refusal-requires : goal.pack_refusal-requires
pack_refusal-requires c =
    law.checked-small _ c.check.result c.check.ensures _ c.in-Err.is

pub returns-in-Ok : goal.returns-in-Ok
returns-in-Ok c =
    c.pack.ensures ∙ law.checked _ c.check.result c.check.ensures _ c.in-Ok.is

pub returns-in-Err : goal.returns-in-Err
returns-in-Err c =
    c.pack_refusal.ensures ∙ law.checked _ c.check.result c.check.ensures _ c.in-Err.is
