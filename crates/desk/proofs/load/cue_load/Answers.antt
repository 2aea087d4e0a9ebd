-- `desk::load::cue_load` meets its contract.
use mathlib.Core.Path.{◌∙◌}
use Rattle.desk.proofs.Laws as law
use Rattle.desk.proofs.load.cue_load.Goals as goal

pub pack_refusal-requires : goal.pack_refusal-requires
pack_refusal-requires c =
    law.loaded-small _ c.load.result c.load.ensures (λ k. (c.type_inv.code k).fits) _ c.in-Err.is

pub returns-in-Ok : goal.returns-in-Ok
returns-in-Ok c =
    c.pack.ensures ∙ law.loaded _ c.load.result c.load.ensures _ c.in-Ok.is

pub returns-in-Err : goal.returns-in-Err
returns-in-Err c =
    c.pack_refusal.ensures ∙ law.loaded _ c.load.result c.load.ensures _ c.in-Err.is
