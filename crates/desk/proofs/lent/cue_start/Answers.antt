-- `desk::lent::cue_start` meets its contract.
use Rattle.desk.proofs.Laws as law
use Rattle.desk.proofs.lent.cue_start.Goals as goal

pub pack_refusal-requires : goal.pack_refusal-requires
pack_refusal-requires c =
    law.started-small _ _ _ c.start.result c.start.ensures (λ k. (c.type_inv.code k).fits) _ c.in-Err.is

pub returns-in-Ok : goal.returns-in-Ok
returns-in-Ok c =
    law.started _ _ _ c.start.result c.start.ensures _ c.in-Ok.is _ c.pack.ensures

pub returns-in-Err : goal.returns-in-Err
returns-in-Err c =
    law.started _ _ _ c.start.result c.start.ensures _ c.in-Err.is _ c.pack_refusal.ensures
