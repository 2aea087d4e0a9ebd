-- `desk::lent::cue_run` meets its contract.
use mathlib.Core.Path.{◌≡◌, ap, ◌∙◌}
use Rattle.std.specs.Prelude.{Ok}
use Rattle.machine_run.specs.declared.Answer.TheVariants.{Happens, Spends, Finishes}
use Rattle.desk.proofs.Laws as law
use Rattle.desk.proofs.lent.cue_run.Goals as goal

pub pack_refusal-requires : goal.pack_refusal-requires
pack_refusal-requires c =
    law.ran-small _ _ _ _ _ c.run-r.result.answer _ c.run-r.ensures (λ k. (c.type_inv.code k).fits)
    (λ k. (c.type_inv.readings k).fits) _ c.in-Err.is

pub returns-in-Ok-Happens : goal.returns-in-Ok-Happens
returns-in-Ok-Happens c =
    let q : c.in-Ok-Happens.field-0 ≡ Happens c.in-Ok-Happens.e c.in-Ok-Happens.steps = rw c.in-Ok-Happens.is at c.in-Ok-Happens.field-0-is in
    law.ran _ _ _ _ _ c.run-r.result.answer _ c.run-r.ensures _ (c.in-Ok-Happens.is ∙ ap Ok q) _ c.pack_event.ensures

pub returns-in-Ok-Spends : goal.returns-in-Ok-Spends
returns-in-Ok-Spends c =
    let q : c.in-Ok-Spends.field-0 ≡ Spends c.in-Ok-Spends.steps = rw c.in-Ok-Spends.is at c.in-Ok-Spends.field-0-is in
    law.ran _ _ _ _ _ c.run-r.result.answer _ c.run-r.ensures _ (c.in-Ok-Spends.is ∙ ap Ok q) _ c.pack.ensures

pub returns-in-Ok-Finishes : goal.returns-in-Ok-Finishes
returns-in-Ok-Finishes c =
    let q : c.in-Ok-Finishes.field-0 ≡ Finishes c.in-Ok-Finishes.end c.in-Ok-Finishes.steps = rw c.in-Ok-Finishes.is at c.in-Ok-Finishes.field-0-is in
    law.ran _ _ _ _ _ c.run-r.result.answer _ c.run-r.ensures _ (c.in-Ok-Finishes.is ∙ ap Ok q) _ c.pack-in-Ok-Finishes.ensures

pub returns-in-Err : goal.returns-in-Err
returns-in-Err c =
    law.ran _ _ _ _ _ c.run-r.result.answer _ c.run-r.ensures _ c.in-Err.is _ c.pack_refusal.ensures
