-- `desk::lent::cue_play` meets its contract.
use mathlib.Core.Path.{◌≡◌, ap, ◌∙◌}
use Rattle.std.specs.Prelude.{Ok}
use Rattle.run.specs.declared.Played.TheVariants.{Spends, Finishes, Fills}
use Rattle.desk.proofs.Laws as law
use Rattle.desk.proofs.lent.cue_play.Goals as goal

pub pack_refusal-requires : goal.pack_refusal-requires
pack_refusal-requires c =
    law.play-small _ _ _ _ _ _ _ c.play-p.result.answer _ c.play-p.ensures (λ k. (c.type_inv.code k).fits)
    (λ k. (c.type_inv.readings k).fits) c.ranges.allowance.fits _ c.in-Err.is

pub returns-in-Ok-Spends : goal.returns-in-Ok-Spends
returns-in-Ok-Spends c =
    let q : c.in-Ok-Spends.field-0 ≡ Spends c.in-Ok-Spends.steps c.in-Ok-Spends.events = rw c.in-Ok-Spends.is at c.in-Ok-Spends.field-0-is in
    law.plays _ _ _ _ _ _ _ c.play-p.result.answer _ c.play-p.ensures _ (c.in-Ok-Spends.is ∙ ap Ok q) _ c.pack.ensures

pub returns-in-Ok-Finishes : goal.returns-in-Ok-Finishes
returns-in-Ok-Finishes c =
    let q : c.in-Ok-Finishes.field-0 ≡ Finishes c.in-Ok-Finishes.end c.in-Ok-Finishes.steps c.in-Ok-Finishes.events = rw c.in-Ok-Finishes.is at c.in-Ok-Finishes.field-0-is in
    law.plays _ _ _ _ _ _ _ c.play-p.result.answer _ c.play-p.ensures _ (c.in-Ok-Finishes.is ∙ ap Ok q) _ c.pack-in-Ok-Finishes.ensures

pub returns-in-Ok-Fills : goal.returns-in-Ok-Fills
returns-in-Ok-Fills c =
    let q : c.in-Ok-Fills.field-0 ≡ Fills c.in-Ok-Fills.steps c.in-Ok-Fills.events = rw c.in-Ok-Fills.is at c.in-Ok-Fills.field-0-is in
    law.plays _ _ _ _ _ _ _ c.play-p.result.answer _ c.play-p.ensures _ (c.in-Ok-Fills.is ∙ ap Ok q) _ c.pack-in-Ok-Fills.ensures

pub returns-in-Err : goal.returns-in-Err
returns-in-Err c =
    law.plays _ _ _ _ _ _ _ c.play-p.result.answer _ c.play-p.ensures _ c.in-Err.is _ c.pack_refusal.ensures
