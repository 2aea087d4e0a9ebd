-- `run::starts::start` meets its contract.
use mathlib.Core.Path.{◌≡◌, sym, ◌∙◌}
use Rattle.std.specs.Prelude.{Err}
use Rattle.std.proofs.lemmas.Result.{err_from_is_err_and}
use Rattle.run.proofs.Starting as law
use Rattle.run.proofs.starts.start.Goals as goal

pub returns-then-state-ne-STATE_BYTES : goal.returns-then-state-ne-STATE_BYTES
returns-then-state-ne-STATE_BYTES c = law.start-short _ (sym c.in_ok-load.was ∙ c.load.ensures) _ c.if-state-ne-STATE_BYTES.true

pub root_at-p-requires : goal.root_at-p-requires
root_at-p-requires c = law.well _ (sym c.in_ok-load.was ∙ c.load.ensures)

pub write_fresh-requires : goal.write_fresh-requires
write_fresh-requires c =
    let A = law.cells-fit _ (sym c.in_ok-load.was ∙ c.load.ensures) _ _ c.root_at-p.ensures
    c.byte_at-n.ensures.0 (λ k. (c.type_inv.code k).fits) in
    (A.0, A.1, A.2, c.if-state-ne-STATE_BYTES.false)

pub returns-in_err-load : goal.returns-in_err-load
returns-in_err-load c =
    let p = err_from_is_err_and c.from_residual.result c.from_residual.ensures.1 in
    let q : c.from_residual.result ≡ Err c.in_err-load.field-0.0 = cc (p.1, p.2) in
    rw q (law.start-refused _ _ _ (sym c.in_err-load.was ∙ c.load.ensures))

pub returns : goal.returns
returns c =
    law.start-fresh _ (sym c.in_ok-load.was ∙ c.load.ensures) _ _ c.root_at-p.ensures
    c.byte_at-n.ensures.0 _ c.if-state-ne-STATE_BYTES.false _ c.write_fresh.ensures
