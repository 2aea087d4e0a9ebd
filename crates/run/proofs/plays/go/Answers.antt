-- `run::plays::go` meets its contract.
use mathlib.Core.Path.{◌≡◌}
use Rattle.std.specs.Prelude.{Err}
use Rattle.std.proofs.lemmas.Result.{err_from_is_err_and}
use Rattle.run.proofs.Told as law
use Rattle.run.proofs.Playing as play
use Rattle.run.proofs.plays.go.Goals as goal

pub play_passed-requires : goal.play_passed-requires
play_passed-requires c = law.told-passed _ _ _ _ c.inspect.result c.inspect.ensures _ c.in_ok-found.was

pub returns-in_err-found : goal.returns-in_err-found
returns-in_err-found c =
    let told = law.told-refused _ _ _ _ c.inspect.result c.inspect.ensures _ c.in_err-found.was in
    let p = err_from_is_err_and c.from_residual.result c.from_residual.ensures.1 in
    let q : c.from_residual.result ≡ Err c.in_err-found.field-0.0 = cc (p.1, p.2) in
    rw q
    (λ t h. law.run-refused _ _ c.args.readings.now c.args.allowance _ _ told, λ f. play.play-refused _ _ _ c.args.allowance c.args.answers.now _ _ (law.run-refused _ _ c.args.readings.now 0 _ _ told))
