-- `table_scopes::heads::head` meets its contract.
use native.Mathlib.Omega.{arith}
use mathlib.Core.Path.{◌∙◌}
use Prim.Native.Nat.{◌+◌, ◌-◌}
use Rattle.std.proofs.lemmas.Result.{err_from_is_err_and}
use Rattle.table_scopes.specs.Environment.{env_of}
use Rattle.table_scopes.specs.Flaws.{decl_flaws, head_flaws, head_next, head-none, says-fine, says_first}
use Rattle.table_scopes.proofs.heads.head.Goals as goal

pub loop-place-preserved : goal.loop-place-preserved
loop-place-preserved c =
    let v = env_of c.args.env.now c.args.top in
    c.loop-place.invariant ∙ head_next c.args.table.now v c.loop-place.place (c.args.at + c.args.count) (omega arith)
    ∙ rw (says-fine c.declared.result _ (decl_flaws c.args.table.now v c.loop-place.place) c.in_ok-declared.was c.declared.ensures)

pub returns-in_err-declared : goal.returns-in_err-declared
returns-in_err-declared c =
    let v = env_of c.args.env.now c.args.top in
    let p = err_from_is_err_and c.from_residual.result c.from_residual.ensures.1 in
    rw (p.1, p.2, c.loop-place.invariant ∙ head_next c.args.table.now v c.loop-place.place (c.args.at + c.args.count) (omega arith))
    (says_first c.declared.result _ (decl_flaws c.args.table.now v c.loop-place.place)
    (head_flaws c.args.table.now v (c.loop-place.place + 1) (c.args.at + c.args.count - (c.loop-place.place + 1))) c.in_err-declared.was c.declared.ensures)

pub returns : goal.returns
returns c =
    c.loop-place.invariant ∙ head-none c.args.table.now (env_of c.args.env.now c.args.top) c.loop-place.place
    (c.args.at + c.args.count - c.loop-place.place) (omega arith)
