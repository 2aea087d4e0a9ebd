-- `table_scopes::environment::find` meets its contract.
use native.Mathlib.Omega.{arith}
use mathlib.Core.Path.{sym, ◌∙◌}
use Rattle.table_scopes.specs.EnvironmentLaws.{find-hit, find-miss, find_none}
use Rattle.table_scopes.proofs.environment.find.Goals as goal

pub returns-then-n-name : goal.returns-then-n-name
returns-then-n-name c =
    sym (c.loop-i.invariant
    ∙ find-hit c.args.env.now
    c.args.name c.loop-i.i
    c.loop-i.passed (omega arith) c.if-n-name.true)

pub loop-i-preserved : goal.loop-i-preserved
loop-i-preserved c =
    c.loop-i.invariant ∙ find-miss c.args.env.now
    c.args.name c.loop-i.i
    c.loop-i.passed (omega arith) c.if-n-name.false ∙ rw c.walled-passed.ensures

pub returns : goal.returns
returns c = sym (c.loop-i.invariant ∙ find_none c.args.env.now c.args.name c.loop-i.i c.loop-i.passed (omega arith))
