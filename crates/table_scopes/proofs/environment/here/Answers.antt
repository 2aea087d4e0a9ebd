-- `table_scopes::environment::here` meets its contract.
use native.Mathlib.Omega.{arith}
use mathlib.Core.Path.{sym, ◌∙◌}
use Rattle.table_scopes.specs.EnvironmentLaws.{here-mark, here-hit, here-miss, here-none}
use Rattle.table_scopes.proofs.environment.here.Goals as goal

pub returns-then-n-gt-LAST_NAME : goal.returns-then-n-gt-LAST_NAME
returns-then-n-gt-LAST_NAME c = sym (c.loop-i.invariant ∙ here-mark c.args.env.now c.args.name c.loop-i.i (omega arith) (omega arith))

pub returns-then-n-name : goal.returns-then-n-name
returns-then-n-name c =
    sym (c.loop-i.invariant ∙ here-hit c.args.env.now
    c.args.name c.loop-i.i (omega arith) (omega arith) c.if-n-name.true)

pub loop-i-preserved : goal.loop-i-preserved
loop-i-preserved c =
    c.loop-i.invariant ∙ here-miss c.args.env.now
    c.args.name c.loop-i.i (omega arith) (omega arith) c.if-n-name.false

pub returns : goal.returns
returns c = sym (c.loop-i.invariant ∙ here-none c.args.env.now c.args.name c.loop-i.i (omega arith))
