-- `compile_emit::mark_holds` meets its contract.
use mathlib.Core.Path.{◌≡◌}
use native.Mathlib.Omega.{arith}
use Rattle.compile_emit.specs.EmitEntryLaws.{marks-start, marks-push}
use Rattle.compile_emit.proofs.mark_holds.Goals as goal

pub loop-i-init : goal.loop-i-init
loop-i-init c = marks-start c.args.env.now c.args.top

pub loop-i-preserved : goal.loop-i-preserved
loop-i-preserved c =
    marks-push c.args.env.now
    c.loop-i.env c.push.new.env
    c.args.top c.loop-i.i
    (omega (arith, c.loop-i.invariant.same)) c.loop-i.invariant
    c.push.ensures

pub returns : goal.returns
returns c = let e : c.loop-i.i ≡ c.args.count = omega arith in rw (← e) c.loop-i.invariant
