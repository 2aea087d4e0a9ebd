-- `state_check::inspection::all_stand` meets its contract.
use native.Mathlib.Omega.{arith}
use mathlib.Core.Path.{sym}
use Rattle.state_sound.specs.Each.{each_none, each_more}
use Rattle.state_check.proofs.TestExits.{each-end}
use Rattle.state_check.proofs.StandingLaws as law
use Rattle.load_places.specs.Search.{tops}
use Rattle.state_check.proofs.inspection.all_stand.Goals as goal

pub loop-k-init : goal.loop-k-init
loop-k-init c = sym (each_none _)

pub stands_if-f-requires : goal.stands_if-f-requires
stands_if-f-requires c = (
  c.requires.0,
  c.requires.1 (omega arith),
  omega arith,
  c.requires.2,
  c.requires.3,
)

pub loop-k-preserved : goal.loop-k-preserved
loop-k-preserved c =
    rw c.stands_if-f.ensures
    (each_more (law.stand_at c.args.at.now.code.now
    c.args.of.now.state.now
    c.args.of.now.records
    c.args.of.now.activations
    c.args.address
    c.args.body
    c.args.holds
    (tops c.args.stack.now 0
    c.args.depth)) c.loop-k.k _ c.loop-k.invariant)

pub returns : goal.returns
returns c = each-end _ _ _ _ c.loop-k.auto.k-end (omega arith) c.loop-k.invariant
