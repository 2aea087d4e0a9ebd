-- `load_rules::ops::op_stop` meets its contract.
use mathlib.Core.Path.{sym, ◌∙◌}
use borrow.Author.Tests.{eq-eqb, ne_eqb}
use Rattle.load_places.specs.Rules.{op_stop}
use Rattle.load_rules.proofs.ops.op_stop.Goals as goal

pub returns-then-not-stops_by : goal.returns-then-not-stops_by
unfolding op_stop
returns-then-not-stops_by c = (simp (sym c.stops_by.ensures ∙ c.if-not-stops_by.true), tt)

pub returns-then-b-ne0 : goal.returns-then-b-ne0
unfolding op_stop
returns-then-b-ne0 c = (simp (sym c.stops_by.ensures ∙ c.if-not-stops_by.false, ne_eqb _ _ c.if-b-ne0.true), tt)

pub returns : goal.returns
unfolding op_stop
returns c = (simp (sym c.stops_by.ensures ∙ c.if-not-stops_by.false, eq-eqb _ _ c.if-b-ne0.false), tt)
