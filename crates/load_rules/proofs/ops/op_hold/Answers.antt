-- `load_rules::ops::op_hold` meets its contract.
use native.Mathlib.Omega.{arith}
use borrow.Author.Tests.{eq-eqb, ne_eqb, lt-ltb, le-ltb}
use Rattle.load_places.specs.Rules.{op_hold}
use Rattle.load_rules.proofs.ops.op_hold.Goals as goal

pub returns-then-a-ne0 : goal.returns-then-a-ne0
unfolding op_hold
returns-then-a-ne0 c = (simp (ne_eqb _ _ c.if-a-ne0.true), tt)

pub returns-then-b-ge-GROUPS : goal.returns-then-b-ge-GROUPS
unfolding op_hold
returns-then-b-ge-GROUPS c = (simp (eq-eqb _ _ c.if-a-ne0.false, le-ltb _ _ c.if-b-ge-GROUPS.true), tt)

pub returns-then-holds-ge-MAX_HOLDS : goal.returns-then-holds-ge-MAX_HOLDS
unfolding op_hold
returns-then-holds-ge-MAX_HOLDS c = (simp (eq-eqb _ _ c.if-a-ne0.false, lt-ltb _ _ c.if-b-ge-GROUPS.false, le-ltb _ _ c.if-holds-ge-MAX_HOLDS.true), tt)

pub returns : goal.returns
unfolding op_hold
returns c = (simp (eq-eqb _ _ c.if-a-ne0.false, lt-ltb _ _ c.if-b-ge-GROUPS.false, lt-ltb _ _ c.if-holds-ge-MAX_HOLDS.false), (omega arith, omega arith))
