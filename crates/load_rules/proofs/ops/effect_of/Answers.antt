-- `load_rules::ops::effect_of` meets its contract.
use borrow.Author.Tests.{ne_eqb}
use Rattle.load_places.specs.Rules.{effect, op_integer, op_bits}
use Rattle.load_rules.proofs.ops.effect_of.Goals as goal

pub returns-in-0 : goal.returns-in-0
unfolding effect op_integer op_bits
returns-in-0 c = rw (c.rebuilt.ensures, c.in-0.is) c.op_end.ensures

pub returns-in-1 : goal.returns-in-1
unfolding effect op_integer op_bits
returns-in-1 c =
    rw (c.rebuilt-in-1.ensures, c.in-1.is) c.op_constant.ensures

pub returns-in-2 : goal.returns-in-2
unfolding effect op_integer op_bits
returns-in-2 c =
    rw (c.rebuilt-in-2.ensures, c.in-2.is) c.op_logical.ensures

pub returns-in-3 : goal.returns-in-3
unfolding effect op_integer op_bits
returns-in-3 c =
    rw (c.rebuilt-in-3.ensures, c.in-3.is) c.op_constant-in-3.ensures

pub returns-in-4 : goal.returns-in-4
unfolding effect op_integer op_bits
returns-in-4 c =
    rw (c.rebuilt-in-4.ensures, c.in-4.is) c.op_null.ensures

pub returns-in-5 : goal.returns-in-5
unfolding effect op_integer op_bits
returns-in-5 c =
    rw (c.rebuilt-in-5.ensures, c.in-5.is) c.op_load.ensures

pub returns-in-6 : goal.returns-in-6
unfolding effect op_integer op_bits
returns-in-6 c =
    rw (c.rebuilt-in-6.ensures, c.in-6.is) c.op_store.ensures

pub returns-in-7 : goal.returns-in-7
unfolding effect op_integer op_bits
returns-in-7 c =
    rw (c.rebuilt-in-7.ensures, c.in-7.is) c.op_operator.ensures

pub returns-in-8 : goal.returns-in-8
unfolding effect op_integer op_bits
returns-in-8 c = rw (c.rebuilt-in-8.ensures, c.in-8.is) c.op_go.ensures

pub returns-in-9 : goal.returns-in-9
unfolding effect op_integer op_bits
returns-in-9 c = rw (c.rebuilt-in-9.ensures, c.in-9.is) c.op_unless.ensures

pub returns-in-10 : goal.returns-in-10
unfolding effect op_integer op_bits
returns-in-10 c =
    rw (c.rebuilt-in-10.ensures, c.in-10.is) c.op_call.ensures

pub returns-in-11 : goal.returns-in-11
unfolding effect op_integer op_bits
returns-in-11 c = rw (c.rebuilt-in-11.ensures, c.in-11.is) c.op_return.ensures

pub returns-in-12 : goal.returns-in-12
unfolding effect op_integer op_bits
returns-in-12 c =
    rw (c.rebuilt-in-12.ensures, c.in-12.is) c.op_make.ensures

pub returns-in-13 : goal.returns-in-13
unfolding effect op_integer op_bits
returns-in-13 c =
    rw (c.rebuilt-in-13.ensures, c.in-13.is) c.op_get_field.ensures

pub returns-in-14 : goal.returns-in-14
unfolding effect op_integer op_bits
returns-in-14 c =
    rw (c.rebuilt-in-14.ensures, c.in-14.is) c.op_put_field.ensures

pub returns-in-15 : goal.returns-in-15
unfolding effect op_integer op_bits
returns-in-15 c = rw (c.rebuilt-in-15.ensures, c.in-15.is) c.op_set.ensures

pub returns-in-16 : goal.returns-in-16
unfolding effect op_integer op_bits
returns-in-16 c =
    rw (c.rebuilt-in-16.ensures, c.in-16.is) c.op_fader.ensures

pub returns-in-17 : goal.returns-in-17
unfolding effect op_integer op_bits
returns-in-17 c = rw (c.rebuilt-in-17.ensures, c.in-17.is) c.op_hold.ensures

pub returns-in-18 : goal.returns-in-18
unfolding effect op_integer op_bits
returns-in-18 c = rw (c.rebuilt-in-18.ensures, c.in-18.is) c.op_release.ensures

pub returns-in-19 : goal.returns-in-19
unfolding effect op_integer op_bits
returns-in-19 c = rw (c.rebuilt-in-19.ensures, c.in-19.is) c.op_assert.ensures

pub returns-in-20 : goal.returns-in-20
unfolding effect op_integer op_bits
returns-in-20 c = rw (c.rebuilt-in-20.ensures, c.in-20.is) c.op_stop.ensures

pub returns-in_default : goal.returns-in_default
unfolding effect
returns-in_default c = (
  let r = c.in_default.in_default-own.rest in simp (
    ne_eqb _ _ r.1,
    ne_eqb _ _ r.0.1,
    ne_eqb _ _ r.0.0.1,
    ne_eqb _ _ r.0.0.0.1,
    ne_eqb _ _ r.0.0.0.0.1,
    ne_eqb _ _ r.0.0.0.0.0.1,
    ne_eqb _ _ r.0.0.0.0.0.0.1,
    ne_eqb _ _ r.0.0.0.0.0.0.0.1,
    ne_eqb _ _ r.0.0.0.0.0.0.0.0.1,
    ne_eqb _ _ r.0.0.0.0.0.0.0.0.0.1,
    ne_eqb _ _ r.0.0.0.0.0.0.0.0.0.0.1,
    ne_eqb _ _ r.0.0.0.0.0.0.0.0.0.0.0.1,
    ne_eqb _ _ r.0.0.0.0.0.0.0.0.0.0.0.0.1,
    ne_eqb _ _ r.0.0.0.0.0.0.0.0.0.0.0.0.0.1,
    ne_eqb _ _ r.0.0.0.0.0.0.0.0.0.0.0.0.0.0.1,
    ne_eqb _ _ r.0.0.0.0.0.0.0.0.0.0.0.0.0.0.0.1,
    ne_eqb _ _ r.0.0.0.0.0.0.0.0.0.0.0.0.0.0.0.0.1,
    ne_eqb _ _ r.0.0.0.0.0.0.0.0.0.0.0.0.0.0.0.0.0.1,
    ne_eqb _ _ r.0.0.0.0.0.0.0.0.0.0.0.0.0.0.0.0.0.0.1,
    ne_eqb _ _ r.0.0.0.0.0.0.0.0.0.0.0.0.0.0.0.0.0.0.0.1,
    ne_eqb _ _ r.0.0.0.0.0.0.0.0.0.0.0.0.0.0.0.0.0.0.0.0.1,
  ),
  tt,
)
