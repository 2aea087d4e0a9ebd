-- The loop's invariant: the holds passed so far and those still to be passed are all; the name stands for what it does among the items below.
use mathlib.Core.Path.{refl, sym, ◌∙◌}
use native.Mathlib.Omega.{arith}
use Prim.Native.Nat.{◌+◌, ◌-◌, ◌*◌}
use Rattle.compile_emit.specs.EmitEntryLaws.{passed-hit, passed-hold, passed-other, passed_none, meant-hit, meant-miss, meant-none}
use Rattle.compile_emit.proofs.land.Goals as goal

pub loop-i-init : goal.loop-i-init
loop-i-init c = (omega arith, refl, omega arith)

pub returns-then-m-name : goal.returns-then-m-name
returns-then-m-name c =
    let w = c.loop-i in
    let a = c.args in (
      sym (w.invariant.0 ∙ rw (passed-hit a.env.now a.name w.i (omega arith) c.if-m-name.true) (omega arith)),
      c.end_of.ensures.0 ∙ sym (w.invariant.1 ∙ meant-hit a.env.now a.aims.now a.name w.i (omega arith) c.if-m-name.true),
    )

pub loop-i-preserved-then-m-eq65539 : goal.loop-i-preserved-then-m-eq65539
loop-i-preserved-then-m-eq65539 c =
    let w = c.loop-i in
    let a = c.args in (
      w.invariant.0 ∙ omega (arith, passed-hold a.env.now a.name w.i (omega arith) c.if-m-name.false c.if-m-eq65539.true),
      w.invariant.1 ∙ meant-miss a.env.now a.aims.now a.name w.i (omega arith) c.if-m-name.false,
      omega arith,
    )

pub loop-i-preserved : goal.loop-i-preserved
loop-i-preserved c =
    let w = c.loop-i in
    let a = c.args in (
      w.invariant.0 ∙ omega (arith, passed-other a.env.now a.name w.i (omega arith) c.if-m-name.false c.if-m-eq65539.false),
      w.invariant.1 ∙ meant-miss a.env.now a.aims.now a.name w.i (omega arith) c.if-m-name.false,
      omega arith,
    )

pub returns : goal.returns
returns c =
    let w = c.loop-i in
    let a = c.args in (
      sym (w.invariant.0 ∙ omega (arith, passed_none a.env.now a.name w.i (omega arith))),
      sym (w.invariant.1 ∙ meant-none a.env.now a.aims.now a.name w.i (omega arith)),
    )
