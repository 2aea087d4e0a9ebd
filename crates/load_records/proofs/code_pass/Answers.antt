-- `load_records::code_pass` meets its contract. Going down, `bad` is the first of the whole instructions passed that has no mark, or their number.
use native.Mathlib.Omega.{arith}
use mathlib.Core.Path.{◌∙◌}
use Prim.Native.Nat.{◌-◌}
use Rattle.load_places.specs.Records.{bad_code}
use Rattle.load_records.proofs.Search.{seek-start, seek-down, seek-whole, first-le}
use Rattle.load_records.proofs.Passing as law
use Rattle.load_records.proofs.code_pass.Goals as goal

pub loop-i-init : goal.loop-i-init
loop-i-init c = seek-start _ _

pub loop-i-preserved : goal.loop-i-preserved
loop-i-preserved c =
    let m = law.code-mark _ _ c.requires.0 (c.loop-i.i - 1) _ (c.whole_code-whole.ensures.2 (c.loop-i.i - 1) (omega arith)) c.unmarked.ensures in
    c.pick-bad.ensures ∙ rw m (seek-down _ _ _ _ (omega arith) (omega arith) c.loop-i.invariant)

pub returns-then-bad-instructions : goal.returns-then-bad-instructions
returns-then-bad-instructions c = (
  c.if-bad-instructions.true,
  law.code-passed _ _ c.requires.0 _ _ _ c.whole_code-whole.ensures.0 c.whole_code-whole.ensures.1
      (seek-whole _ _ _ _ (omega arith) c.loop-i.invariant),
)

pub returns-else-bad-instructions : goal.returns-else-bad-instructions
returns-else-bad-instructions c =
    let e = law.code-passed c.args.code.now _ c.requires.0 c.args.instructions _ _ c.whole_code-whole.ensures.0 c.whole_code-whole.ensures.1
    (seek-whole _ _ _ _ (omega arith) c.loop-i.invariant) in
    omega (arith, first-le (bad_code c.args.code.now) c.args.instructions, e)
