-- `compile_output::releases` meets its contract. The invariant: what is left to release, from the cursor and the output as they are, comes to what all comes to.
-- Assumes nothing.
use native.Mathlib.Omega.{arith}
use mathlib.Core.Path.{◌≡◌, sym, ap, ◌∙◌}
use Prim.Native.Nat.{ℕ, ◌+◌, ◌-◌}
use lib.ListN.{length}
use Rattle.compile_output.specs.EmitRecord.{length-emit}
use Rattle.compile_output.specs.EmitCode.{lets-cursor, lets-emitted, lets-none, lets-fits}
use Rattle.compile_output.proofs.releases.Goals as goal

pub emit-p-requires : goal.emit-p-requires
emit-p-requires c = lets-fits (c.args.count - c.loop-i.i) c.loop-i.p (length c.loop-i.out) (omega arith) c.loop-i.invariant.2

pub loop-i-preserved : goal.loop-i-preserved
loop-i-preserved c =
    let turn = c.loop-i in
    let wrote = c.emit-p in
    let n = c.args.count - turn.i in
    let p = turn.p in
    let l = turn.out in
    let fewer : c.args.count - (turn.i + 1) ≡ n - 1 = omega arith in
    let s : length wrote.new.out ≡ length l = ap (length {A = ℕ}) wrote.ensures.1 ∙ length-emit p l 18 0 0 in (
      rw (fewer, wrote.ensures.0) (turn.invariant.0 ∙ lets-cursor n p (omega arith)),
      rw (fewer, wrote.ensures.0, wrote.ensures.1) (turn.invariant.1 ∙ lets-emitted n p l (omega arith)),
      rw (fewer, wrote.ensures.0, s, ← lets-cursor n p (omega arith)) turn.invariant.2,
      s ∙ turn.invariant.3,
    )

pub returns : goal.returns
returns c =
    let last = c.loop-i in
    let none_left = lets-none (c.args.count - last.i) last.p last.out (omega arith) in
    (sym (last.invariant.0 ∙ none_left.0), sym (last.invariant.1 ∙ none_left.1))
