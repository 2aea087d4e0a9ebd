-- `compile_output::copy` meets its contract: after i turns the output is `paste out at from i`.
use native.Mathlib.Omega.{arith}
use mathlib.Core.Path.{◌≡◌, ap, ◌∙◌}
use mathlib.Core.List.{List}
use Prim.Native.Nat.{ℕ, ◌+◌}
use lib.ListN.{length, set, get_or}
use lib.Seq.{paste, paste-zero, length-paste}
use Rattle.compile_output.specs.EmitRecord.{pasted, paste-turn}
use Rattle.compile_output.proofs.copy.Goals as goal

pub loop-i-init : goal.loop-i-init
loop-i-init c = paste-zero c.args.out.now c.args.at c.args.from.now

pub bounds-out-at : goal.bounds-out-at
bounds-out-at c =
    let a = c.args in
    let turn = c.loop-i in
    let e : length turn.out ≡ length a.out.now =
    ap (length {A = ℕ}) turn.invariant ∙ length-paste a.out.now a.at a.from.now turn.i (omega arith) (omega arith) in
    omega (arith, e)

pub loop-i-preserved : goal.loop-i-preserved
loop-i-preserved c =
    let a = c.args in
    let i = c.loop-i.i in
    let e = ap (λ (x : List ℕ). set x (a.at + i) (get_or a.from.now i 0)) c.loop-i.invariant in
    e ∙ paste-turn a.out.now a.from.now a.at i (omega arith) (omega arith)

pub returns : goal.returns
returns c =
    let a = c.args in
    let e : c.loop-i.i ≡ a.count = omega arith in
    c.loop-i.invariant ∙ (ap (λ (k : ℕ). paste a.out.now a.at a.from.now k) e ∙ pasted a.out.now a.from.now a.at a.count (omega arith) (omega arith))
