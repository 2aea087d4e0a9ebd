-- `state_write::clearing::clear_activations` meets its contract. The loop over parts in a row is `Left` in `ClearingLaws`.
use native.Mathlib.Omega.{arith}
use mathlib.Core.Path.{◌≡◌, ◌∙◌}
use Prim.Native.Nat.{◌+◌, ◌-◌}
use Rattle.state_write.proofs.ClearingLaws as law
use Rattle.state_write.proofs.clearing.clear_activations.Goals as goal

pub clear_activation-requires : goal.clear_activation-requires
clear_activation-requires c =
    let I = c.loop-i.invariant in
    let pre = c.requires in
    (pre.0, I.long ∙ pre.1, omega (arith, law.first-inside I (omega arith)), law.first_below I (omega arith))

pub loop-i-init : goal.loop-i-init
loop-i-init c =
    let z : c.args.count - 0 ≡ c.args.count = omega arith in
    rw z (law.all_left c.requires.3)

pub overflow_add-place : goal.overflow_add-place
overflow_add-place c = omega (arith, law.first-inside c.loop-i.invariant (omega arith))

pub loop-i-preserved : goal.loop-i-preserved
loop-i-preserved c =
    let z : c.args.count - c.loop-i.i - 1 ≡ c.args.count - (c.loop-i.i + 1) = omega arith in
    rw z at (law.one_less c.loop-i.invariant (omega arith) _ c.clear_activation.ensures)

pub shape_of-state : goal.shape_of-state
shape_of-state c = c.loop-i.invariant.long

pub returns : goal.returns
returns c = law.none_left c.loop-i.invariant (omega arith)
