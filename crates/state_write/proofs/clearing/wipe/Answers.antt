-- `state_write::clearing::wipe` meets its contract.
use native.Mathlib.Omega.{arith}
use mathlib.Core.Path.{◌≡◌, sym, ap, ◌∙◌}
use Prim.Native.Nat.{ℕ, ◌+◌, ◌-◌}
use mathlib.Core.List.{List}
use lib.ListN.{set, length-set}
use lib.Seq.{sets}
use Rattle.bytecode.specs.State.{zeros}
use Rattle.state_write.proofs.ClearingLaws as law
use Rattle.state_write.proofs.clearing.wipe.Goals as goal

pub loop-i-init : goal.loop-i-init
loop-i-init c = (omega arith, c.requires.0, law.wiped-none _ _)

pub loop-i-preserved : goal.loop-i-preserved
loop-i-preserved c = (
  omega arith,
  length-set {A = ℕ} c.loop-i.state c.loop-i.i 0 ∙ c.loop-i.invariant.1,
  ap (λ (x : List ℕ). set x c.loop-i.i 0) c.loop-i.invariant.2 ∙ law.wiped-more _ _ _ (omega arith),
)

pub shape_of-state : goal.shape_of-state
shape_of-state c = c.loop-i.invariant.1 ∙ sym c.requires.0

pub returns : goal.returns
returns c =
    c.loop-i.invariant.2 ∙ ap (λ (n : ℕ). sets c.args.state.now
    (c.args.place + c.args.from) (zeros n))
    (let z : c.loop-i.i - (c.args.place + c.args.from)
    ≡ c.args.to - c.args.from = omega arith in z)
