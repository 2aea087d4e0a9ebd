-- `machine_frames::phases::clear` meets its contract.
use Rattle.machine_frames.proofs.Clearing.{none-cleared, one-cleared}
use Prim.Native.Nat.{ℕ, ◌+◌}
use mathlib.Core.List.{List}
use lib.ListN.{set, length-set}
use mathlib.Core.Path.{refl, ◌∙◌, ap}
use Rattle.machine_frames.proofs.phases.clear.Goals as goal

pub loop-k-init : goal.loop-k-init
loop-k-init c = (refl, none-cleared _ _)

pub loop-k-preserved : goal.loop-k-preserved
loop-k-preserved c = (
  simp length-set c.loop-k.invariant.0,
  ap (λ (l : List ℕ). set l (c.args.place + c.loop-k.k) 0)
      c.loop-k.invariant.1 ∙ one-cleared _ _ _,
)
