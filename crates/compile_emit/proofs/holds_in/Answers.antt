-- `compile_emit::holds_in` meets its contract.
use mathlib.Core.Path.{◌≡◌, ap, ◌∙◌}
use native.Mathlib.Omega.{arith}
use Prim.Native.Nat.{ℕ}
use Rattle.compile_emit.specs.EmitEntryLaws.{holds-one, holds-step, holds-none}
use Rattle.compile_emit.specs.EmitEntry.{holds_by}
use native.Mathlib.Nat.{sub-zero}
use Prim.Native.Nat.{◌-◌, ◌*◌}
use lib.ListN.{drop}
use Rattle.words.specs.Numbers.{half_at}
use Rattle.compile_emit.proofs.holds_in.Goals as goal

pub loop-i-init : goal.loop-i-init
loop-i-init c = let a = c.args in (rw (sub-zero a.count) (omega arith), omega arith)

pub loop-i-preserved : goal.loop-i-preserved
loop-i-preserved c =
    let a = c.args in let w = c.loop-i in
    let h : c.holds_by-n.result ≡ holds_by (half_at a.part.now (8 * w.i)) = c.holds_by-n.ensures
    ∙ ap (λ (k : ℕ). holds_by k) c.kind_at.ensures in (
      omega (arith, w.invariant.0, holds-step a.part.now a.count w.i (omega arith), h),
      omega (arith, w.invariant.1, c.holds_by-n.ensures, holds-one c.kind_at.result),
    )

pub returns : goal.returns
returns c = let a = c.args in let w = c.loop-i in omega (arith, w.invariant.0, holds-none (drop (8 * w.i) a.part.now) (a.count - w.i) (omega arith))
