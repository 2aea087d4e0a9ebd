-- `compile_front::put_header` meets its contract.
use mathlib.Core.Path.{◌∙◌, ap}
use native.Mathlib.Omega.{arith}
use lib.ListN.{length, length-set}
use lib.Seq.{length-sets}
use Rattle.compile_front.proofs.put_header.Goals as goal

pub bounds-out-1 : goal.bounds-out-1
bounds-out-1 c = simp length-set (omega arith)

pub bounds-out-2 : goal.bounds-out-2
bounds-out-2 c = simp length-set (omega arith)

pub bounds-out-3 : goal.bounds-out-3
bounds-out-3 c = simp length-set (omega arith)

pub put_half-requires : goal.put_half-requires
put_half-requires c = simp length-set (omega arith)

pub put_half-requires-2 : goal.put_half-requires-2
put_half-requires-2 c = omega (arith, simp (length-sets, length-set) at (ap length c.put_half.ensures))

pub shape_of-out : goal.shape_of-out
shape_of-out c =
    simp (length-sets, length-set) at (ap length c.put_half-2.ensures) ∙ (simp (length-sets, length-set) at (ap length c.put_half.ensures))

pub returns : goal.returns
returns c =
    c.put_half-2.ensures ∙ rw c.put_half.ensures
