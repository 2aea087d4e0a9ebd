-- `compile_front::put_body` meets its contract.
use mathlib.Core.Path.{ap}
use native.Mathlib.Omega.{arith}
use lib.ListN.{length, length-set}
use lib.Seq.{length-sets}
use native.Mathlib.Numerals.{towards_suc}
use Rattle.compile_front.proofs.put_body.Goals as goal

pub bounds-out-at-2 : goal.bounds-out-at-2
bounds-out-at-2 c = simp length-set (omega arith)

pub put_half-requires : goal.put_half-requires
put_half-requires c = simp length-set (omega arith)

pub bounds-out-at-3 : goal.bounds-out-at-3
bounds-out-at-3 c = omega (arith, simp (length-sets, length-set) at (ap length c.put_half.ensures))

pub bounds-out-at-4 : goal.bounds-out-at-4
bounds-out-at-4 c = simp length-set (omega (arith, simp (length-sets, length-set) at (ap length c.put_half.ensures)))

pub bounds-out-at-5 : goal.bounds-out-at-5
bounds-out-at-5 c = simp length-set (omega (arith, simp (length-sets, length-set) at (ap length c.put_half.ensures)))

pub shape_of-out : goal.shape_of-out
shape_of-out c = simp length-set (simp (length-sets, length-set) at (ap length c.put_half.ensures))

pub returns : goal.returns
returns c = rw c.put_half.ensures (simp towards_suc)
