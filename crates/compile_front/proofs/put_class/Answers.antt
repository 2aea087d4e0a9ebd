-- `compile_front::put_class` meets its contract.
use mathlib.Core.Path.{◌∙◌}
use native.Mathlib.Omega.{arith}
use lib.ListN.{length-set}
use Rattle.compile_front.specs.Records.{class-wrote}
use Rattle.compile_front.specs.Writing.{wrote-long}
use Rattle.compile_front.proofs.put_class.Goals as goal

pub bounds-out-at-2 : goal.bounds-out-at-2
bounds-out-at-2 c = simp length-set (omega arith)

pub bounds-out-at-3 : goal.bounds-out-at-3
bounds-out-at-3 c = simp length-set (omega arith)

pub put_types-requires : goal.put_types-requires
put_types-requires c = (
  c.requires.0,
  omega arith,
  omega arith,
  c.requires.2,
  simp length-set (omega (arith, c.requires.4)),
)

pub shape_of-out : goal.shape_of-out
shape_of-out c = wrote-long c.put_types.ensures ∙ simp length-set

pub returns : goal.returns
returns c = class-wrote c.put_types.ensures
