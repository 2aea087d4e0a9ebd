-- `machine_run::aside::begin` meets its contract.
use native.Mathlib.Omega.{arith}
use mathlib.Core.Path.{refl}
use Rattle.machine_run.specs.Aside.{loads, pushes, takes}
use Rattle.machine_run.proofs.aside.begin.Goals as goal

pub cell_word-word-requires : goal.cell_word-word-requires
cell_word-word-requires c =
    record { long = c.requires.0; place = c.owner-g.ensures.0; slot = c.requires.3 c.in-5.is }

pub cell_type-ty-requires : goal.cell_type-ty-requires
cell_type-ty-requires c =
    record { long = c.requires.0; place = c.owner-g.ensures.0; slot = c.requires.3 c.in-5.is }

pub overflow_sub-k : goal.overflow_sub-k
overflow_sub-k c = omega (arith, c.requires.4 c.in-7.is)

pub returns-in-5 : goal.returns-in-5
returns-in-5 c =
    loads c.in-5.is
    (record { place = c.owner-g.result; own = c.owner-g.ensures.1; roots = c.owner-g.ensures.2; word = c.cell_word-word.ensures })
    c.cell_type-ty.ensures refl refl refl

pub returns-in-1 : goal.returns-in-1
returns-in-1 c = pushes c.in-1.is refl refl refl refl refl

pub returns-else-a-ge-UNARY : goal.returns-else-a-ge-UNARY
returns-else-a-ge-UNARY c =
    takes c.in-7.is (omega arith)
    (record { word = c.operand_word-word.ensures; type = c.operand_type-ty.ensures; bytes = c.pop.ensures; depth = refl })
    refl
