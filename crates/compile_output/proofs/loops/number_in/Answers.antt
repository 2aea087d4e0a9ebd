-- `compile_output::loops::number_in` meets its contract.
use Rattle.compile_output.specs.Rows.{ahead-sum}
use Rattle.compile_output.proofs.loops.number_in.Goals as goal

pub returns-in-Cell : goal.returns-in-Cell
returns-in-Cell c = rw c.in-Cell.is (ahead-sum _ _)

pub returns-in-Here : goal.returns-in-Here
returns-in-Here c = rw c.in-Here.is (ahead-sum _ _)
