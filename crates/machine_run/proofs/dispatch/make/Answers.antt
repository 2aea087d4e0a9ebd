-- `machine_run::dispatch::make` meets its contract.
use Rattle.machine_run.proofs.OpAsks.{asks-make}
use mathlib.Core.Path.{refl}
use Rattle.machine_run.proofs.dispatch.make.Goals as goal

pub class_at-q-requires : goal.class_at-q-requires
class_at-q-requires c =
    (c.requires.1, rw c.wide.ensures.0 (asks-make c.requires.2 refl).0)

pub op_make-requires : goal.op_make-requires
op_make-requires c =
    let A = asks-make c.requires.2 refl in let C = rw c.wide.ensures.0 at c.class_at-q.ensures in (c.requires.0, C.is, A.0, A.1, A.2 _ C)

pub returns : goal.returns
returns c = c.op_make.ensures
