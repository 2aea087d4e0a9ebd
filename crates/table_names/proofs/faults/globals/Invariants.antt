use Rattle.table_forms.specs.Tables.{GlobalsSoFar}
use Rattle.table_names.proofs.faults.globals.Given as goal

abbrev pub invariant-loop-left : goal.invariant-loop-left
invariant-loop-left l = GlobalsSoFar l.table l.count l.sizes l.initial.env l.top l.env l.place l.left
