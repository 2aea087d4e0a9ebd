-- `table_names::faults::body` meets its contract.
use Rattle.table_forms.specs.Root.{body-statement, body-expression, body-proper, body-function}
use Rattle.table_names.proofs.faults.body.Goals as goal

pub statement-requires : goal.statement-requires
statement-requires c =
    body-statement c.requires c.if-res-eq0.true

pub expression-requires : goal.expression-requires
expression-requires c =
    body-expression c.requires c.if-res-eq0.false

pub returns-then-res-eq0 : goal.returns-then-res-eq0
returns-then-res-eq0 c =
    body-proper c.statement.ensures c.if-res-eq0.true

pub returns-else-res-eq0 : goal.returns-else-res-eq0
returns-else-res-eq0 c =
    body-function c.expression.ensures c.if-res-eq0.false
