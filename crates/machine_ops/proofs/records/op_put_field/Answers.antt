-- `machine_ops::records::op_put_field` meets its contract.
use Rattle.machine_ops.proofs.CallRecordOps.{put-null, put-tells}
use native.Mathlib.Omega.{arith}
use mathlib.Core.Path.{◌∙◌}
use Rattle.machine_ops.proofs.records.op_put_field.Goals as goal

pub returns-then-r-eq0 : goal.returns-then-r-eq0
returns-then-r-eq0 c =
    put-null c.args.c c.args.b (omega arith) (omega arith) _ c.operand_word-r.ensures _ _ c.if-r-eq0.true c.op_condition.ensures

pub returns : goal.returns
returns c =
    let z = c.if-r-eq0.false in
    let e = c.operand_word-r.ensures in
    put-tells c.args.c c.args.b (omega arith) (omega arith) _ e _ _ _ _ _ _ z (rw e (c.requires.2 (λ q. z (e ∙ q))))
    c.operand_word-w.ensures c.operand_type-t.ensures c.put_field.ensures c.pop.ensures
    c.pop-2.ensures c.go_to.ensures
