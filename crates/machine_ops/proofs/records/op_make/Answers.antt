-- `machine_ops::records::op_make` meets its contract.
use Rattle.machine_ops.proofs.CallRecordOps.{make-full, make-tells}
use native.Mathlib.Omega.{arith}
use Rattle.machine_ops.proofs.records.op_make.Goals as goal

pub returns-then-r-ge-FULL : goal.returns-then-r-ge-FULL
returns-then-r-ge-FULL c =
    make-full c.args.code.now c.args.place c.args.c c.requires.1 c.requires.2 _ _
    c.requires.4.arguments (rw c.half_at-r.ensures at c.if-r-ge-FULL.true) c.op_condition.ensures

pub returns : goal.returns
returns c =
    make-tells c.args.code.now c.args.place c.args.c c.requires.1 c.requires.2 _ _ _ _ _ _ _
    c.requires.4 (omega arith) c.half_at-r.ensures (omega arith) c.wide-k.ensures.0
    c.make_record.ensures c.move_operands.ensures c.drop_operands.ensures
    c.push.ensures c.go_to.ensures
