-- `machine_ops::operators::binary` meets its contract. What each operator does to words is in `OperatorSays`.
use Rattle.machine_ops.proofs.OperatorSays.{Operands, held, works-plus, works-minus, works-times, works-divide, works-remainder, works-less, works-at-most, works-greater}
use Rattle.machine_ops.proofs.OperatorSays.{works-at-least, works-equal, works-unequal, works-both, works-either, works-left, works-right}
use mir.Syntax.{w32}
use mir.Val.{to_z, of_z, Fits}
use mathlib.Core.Path.{◌≡◌}
use Prim.Native.Nat.{ℕ}
use lib.IntN.{ℤ}
use Rattle.words.specs.Numbers.{integer_of}
use Rattle.machine_ops.proofs.operators.binary.Goals as goal

operands : {n t x y : ℕ} {a b : ℤ} → a ≡ integer_of x → b ≡ integer_of y → Fits w32 x → Fits w32 y
    → Operands n t x y (to_z w32 (of_z w32 a)) (to_z w32 (of_z w32 b))
operands d e f g = record { left = held _ _ d f; right = held _ _ e g }

pub returns-in_default : goal.returns-in_default
returns-in_default c =
    let r = c.in_default.in_default-own.rest in
    let s = r.0.0.0.0.0.0.0 in
    works-right (operands c.integer_of-a.ensures c.integer_of-b.ensures c.ranges.x c.ranges.y) _ s.0.0.0.0.0.0.1 s.0.0.0.0.0.1 s.0.0.0.0.1 s.0.0.0.1 s.0.0.1
    s.0.1 s.1 r.0.0.0.0.0.0.1 r.0.0.0.0.0.1 r.0.0.0.0.1 r.0.0.0.1 r.0.0.1 r.0.1 r.1 (rw c.shift_right.ensures)

pub returns-in-1 : goal.returns-in-1
returns-in-1 c = works-plus (operands c.integer_of-a.ensures c.integer_of-b.ensures c.ranges.x c.ranges.y) _ c.in-1.is _ c.add.ensures c.number.ensures

pub returns-in-2 : goal.returns-in-2
returns-in-2 c = works-minus (operands c.integer_of-a.ensures c.integer_of-b.ensures c.ranges.x c.ranges.y) _ c.in-2.is _ c.subtract.ensures c.number-in-2.ensures

pub returns-in-3 : goal.returns-in-3
returns-in-3 c = works-times (operands c.integer_of-a.ensures c.integer_of-b.ensures c.ranges.x c.ranges.y) _ c.in-3.is _ c.multiply.ensures c.number-in-3.ensures

pub returns-in-4 : goal.returns-in-4
returns-in-4 c = works-divide (operands c.integer_of-a.ensures c.integer_of-b.ensures c.ranges.x c.ranges.y) _ c.in-4.is _ c.divide.ensures c.number-in-4.ensures

pub returns-in-5 : goal.returns-in-5
returns-in-5 c = works-remainder (operands c.integer_of-a.ensures c.integer_of-b.ensures c.ranges.x c.ranges.y) _ c.in-5.is _ c.remainder.ensures c.number-in-5.ensures

pub returns-in-6 : goal.returns-in-6
returns-in-6 c = works-less (operands c.integer_of-a.ensures c.integer_of-b.ensures c.ranges.x c.ranges.y) _ c.in-6.is (rw (c.truth.ensures, c.less.ensures))

pub returns-in-7 : goal.returns-in-7
returns-in-7 c = works-at-most (operands c.integer_of-a.ensures c.integer_of-b.ensures c.ranges.x c.ranges.y) _ c.in-7.is (rw (c.truth-in-7.ensures, c.at_most.ensures))

pub returns-in-8 : goal.returns-in-8
returns-in-8 c = works-greater (operands c.integer_of-a.ensures c.integer_of-b.ensures c.ranges.x c.ranges.y) _ c.in-8.is (rw (c.truth-in-8.ensures, c.greater.ensures))

pub returns-in-9 : goal.returns-in-9
returns-in-9 c = works-at-least (operands c.integer_of-a.ensures c.integer_of-b.ensures c.ranges.x c.ranges.y) _ c.in-9.is (rw (c.truth-in-9.ensures, c.at_least.ensures))

pub returns-in-10 : goal.returns-in-10
returns-in-10 c = works-equal (operands c.integer_of-a.ensures c.integer_of-b.ensures c.ranges.x c.ranges.y) _ c.in-10.is (rw (c.truth-in-10.ensures, c.same.ensures))

pub returns-in-11 : goal.returns-in-11
returns-in-11 c = works-unequal (operands c.integer_of-a.ensures c.integer_of-b.ensures c.ranges.x c.ranges.y) _ c.in-11.is (rw (c.truth-in-11.ensures, c.same-in-11.ensures))

pub returns-in-12 : goal.returns-in-12
returns-in-12 c = works-both (operands c.integer_of-a.ensures c.integer_of-b.ensures c.ranges.x c.ranges.y) _ c.in-12.is (rw c.and_bits.ensures)

pub returns-in-13 : goal.returns-in-13
returns-in-13 c = works-either (operands c.integer_of-a.ensures c.integer_of-b.ensures c.ranges.x c.ranges.y) _ c.in-13.is (rw c.or_bits.ensures)

pub returns-in-14 : goal.returns-in-14
returns-in-14 c = works-left (operands c.integer_of-a.ensures c.integer_of-b.ensures c.ranges.x c.ranges.y) _ c.in-14.is (rw c.shift_left.ensures)
