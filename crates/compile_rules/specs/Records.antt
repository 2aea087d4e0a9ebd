-- An instruction written as a record reads back.
use Rattle.std.specs.Prelude.{true, false, ◌≡◌, refl, leb}
use Rattle.std.proofs.Common.{ap}
use Rattle.std.proofs.Math.Option.{none, some}
use Rattle.words.specs.Numbers.{integer_of, word_of}
use Rattle.values.specs.Operators.{unary, binary, negate, absolute, complement, plus, minus, times, divide, remainder, less, at_most, greater, at_least, equal, unequal}
use Rattle.values.specs.Operators.{both, either, shift_left, shift_right, unary_of, binary_of}
use Rattle.values.specs.Values.{int, log, bit, ref}
use Rattle.bytecode.specs.Instructions.{own, root, Instr, end, push, load, store, operate, go, go_unless, call, return, make, get_field, put_field, set_level, read_fader}
use Rattle.bytecode.specs.Instructions.{take_hold, let_hold, assert, stop, stops_by, instruction}
use Rattle.compile_code.specs.Encode.{record_of}

-- what a record can hold: 32 bits, a null, a group, a condition of op 20
abbrev pub Writable : Instr → Type 0
Writable end = Unit {0}
Writable (push (int z)) = integer_of (word_of z) ≡ z
Writable (push (log b)) = Unit {0}
Writable (push (bit n)) = Unit {0}
Writable (push (ref c none)) = Unit {0}
Writable (push (ref c (some n))) = ⊥
Writable (load o x) = Unit {0}
Writable (store o x) = Unit {0}
Writable (operate o) = Unit {0}
Writable (go t) = Unit {0}
Writable (go_unless t) = Unit {0}
Writable (call b) = Unit {0}
Writable return = Unit {0}
Writable (make c) = Unit {0}
Writable (get_field c x) = Unit {0}
Writable (put_field c x) = Unit {0}
Writable set_level = Unit {0}
Writable read_fader = Unit {0}
Writable (take_hold g) = leb g 63 ≡ true
Writable let_hold = Unit {0}
Writable assert = Unit {0}
Writable (stop c) = stops_by c ≡ true

pub reads-back : (i : Instr) → Writable i → instruction (record_of i) ≡ some i
unfolding instruction record_of unary_of binary_of
reads-back end w = refl
reads-back (push (int z)) w = ap (λ x. some (push (int x))) w
reads-back (push (log true)) w = refl
reads-back (push (log false)) w = refl
reads-back (push (bit n)) w = refl
reads-back (push (ref c none)) w = refl
reads-back (push (ref c (some n))) w = absurd w
reads-back (load own x) w = refl
reads-back (load root x) w = refl
reads-back (store own x) w = refl
reads-back (store root x) w = refl
reads-back (operate (unary negate)) w = refl
reads-back (operate (unary absolute)) w = refl
reads-back (operate (unary complement)) w = refl
reads-back (operate (binary plus)) w = refl
reads-back (operate (binary minus)) w = refl
reads-back (operate (binary times)) w = refl
reads-back (operate (binary divide)) w = refl
reads-back (operate (binary remainder)) w = refl
reads-back (operate (binary less)) w = refl
reads-back (operate (binary at_most)) w = refl
reads-back (operate (binary greater)) w = refl
reads-back (operate (binary at_least)) w = refl
reads-back (operate (binary equal)) w = refl
reads-back (operate (binary unequal)) w = refl
reads-back (operate (binary both)) w = refl
reads-back (operate (binary either)) w = refl
reads-back (operate (binary shift_left)) w = refl
reads-back (operate (binary shift_right)) w = refl
reads-back (go t) w = refl
reads-back (go_unless t) w = refl
reads-back (call b) w = refl
reads-back return w = refl
reads-back (make c) w = refl
reads-back (get_field c x) w = refl
reads-back (put_field c x) w = refl
reads-back set_level w = refl
reads-back read_fader w = refl
reads-back (take_hold g) w = rw w refl
reads-back let_hold w = refl
reads-back assert w = refl
reads-back (stop c) w = rw w refl
