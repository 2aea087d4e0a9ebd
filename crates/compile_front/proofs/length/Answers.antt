-- The sum is the front's length, whatever tree it is: measured (specs/Lengths).
use native.Mathlib.Omega.{arith}
use Rattle.compile_front.specs.Lengths.{measured, few-measured}
use Rattle.compile_front.proofs.length.Goals as goal

pub overflow_mul-result : goal.overflow_mul-result
overflow_mul-result c = let m = few-measured c.requires.1 in omega (arith, m.0, m.1)

pub overflow_add-result : goal.overflow_add-result
overflow_add-result c = let m = few-measured c.requires.1 in omega (arith, m.0, m.1)

pub overflow_mul-result-2 : goal.overflow_mul-result-2
overflow_mul-result-2 c = let m = few-measured c.requires.1 in omega (arith, m.0, m.1)

pub overflow_add-result-2 : goal.overflow_add-result-2
overflow_add-result-2 c = let m = few-measured c.requires.1 in omega (arith, m.0, m.1)

pub overflow_add-result-3 : goal.overflow_add-result-3
overflow_add-result-3 c = let m = few-measured c.requires.1 in omega (arith, m.0, m.1, m.2, c.typed_in.ensures)

pub returns : goal.returns
returns c = λ t m. omega (arith, c.typed_in.ensures, measured m)
