-- The types are written first, and then what stands before them: body-wrote (specs/Records).
use Rattle.compile_front.specs.Writing.{wrote_as, wrote-long}
use Rattle.compile_front.specs.Bodies.{body_of}
use Rattle.compile_front.specs.Types.{types_of}
use Rattle.compile_symbols.specs.Tabled.{classes_in, between}
use Rattle.language_laws.specs.Claims.{entries_of}
use mathlib.Core.Path.{ap}
use mathlib.Core.List.{[]}
use Prim.Native.Nat.{ℕ, ◌+◌, ◌-◌, ◌/◌, ◌%◌}
use native.Mathlib.Omega.{arith}
use Rattle.compile_front.specs.Records.{body-wrote}
use Rattle.compile_front.proofs.put_procedure.Goals as goal

pub put_types-last-requires : goal.put_types-last-requires
put_types-last-requires c = (
  c.requires.0,
  omega arith,
  omega arith,
  c.requires.2,
  omega (arith, c.requires.5),
)

pub overflow_cast-heading : goal.overflow_cast-heading
overflow_cast-heading c =
    omega (arith, c.b_at-heading.ensures, c.requires.3)

pub overflow_sub-last : goal.overflow_sub-last
overflow_sub-last c = omega (arith, c.put_types-last.ensures.ends)

pub overflow_sub-last-2 : goal.overflow_sub-last-2
overflow_sub-last-2 c = omega (arith, c.put_types-last.ensures.ends)

pub overflow_cast-last : goal.overflow_cast-last
overflow_cast-last c =
    omega (arith, c.put_types-last.ensures.ends, c.requires.4)

pub put_body-requires : goal.put_body-requires
put_body-requires c =
    omega (arith, wrote-long c.put_types-last.ensures, c.requires.5)

pub returns : goal.returns
returns c =
    wrote_as (body-wrote c.args.first (c.b_at-heading.result / 256) (c.b_at-heading.result % 256)
    (c.put_types-last.result - c.args.at - 7) c.put_types-last.ensures c.put_body.ensures
    (omega (arith, c.put_types-last.ensures.ends))) (ap (λ (w : ℕ).
    body_of c.args.first (w / 256) (w % 256) (types_of (classes_in c.args.source.now.table.now)
    (between (c.args.place + 1) c.args.end (entries_of c.args.source.now.table.now)) [])) c.b_at-heading.ensures)
