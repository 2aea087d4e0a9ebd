-- The types are written first, and then what stands before them: body-wrote (specs/Records).
use Rattle.compile_front.specs.Records.{after-within, root-length, root-wrote}
use Rattle.compile_front.specs.Writing.{wrote-long}
use Prim.Native.Nat.{◌-◌}
use native.Mathlib.Omega.{arith}
use Rattle.compile_front.specs.Records.{body-wrote}
use Rattle.compile_front.proofs.put_root.Goals as goal

pub put_variables-types-requires : goal.put_variables-types-requires
put_variables-types-requires c =
    (c.requires.0, c.requires.1, omega (arith, c.requires.4, root-length c.requires.0 c.args.after c.requires.2))

pub put_types-end-requires : goal.put_types-end-requires
put_types-end-requires c = (
  c.requires.1,
  omega (arith, c.requires.2),
  after-within c.requires.0
      c.args.after
      c.requires.2,
  omega arith,
  omega (
    arith,
    c.requires.4,
    root-length c.requires.0
        c.args.after
        c.requires.2,
    c.put_variables-types.ensures.ends,
    wrote-long c.put_variables-types.ensures,
  ),
)

pub overflow_sub-end : goal.overflow_sub-end
overflow_sub-end c =
    omega (arith, c.put_variables-types.ensures.ends, c.put_types-end.ensures.ends)

pub overflow_sub-end-2 : goal.overflow_sub-end-2
overflow_sub-end-2 c =
    omega (arith, c.put_variables-types.ensures.ends, c.put_types-end.ensures.ends)

pub overflow_cast-end : goal.overflow_cast-end
overflow_cast-end c =
    omega (
      arith,
      root-length c.requires.0 c.args.after c.requires.2,
      c.put_variables-types.ensures.ends,
      c.put_types-end.ensures.ends,
      c.requires.3,
    )

pub put_body-requires : goal.put_body-requires
put_body-requires c =
    omega (arith, c.requires.4, wrote-long c.put_variables-types.ensures, wrote-long c.put_types-end.ensures)

pub returns : goal.returns
returns c =
    body-wrote 0 0 0 (c.put_types-end.result - c.args.at - 7)
    (root-wrote c.requires.0 c.args.after c.requires.2 c.put_variables-types.ensures
    c.put_types-end.ensures) c.put_body.ensures
    (omega (
      arith,
      root-length c.requires.0 c.args.after c.requires.2,
      c.put_variables-types.ensures.ends,
      c.put_types-end.ensures.ends,
    ))
