-- `write`: what the dry walk counts is the length of the macro, and the ends that it leaves are what the other one aims at (crates/compile_whole/specs/Compiling).
use native.Mathlib.Omega.{arith}
use mathlib.Core.Path.{refl, ◌∙◌}
use lib.ListN.{length-set}
use Rattle.compile_symbols.specs.Tabled.{the_tree}
use Rattle.compile_whole.specs.Compiling.{whole-small, write-dry, write-front, dry-length, write-refused, write-put, write-real, real-long, write_done}
use Rattle.compile.proofs.write.Goals as goal

pub walk-dry-requires : goal.walk-dry-requires
walk-dry-requires c =
    (write-dry c.requires.0 c.args.out.now c.cursor.ensures, c.requires.1)

pub length-front-requires : goal.length-front-requires
length-front-requires c =
    ((the_tree c.args.table.now), write-front c.requires.0)

pub overflow_mul-shapes : goal.overflow_mul-shapes
overflow_mul-shapes c =
    omega (
      arith,
      dry-length c.requires.0 c.cursor.ensures c.walk-dry.ensures
          (c.length-front.ensures (the_tree c.args.table.now) (write-front c.requires.0)),
      whole-small c.requires.0,
    )

pub overflow_add-shapes : goal.overflow_add-shapes
overflow_add-shapes c =
    omega (
      arith,
      dry-length c.requires.0 c.cursor.ensures c.walk-dry.ensures
          (c.length-front.ensures (the_tree c.args.table.now) (write-front c.requires.0)),
      whole-small c.requires.0,
    )

pub overflow_add-length : goal.overflow_add-length
overflow_add-length c =
    omega (
      arith,
      dry-length c.requires.0 c.cursor.ensures c.walk-dry.ensures
          (c.length-front.ensures (the_tree c.args.table.now) (write-front c.requires.0)),
      whole-small c.requires.0,
    )

pub overflow_add-length-2 : goal.overflow_add-length-2
overflow_add-length-2 c =
    omega (
      arith,
      dry-length c.requires.0 c.cursor.ensures c.walk-dry.ensures
          (c.length-front.ensures (the_tree c.args.table.now) (write-front c.requires.0)),
      whole-small c.requires.0,
    )

pub returns-then-out-length : goal.returns-then-out-length
returns-then-out-length c =
    write-refused c.requires.0 c.cursor.ensures c.walk-dry.ensures
    (dry-length c.requires.0 c.cursor.ensures c.walk-dry.ensures
    (c.length-front.ensures (the_tree c.args.table.now) (write-front c.requires.0))) c.if-out-length.true

pub put-requires : goal.put-requires
put-requires c = (
  (the_tree c.args.table.now),
  (write-put c.requires.0 c.cursor.ensures c.walk-dry.ensures _
      (omega (
        arith,
        dry-length c.requires.0 c.cursor.ensures c.walk-dry.ensures
            (c.length-front.ensures (the_tree c.args.table.now) (write-front c.requires.0)),
        c.if-out-length.false,
      ))),
)

pub walk-requires : goal.walk-requires
walk-requires c = (
  write-real c.requires.0 c.cursor.ensures c.walk-dry.ensures
      (c.length-front.ensures (the_tree c.args.table.now) (write-front c.requires.0))
      (omega (
        arith,
        dry-length c.requires.0 c.cursor.ensures c.walk-dry.ensures
            (c.length-front.ensures (the_tree c.args.table.now) (write-front c.requires.0)),
        c.if-out-length.false,
      ))
      (c.put.ensures (the_tree c.args.table.now) (write-put c.requires.0 c.cursor.ensures c.walk-dry.ensures _
      (omega (
        arith,
        dry-length c.requires.0 c.cursor.ensures c.walk-dry.ensures
            (c.length-front.ensures (the_tree c.args.table.now) (write-front c.requires.0)),
        c.if-out-length.false,
      ))))
      c.cursor-2.ensures,
  omega (arith, c.requires.1, c.walk-dry.ensures.kept.same-stack),
)

pub bounds-out-length : goal.bounds-out-length
bounds-out-length c =
    omega (
      arith,
      c.if-out-length.false,
      real-long c.requires.0 c.cursor.ensures c.walk-dry.ensures
          (c.length-front.ensures (the_tree c.args.table.now) (write-front c.requires.0))
          (omega (
            arith,
            dry-length c.requires.0 c.cursor.ensures c.walk-dry.ensures
                (c.length-front.ensures (the_tree c.args.table.now) (write-front c.requires.0)),
            c.if-out-length.false,
          ))
          (c.put.ensures (the_tree c.args.table.now) (write-put c.requires.0 c.cursor.ensures c.walk-dry.ensures _
          (omega (
            arith,
            dry-length c.requires.0 c.cursor.ensures c.walk-dry.ensures
                (c.length-front.ensures (the_tree c.args.table.now) (write-front c.requires.0)),
            c.if-out-length.false,
          ))))
          c.cursor-2.ensures c.walk.ensures,
    )

pub bounds-out-length-2 : goal.bounds-out-length-2
bounds-out-length-2 c =
    simp length-set (omega (
      arith,
      c.if-out-length.false,
      real-long c.requires.0 c.cursor.ensures c.walk-dry.ensures
          (c.length-front.ensures (the_tree c.args.table.now) (write-front c.requires.0))
          (omega (
            arith,
            dry-length c.requires.0 c.cursor.ensures c.walk-dry.ensures
                (c.length-front.ensures (the_tree c.args.table.now) (write-front c.requires.0)),
            c.if-out-length.false,
          ))
          (c.put.ensures (the_tree c.args.table.now) (write-put c.requires.0 c.cursor.ensures c.walk-dry.ensures _
          (omega (
            arith,
            dry-length c.requires.0 c.cursor.ensures c.walk-dry.ensures
                (c.length-front.ensures (the_tree c.args.table.now) (write-front c.requires.0)),
            c.if-out-length.false,
          ))))
          c.cursor-2.ensures c.walk.ensures,
    ))

pub shape_of-env : goal.shape_of-env
shape_of-env c =
    c.walk.ensures.kept.same-env ∙ c.walk-dry.ensures.kept.same-env

pub shape_of-aims : goal.shape_of-aims
shape_of-aims c =
    c.walk-dry.ensures.kept.same_ends

pub shape_of-stack : goal.shape_of-stack
shape_of-stack c =
    c.walk.ensures.kept.same-stack ∙ c.walk-dry.ensures.kept.same-stack

pub shape_of-out : goal.shape_of-out
shape_of-out c =
    simp length-set (real-long c.requires.0 c.cursor.ensures c.walk-dry.ensures
    (c.length-front.ensures (the_tree c.args.table.now) (write-front c.requires.0))
    (omega (
      arith,
      dry-length c.requires.0 c.cursor.ensures c.walk-dry.ensures
          (c.length-front.ensures (the_tree c.args.table.now) (write-front c.requires.0)),
      c.if-out-length.false,
    ))
    (c.put.ensures (the_tree c.args.table.now) (write-put c.requires.0 c.cursor.ensures c.walk-dry.ensures _
    (omega (
      arith,
      dry-length c.requires.0 c.cursor.ensures c.walk-dry.ensures
          (c.length-front.ensures (the_tree c.args.table.now) (write-front c.requires.0)),
      c.if-out-length.false,
    ))))
    c.cursor-2.ensures c.walk.ensures ∙ c.walk-dry.ensures.kept.same_out)

pub returns : goal.returns
returns c =
    write_done c.requires.0 c.cursor.ensures c.walk-dry.ensures
    (c.length-front.ensures (the_tree c.args.table.now) (write-front c.requires.0))
    (omega (
      arith,
      dry-length c.requires.0 c.cursor.ensures c.walk-dry.ensures
          (c.length-front.ensures (the_tree c.args.table.now) (write-front c.requires.0)),
      c.if-out-length.false,
    ))
    (c.put.ensures (the_tree c.args.table.now) (write-put c.requires.0 c.cursor.ensures c.walk-dry.ensures _
    (omega (
      arith,
      dry-length c.requires.0 c.cursor.ensures c.walk-dry.ensures
          (c.length-front.ensures (the_tree c.args.table.now) (write-front c.requires.0)),
      c.if-out-length.false,
    ))))
    c.cursor-2.ensures c.walk.ensures refl
