-- What is asked of a tree is asked of the one that the table holds, and comes to what the parts ask (specs/Top).
use mathlib.Core.Path.{sym, ap}
use native.Mathlib.Omega.{arith}
use lib.ListN.{length}
use lib.Seq.{length-sets}
use Rattle.compile_symbols.specs.Tabled.{the-tree}
use Rattle.compile_front.specs.Writing.{wrote-long}
use Rattle.compile_front.specs.Top.{asks-tree, top-headed, top-known, top-ended, top-few, top-classes, top-bodies, top-room, top-wrote}
use Rattle.compile_front.proofs.put.Goals as goal

pub overflow_cast-classes : goal.overflow_cast-classes
overflow_cast-classes c =
    let f = asks-tree c.requires.1 in omega (arith, top-classes f)

pub overflow_cast-bodies : goal.overflow_cast-bodies
overflow_cast-bodies c =
    let f = asks-tree c.requires.1 in omega (arith, top-bodies f)

pub put_classes-root-requires : goal.put_classes-root-requires
put_classes-root-requires c =
    let f = asks-tree c.requires.1 in (top-headed f, top-known f, omega (arith, top-room f, simp length-sets at (ap length c.put_header.ensures)))

pub put_root-procedures-requires : goal.put_root-procedures-requires
put_root-procedures-requires c =
    let f = asks-tree c.requires.1 in (
      top-headed f,
      top-known f,
      f.items,
      top-few f,
      omega (
        arith,
        top-room f,
        simp length-sets at (ap length c.put_header.ensures),
        c.put_classes-root.ensures.ends,
        wrote-long c.put_classes-root.ensures,
      ),
    )

pub put_procedures-requires : goal.put_procedures-requires
put_procedures-requires c =
    let f = asks-tree c.requires.1 in (
      top-headed f,
      top-known f,
      top-ended f,
      omega (
        arith,
        top-room f,
        simp length-sets at (ap length c.put_header.ensures),
        c.put_classes-root.ensures.ends,
        wrote-long c.put_classes-root.ensures,
        c.put_root-procedures.ensures.ends,
        wrote-long c.put_root-procedures.ensures,
      ),
    )

pub returns : goal.returns
returns c =
    let f = asks-tree c.requires.1 in λ t q. rw (sym (the-tree t q.tabled))
    (top-wrote f c.put_header.ensures c.put_classes-root.ensures c.put_root-procedures.ensures
    c.put_procedures.ensures)
