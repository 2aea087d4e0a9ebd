-- `compile_front::put_type` meets its contract: the byte that is known of it, as often as it has cells.
use mathlib.Core.Path.{◌∙◌, ap}
use native.Mathlib.Omega.{arith}
use Rattle.compile_front.specs.Leaves.{put-cells, type-room}
use Rattle.compile_symbols.specs.Entries.{cells_of_kind}
use Rattle.compile_front.proofs.put_type.Goals as goal

pub put_same-requires : goal.put_same-requires
put_same-requires c =
    omega (
      arith,
      c.requires.3,
      type-room c.args.source.now.table.now c.args.source.now.known.now c.args.i c.type_in.result c.requires.0 c.requires.1
          c.requires.2 c.type_in.ensures c.cells_of-cells.result
          (c.cells_of-cells.ensures ∙ ap cells_of_kind c.kind_at.ensures),
    )

pub returns : goal.returns
returns c =
    put-cells c.args.source.now.table.now c.args.source.now.known.now c.args.i c.type_in.result c.requires.0 c.requires.1
    c.requires.2 c.type_in.ensures c.cells_of-cells.result
    (c.cells_of-cells.ensures ∙ ap cells_of_kind c.kind_at.ensures) c.put_same.ensures
