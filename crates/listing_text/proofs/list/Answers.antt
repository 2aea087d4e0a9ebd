-- `list`: the text of a table is that of the compiler's answer (specs/Whole, table-text).
use Rattle.std.proofs.Common.{arith, length, ◌≤◌, sym}
use lib.Seq.{length-take-le}
use Rattle.values.specs.Refusals.{refusal_of}
use Rattle.listing_text.specs.Text.{refused_line}
use Rattle.listing_text.specs.Length.{text_room, refused-fits}
use Rattle.listing_text.specs.Writing.{in-front}
use Rattle.listing_text.specs.Whole.{table-text, within, listing-is}
use Rattle.listing_text.proofs.list.Goals as goal

pub put_refused-requires : goal.put_refused-requires
put_refused-requires c = omega (arith, refused-fits c.in-Err.refusal.number c.in-Err.refusal.place (omega arith) (omega arith))

-- the macro stands within the bytes that are lent for it
pub slice_bounds-code-end : goal.slice_bounds-code-end
slice_bounds-code-end c = within c.args.table.now _ _ c.in-Ok.n c.in-Ok.ensures

pub slice_bounds-list_macro-end : goal.slice_bounds-list_macro-end
slice_bounds-list_macro-end c = sym (length-take-le _ _ (within c.args.table.now _ _ c.in-Ok.n c.in-Ok.ensures))

pub returns-in-Err : goal.returns-in-Err
returns-in-Err c =
    let fits : length (refused_line (refusal_of c.in-Err.refusal)) ≤ text_room = refused-fits c.in-Err.refusal.number c.in-Err.refusal.place (omega arith) (omega arith) in
    rw (listing-is c.args.table.now, table-text c.args.table.now _ _ _ _ c.in-Err.ensures)
    (in-front _ _ _ _ (omega (arith, fits)) c.put_refused.ensures)

pub returns-in-Ok : goal.returns-in-Ok
returns-in-Ok c = rw (listing-is c.args.table.now, table-text c.args.table.now _ _ _ _ c.in-Ok.ensures) c.list_macro.ensures
