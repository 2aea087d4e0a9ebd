-- `list_macro`: the text of a macro is that of its start's answer (specs/Whole, macro-text).
use Rattle.std.proofs.Common.{arith, length, ◌≤◌}
use Rattle.values.specs.Refusals.{refusal_of}
use Rattle.listing_text.specs.Text.{refused_line}
use Rattle.listing_text.specs.Length.{text_room, lines_fit, refused-fits}
use Rattle.listing_text.specs.Writing.{in-front}
use Rattle.listing_text.specs.Whole.{macro-text}
use Rattle.listing_text.proofs.list_macro.Goals as goal

pub put_refused-requires : goal.put_refused-requires
put_refused-requires c = omega (arith, c.requires, refused-fits c.in-Err.refusal.number c.in-Err.refusal.place (omega arith) (omega arith))

pub list_runs-requires : goal.list_runs-requires
list_runs-requires c = omega (arith, c.requires, lines_fit c.args.code.now (λ k. (c.type_inv.code k).fits) c.start.new.state)

pub returns-in-Err : goal.returns-in-Err
returns-in-Err c =
    let fits : length (refused_line (refusal_of c.in-Err.refusal)) ≤ text_room = refused-fits c.in-Err.refusal.number c.in-Err.refusal.place (omega arith) (omega arith) in
    rw (macro-text c.args.code.now c.args.state.now _ _ c.in-Err.ensures)
    (in-front _ _ _ _ (omega (arith, c.requires, fits)) c.put_refused.ensures)

pub returns-in-Ok : goal.returns-in-Ok
returns-in-Ok c = rw (macro-text c.args.code.now c.args.state.now _ _ c.in-Ok.ensures) c.list_runs.ensures
