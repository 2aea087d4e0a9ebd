-- `put_sheet`: four lines, one after the other (specs/Text, sheet_text).
use Rattle.std.proofs.Common.{List, ◌++◌, ℕ}
use Rattle.listing_text.specs.Text.{sets_line, holds_line, releases_line, readings_line, sheet_text}
use Rattle.listing_text.specs.declared.totals.Totals.{Totals}
use Rattle.listing_text.specs.Writing.{front_fits, back_fits, join}
use Rattle.listing_text.proofs.plays.put_sheet.Goals as goal

-- what follows the first line, and the second
abbrev after_holds : Totals → List ℕ
after_holds t = releases_line t.releases ++ readings_line t.readings

abbrev after-sets : Totals → List ℕ
after-sets t = holds_line t.holds ++ after_holds t

pub put_line-a-requires : goal.put_line-a-requires
unfolding sheet_text
put_line-a-requires c = front_fits _ _ (sets_line c.args.t.sets) (after-sets c.args.t) c.requires

pub put_line-b-requires : goal.put_line-b-requires
unfolding sheet_text
put_line-b-requires c =
    let t = c.args.t in
    front_fits _ _ (holds_line t.holds) (after_holds t) (back_fits (after-sets t) c.put_line-a.ensures c.requires)

pub put_line-c-requires : goal.put_line-c-requires
unfolding sheet_text
put_line-c-requires c =
    let t = c.args.t in
    front_fits _ _ (releases_line t.releases) (readings_line t.readings)
    (back_fits (after_holds t) c.put_line-b.ensures (back_fits (after-sets t) c.put_line-a.ensures c.requires))

pub put_line-requires : goal.put_line-requires
unfolding sheet_text
put_line-requires c =
    let t = c.args.t in
    back_fits (readings_line t.readings) c.put_line-c.ensures
    (back_fits (after_holds t) c.put_line-b.ensures (back_fits (after-sets t) c.put_line-a.ensures c.requires))

pub returns : goal.returns
unfolding sheet_text
returns c =
    join _ _ _ _ _ _ _ _ c.put_line-a.ensures
    (join _ _ _ _ _ _ _ _ c.put_line-b.ensures (join _ _ _ _ _ _ _ _ c.put_line-c.ensures c.put_line.ensures))
