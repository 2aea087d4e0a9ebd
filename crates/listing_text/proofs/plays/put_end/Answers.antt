-- `put_end`: the totals, and a line.
use Rattle.listing_text.specs.Writing.{join}
use Rattle.listing_text.proofs.plays.put_end.Goals as goal

pub returns : goal.returns
returns c = join _ _ _ _ _ _ _ _ c.put_sheet-next.ensures c.put_line.ensures
