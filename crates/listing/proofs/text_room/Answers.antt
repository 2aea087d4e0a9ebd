-- `text_room`: as many zeros as it says. The level is written out, so that nothing is computed by counting them.
use Rattle.std.proofs.Common.{sym, ℕ}
use lib.ListN.{length-replicate}
use Rattle.listing.proofs.text_room.Goals as goal

pub returns : goal.returns
returns c = sym (length-replicate {0} {A = ℕ} 786496 0)
