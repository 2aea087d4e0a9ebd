-- `state_check::inspection::look` meets its contract.
use mathlib.Core.Path.{refl}
use Rattle.state_check.proofs.StandingLaws as law
use Rattle.state_check.proofs.inspection.look.Goals as goal

pub returns-then-address-next : goal.returns-then-address-next
returns-then-address-next c =
    λ q. law.skipped _ _ _ _ _ _ _ c.requires.7 c.if-address-next.true

pub next_wanted-j-requires : goal.next_wanted-j-requires
next_wanted-j-requires c =
    λ s. ((c.requires.1 s).long, (c.requires.1 s).few)

pub returns : goal.returns
returns c =
    λ q. law.looked _ _ _ _ _ _ _ c.requires.7 _ _ _ _ c.requires.6 c.requires.5 q c.found_fits-f.ensures c.next_wanted-j.ensures _ refl
