-- `state_check::inspection::found_fits` meets its contract.
use borrow.Author.Rules.{rules}
use Rattle.load_check.specs.Walk as rule
use Rattle.state_check.proofs.inspection.found_fits.Goals as goal

pub all_stand-requires : goal.all_stand-requires
all_stand-requires c =
    let w = rule.fit-goes _ _ _ c.requires.3 c.in-Goes.is in (c.requires.0, c.requires.1, c.requires.2, w.1)

pub enum_told-1 : goal.enum_told-1
enum_told-1 c = search rules

pub returns-in-Goes : goal.returns-in-Goes
returns-in-Goes c = rw c.in-Goes.is c.all_stand.ensures

pub returns-in-Ends : goal.returns-in-Ends
returns-in-Ends c = rw c.in-Ends.is

pub returns-in-Bad : goal.returns-in-Bad
returns-in-Bad c = rw c.in-Bad.is
