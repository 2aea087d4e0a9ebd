-- What the machine may take of the walk over the instructions: the terms of its contracts, and how the state found at an address, the address's fault and
-- the verdict follow from it. The soundness test goes along with this walk.

-- ── what flows on, with the types in a lent stack; the walk's indexes; the body of an address, with its bounds; the next shape ──
pub use Rattle.load_rules.specs.Moves.{flow_of, Fit, Moves, Able, Stands, InBody, Next}
-- ── a step of the walk from the state that came in, its flag, the next address ──
pub use Rattle.load_rules.proofs.Walking.{into-none, walk-flag, walk-on}
pub use Rattle.load_rules.proofs.Chains.{fit-goes}
pub use Rattle.load_rules.proofs.Addresses.{step_is}
-- ── no fault before an address; the first that has one ──
pub use Rattle.load_records.proofs.Search.{first-hit, first-none, clean-none, clean-more}
-- ── the verdict from the head, the records and the first fault ──
pub use Rattle.load_rules.proofs.Verdict.{judge-head, judge-unread, judge-broken, judge-passes}
-- ── indexes that hold nothing yet, and those that `scan` filled ──
pub use Rattle.load_rules.proofs.Verdict.{zeros-long, zeros-index, able-ready}
