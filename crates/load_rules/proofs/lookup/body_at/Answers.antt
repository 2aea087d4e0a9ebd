-- `load_rules::lookup::body_at` meets its contract.
use native.Mathlib.Omega.{arith}
use Rattle.load_records.proofs.Known.{head_of}
use Rattle.load_rules.proofs.Places.{body-place}
use Rattle.load_rules.proofs.lookup.body_at.Goals as goal

pub bounds-bodies-body : goal.bounds-bodies-body
bounds-bodies-body c = omega (arith, (head_of _ c.requires.0.well).few-bodies)

pub returns : goal.returns
returns c =
    body-place _ _ _ _ c.requires.0 c.requires.1 c.wide.ensures.0 c.wide.ensures.1
