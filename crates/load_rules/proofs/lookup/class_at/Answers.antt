-- `load_rules::lookup::class_at` meets its contract.
use native.Mathlib.Omega.{arith}
use Rattle.load_records.proofs.Known.{head_of}
use Rattle.load_rules.proofs.Places.{class-place}
use Rattle.load_rules.proofs.lookup.class_at.Goals as goal

pub bounds-classes-class : goal.bounds-classes-class
bounds-classes-class c = omega (arith, (head_of _ c.requires.0.well).few-classes)

pub returns : goal.returns
returns c =
    class-place _ _ _ _ c.requires.0 c.requires.1 c.wide.ensures.0 c.wide.ensures.1
