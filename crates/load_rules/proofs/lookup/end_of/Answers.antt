-- `load_rules::lookup::end_of` meets its contract.
use native.Mathlib.Omega.{arith}
use mathlib.Core.Path.{sym, ◌∙◌}
use Rattle.load_records.proofs.Known.{head_of}
use Rattle.load_rules.proofs.Places.{end-next, end-last}
use Rattle.load_rules.proofs.lookup.end_of.Goals as goal

pub returns-then-body-m : goal.returns-then-body-m
returns-then-body-m c = c.half_at.ensures.0 ∙ rw c.body_at-q.ensures.is (sym (end-next _ _ (omega arith)))

pub half_at-requires-2 : goal.half_at-requires-2
half_at-requires-2 c =
    omega (arith, (head_of _ c.requires.0.well).bytes)

pub returns : goal.returns
returns c = c.half_at-2.ensures.0 ∙ sym (end-last _ _ (omega arith))
