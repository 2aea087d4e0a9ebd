-- `load_rules::ops::lands_at` meets its contract.
use native.Mathlib.Omega.{arith}
use mathlib.Core.Path.{refl, ◌∙◌}
use Rattle.load_rules.proofs.Places.{end-within}
use Rattle.load_rules.proofs.Jumps.{lands-below, lands-past, lands-none, lands-some}
use Rattle.load_rules.proofs.ops.lands_at.Goals as goal

pub returns-then-b-f : goal.returns-then-b-f
returns-then-b-f c = lands-below _ _ _ _ _ _ c.body_at-q.ensures.is _ c.half_at-f.ensures.0 (omega arith)

pub returns-then-e-b : goal.returns-then-e-b
returns-then-e-b c =
    lands-past _ _ _ _ _ _ c.body_at-q.ensures.is _ c.half_at-f.ensures.0
    (omega arith) _ c.end_of-e.ensures (omega arith)

pub shape_at-requires : goal.shape_at-requires
shape_at-requires c =
    (c.requires.0, omega (arith, c.end_of-e.ensures, end-within _ c.args.body c.requires.0.well))

pub returns-in-None : goal.returns-in-None
returns-in-None c =
    lands-none _ _ _ _ _ _ c.body_at-q.ensures.is _
    c.half_at-f.ensures.0 (omega arith) _ c.end_of-e.ensures (omega arith) _
    c.in-None.ensures.is refl

pub returns-in-Some : goal.returns-in-Some
returns-in-Some c =
    c.equal_shape.ensures ∙ lands-some _ _ _ _ _ _ c.body_at-q.ensures.is _
    c.half_at-f.ensures.0 (omega arith) _ c.end_of-e.ensures
    (omega arith) _ c.in-Some.ensures.1.is c.in-Some.ensures.0
