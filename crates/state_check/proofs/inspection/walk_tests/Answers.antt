-- `state_check::inspection::walk_tests` meets its contract.
use native.Mathlib.Omega.{arith}
use mathlib.Core.Path.{◌≡◌, refl, sym, ap, ◌∙◌}
use Rattle.state_check.proofs.StandingLaws as law
use Rattle.load_check.specs.Lookups.{head_of}
use Rattle.load_places.specs.Records.{count}
use Rattle.load_places.specs.Rules.{found}
use Rattle.load_check.specs.Walk.{first-hit, first-none, clean-none, clean-more, Moves, InBody, Next}
use Rattle.load_check.specs.Walk as rule
use Rattle.state_check.proofs.inspection.walk_tests.Goals as goal

pub half_at-stop-requires : goal.half_at-stop-requires
half_at-stop-requires c =
    omega (arith, (head_of _ c.requires.0.0.bodied.well).bytes)

pub first_body-here-requires : goal.first_body-here-requires
first_body-here-requires c =
    c.requires.0.0.bodied

pub first_shape-shape-requires : goal.first_shape-shape-requires
first_shape-shape-requires c =
    (c.requires.0.0.bodied.well, c.requires.0.0.shaped.ended, c.requires.0.1, c.half_at-stop.ensures.0, c.half_at-stop.ensures.1)

pub next_wanted-next-requires : goal.next_wanted-next-requires
next_wanted-next-requires c =
    let counted = c.requires.2 in λ s. ((counted s).long, (counted s).few)

pub loop-address-init : goal.loop-address-init
loop-address-init c = (
  c.first_body-here.ensures,
  c.requires.1,
  (rule.into-none _, tt),
  clean-none _,
  law.begins _ _ _ _ _ c.next_wanted-next.ensures,
  c.first_shape-shape.ensures,
)

pub found_at-g-requires : goal.found_at-g-requires
found_at-g-requires c =
    let I = c.loop-address.invariant in
    (c.requires.0.0.bodied, I.0, I.5, I.1, I.2.1, omega (arith, c.half_at-stop.ensures.0))

pub shape_after-after-requires : goal.shape_after-after-requires
shape_after-after-requires c =
    (c.requires.0.0.bodied.well, c.requires.0.0.shaped.ended, c.loop-address.invariant.5, omega (arith, c.half_at-stop.ensures.0))

pub look-w-requires : goal.look-w-requires
look-w-requires c = (
  c.requires.0,
  c.requires.2,
  c.found_at-g.auto.stack ∙ c.loop-address.invariant.1,
  c.found_at-g.ensures.1,
  omega (arith, c.half_at-stop.ensures.1),
  c.loop-address.invariant.0.is,
  c.found_at-g.ensures.0 ∙ ap (found _ _) c.loop-address.invariant.2.0,
  c.loop-address.invariant.4,
)

pub go_on-e-requires : goal.go_on-e-requires
go_on-e-requires c = (
  c.requires.0,
  c.loop-address.invariant.0,
  c.shape_after-after.ensures,
  omega (arith, c.half_at-stop.ensures.0),
  c.found_at-g.auto.stack ∙ c.loop-address.invariant.1,
  c.found_at-g.ensures.1,
)

pub shape_of-stack-then-is_bad : goal.shape_of-stack-then-is_bad
shape_of-stack-then-is_bad c = (c.go_on-e.auto.stack ∙ c.found_at-g.auto.stack ∙ c.loop-address.invariant.1) ∙ sym c.requires.1

pub returns-then-is_bad : goal.returns-then-is_bad
returns-then-is_bad c = (
  sym (first-hit _ _ _ c.loop-address.invariant.3 (omega (arith, c.half_at-stop.ensures.0)) ((rule.walk-flag _ _ _ c.loop-address.invariant.2.0 c.go_on-e.new.stack c.go_on-e.result
      (c.go_on-e.ensures.0 ∙ rule.step_is _ _ _ c.loop-address.invariant.0.is _ _ _ c.found_at-g.ensures.0 refl) ∙ sym c.is_bad.ensures) ∙ c.if-is_bad.true)),
  omega (arith, c.half_at-stop.ensures.0),
)

pub next_body-here-requires : goal.next_body-here-requires
next_body-here-requires c =
    (c.requires.0.0.bodied, c.loop-address.invariant.0, omega (arith, c.half_at-stop.ensures.0))

pub loop-address-preserved : goal.loop-address-preserved
loop-address-preserved c =
    let clean = (rule.walk-flag _ _ _ c.loop-address.invariant.2.0 c.go_on-e.new.stack c.go_on-e.result
    (c.go_on-e.ensures.0 ∙ rule.step_is _ _ _ c.loop-address.invariant.0.is _ _ _ c.found_at-g.ensures.0 refl) ∙ sym c.is_bad.ensures) ∙ c.if-is_bad.false in (
      c.next_body-here.ensures,
      (c.go_on-e.auto.stack ∙ c.found_at-g.auto.stack ∙ c.loop-address.invariant.1),
      (
        rule.walk-on _ _ _ c.loop-address.invariant.2.0 _ (c.go_on-e.ensures.0 ∙ rule.step_is _ _ _ c.loop-address.invariant.0.is _ _ _ c.found_at-g.ensures.0 refl),
        c.go_on-e.ensures.1,
      ),
      clean-more _ _ c.loop-address.invariant.3 clean,
      c.look-w.ensures clean,
      c.shape_after-after.ensures,
    )

pub shape_of-stack : goal.shape_of-stack
shape_of-stack c =
    c.loop-address.invariant.1 ∙ sym c.requires.1

pub returns : goal.returns
returns c =
    let all : count c.args.at.now.code.now ≡ c.loop-address.address = omega (arith, c.half_at-stop.ensures.0) in (
      all ∙ sym (first-none _ _ _ c.loop-address.invariant.3 (omega (arith, c.half_at-stop.ensures.0)) (omega (arith, c.half_at-stop.ensures.0))),
      law.ends_at _ _ _ _ _ _ _ _ c.loop-address.invariant.4 (omega (arith, c.half_at-stop.ensures.0)),
    )
