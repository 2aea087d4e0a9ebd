-- `state_check::inspection::inspect_in` meets its contract.
use native.Mathlib.Omega.{arith}
use mathlib.Core.Path.{refl, sym, ◌∙◌}
use Rattle.load_check.specs.Walk.{Able}
use Rattle.load_check.specs.Walk as rule
use Rattle.load_check.specs.Lookups.{ready}
use Rattle.state_check.proofs.InspectionTells as telling
use Rattle.state_check.proofs.inspection.inspect_in.Goals as goal

pub sized_fits-plain-requires : goal.sized_fits-plain-requires
sized_fits-plain-requires c =
    let scan = c.scan in
    let pre = c.requires in
    let R = ready _ _ _ _ scan.result _ c.in-Ok.is scan.ensures.1 in
    let able = rule.able-ready _ _ _ _ _ R (omega (arith, scan.auto.shapes, pre.1, pre.2)) (omega (arith, scan.auto.bodies, pre.3))
    (omega (arith, scan.auto.classes, pre.4)) in
    (able, R.based)

pub count_wanted-counts-requires : goal.count_wanted-counts-requires
count_wanted-counts-requires c = telling.long c.args.code.now c.args.state.now _ c.sized_fits-plain.ensures

pub invariant_of-numbered-clause-small : goal.invariant_of-numbered-clause-small
invariant_of-numbered-clause-small c =
    let counts = c.count_wanted-counts in
    let plain = c.sized_fits-plain in
    (telling.wanted c.args.code.now c.args.state.now plain.result counts.result.activations counts.result.records
    plain.ensures counts.ensures.0 counts.ensures.1).small

pub invariant_of-numbered-clause-few : goal.invariant_of-numbered-clause-few
invariant_of-numbered-clause-few c =
    let counts = c.count_wanted-counts in
    let plain = c.sized_fits-plain in
    (telling.wanted c.args.code.now c.args.state.now plain.result counts.result.activations counts.result.records
    plain.ensures counts.ensures.0 counts.ensures.1).few

pub walk_tests-requires : goal.walk_tests-requires
walk_tests-requires c =
    let scan = c.scan in
    let pre = c.requires in
    let R = ready _ _ _ _ scan.result _ c.in-Ok.is scan.ensures.1 in
    let counts = c.count_wanted-counts in
    let plain = c.sized_fits-plain in
    let w = telling.wanted c.args.code.now c.args.state.now plain.result counts.result.activations counts.result.records
    plain.ensures counts.ensures.0 counts.ensures.1 in (
      (
        rule.able-ready _ _ _ _ _ R (omega (arith, scan.auto.shapes, pre.1, pre.2)) (omega (arith, scan.auto.bodies, pre.3))
            (omega (arith, scan.auto.classes, pre.4)),
        R.based,
      ),
      refl,
      telling.counted _ _ _ _ _ plain.ensures counts.ensures.0 w,
    )

pub overflow_cast-result : goal.overflow_cast-result
overflow_cast-result c =
    record { fits = telling.place-fits c.args.code.now c.args.state.now (λ k. (c.type_inv.code k).fits) 8 _ (sym (rule.judge-unread _ c.scan.result c.scan.ensures.0 _ c.in-Err.is)) }

pub returns-in-Err : goal.returns-in-Err
returns-in-Err c = sym (rule.judge-unread _ c.scan.result c.scan.ensures.0 _ c.in-Err.is)

-- the first address with a fault
pub overflow_cast-result-in-Err-walk_tests : goal.overflow_cast-result-in-Err-walk_tests
overflow_cast-result-in-Err-walk_tests c =
    let at = telling.walked-bad _ _ _ _ c.walk_tests.result c.walk_tests.ensures _ c.in-Err-walk_tests.is in
    record {
      fits = telling.place-fits c.args.code.now c.args.state.now (λ k. (c.type_inv.code k).fits) 9 _
          (sym (rule.judge-broken _ c.scan.result c.scan.ensures.0 _ c.in-Ok.is _ refl _ at.0 at.1));
    }

pub returns-in-Err-walk_tests : goal.returns-in-Err-walk_tests
returns-in-Err-walk_tests c =
    let at = telling.walked-bad _ _ _ _ c.walk_tests.result c.walk_tests.ensures _ c.in-Err-walk_tests.is in
    sym (rule.judge-broken _ c.scan.result c.scan.ensures.0 _ c.in-Ok.is _ refl _ at.0 at.1)

-- no fault: whether all fits
pub returns-then-plain-fit : goal.returns-then-plain-fit
returns-then-plain-fit c =
    let scan = c.scan in
    let pre = c.requires in
    let counts = c.count_wanted-counts in
    let plain = c.sized_fits-plain in
    let all = telling.walked _ _ _ _ c.walk_tests.result c.walk_tests.ensures _ c.in-Ok-walk_tests.is in
    let passed = sym (rule.judge-passes _ scan.result scan.ensures.0 _ c.in-Ok.is _ refl _ all.0 (omega arith)) in
    let sounds = sym (telling.sound-is c.args.code.now c.args.state.now plain.result _
    counts.result.activations counts.result.records plain.ensures counts.ensures.0 counts.ensures.1 all.1) in
    let R = ready _ _ _ _ scan.result _ c.in-Ok.is scan.ensures.1 in
    let able = rule.able-ready _ _ _ _ _ R (omega (arith, scan.auto.shapes, pre.1, pre.2)) (omega (arith, scan.auto.bodies, pre.3))
    (omega (arith, scan.auto.classes, pre.4)) in
    (passed, sounds ∙ c.if-plain-fit.true, record { bodied = able.bodied; classed = able.classed; based = R.based })

pub returns-else-plain-fit : goal.returns-else-plain-fit
returns-else-plain-fit c =
    let scan = c.scan in
    let counts = c.count_wanted-counts in
    let plain = c.sized_fits-plain in
    let all = telling.walked _ _ _ _ c.walk_tests.result c.walk_tests.ensures _ c.in-Ok-walk_tests.is in
    let passed = sym (rule.judge-passes _ scan.result scan.ensures.0 _ c.in-Ok.is _ refl _ all.0 (omega arith)) in
    let sounds = sym (telling.sound-is c.args.code.now c.args.state.now plain.result _
    counts.result.activations counts.result.records plain.ensures counts.ensures.0 counts.ensures.1 all.1) in
    (passed, sounds ∙ c.if-plain-fit.false)
