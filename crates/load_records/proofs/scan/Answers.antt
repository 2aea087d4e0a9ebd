-- `load_records::scan` meets its contract, a law for each way out.
use native.Mathlib.Omega.{arith}
use mathlib.Core.Path.{◌≡◌, sym, ◌∙◌}
use Prim.Native.Nat.{◌+◌}
use Rattle.load_records.proofs.Known.{head-known}
use Rattle.load_records.proofs.Tests.{end-stands}
use Rattle.load_records.proofs.Whole as law
use Rattle.load_records.proofs.scan.Goals as goal

pub byte_at-class_count-requires : goal.byte_at-class_count-requires
byte_at-class_count-requires c = omega (arith, head-known _ c.requires.0)

pub byte_at-body_count-requires : goal.byte_at-body_count-requires
byte_at-body_count-requires c = omega (arith, head-known _ c.requires.0)

pub half_at-shape_count-requires : goal.half_at-shape_count-requires
half_at-shape_count-requires c = omega (arith, head-known _ c.requires.0)

pub classes_pass-requires : goal.classes_pass-requires
classes_pass-requires c =
    (omega (arith, head-known _ c.requires.0, c.byte_at-class_count.ensures.0), c.requires.4)

pub returns-in_err-bodies_from : goal.returns-in_err-bodies_from
returns-in_err-bodies_from c =
    let m = law.told-err c.classes_pass.result _ _ c.in_err-bodies_from.ensures.cases in
    let e : c.in_err-bodies_from.field-0.0 ≡ 1 + m.0 = omega (arith, m.2) in
    let C = rw m.1 at c.classes_pass.ensures in
    let N = law.counted _ c.byte_at-class_count.ensures.0 c.byte_at-body_count.ensures.0 c.requires.1 c.half_at-shape_count.ensures.0 in
    rw (law.handed-on c.from_residual.result _ c.from_residual.ensures.1, e) (law.whole-classes c.requires.0 N C.passes, tt)

pub bodies_pass-requires : goal.bodies_pass-requires
bodies_pass-requires c =
    let C = rw (law.told-ok c.classes_pass.result _ c.in_ok-bodies_from.ensures.cases) at c.classes_pass.ensures in (
      law.body-start _ C.passes c.byte_at-class_count.ensures.0,
      C.within,
      omega (arith, head-known _ c.requires.0, c.byte_at-body_count.ensures.0),
      c.requires.3,
    )

pub returns-in_err-base : goal.returns-in_err-base
returns-in_err-base c =
    let C = rw (law.told-ok c.classes_pass.result _ c.in_ok-bodies_from.ensures.cases) at c.classes_pass.ensures in
    let m = law.told-err c.bodies_pass.result _ _ c.in_err-base.ensures.cases in
    let e : c.in_err-base.field-0.0 ≡ 1 + c.byte_at-class_count.result + m.0 = omega (arith, m.2) in
    let B = rw m.1 at c.bodies_pass.ensures in
    let N = law.counted _ c.byte_at-class_count.ensures.0 c.byte_at-body_count.ensures.0 c.requires.1 c.half_at-shape_count.ensures.0 in
    rw (law.handed-on c.from_residual-in_err-base.result _ c.from_residual-in_err-base.ensures.1, e) (law.whole-bodies c.requires.0 N C.passes B.passes, tt)

pub returns-in_err-map_err : goal.returns-in_err-map_err
returns-in_err-map_err c =
    let C = rw (law.told-ok c.classes_pass.result _ c.in_ok-bodies_from.ensures.cases) at c.classes_pass.ensures in
    let B = rw (law.told-ok c.bodies_pass.result _ c.in_ok-base.ensures.cases) at c.bodies_pass.ensures in
    let m = law.told-err c.code_pass.result _ _ c.in_err-map_err.ensures.cases in
    let e : c.in_err-map_err.field-0.0 ≡ 1 + c.byte_at-class_count.result + c.byte_at-body_count.result + m.0 = omega (arith, m.2) in
    let I = rw m.1 at c.code_pass.ensures in
    let N = law.counted _ c.byte_at-class_count.ensures.0 c.byte_at-body_count.ensures.0 c.requires.1 c.half_at-shape_count.ensures.0 in
    rw (law.handed-on c.from_residual-in_err-map_err.result _ c.from_residual-in_err-map_err.ensures.1, e)
    (law.whole_code c.requires.0 N C.passes B.passes I, tt)

pub shapes_pass-requires : goal.shapes_pass-requires
shapes_pass-requires c =
    let B = rw (law.told-ok c.bodies_pass.result _ c.in_ok-base.ensures.cases) at c.bodies_pass.ensures in (
      law.shape-start _ _ _ c.requires.1 (law.code-start _ B.passes c.byte_at-body_count.ensures.0),
      omega (arith, B.within, c.requires.1, (c.type_inv.code 4).fits, (c.type_inv.code 5).fits),
      c.half_at-shape_count.ensures.1,
      c.requires.2,
      c.requires.5,
    )

pub returns-in_err-end : goal.returns-in_err-end
returns-in_err-end c =
    let C = rw (law.told-ok c.classes_pass.result _ c.in_ok-bodies_from.ensures.cases) at c.classes_pass.ensures in
    let B = rw (law.told-ok c.bodies_pass.result _ c.in_ok-base.ensures.cases) at c.bodies_pass.ensures in
    let I = rw (law.told-ok c.code_pass.result _ c.in_ok-map_err.ensures.cases) at c.code_pass.ensures in
    let m = law.told-err c.shapes_pass.result _ _ c.in_err-end.ensures.cases in
    let e : c.in_err-end.field-0.0 ≡ 1 + c.byte_at-class_count.result + c.byte_at-body_count.result + c.args.instructions + m.0 = omega (arith, m.2) in
    let S = rw m.1 at c.shapes_pass.ensures in
    let N = law.counted _ c.byte_at-class_count.ensures.0 c.byte_at-body_count.ensures.0 c.requires.1 c.half_at-shape_count.ensures.0 in
    rw (law.handed-on c.from_residual-in_err-end.result _ c.from_residual-in_err-end.ensures.1, e)
    (law.whole-shapes c.requires.0 N C.passes B.passes I S.passes, tt)

pub returns-in_err-read_end : goal.returns-in_err-read_end
returns-in_err-read_end c =
    let C = rw (law.told-ok c.classes_pass.result _ c.in_ok-bodies_from.ensures.cases) at c.classes_pass.ensures in
    let B = rw (law.told-ok c.bodies_pass.result _ c.in_ok-base.ensures.cases) at c.bodies_pass.ensures in
    let I = rw (law.told-ok c.code_pass.result _ c.in_ok-map_err.ensures.cases) at c.code_pass.ensures in
    let S = rw (law.told-ok c.shapes_pass.result _ c.in_ok-end.ensures.cases) at c.shapes_pass.ensures in
    let N = law.counted _ c.byte_at-class_count.ensures.0 c.byte_at-body_count.ensures.0 c.requires.1 c.half_at-shape_count.ensures.0 in
    let z = rw c.in_err-read_end.was at c.read_end.ensures in
    rw (law.handed-on c.from_residual-in_err-read_end.result _ c.from_residual-in_err-read_end.ensures.1)
    (z ∙ law.whole-end c.requires.0 N C.passes B.passes I S.passes, tt)

pub returns : goal.returns
returns c =
    let C = rw (law.told-ok c.classes_pass.result _ c.in_ok-bodies_from.ensures.cases) at c.classes_pass.ensures in
    let B = rw (law.told-ok c.bodies_pass.result _ c.in_ok-base.ensures.cases) at c.bodies_pass.ensures in
    let I = rw (law.told-ok c.code_pass.result _ c.in_ok-map_err.ensures.cases) at c.code_pass.ensures in
    let S = rw (law.told-ok c.shapes_pass.result _ c.in_ok-end.ensures.cases) at c.shapes_pass.ensures in
    let N = law.counted _ c.byte_at-class_count.ensures.0 c.byte_at-body_count.ensures.0 c.requires.1 c.half_at-shape_count.ensures.0 in
    let z = rw c.in_ok-read_end.was at c.read_end.ensures in (
      z ∙ law.whole-end c.requires.0 N C.passes B.passes I S.passes,
      law.whole_ready c.requires.0 N C.passes B.passes I S.passes _ _ _ B.within S.indexed B.placed C.placed (end-stands _ _ _ (sym z)),
    )
