-- `compile_emit::between` meets its contract.
use Rattle.compile_output.specs.EmitRecord.{Fits}
use mathlib.Core.Path.{◌≡◌, refl, ap}
use native.Mathlib.Omega.{arith}
use Prim.Native.Nat.{ℕ, ◌+◌}
use lib.ListN.{length}
use Rattle.compile_output.specs.declared.Cursor.{Cursor}
use Rattle.compile_output.specs.EmitRecord.{moved, cursor_shaped}
use Rattle.compile_emit.specs.EmitEntryLaws.{fits-op, op_fits, fits-mark, between-1, between-2, between-3}
use Rattle.compile_emit.specs.EmitEntry.{cursor_between, emit_between, number_of_way}
use Rattle.compile_emit.specs.declared.Way.{Way}
use Rattle.compile_emit.specs.declared.Way.TheVariants.{IfFalse}
use Rattle.compile_emit.proofs.between.Goals as goal

if-false : {w : Way} (d : ℕ) (p : Cursor) → w ≡ IfFalse → cursor_between (number_of_way w) d p ≡ cursor_shaped d (moved (moved (moved p)))
if-false d p e =
    let k = ap number_of_way e in
    between-3 _ d p (λ h. omega (arith, h, k)) (λ h. omega (arith, h, k)) (λ h. omega (arith, h, k))

pub shape-requires : goal.shape-requires
shape-requires c =
    let a = c.args in let n = length a.out.now in
    let f = rw (between-1 (number_of_way a.way) a.depth a.p (ap number_of_way c.in-Marked.is)) at c.requires.4 in
    (omega arith, omega arith, omega arith, f)

pub emit-requires : goal.emit-requires
emit-requires c =
    let a = c.args in let n = length a.out.now in rw (between-2 (number_of_way a.way) a.depth a.p (ap number_of_way c.in-IfTrue.is)) at c.requires.4

pub overflow_cast-landing : goal.overflow_cast-landing
overflow_cast-landing c =
    let a = c.args in let n = length a.out.now in
    let f = rw (if-false a.depth a.p c.in-IfFalse.is) at c.requires.4 in
    let g : Fits a.p n = fits-op n (fits-op n (fits-op n (fits-mark n a.depth f))) in omega (arith, g.address-small)

pub overflow_add-landing : goal.overflow_add-landing
overflow_add-landing c =
    let a = c.args in let n = length a.out.now in
    let f = rw (if-false a.depth a.p c.in-IfFalse.is) at c.requires.4 in
    let g : Fits a.p n = fits-op n (fits-op n (fits-op n (fits-mark n a.depth f))) in omega (arith, g.address-small)

pub emit-q-requires : goal.emit-q-requires
emit-q-requires c =
    let a = c.args in let n = length a.out.now in
    let f = rw (if-false a.depth a.p c.in-IfFalse.is) at c.requires.4 in fits-op n (fits-op n (fits-mark n a.depth f))

pub emit-r-requires : goal.emit-r-requires
emit-r-requires c =
    let a = c.args in let n = length a.out.now in
    let f = rw (if-false a.depth a.p c.in-IfFalse.is) at c.requires.4 in
    op_fits (λ (q : Cursor). moved q) a.p a.out.now 9 0 (a.p.address + 3) c.emit-q.ensures (fits-op n (fits-mark n a.depth f))

pub emit-s-requires : goal.emit-s-requires
emit-s-requires c =
    let a = c.args in let n = length a.out.now in
    let f = rw (if-false a.depth a.p c.in-IfFalse.is) at c.requires.4 in
    op_fits (λ (q : Cursor). moved q) c.emit-q.result c.emit-q.new.out 2 0 1 c.emit-r.ensures
    (op_fits (λ (q : Cursor). moved (moved q)) a.p a.out.now 9 0 (a.p.address + 3) c.emit-q.ensures (fits-mark n a.depth f))

pub shape-requires-in-IfFalse : goal.shape-requires-in-IfFalse
shape-requires-in-IfFalse c =
    let a = c.args in let n = length a.out.now in
    let f = rw (if-false a.depth a.p c.in-IfFalse.is) at c.requires.4 in (
      omega (arith, c.requires.1),
      omega (arith, c.requires.2),
      omega (arith, c.requires.3),
      op_fits (λ (q : Cursor). cursor_shaped a.depth q) c.emit-r.result c.emit-r.new.out 8 0 a.end
          c.emit-s.ensures (op_fits (λ (q : Cursor). cursor_shaped a.depth (moved q)) c.emit-q.result
          c.emit-q.new.out 2 0 1 c.emit-r.ensures (op_fits (λ (q : Cursor). cursor_shaped a.depth (moved (moved q))) a.p
          a.out.now 9 0 (a.p.address + 3) c.emit-q.ensures f)),
    )

pub returns-in-Plain : goal.returns-in-Plain
unfolding cursor_between emit_between
returns-in-Plain c = rw c.in-Plain.is (refl, refl)

pub returns-in-Marked : goal.returns-in-Marked
unfolding cursor_between emit_between
returns-in-Marked c =
    rw c.in-Marked.is c.shape.ensures

pub returns-in-IfTrue : goal.returns-in-IfTrue
unfolding cursor_between emit_between
returns-in-IfTrue c =
    rw c.in-IfTrue.is c.emit.ensures

pub returns-in-IfFalse : goal.returns-in-IfFalse
unfolding cursor_between emit_between
returns-in-IfFalse c =
    rw (
      c.in-IfFalse.is,
      c.shape-in-IfFalse.ensures.0,
      c.shape-in-IfFalse.ensures.1,
      c.emit-s.ensures.0,
      c.emit-s.ensures.1,
      c.emit-r.ensures.0,
      c.emit-r.ensures.1,
      c.emit-q.ensures.0,
      c.emit-q.ensures.1,
    ) (refl, refl)
