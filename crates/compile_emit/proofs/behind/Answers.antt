-- `compile_emit::behind` meets its contract.
use mathlib.Core.Logic.{◌⊎◌, inl, inr}
use mathlib.Core.Path.{◌≡◌, refl, ap}
use native.Mathlib.Omega.{arith}
use Prim.Native.Nat.{ℕ, ◌+◌}
use lib.ListN.{length, take}
use Rattle.compile_output.specs.declared.Cursor.{Cursor}
use Rattle.compile_output.specs.EmitRecord.{moved, cursor_shaped}
use Rattle.compile_emit.specs.EmitEntryLaws.{fits-op, op_fits, fits-mark, mark-fits, behind-0, behind-2, behind-3}
use Rattle.compile_emit.specs.EmitEntry.{cursor_behind, emit_behind, number_of_way}
use Rattle.compile_emit.specs.declared.Way.{Way}
use Rattle.compile_emit.specs.declared.Way.TheVariants.{Plain, Marked}
use Rattle.compile_emit.proofs.behind.Goals as goal

first-needed : {w : Way} (d : ℕ) (p : Cursor) → (w ≡ Plain) ⊎ (w ≡ Marked) → cursor_behind (number_of_way w) d p ≡ moved p
first-needed d p (inl e) = let k = ap number_of_way e in behind-0 _ d p (λ h. omega (arith, h, k)) (λ h. omega (arith, h, k))
first-needed d p (inr e) = let k = ap number_of_way e in behind-0 _ d p (λ h. omega (arith, h, k)) (λ h. omega (arith, h, k))

pub emit-q-requires : goal.emit-q-requires
emit-q-requires c =
    let a = c.args in let n = length a.out.now in let f = rw (behind-2 (number_of_way a.way) a.depth a.p (ap number_of_way c.in-IfTrue.is)) at
    c.requires.4 in fits-mark n a.depth (fits-op n (fits-mark n (a.depth + 1) f))

pub shape-r-requires : goal.shape-r-requires
shape-r-requires c =
    let a = c.args in let n = length a.out.now in
    let f = rw (behind-2 (number_of_way a.way) a.depth a.p (ap number_of_way c.in-IfTrue.is)) at
    c.requires.4 in (
      omega arith,
      omega arith,
      omega arith,
      op_fits (λ (q : Cursor). cursor_shaped a.depth q) a.p a.out.now 8 0 (a.end + 2)
          c.emit-q.ensures (fits-op n (fits-mark n (a.depth + 1) f)),
    )

pub emit-s-requires : goal.emit-s-requires
emit-s-requires c =
    let a = c.args in let n = length a.out.now in let f = rw (behind-2 (number_of_way a.way) a.depth a.p (ap number_of_way c.in-IfTrue.is)) at
    c.requires.4 in mark-fits (λ (q : Cursor). moved q) c.emit-q.result c.emit-q.new.out a.holds a.depth
    (take a.depth a.stack.now) c.shape-r.ensures
    (op_fits (λ (q : Cursor). moved (cursor_shaped a.depth q)) a.p a.out.now 8 0 (a.end + 2) c.emit-q.ensures (fits-mark n (a.depth + 1) f))

pub shape-requires : goal.shape-requires
shape-requires c =
    let a = c.args in let n = length a.out.now in let f = rw (behind-2 (number_of_way a.way) a.depth a.p (ap number_of_way c.in-IfTrue.is)) at
    c.requires.4 in (
      omega (arith, c.requires.1),
      omega (arith, c.requires.2),
      omega (arith, c.requires.3),
      op_fits (λ (q : Cursor). cursor_shaped (a.depth + 1) q) c.shape-r.result c.shape-r.new.out 2 0 0
          c.emit-s.ensures (mark-fits (λ (q : Cursor). cursor_shaped (a.depth + 1) (moved q)) c.emit-q.result
          c.emit-q.new.out a.holds a.depth (take a.depth a.stack.now) c.shape-r.ensures
          (op_fits (λ (q : Cursor). cursor_shaped (a.depth + 1) (moved (cursor_shaped a.depth q))) a.p a.out.now 8 0 (a.end + 2) c.emit-q.ensures f)),
    )

pub shape-requires-in-IfFalse : goal.shape-requires-in-IfFalse
shape-requires-in-IfFalse c =
    let a = c.args in let n = length a.out.now in
    let f = rw (behind-3 (number_of_way a.way) a.depth a.p (ap number_of_way c.in-IfFalse.is)) at c.requires.4 in
    (omega arith, omega arith, omega arith, f)

pub emit-requires : goal.emit-requires
emit-requires c = rw (first-needed c.args.depth c.args.p c.in-Plain.is) at c.requires.4

pub returns-in-IfTrue : goal.returns-in-IfTrue
unfolding cursor_behind emit_behind
returns-in-IfTrue c =
    rw (
      c.in-IfTrue.is,
      c.shape.ensures.0,
      c.shape.ensures.1,
      c.emit-s.ensures.0,
      c.emit-s.ensures.1,
      c.shape-r.ensures.0,
      c.shape-r.ensures.1,
      c.emit-q.ensures.0,
      c.emit-q.ensures.1,
    ) (refl, refl)

pub returns-in-IfFalse : goal.returns-in-IfFalse
unfolding cursor_behind emit_behind
returns-in-IfFalse c =
    rw c.in-IfFalse.is c.shape-in-IfFalse.ensures

pub returns-in-Plain : goal.returns-in-Plain
unfolding cursor_behind emit_behind
returns-in-Plain c = elim c.in-Plain.is [ inl e ↦ rw e c.emit.ensures | inr e ↦ rw e c.emit.ensures ]
