-- `load_check::root::root_at` meets its contract. The loop has come to the place of the k-th class.
use native.Mathlib.Omega.{arith}
use Rattle.load_records.proofs.Known.{head_of, class-of}
use Rattle.load_records.proofs.Passing.{class-start, next-class}
use Rattle.load_check.proofs.RootPlace as law
use Rattle.load_check.proofs.root.root_at.Goals as goal

pub byte_at-n-requires : goal.byte_at-n-requires
byte_at-n-requires c = omega (arith, (head_of _ c.requires).bytes)

pub loop-k-init : goal.loop-k-init
loop-k-init c = class-start _

pub overflow_add-p : goal.overflow_add-p
overflow_add-p c =
    let e = c.loop-k.invariant in
    let h = class-of _ c.requires c.loop-k.k (omega arith) in
    omega arith

pub overflow_add-p-in-loop-k : goal.overflow_add-p-in-loop-k
overflow_add-p-in-loop-k c =
    let e = c.loop-k.invariant in
    let h = class-of _ c.requires c.loop-k.k (omega arith) in
    omega arith

pub byte_at-requires : goal.byte_at-requires
byte_at-requires c =
    let e = c.loop-k.invariant in
    let h = class-of _ c.requires c.loop-k.k (omega arith) in
    omega arith

pub overflow_add-p-in-loop-k-2 : goal.overflow_add-p-in-loop-k-2
overflow_add-p-in-loop-k-2 c =
    let e = c.loop-k.invariant in
    let h = class-of _ c.requires c.loop-k.k (omega arith) in
    omega arith

pub loop-k-preserved : goal.loop-k-preserved
loop-k-preserved c = next-class _ _ _ _ c.loop-k.invariant c.byte_at.ensures.0

pub returns : goal.returns
returns c = law.root_is _ c.requires (λ k. (c.type_inv.code k).fits) c.loop-k.k _ (omega arith) c.loop-k.invariant
