-- `compile_emit::declare` meets its contract.
use mathlib.Core.Path.{◌≡◌, refl, sym, ap, ◌∙◌}
use native.Mathlib.Omega.{arith}
use Prim.Native.Nat.{ℕ, ◌+◌}
use lib.ListN.{length}
use Rattle.compile_emit.specs.EmitEntryLaws.{part-from, later-head, cursors-step, emits-step, finishes-step, heads-none, length_declared}
use Rattle.compile_emit.specs.EmitEntry.{cursor_declared, emit_declared}
use native.Mathlib.Nat.{add-zero, sub-zero}
use Prim.Native.Nat.{◌-◌, ◌*◌}
use lib.ListN.{drop, get_or, set, length-set, length-drop}
use Rattle.words.specs.Numbers.{half_at}
use Rattle.compile_output.specs.EmitRecord.{Fits}
use Rattle.compile_output.specs.EmitCode.{fits-before}
use Rattle.compile_emit.proofs.declare.Goals as goal

pub loop-i-init : goal.loop-i-init
loop-i-init c =
    let a = c.args in (
      rw (sub-zero a.count),
      rw (sub-zero a.count, add-zero a.at),
      rw (sub-zero a.count, add-zero a.at),
      rw (sub-zero a.count) c.requires.2,
      refl,
      refl,
    )

pub declare_one-requires : goal.declare_one-requires
declare_one-requires c =
    let a = c.args in
    let w = c.loop-i in let s = part-from a.part.now (8 * w.i) in (
      rw s (omega (arith, length-drop (8 * w.i) a.part.now, c.requires.0)),
      rw s (fits-before (length w.out) (later-head (drop (8 * (w.i + 1)) a.part.now) (a.count - (w.i + 1))
          (cursor_declared (half_at (drop (8 * w.i) a.part.now) 0) w.p)) (rw (cursors-step a.part.now a.count w.i w.p (omega arith)) at w.invariant.3)),
    )

pub finish-p-requires : goal.finish-p-requires
finish-p-requires c =
    let a = c.args in
    let w = c.loop-i in let s = part-from a.part.now (8 * w.i) in
    let q : c.declare_one.result ≡ cursor_declared (half_at (drop (8 * w.i) a.part.now) 0) w.p =
    rw s at c.declare_one.ensures.0 in let f : Fits (cursor_declared (half_at (drop (8 * w.i) a.part.now) 0) w.p)
    (length w.out) = fits-before (length w.out) (later-head (drop (8 * (w.i + 1)) a.part.now) (a.count - (w.i + 1))
    (cursor_declared (half_at (drop (8 * w.i) a.part.now) 0) w.p)) (rw (cursors-step a.part.now a.count w.i w.p (omega arith)) at
    w.invariant.3) in (omega (arith, w.invariant.5), rw q f.address-small)

pub loop-i-preserved : goal.loop-i-preserved
loop-i-preserved c =
    let a = c.args in
    let w = c.loop-i in
    let s = part-from a.part.now (8 * w.i) in let q : c.declare_one.result
    ≡ cursor_declared (half_at (drop (8 * w.i) a.part.now) 0) w.p = rw s at c.declare_one.ensures.0 in
    let o : c.declare_one.new.out
    ≡ emit_declared (half_at (drop (8 * w.i) a.part.now) 0) (half_at (drop (8 * w.i) a.part.now) 2) (get_or a.known.now (a.at + w.i) 0)
    w.p w.out = rw (s, c.known_at-k.ensures) at
    c.declare_one.ensures.1 in
    let m : length c.declare_one.new.out ≡ length w.out = ap (length {A = ℕ}) o ∙ length_declared _ _ _ w.p w.out in
    let r : c.finish-p.result ≡ cursor_declared (half_at (drop (8 * w.i) a.part.now) 0) w.p = c.finish-p.ensures.0 ∙ q in
    let t : c.finish-p.new.ends ≡ set w.ends (a.at + w.i)
    (cursor_declared (half_at (drop (8 * w.i) a.part.now) 0) w.p).address = rw q at c.finish-p.ensures.1 in (
      rw r (w.invariant.0 ∙ cursors-step a.part.now a.count w.i w.p (omega arith)),
      rw (r, o) (w.invariant.1 ∙ emits-step a.part.now a.count w.i w.p (omega arith) a.known.now a.at w.out),
      rw (r, t) (w.invariant.2 ∙ finishes-step a.part.now a.count w.i w.p (omega arith) w.ends a.at),
      rw (r, m) (rw (cursors-step a.part.now a.count w.i w.p (omega arith)) at w.invariant.3),
      m ∙ w.invariant.4,
      ap (length {A = ℕ}) t ∙ (length-set {A = ℕ} w.ends (a.at + w.i) (cursor_declared (half_at (drop (8 * w.i) a.part.now) 0) w.p).address ∙ w.invariant.5),
    )

pub returns : goal.returns
returns c = let a = c.args in let w = c.loop-i in let z : a.count - w.i ≡ 0 = omega arith in
    let k = heads-none (drop (8 * w.i) a.part.now) a.known.now w.ends w.out (a.at + w.i) (a.count - w.i) w.p z in
    (sym (w.invariant.0 ∙ k.0), sym (w.invariant.1 ∙ k.1), sym (w.invariant.2 ∙ k.2))
