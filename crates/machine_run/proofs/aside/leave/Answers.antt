-- `machine_run::aside::leave` meets its contract.
use native.Mathlib.Omega.{arith}
use mathlib.Core.Path.{refl, ap, ◌∙◌}
use mathlib.Core.List.{List}
use Prim.Native.Nat.{ℕ, ◌+◌}
use Rattle.machine_frames.specs.Bytes.{went_to}
use Rattle.machine_run.specs.Aside.{stores, jumps, passes, puts}
use Rattle.machine_run.proofs.aside.leave.Goals as goal

pub put_cell-requires : goal.put_cell-requires
put_cell-requires c =
    record { long = c.requires.0; place = c.owner-g.ensures.0; slot = c.requires.5 c.in-6.is }

pub overflow_cast-b-then-w-eq0 : goal.overflow_cast-b-then-w-eq0
overflow_cast-b-then-w-eq0 c = omega (arith, c.requires.6 c.in-9.is)

pub overflow_cast-result : goal.overflow_cast-result
overflow_cast-result c = omega (arith, c.requires.6 c.in-9.is)

pub returns-then-w-eq0 : goal.returns-then-w-eq0
returns-then-w-eq0 c = jumps c.in-9.is c.if-w-eq0.true c.go_to-then-w-eq0.ensures refl

pub returns-in-6 : goal.returns-in-6
returns-in-6 c =
    stores c.in-6.is c.owner-g.result c.owner-g.ensures.1 c.owner-g.ensures.2
    (c.go_to.ensures ∙ ap (λ (x : List ℕ). went_to x c.args.frame (c.args.address + 1)) c.put_cell.ensures) refl

pub returns-else-w-eq0 : goal.returns-else-w-eq0
returns-else-w-eq0 c = passes c.in-9.is c.if-w-eq0.false c.go_to-in-9.ensures refl

pub returns-in_default : goal.returns-in_default
returns-in_default c = puts c.put_back.ensures.0 c.put_back.ensures.1
