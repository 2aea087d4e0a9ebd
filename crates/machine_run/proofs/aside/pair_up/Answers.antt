-- `machine_run::aside::pair_up` meets its contract.
use native.Mathlib.Omega.{arith}
use mathlib.Core.Path.{refl}
use Rattle.machine_run.specs.Aside.{operates, pushes, loads}
use Rattle.machine_run.proofs.aside.pair_up.Goals as goal

pub returns-then-a-ge-UNARY : goal.returns-then-a-ge-UNARY
returns-then-a-ge-UNARY c = (refl, λ e. omega arith)

pub overflow_sub-k : goal.overflow_sub-k
overflow_sub-k c = omega (arith, c.requires.5 c.in-7.is (omega arith))

pub follows-requires : goal.follows-requires
follows-requires c = c.requires.3 c.in-1.is

pub overflow_add-result : goal.overflow_add-result
overflow_add-result c = omega (arith, c.requires.3 c.in-1.is)

pub bounds-code-place : goal.bounds-code-place
bounds-code-place c = omega (arith, c.requires.3 c.in-1.is)

pub returns-then-follows : goal.returns-then-follows
returns-then-follows c =
    let F = c.follows.ensures c.if-follows.true in
    pushes c.in-1.is
    (record { op = F.0; number = refl; low = F.1; allowed = F.2 })
    refl refl refl refl refl refl

pub follows-requires-in-5 : goal.follows-requires-in-5
follows-requires-in-5 c = (c.requires.4 c.in-5.is).0

pub cell_word-right-requires : goal.cell_word-right-requires
cell_word-right-requires c =
    record { long = c.requires.0; place = c.owner-g.ensures.0; slot = (c.requires.4 c.in-5.is).1 }

pub overflow_add-result-then-follows-2 : goal.overflow_add-result-then-follows-2
overflow_add-result-then-follows-2 c = omega (arith, (c.requires.4 c.in-5.is).0)

pub bounds-code-place-then-follows-2 : goal.bounds-code-place-then-follows-2
bounds-code-place-then-follows-2 c = omega (arith, (c.requires.4 c.in-5.is).0)

pub returns-then-follows-2 : goal.returns-then-follows-2
returns-then-follows-2 c =
    let F = c.follows-in-5.ensures c.if-follows-2.true in
    loads c.in-5.is
    (record { op = F.0; number = refl; low = F.1; allowed = F.2 })
    (record { place = c.owner-g.result; own = c.owner-g.ensures.1; roots = c.owner-g.ensures.2; word = c.cell_word-right.ensures })
    refl refl refl refl refl

pub returns-else-a-ge-UNARY : goal.returns-else-a-ge-UNARY
returns-else-a-ge-UNARY c =
    operates c.in-7.is refl (omega arith)
    (record { word = c.operand_word-left.ensures; type = c.operand_type-ty.ensures; bytes = c.pop.ensures; depth = refl })
    refl refl

pub returns-else-follows : goal.returns-else-follows
returns-else-follows c = (refl, λ e. absurd (omega (arith, c.in-1.is)))

pub returns-else-follows-2 : goal.returns-else-follows-2
returns-else-follows-2 c = (refl, λ e. absurd (omega (arith, c.in-5.is)))

pub returns-in_default : goal.returns-in_default
returns-in_default c = (refl, λ e. absurd (c.in_default.in_default-own.rest.0.0.1 e))
