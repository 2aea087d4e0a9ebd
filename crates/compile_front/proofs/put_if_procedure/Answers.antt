-- `compile_front::put_if_procedure` meets its contract.
use mathlib.Core.Path.{refl, sym, ◌∙◌, ap}
use Prim.Native.Nat.{ℕ, ◌+◌}
use native.Mathlib.Omega.{arith}
use lib.ListN.{length}
use Rattle.compile_front.specs.Records.{body-part, body-no, brief-part}
use Rattle.compile_front.specs.Writing.{wrote_as, wrote_nothing, wrote-long}
use Rattle.compile_front.proofs.put_if_procedure.Goals as goal

pub kind_at-requires : goal.kind_at-requires
kind_at-requires c =
    omega (arith, c.requires.1.some, c.requires.1.within)

pub size_at-requires : goal.size_at-requires
size_at-requires c =
    omega (arith, c.requires.1.some, c.requires.1.within, c.requires.1.wide)

pub overflow_add-end : goal.overflow_add-end
overflow_add-end c =
    omega (arith, c.requires.1.within, c.size_at.ensures)

pub put_procedure-requires : goal.put_procedure-requires
put_procedure-requires c =
    let w = c.requires.1 in let b = brief-part c.args.source.now.table.now c.args.source.now.sizes.now c.args.place
    c.requires.1 (c.args.place + c.size_at.result)
    (ap (λ (m : ℕ). c.args.place + m) c.size_at.ensures) c.requires.0.bytes
    (c.requires.2 (sym c.kind_at.ensures ∙ c.if-kind_at-eq-KIND_PROCEDURE.true)) in (
      c.requires.0,
      omega (arith, w.some, c.size_at.ensures),
      omega (arith, w.within, c.size_at.ensures),
      b.0,
      b.1,
      omega (
        arith,
        c.requires.3,
        ap length (body-part c.args.source.now.table.now c.args.source.now.sizes.now c.args.place
            c.requires.1 (c.args.place + c.size_at.result)
            (ap (λ (m : ℕ). c.args.place + m) c.size_at.ensures) c.requires.0.bytes c.args.first
            (sym c.kind_at.ensures ∙ c.if-kind_at-eq-KIND_PROCEDURE.true)),
      ),
    )

pub shape_of-out-then-kind_at-eq-KIND_PROCEDURE : goal.shape_of-out-then-kind_at-eq-KIND_PROCEDURE
shape_of-out-then-kind_at-eq-KIND_PROCEDURE c = wrote-long c.put_procedure.ensures

pub returns-then-kind_at-eq-KIND_PROCEDURE : goal.returns-then-kind_at-eq-KIND_PROCEDURE
returns-then-kind_at-eq-KIND_PROCEDURE c =
    wrote_as c.put_procedure.ensures (sym (body-part c.args.source.now.table.now c.args.source.now.sizes.now
    c.args.place c.requires.1 (c.args.place + c.size_at.result)
    (ap (λ (m : ℕ). c.args.place + m) c.size_at.ensures) c.requires.0.bytes c.args.first
    (sym c.kind_at.ensures ∙ c.if-kind_at-eq-KIND_PROCEDURE.true)))

pub returns : goal.returns
returns c =
    wrote_as (wrote_nothing _ _) (sym (body-no c.args.source.now.table.now c.args.source.now.sizes.now c.args.place
    c.requires.1 _ refl c.args.first (λ e. c.if-kind_at-eq-KIND_PROCEDURE.false (c.kind_at.ensures ∙ e))))
