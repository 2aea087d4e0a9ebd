-- `compile_front::put_if_class` meets its contract.
use mathlib.Core.Path.{refl, sym, ◌∙◌, ap}
use Prim.Native.Nat.{ℕ, ◌+◌}
use native.Mathlib.Omega.{arith}
use lib.ListN.{length}
use Rattle.compile_front.specs.Records.{class-part, class-no}
use Rattle.compile_front.specs.Writing.{wrote_as, wrote_nothing, wrote-long}
use Rattle.compile_front.proofs.put_if_class.Goals as goal

pub kind_at-requires : goal.kind_at-requires
kind_at-requires c =
    omega (arith, c.requires.1.some, c.requires.1.within)

pub size_at-requires : goal.size_at-requires
size_at-requires c =
    omega (arith, c.requires.1.some, c.requires.1.within, c.requires.1.wide)

pub overflow_add-end : goal.overflow_add-end
overflow_add-end c =
    omega (arith, c.requires.1.within, c.size_at.ensures)

pub put_class-requires : goal.put_class-requires
put_class-requires c =
    let w = c.requires.1 in (
      c.requires.0,
      omega (arith, w.some, c.size_at.ensures),
      omega (arith, w.within, c.size_at.ensures),
      omega (
        arith,
        c.requires.2 (sym c.kind_at.ensures ∙ c.if-kind_at-eq-KIND_CLASS.true),
        c.size_at.ensures,
      ),
      omega (
        arith,
        c.requires.3,
        ap length (class-part c.args.source.now.table.now c.args.source.now.sizes.now c.args.place
            c.requires.1 (c.args.place + c.size_at.result)
            (ap (λ (m : ℕ). c.args.place + m) c.size_at.ensures) (sym c.kind_at.ensures ∙ c.if-kind_at-eq-KIND_CLASS.true)),
      ),
    )

pub shape_of-out-then-kind_at-eq-KIND_CLASS : goal.shape_of-out-then-kind_at-eq-KIND_CLASS
shape_of-out-then-kind_at-eq-KIND_CLASS c = wrote-long c.put_class.ensures

pub returns-then-kind_at-eq-KIND_CLASS : goal.returns-then-kind_at-eq-KIND_CLASS
returns-then-kind_at-eq-KIND_CLASS c =
    wrote_as c.put_class.ensures (sym (class-part c.args.source.now.table.now c.args.source.now.sizes.now
    c.args.place c.requires.1 (c.args.place + c.size_at.result)
    (ap (λ (m : ℕ). c.args.place + m) c.size_at.ensures) (sym c.kind_at.ensures ∙ c.if-kind_at-eq-KIND_CLASS.true)))

pub returns : goal.returns
returns c =
    wrote_as (wrote_nothing _ _) (sym (class-no c.args.source.now.table.now c.args.source.now.sizes.now c.args.place
    c.requires.1 _ refl (λ e. c.if-kind_at-eq-KIND_CLASS.false (c.kind_at.ensures ∙ e))))
