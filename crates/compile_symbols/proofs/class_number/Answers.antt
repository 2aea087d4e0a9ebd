-- The loop's invariant, ClassSoFar: so many classes passed, and the name's number among those that are left, make its number (specs/Classes).
use mathlib.Core.Path.{◌≡◌, sym, ◌∙◌, ap}
use native.Mathlib.Nat.{sub-zero}
use Prim.Native.Nat.{ℕ, ◌+◌, ◌-◌}
use native.Mathlib.Omega.{arith}
use Rattle.compile_symbols.specs.Entries.{one_if, one-few}
use Rattle.compile_symbols.specs.Classes.{class-start, class-within, class-hit, class-next, class-end}
use Rattle.compile_symbols.proofs.class_number.Goals as goal

pub loop-i-init : goal.loop-i-init
loop-i-init c =
    rw (sub-zero c.args.root.now.count) (class-start c.args.name c.requires)

pub names_class-requires : goal.names_class-requires
names_class-requires c =
    omega (arith, (class-within c.requires.tabled c.loop-i.invariant (omega arith)).some, (class-within c.requires.tabled c.loop-i.invariant (omega arith)).within)

pub returns-then-names_class : goal.returns-then-names_class
returns-then-names_class c =
    class-hit c.requires.tabled c.loop-i.invariant (omega arith) (sym c.names_class.ensures ∙ c.if-names_class.true)

pub kind_at-requires : goal.kind_at-requires
kind_at-requires c =
    omega (
      arith,
      (class-within c.requires.tabled c.loop-i.invariant (omega arith)).some,
      (class-within c.requires.tabled c.loop-i.invariant (omega arith)).within,
    )

pub overflow_add-n : goal.overflow_add-n
overflow_add-n c =
    let w = class-within c.requires.tabled c.loop-i.invariant (omega arith) in omega (arith, w.within, one-few c.kind_at.result 11, c.loop-i.invariant.few)

pub size_at-place-requires : goal.size_at-place-requires
size_at-place-requires c =
    let w = class-within c.requires.tabled c.loop-i.invariant (omega arith) in omega (arith, w.some, w.within, w.wide)

pub overflow_add-place : goal.overflow_add-place
overflow_add-place c =
    let w = class-within c.requires.tabled c.loop-i.invariant (omega arith) in omega (arith, w.some, w.within)

pub loop-i-preserved : goal.loop-i-preserved
loop-i-preserved c =
    let fewer : c.args.root.now.count - (c.loop-i.i + 1) ≡ c.args.root.now.count - c.loop-i.i - 1 = omega arith in
    rw fewer (class-next c.requires.tabled c.loop-i.invariant c.one_if-n.result c.size_at-place.result (omega arith)
    (sym c.names_class.ensures ∙ c.if-names_class.false)
    (c.one_if-n.ensures ∙ ap (λ (k : ℕ). one_if k 11) c.kind_at.ensures) c.size_at-place.ensures)

pub returns : goal.returns
returns c = class-end c.requires.tabled c.loop-i.invariant (omega arith)
