-- By the kind (specs/Entries): a declared type keeps to the layout, so that its number is small.
use mathlib.Core.Path.{sym, ◌∙◌, ap}
use Prim.Native.Nat.{ℕ}
use native.Mathlib.Omega.{arith}
use Rattle.compile_symbols.specs.Entries.{read-type, number-variable, number-case, number-loop, number-other}
use Rattle.compile_symbols.specs.Tabled.{classes_in}
use Rattle.compile_symbols.specs.Numbers.{byte_of, packed}
use Rattle.compile_symbols.specs.Classes.{classes-few}
use Rattle.compile_symbols.proofs.entry_known.Goals as goal

pub pack-requires : goal.pack-requires
pack-requires c =
    let q = read-type (classes_in c.args.root.now.table.now) c.requires.0.tabled.legible c.args.place c.requires.1
    (sym c.kind_at-kind.ensures ∙ c.in-10.is) in
    omega (arith, q.small, ap (byte_of (classes_in c.args.root.now.table.now)) c.b_at.ensures, classes-few c.requires.0, c.type_byte.ensures)

pub returns-in-10 : goal.returns-in-10
returns-in-10 c =
    let q = read-type (classes_in c.args.root.now.table.now) c.requires.0.tabled.legible c.args.place c.requires.1
    (sym c.kind_at-kind.ensures ∙ c.in-10.is) in
    c.pack.ensures ∙ (ap (λ (w : ℕ). packed w c.args.owner c.args.cell) c.type_byte.ensures
    ∙ sym (number-variable (classes_in c.args.root.now.table.now) c.args.owner c.args.cell c.args.root.now.table.now
    c.args.place c.b_at.result (sym c.kind_at-kind.ensures ∙ c.in-10.is) (q.number ∙ sym c.b_at.ensures)))

pub returns-in-30 : goal.returns-in-30
returns-in-30 c =
    c.pack-in-30.ensures ∙ sym (number-case (classes_in c.args.root.now.table.now) c.args.owner c.args.cell
    c.args.root.now.table.now c.args.place (sym c.kind_at-kind.ensures ∙ c.in-30.is))

pub returns-in-31 : goal.returns-in-31
returns-in-31 c =
    c.pack-in-31.ensures ∙ sym (number-loop (classes_in c.args.root.now.table.now) c.args.owner c.args.cell
    c.args.root.now.table.now c.args.place (sym c.kind_at-kind.ensures ∙ c.in-31.is))

pub returns-in_default : goal.returns-in_default
returns-in_default c =
    sym (number-other (classes_in c.args.root.now.table.now) c.args.owner c.args.cell c.args.root.now.table.now
    c.args.place (λ e. c.in_default.in_default-own.rest.0.0.1 (c.kind_at-kind.ensures ∙ e))
    (λ e. c.in_default.in_default-own.rest.0.1 (c.kind_at-kind.ensures ∙ e)) (λ e. c.in_default.in_default-own.rest.1 (c.kind_at-kind.ensures ∙ e)))
