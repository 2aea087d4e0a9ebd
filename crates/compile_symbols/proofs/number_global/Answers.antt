-- By the kind of the declaration's first entry: global-class, global-procedure, global-local (specs/Entries).
use mathlib.Core.Path.{sym, ◌∙◌, ap}
use Prim.Native.Nat.{ℕ, ◌+◌}
use native.Mathlib.Omega.{arith}
use lib.ListN.{length, length-set}
use lib.Seq.{length-sets}
use Rattle.compile_symbols.specs.Entries.{global-class, global-procedure, global-local}
use Rattle.compile_symbols.specs.Tabled.{classes_in}
use Rattle.compile_symbols.proofs.number_global.Goals as goal

pub number_cells-requires : goal.number_cells-requires
number_cells-requires c =
    let w = c.requires.1 in (
      c.requires.0,
      omega (arith, w.some, c.size_at.ensures),
      omega (arith, w.within, c.size_at.ensures),
      rw (length-set c.args.known.now
          c.args.place)
          (omega (
            arith,
            w.within,
            c.size_at.ensures,
            c.requires.2,
          )),
      c.requires.4,
      omega arith,
    )

pub number_cells-requires-in-12 : goal.number_cells-requires-in-12
number_cells-requires-in-12 c =
    let w = c.requires.1 in (
      c.requires.0,
      omega (arith, w.some, c.size_at.ensures),
      omega (arith, w.within, c.size_at.ensures),
      rw (length-set c.args.known.now
          c.args.place)
          (omega (
            arith,
            w.within,
            c.size_at.ensures,
            c.requires.2,
          )),
      omega arith,
      omega arith,
    )

pub shape_of-known-in-11 : goal.shape_of-known-in-11
shape_of-known-in-11 c = ap length c.number_cells.ensures ∙ simp (length-sets, length-set)

pub returns-in-11 : goal.returns-in-11
returns-in-11 c =
    global-class c.args.root.now.table.now c.args.root.now.sizes.now c.args.place c.requires.1
    (classes_in c.args.root.now.table.now) c.args.known.now c.args.n _ c.pack.result _
    (sym c.kind_at-kind.ensures ∙ c.in-11.is) (ap (λ (m : ℕ). c.args.place + m) c.size_at.ensures)
    c.pack.ensures c.number_cells.ensures

pub shape_of-known-in-12 : goal.shape_of-known-in-12
shape_of-known-in-12 c = ap length c.number_cells-in-12.ensures ∙ simp (length-sets, length-set)

pub returns-in-12 : goal.returns-in-12
returns-in-12 c =
    global-procedure c.args.root.now.table.now
    c.args.root.now.sizes.now
    c.args.place
    c.requires.1
    (classes_in c.args.root.now.table.now)
    c.args.known.now
    c.args.n _
    c.pack-in-12.result _ c.b_at.result
    (sym c.kind_at-kind.ensures
    ∙ c.in-12.is)
    (ap (λ (m : ℕ). c.args.place + m)
    c.size_at.ensures) (omega arith)
    c.b_at.ensures c.pack-in-12.ensures c.number_cells-in-12.ensures

pub returns-in_default : goal.returns-in_default
returns-in_default c =
    global-local c.args.root.now.table.now c.args.root.now.sizes.now c.args.place c.requires.1
    (classes_in c.args.root.now.table.now) c.args.known.now c.args.n c.entry_known.result
    (λ e. c.in_default.in_default-own.rest.0.1 (c.kind_at-kind.ensures ∙ e)) (λ e. c.in_default.in_default-own.rest.1 (c.kind_at-kind.ensures ∙ e))
    c.entry_known.ensures
