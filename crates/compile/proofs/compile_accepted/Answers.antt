-- `compile_accepted`: the entries are numbered, and the root's names entered (crates/compile_whole/specs/Compiling).
use native.Mathlib.Omega.{arith}
use mathlib.Core.Path.{ap}
use Prim.Native.Nat.{ℕ, ◌+◌}
use Rattle.words.specs.Laws.{Bytes}
use Rattle.table_entries.specs.Sizes.{size_small}
use Rattle.table_forms.specs.Tables.{Counted, root-long, root-reach, root-room}
use Rattle.compile_whole.specs.Compiling.{compile-short, compile-whole, compile-holding, compile-write}
use Rattle.compile.proofs.compile_accepted.Goals as goal

pub a_at-count-requires : goal.a_at-count-requires
a_at-count-requires c =
    let b : Bytes c.args.table.now = λ k. omega (arith, c.shared_slice_known-1.given k) in
    omega (arith, (root-long (compile-whole c.requires b)).0)

pub b_at-items-requires : goal.b_at-items-requires
b_at-items-requires c =
    let b : Bytes c.args.table.now = λ k. omega (arith, c.shared_slice_known-1.given k) in
    omega (arith, (root-long (compile-whole c.requires b)).0)

pub spanned-after-requires : goal.spanned-after-requires
spanned-after-requires c =
    let b : Bytes c.args.table.now = λ k. omega (arith, c.shared_slice_known-1.given k) in
    (c.requires.sized, (root-long (compile-whole c.requires b)).3)

pub overflow_add-after : goal.overflow_add-after
overflow_add-after c =
    let b : Bytes c.args.table.now = λ k. omega (arith, c.shared_slice_known-1.given k) in
    let small = size_small c.args.table.now 1 c.a_at-count.result c.spanned-after.result c.spanned-after.ensures in
    omega (arith, small, compile-short c.requires b)

pub enter_root-top-requires : goal.enter_root-top-requires
enter_root-top-requires c =
    let b : Bytes c.args.table.now = λ k. omega (arith, c.shared_slice_known-1.given k) in
    let whole = compile-whole c.requires b in
    let counted : Counted c.args.table.now c.a_at-count.result c.b_at-items.result (1 + c.spanned-after.result) =
    record { first = c.a_at-count.ensures; second = c.b_at-items.ensures; third = ap (λ (n : ℕ). 1 + n) c.spanned-after.ensures } in
    (c.requires.sized, (root-reach whole counted).0, (root-reach whole counted).1, compile-short c.requires b, root-room whole counted)

pub number_all-n-requires : goal.number_all-n-requires
number_all-n-requires c =
    let b : Bytes c.args.table.now = λ k. omega (arith, c.shared_slice_known-1.given k) in
    let counted : Counted c.args.table.now c.a_at-count.result c.b_at-items.result (1 + c.spanned-after.result) =
    record { first = c.a_at-count.ensures; second = c.b_at-items.ensures; third = ap (λ (n : ℕ). 1 + n) c.spanned-after.ensures } in
    (compile-holding c.requires b counted, c.requires.wide-known)

pub write-requires : goal.write-requires
write-requires c =
    let b : Bytes c.args.table.now = λ k. omega (arith, c.shared_slice_known-1.given k) in
    let counted : Counted c.args.table.now c.a_at-count.result c.b_at-items.result (1 + c.spanned-after.result) =
    record { first = c.a_at-count.ensures; second = c.b_at-items.ensures; third = ap (λ (n : ℕ). 1 + n) c.spanned-after.ensures } in
    (compile-write c.requires b counted c.enter_root-top.ensures c.number_all-n.ensures, omega arith)
