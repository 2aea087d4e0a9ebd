-- The length of the front: 3 bytes a class, 7 a body, and a byte for each declaration and case.
use Rattle.std.specs.Prelude.{◌≡◌, ℕ, ◌+◌, ◌-◌, ◌*◌, ◌/◌, ◌≤◌}
use Rattle.std.proofs.Math.Path.{refl, ap}
use Rattle.std.proofs.Common.{sym, ◌∙◌, arith, take_all}
use mathlib.Core.List.{List, [], ◌∷◌, ◌++◌, map}
use Rattle.std.proofs.Math.ListN.{length, length-append}
use Rattle.std.proofs.lemmas.List.{length-map}
use Rattle.language.specs.Program.{flat_typed, flat_decl, flat_items, flat_body, flat_global, flat_head, flatten}
use Rattle.values.specs.Types.{Ty, ty_byte}
use Rattle.language.specs.Tree.{Typed, Global, local, class, procedure, Tree, locals}
use Rattle.language.specs.Table.{Entry}
use Rattle.language.specs.Names.{types}
use Rattle.language_laws.specs.Claims.{entries_of}
use Rattle.table_entries.specs.Entries.{length-entries}
use Rattle.compile_code.specs.Code.{at, after, cells_in}
use Rattle.compile_code.specs.Compile.{classes_of, class_names, Proc, procs_of, ty_in}
use Rattle.compile_code.specs.Encode.{code_root, code_proc, proc_part, proc_parts, parts, heads_of, field_types, compiled}
use Rattle.compile_bytes.specs.Whole.{front, classes_length, bodies_length, front_length}
use Rattle.compile_symbols.specs.Numbers.{cells_within}
use Rattle.compile_symbols.specs.Tabled.{between}
use Rattle.compile_symbols.specs.Entries.{cells-few, cells-append}
use Rattle.compile_front.specs.Types.{types_of, types-length}
use Rattle.compile_front.specs.Bodies.{root-cells, proc-cells}
use Rattle.compile_front.specs.Front.{Measuring}

cells-most : (us : List Entry) → cells_within us ≤ 3 * length us
unfolding cells_within
cells-most [] = omega arith
cells-most (u ∷ us) = omega (arith, cells-most us, cells-few u.kind)

-- a byte for each cell
count_by : (ts : List Ty) (bs : List ℕ) (n : ℕ) → map ty_byte ts ≡ bs → length bs ≡ n → length ts ≡ n
count_by ts bs n e k = sym (length-map ts ty_byte) ∙ (ap length e ∙ k)

module _ (t : Tree) where
  abbrev cs : List ℕ
  cs = class_names (classes_of t.head)

  field-count : (xs : List Typed) → length (map (ty_in t.head) (types xs)) ≡ cells_within (map flat_typed xs)
  unfolding types cells_within flat_typed
  field-count [] = refl
  field-count (x ∷ xs) = omega (arith, field-count xs)

  proc-count : (q : Proc) (a : ℕ) → length (proc_part t q a).head.cells ≡ cells_within (map flat_typed q.parameters ++ flat_body q.body)
  proc-count q a =
      let us = map flat_typed q.parameters ++ flat_body q.body in
      count_by (proc_part t q a).head.cells (types_of cs us []) (cells_within us) (proc-cells t q a) (types-length cs us [] ∙ omega arith)

  root-count : length (cells_in (code_root t) []) ≡ cells_within (map flat_decl (locals t.head)) + cells_within (flat_items t.items)
  root-count =
      let us = map flat_decl (locals t.head) in let vs = flat_items t.items in
      count_by (cells_in (code_root t) []) (types_of cs us (types_of cs vs [])) (cells_within us + cells_within vs) (root-cells t)
      (types-length cs us (types_of cs vs []) ∙ omega (arith, types-length cs vs []))

  head-length : (gs : List Global) (a : ℕ)
      → 3 * length (classes_of gs) + 7 * length (procs_of gs) + cells_within (flat_head gs)
      ≡ classes_length (field_types t.head (classes_of gs)) + bodies_length (heads_of (proc_parts t (procs_of gs) a)) + cells_within (map flat_decl (locals gs))
  unfolding classes_of procs_of flat_head flat_global field_types heads_of proc_parts classes_length bodies_length locals cells_within
  head-length [] a = refl
  head-length (local d ∷ gs) a = omega (arith, head-length gs a)
  head-length (class c xs ∷ gs) a = omega (arith, head-length gs a, cells-append (map flat_typed xs) (flat_head gs), field-count xs)
  head-length (procedure n xs b ∷ gs) a =
      let q : Proc = record { name = n; parameters = xs; body = b } in
      omega (arith, head-length gs (after (code_proc t q a) (at a 0)).address, cells-append (map flat_typed xs ++ flat_body b) (flat_head gs), proc-count q a)

all-between : (l : List ℕ) → between 0 (length l / 8) (entries_of l) ≡ entries_of l
all-between l = take_all (length l / 8 - 0) (entries_of l) (omega (arith, length-entries (length l / 8) l))

few-heads : (gs : List Global) → length (classes_of gs) + length (procs_of gs) ≤ length (flat_head gs)
unfolding classes_of procs_of flat_head flat_global
few-heads [] = omega arith
few-heads (local d ∷ gs) = omega (arith, few-heads gs)
few-heads (class c xs ∷ gs) = omega (arith, few-heads gs, length-append (map flat_typed xs) (flat_head gs))
few-heads (procedure n xs b ∷ gs) = omega (arith, few-heads gs, length-append (map flat_typed xs ++ flat_body b) (flat_head gs))

module _ {t : Tree} {l : List ℕ} {classes bodies : ℕ} (m : Measuring t l classes bodies) where
  cells-all : cells_within (between 0 (length l / 8) (entries_of l)) ≡ cells_within (flat_head t.head) + cells_within (flat_items t.items)
  unfolding flatten cells_within
  cells-all = ap cells_within (all-between l ∙ m.same) ∙ omega (arith, cells-append (flat_head t.head) (flat_items t.items))

  pub measured : 8 + 3 * classes + 7 * bodies + cells_within (between 0 (length l / 8) (entries_of l)) ≡ length (front (compiled t))
  unfolding compiled parts heads_of bodies_length
  measured =
      omega (arith, cells-all, front_length (compiled t), head-length t t.head (after (code_root t) (at 0 0)).address, root-count t, m.classes-are, m.bodies-are)

  pub few-measured : (classes ≤ 2048) × (bodies ≤ 2049) × (cells_within (between 0 (length l / 8) (entries_of l)) ≤ 6144)
  unfolding flatten
  few-measured =
      let n = length-entries (length l / 8) l in
      let e = ap length m.same in
      let k = few-heads t.head in
      let j = length-append (flat_head t.head) (flat_items t.items) in
      (omega (arith, m.short, m.classes-are), omega (arith, m.short, m.bodies-are), omega (arith, m.short, ap cells_within (all-between l), cells-most (entries_of l)))
