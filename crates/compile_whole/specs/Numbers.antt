-- What the entries of a table stand for, by its declarations: the numbers of the whole (`numbers_of`) hold those of each body.
use Rattle.std.specs.Prelude.{◌≡◌, length, get_or}
use Rattle.std.proofs.Math.Path.{refl}
use mathlib.Core.List.{List, [], ◌∷◌, ◌++◌, map}
use Prim.Native.Nat.{ℕ, suc, ◌+◌}
use native.Mathlib.Omega.{arith}
use Rattle.std.proofs.Math.ListN.{length-append}
use Rattle.language.specs.Program.{flat_typed, flat_decl, flat_items, flat_body, flat_global, flat_head}
use Rattle.language.specs.Tree.{Typed, Decl, declare, holding, Body, Global, local, class, procedure, Tree, locals}
use Rattle.language.specs.Faults.{size_global}
use Rattle.language.specs.Limits.{head_cells}
use Rattle.table_scopes.specs.Trees.{length-map, length-Body, length-Global}
use Rattle.compile_code.specs.Compile.{classes_of, class_names}
use Rattle.compile_symbols.specs.Numbers.{cells_of, number_of, numbers_from, numbers_fields, numbers_globals, numbers_of}
use Rattle.compile_nodes.specs.Knows.{Lies}
use Rattle.compile_scopes.specs.Lies.{lies-left, lies-right, lies-next, lies-here, lies_at, lies_same}
use Rattle.compile_scopes.specs.Lengths.{length-numbers, numbers-append}
use Rattle.compile_scopes.specs.Cells.{within-typed}
use Rattle.compile_scopes.specs.RootHead.{length_fields}

-- the cells of the root that a declaration adds
abbrev pub cells_global : Global → ℕ
cells_global (local d) = cells_of (flat_decl d)
cells_global (class c xs) = 0
cells_global (procedure a xs b) = 0

module _ (cs : List ℕ) (f : ℕ → List ℕ) where
  -- the numbers of declarations from a place on, before which the root has n cells, and of what is behind them
  pub record Numbers (known : List ℕ) (p n : ℕ) (gs : List Global) : Type 0 where
    pub classes : ℕ
    pub bodies : ℕ
    pub lie : Lies known p (numbers_globals cs n classes bodies gs f)

  module _ {known : List ℕ} {p n : ℕ} where
    pub numbers-next : (g : Global) (gs : List Global) → Numbers known p n (g ∷ gs) → Numbers known (p + size_global g) (n + cells_global g) gs
    unfolding numbers_globals
    numbers-next (local d) gs h = record { classes = h.classes; bodies = h.bodies; lie = lies-next _ _ h.lie }
    numbers-next (class c xs) gs h =
        record {
          classes = suc h.classes;
          bodies = h.bodies;
          lie = rw (let z : n + 0 ≡ n = omega arith in z)
              (lies_at (let k = length_fields cs h.classes 0 xs in omega arith) (lies-right (numbers_fields cs h.classes 0 xs) _ (lies-next _ _ h.lie)));
        }
    numbers-next (procedure a xs b) gs h =
        let us = map flat_typed xs ++ flat_body b in
        record {
          classes = h.classes;
          bodies = suc h.bodies;
          lie = rw (let z : n + 0 ≡ n = omega arith in z)
              (lies_at (omega (arith, length-numbers cs 0 us, length-append (map flat_typed xs) (flat_body b), length-map flat_typed xs, length-Body b))
              (lies-right (numbers_from cs 0 us) _ (lies-next _ _ h.lie)));
        }

    pub numbers-local : (d : Decl) (gs : List Global) → Numbers known p n (local d ∷ gs) → get_or known p 0 ≡ number_of cs 1 n (flat_decl d)
    unfolding numbers_globals
    numbers-local d gs h = lies-here _ _ h.lie

    -- a procedure's parameters and body
    pub numbers-procedure : (a : ℕ) (xs : List Typed) (b : Body) (gs : List Global) → Numbers known p n (procedure a xs b ∷ gs) → Lies known (p + 1) (numbers_from cs 0 (map flat_typed xs ++ flat_body b))
    unfolding numbers_globals
    numbers-procedure a xs b gs h = lies-left (numbers_from cs 0 (map flat_typed xs ++ flat_body b)) _ (lies-next _ _ h.lie)

  pub cells-next : (g : Global) (gs : List Global) → head_cells (locals (g ∷ gs)) ≡ cells_global g + head_cells (locals gs)
  unfolding locals head_cells flat_decl flat_typed
  cells-next (local (declare x)) gs = refl
  cells-next (local (holding g)) gs = refl
  cells-next (class c xs) gs = omega arith
  cells-next (procedure a xs b) gs = omega arith

  pub numbers-behind : {known : List ℕ} (p n : ℕ) (gs : List Global) → Numbers known p n gs → Lies known (p + length (flat_head gs)) (f (n + head_cells (locals gs)))
  unfolding numbers_globals flat_head head_cells locals
  numbers-behind p n [] h = rw (let z : n + 0 ≡ n = omega arith in z) (lies_at (omega arith) h.lie)
  numbers-behind p n (g ∷ gs) h =
      let e : n + cells_global g + head_cells (locals gs) ≡ n + head_cells (locals (g ∷ gs)) = omega (arith, cells-next g gs) in
      let r = numbers-behind (p + size_global g) (n + cells_global g) gs (numbers-next g gs h) in
      lies_at (omega (arith, length-append (flat_global g) (flat_head gs), length-Global g)) (rw e at r)

-- a procedure's body, behind its parameters
pub numbers-body : (cs : List ℕ) {known : List ℕ} (p : ℕ) (xs : List Typed) (b : Body) → Lies known (p + 1) (numbers_from cs 0 (map flat_typed xs ++ flat_body b))
    → Lies known (p + 1 + length xs) (numbers_from cs (length xs) (flat_body b))
numbers-body cs p xs b h =
    let us = map flat_typed xs in
    let k : 0 + length xs ≡ length xs = omega arith in
    lies_at (omega (arith, length-numbers cs 0 us, length-map flat_typed xs))
    (lies-right (numbers_from cs 0 us) _ (rw (within-typed xs, k) at (lies_same (numbers-append cs 0 us (flat_body b)) h)))

-- ── the whole table ──
module _ (t : Tree) where
  abbrev pub classes_by : List ℕ
  classes_by = class_names (classes_of t.head)

  abbrev pub items_by : ℕ → List ℕ
  items_by n = numbers_from classes_by n (flat_items t.items)

  pub numbers-all : {known : List ℕ} → Lies known 1 (numbers_of t) → Numbers classes_by items_by known 1 0 t.head
  numbers-all h = record { classes = 0; bodies = 1; lie = h }

  pub numbers-items : {known : List ℕ} → Lies known 1 (numbers_of t) → Lies known (1 + length (flat_head t.head)) (numbers_from classes_by (head_cells (locals t.head)) (flat_items t.items))
  numbers-items h = rw (let z : 0 + head_cells (locals t.head) ≡ head_cells (locals t.head) = omega arith in z) at (numbers-behind classes_by items_by 1 0 t.head (numbers-all h))
