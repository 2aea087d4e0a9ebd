-- What each definition of a table stands for, by its place, as one number: of its type, and of the operands of the instructions that use it.
use Rattle.std.specs.Prelude.{List, [], ◌∷◌, ◌++◌, map, ℕ, suc, ◌+◌, ◌-◌, ◌*◌, ◌/◌, ◌%◌, eqb, ltb, nat_abs}
use Rattle.language.specs.Program.{flat_typed, flat_decl, flat_items, result_code, flat_body}
use Rattle.logic.specs.Choice.{If◌then◌else◌}
use Rattle.language.specs.Tree.{Typed, Global, local, class, procedure, Tree}
use Rattle.language.specs.Table.{Entry}
use Rattle.compile_code.specs.Compile.{index_of, classes_of, class_names}

-- ── one number of three ──
abbrev pub packed : ℕ → ℕ → ℕ → ℕ
packed t a b = 65536 * t + 256 * a + b

abbrev pub type_in : ℕ → ℕ
type_in k = k / 65536 % 256

abbrev pub first_in : ℕ → ℕ
first_in k = k / 256 % 256

abbrev pub second_in : ℕ → ℕ
second_in k = k % 256

-- ── entries of a body: cs are the names of the classes ──
-- the byte of a declared type
abbrev pub byte_of : List ℕ → ℕ → ℕ
byte_of cs b = If ltb b 65536 then b else 16 + index_of (b - 65536) cs

-- a variable or parameter has a cell, and so has a case: "parameters, variables of all its blocks, one per case"; "Each loop counts three cells." (ticket 1)
abbrev pub cells_of : Entry → ℕ
cells_of e = If eqb e.kind 10 then 1 else If eqb e.kind 30 then 1 else If eqb e.kind 31 then 3 else 0

-- an entry before which its body has n cells; o is whose cell it is (1: the root's). Of a loop's cells it is the first, its value's
abbrev pub number_of : List ℕ → ℕ → ℕ → Entry → ℕ
number_of cs o n e =
    If eqb e.kind 10 then packed (byte_of cs (nat_abs e.b)) o n else
    If eqb e.kind 30 then packed 1 0 n else
    If eqb e.kind 31 then packed 1 0 n else 0

unfoldable pub numbers_from : List ℕ → ℕ → List Entry → List ℕ
numbers_from cs n [] = []
numbers_from cs n (e ∷ es) = number_of cs 0 n e ∷ numbers_from cs (n + cells_of e) es

unfoldable pub cells_within : List Entry → ℕ
cells_within [] = 0
cells_within (e ∷ es) = cells_of e + cells_within es

-- ── the root's head ──
-- the fields of the class k, from the i-th on
unfoldable pub numbers_fields : List ℕ → ℕ → ℕ → List Typed → List ℕ
numbers_fields cs k i [] = []
numbers_fields cs k i (x ∷ xs) = packed (byte_of cs (nat_abs (flat_typed x).b)) k i ∷ numbers_fields cs k (suc i) xs

-- so many cells of the root, classes and bodies stand before
unfoldable pub numbers_globals : List ℕ → ℕ → ℕ → ℕ → List Global → (ℕ → List ℕ) → List ℕ
numbers_globals cs n k b [] f = f n
numbers_globals cs n k b (local d ∷ gs) f = number_of cs 1 n (flat_decl d) ∷ numbers_globals cs (n + cells_of (flat_decl d)) k b gs f
numbers_globals cs n k b (class c xs ∷ gs) f = packed (16 + k) k 0 ∷ (numbers_fields cs k 0 xs ++ numbers_globals cs n (suc k) b gs f)
numbers_globals cs n k b (procedure a xs d ∷ gs) f =
    packed (result_code d) 0 b ∷ (numbers_from cs 0 (map flat_typed xs ++ flat_body d) ++ numbers_globals cs n k (suc b) gs f)

-- of the entries after the root's: its head, its items
abbrev pub numbers_of : Tree → List ℕ
numbers_of t =
    let cs = class_names (classes_of t.head) in
    numbers_globals cs 0 0 1 t.head (λ n. numbers_from cs n (flat_items t.items))
