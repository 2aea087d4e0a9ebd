-- The bytes of a class and of a body, from the entries of their declarations and cases.
use Rattle.std.specs.Prelude.{◌≡◌, ℕ, ◌<◌, length}
use Rattle.std.proofs.Math.Path.{refl, sym}
use Rattle.std.proofs.Common.{ap, ◌∙◌, arith}
use mathlib.Core.List.{List, [], ◌∷◌, ◌++◌, map, append-nil, map-append}
use Rattle.std.proofs.lemmas.List.{length-map}
use Rattle.language.specs.Program.{flat_typed, flat_decl, flat_items, result_code, flat_body}
use Rattle.words.specs.Numbers.{half}
use Rattle.values.specs.Types.{Ty, integer, logical, bits, reference, ty_byte}
use Rattle.language.specs.Tree.{Typed, Body, proper, function, Global, Tree, locals}
use Rattle.language.specs.Names.{types, results}
use Rattle.compile_code.specs.Code.{At, at, cells_in}
use Rattle.compile_code.specs.Compile.{classes_of, class_names, Proc, Around, global, labels, code_items, ty_in}
use Rattle.bytecode.specs.Instructions.{own}
use Rattle.compile_code.specs.Encode.{start_of_root, around_body, code_root, code_body, code_proc, root_part, proc_part, class_bytes, body_bytes, result_byte}
use Rattle.compile_front.specs.Types.{types_of, types-append}
use Rattle.compile_front.specs.Cells.{cell_bytes, cell-bytes, byte-in, head-types, types-S, types-Items, types-E}

-- a BD record, of the bytes of its cells' types
abbrev pub body_of : ℕ → ℕ → ℕ → List ℕ → List ℕ
body_of first parameters result ts = 66 ∷ 68 ∷ (half first ++ (parameters ∷ result ∷ length ts ∷ ts))

-- a CL record
abbrev pub class_of : List ℕ → List ℕ
class_of ts = 67 ∷ 76 ∷ length ts ∷ ts

module _ (gs : List Global) where
  abbrev cs : List ℕ
  cs = class_names (classes_of gs)

  pub typed-bytes : (xs : List Typed) (l : List ℕ) → map ty_byte (map (ty_in gs) (types xs)) ++ l ≡ types_of cs (map flat_typed xs) l
  unfolding types types_of flat_typed
  typed-bytes [] l = refl
  typed-bytes (x ∷ xs) l = rw (byte-in gs x.type) (ap (λ (m : List ℕ). ty_byte (ty_in gs x.type) ∷ m) (typed-bytes xs l))

  pub class-bytes : (xs : List Typed) → class_bytes (map (ty_in gs) (types xs)) ≡ class_of (types_of cs (map flat_typed xs) [])
  class-bytes xs =
      let ts = map (ty_in gs) (types xs) in
      let e : map ty_byte ts ≡ types_of cs (map flat_typed xs) [] = sym (append-nil (map ty_byte ts)) ∙ typed-bytes xs [] in
      let n : length ts ≡ length (types_of cs (map flat_typed xs) []) = sym (length-map ts ty_byte) ∙ ap length e in
      rw (e, n)

  pub body-types : (b : Body) (Γ : List Around) (p : At) (l : List ℕ) → cell_bytes (code_body gs b Γ p) l ≡ types_of cs (flat_body b) l
  unfolding flat_body
  body-types (proper s) Γ p l = types-S gs s Γ [] p l
  body-types (function t e) Γ p l = types-E gs e Γ [] p l

  -- "result 1, 2 or 3", or 0
  pub result-byte : (b : Body) → result_code b < 256 → result_byte (map (ty_in gs) (results b)) ≡ result_code b
  result-byte (proper s) h = refl
  result-byte (function integer e) h = refl
  result-byte (function logical e) h = refl
  result-byte (function bits e) h = refl
  result-byte (function (reference c) e) h = absurd (omega arith)

-- a body by its cells
body-by : (first parameters result : ℕ) (ts : List Ty) (us : List ℕ) → map ty_byte ts ≡ us
    → 66 ∷ 68 ∷ (half first ++ (parameters ∷ result ∷ length ts ∷ map ty_byte ts)) ≡ body_of first parameters result us
body-by first parameters result ts us e = let n : length ts ≡ length us = sym (length-map ts ty_byte) ∙ ap length e in rw (e, n)

module _ (t : Tree) where
  abbrev tcs : List ℕ
  tcs = class_names (classes_of t.head)

  pub root-cells : map ty_byte (cells_in (code_root t) []) ≡ types_of tcs (map flat_decl (locals t.head)) (types_of tcs (flat_items t.items) [])
  unfolding cell_bytes
  root-cells =
      cell-bytes (code_root t) []
      ∙ head-types t.head (global own) (locals t.head) (start_of_root t) (at 0 0) (λ Δ q. code_items t.head t.items (labels t.items q.address ∷ Δ) [] q) (flat_items t.items)
      (λ Δ q l. types-Items t.head t.items (labels t.items q.address ∷ Δ) [] q l) []

  pub root-bytes : body_bytes (root_part t).head ≡ body_of 0 0 0 (types_of tcs (map flat_decl (locals t.head)) (types_of tcs (flat_items t.items) []))
  root-bytes = body-by 0 0 0 (cells_in (code_root t) []) _ root-cells

  pub proc-cells : (q : Proc) (a : ℕ) → map ty_byte (proc_part t q a).head.cells ≡ types_of tcs (map flat_typed q.parameters ++ flat_body q.body) []
  unfolding cell_bytes
  proc-cells q a =
      let us = map (ty_in t.head) (types q.parameters) in
      map-append ty_byte us (cells_in (code_proc t q a) [])
      ∙ (ap (λ (l : List ℕ). map ty_byte us ++ l) (cell-bytes (code_proc t q a) [] ∙ body-types t.head q.body (around_body t q.parameters) (at a (length q.parameters)) [])
      ∙ (typed-bytes t.head q.parameters (types_of tcs (flat_body q.body) [])
      ∙ sym (types-append tcs (map flat_typed q.parameters) (flat_body q.body) [])))

  pub proc-bytes : (q : Proc) (a : ℕ) → result_code q.body < 256
      → body_bytes (proc_part t q a).head ≡ body_of a (length q.parameters) (result_code q.body) (types_of tcs (map flat_typed q.parameters ++ flat_body q.body) [])
  proc-bytes q a h = rw (result-byte t.head q.body h) (body-by a (length q.parameters) (result_code q.body) (proc_part t q a).head.cells _ (proc-cells q a))
