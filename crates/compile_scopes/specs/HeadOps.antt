-- A head under a cursor: its declarations, what stands inside, and the releases, one after the other.
use Rattle.std.specs.Prelude.{◌≡◌, ℕ, suc, ◌+◌, length}
use Rattle.std.proofs.Math.Path.{refl, ap}
use Rattle.std.proofs.Common.{◌∙◌, arith}
use mathlib.Core.List.{List, [], ◌∷◌}
use Rattle.values.specs.Values.{initial}
use Rattle.language.specs.Tree.{Decl, declare, holding, Global}
use Rattle.language.specs.Limits.{head_cells, head_holds}
use Rattle.bytecode.specs.Instructions.{own, push, store, take_hold}
use Rattle.compile_code.specs.Code.{Code, nil, op, ◌▸◌, At, at, skip}
use Rattle.compile_code.specs.Compile.{Around, held, held_in, code_head, ty_in}
use Rattle.compile_output.specs.declared.Cursor.{Cursor}
use Rattle.compile_output.specs.EmitRecord.{moved}
use Rattle.compile_output.specs.EmitCode.{lets, cursor_after, emitted, lets-last, lets-last-emitted}
use Rattle.compile_nodes.specs.Ends.{around_head, at_head}
use Rattle.compile_scopes.specs.Marks.{open_in}

module _ (gs : List Global) where
  -- the declarations of a head before which there are n cells
  unfoldable pub head_ops : List Decl → ℕ → Code
  head_ops [] n = nil
  head_ops (declare x ∷ ds) n = op (push (initial (ty_in gs x.type))) ▸ (op (store own n) ▸ head_ops ds (suc n))
  head_ops (holding g ∷ ds) n = op (take_hold g) ▸ head_ops ds n

  module _ (name : ℕ → ℕ → Around) (f : List Around → At → Code) where
    pub head-cursor : (ds : List Decl) (Γ : List Around) (p : At) (cursor : Cursor)
        → cursor_after (code_head gs name ds Γ p f) cursor ≡ cursor_after (lets (open_in ds)) (cursor_after (f (around_head name ds Γ p) (at_head ds p)) (cursor_after (head_ops ds p.cell) cursor))
    unfolding cursor_after code_head head_ops around_head at_head open_in lets
    head-cursor [] Γ p cursor = refl
    head-cursor (declare x ∷ ds) Γ p cursor = head-cursor ds (name x.name p.cell ∷ Γ) (at (suc (suc p.address)) (suc p.cell)) (moved (moved cursor))
    head-cursor (holding g ∷ ds) Γ p cursor = ap moved (head-cursor ds (held g ∷ Γ) (skip 1 p) (moved cursor)) ∙ lets-last (open_in ds) _

    pub head-emitted : (ds : List Decl) (Γ : List Around) (p : At) (cursor : Cursor) (l : List ℕ)
        → let h = head_ops ds p.cell in let x = f (around_head name ds Γ p) (at_head ds p) in let q = cursor_after h cursor in
        emitted (code_head gs name ds Γ p f) cursor l ≡ emitted (lets (open_in ds)) (cursor_after x q) (emitted x q (emitted h cursor l))
    unfolding cursor_after emitted code_head head_ops around_head at_head open_in lets
    head-emitted [] Γ p cursor l = refl
    head-emitted (declare x ∷ ds) Γ p cursor l = head-emitted ds (name x.name p.cell ∷ Γ) (at (suc (suc p.address)) (suc p.cell)) (moved (moved cursor)) _
    head-emitted (holding g ∷ ds) Γ p cursor l =
        let y = head-emitted ds (held g ∷ Γ) (skip 1 p) (moved cursor) (emitted (op (take_hold g)) cursor l) in
        let z = head-cursor ds (held g ∷ Γ) (skip 1 p) (moved cursor) in
        rw (y, z) (lets-last-emitted (open_in ds) _ _)

  -- the cursor that has written it stands where what is inside begins
  pub head-address : (ds : List Decl) (p : At) (cursor : Cursor) → cursor.address ≡ p.address → (cursor_after (head_ops ds p.cell) cursor).address ≡ (at_head ds p).address
  unfolding cursor_after head_ops at_head
  head-address [] p cursor e = e
  head-address (declare x ∷ ds) p cursor e = head-address ds (at (suc (suc p.address)) (suc p.cell)) (moved (moved cursor)) (omega arith)
  head-address (holding g ∷ ds) p cursor e = head-address ds (skip 1 p) (moved cursor) (omega arith)

-- as many holds more lie around what stands inside
pub head-held : (name : ℕ → ℕ → Around) → ((a n : ℕ) (Γ : List Around) → held_in (name a n ∷ Γ) ≡ held_in Γ) → (ds : List Decl) (Γ : List Around) (p : At)
    → length (held_in (around_head name ds Γ p)) ≡ length (held_in Γ) + open_in ds
unfolding held_in around_head open_in
head-held name k [] Γ p = omega arith
head-held name k (declare x ∷ ds) Γ p =
    head-held name k ds (name x.name p.cell ∷ Γ) (at (suc (suc p.address)) (suc p.cell)) ∙ rw (k x.name p.cell Γ)
head-held name k (holding g ∷ ds) Γ p = omega (arith, head-held name k ds (held g ∷ Γ) (skip 1 p))

pub holds-open : (ds : List Decl) → head_holds ds ≡ open_in ds
unfolding head_holds open_in
holds-open [] = refl
holds-open (declare x ∷ ds) = omega (arith, holds-open ds)
holds-open (holding g ∷ ds) = omega (arith, holds-open ds)

-- and its cells are counted
pub head-cells : (ds : List Decl) (p : At) → (at_head ds p).cell ≡ p.cell + head_cells ds
unfolding at_head head_cells
head-cells [] p = omega arith
head-cells (declare x ∷ ds) p = head-cells ds (at (suc (suc p.address)) (suc p.cell)) ∙ omega arith
head-cells (holding g ∷ ds) p = head-cells ds (skip 1 p) ∙ omega arith
