-- The root's code: its head, its items, and the releases, one after the other.
use Rattle.std.specs.Prelude.{◌≡◌, ℕ}
use Rattle.std.proofs.Math.Path.{ap}
use Rattle.std.proofs.Common.{◌∙◌}
use mathlib.Core.List.{List, [], ◌∷◌}
use Rattle.language.specs.Tree.{Tree, locals}
use Rattle.language.specs.Limits.{head_holds}
use Rattle.bytecode.specs.Instructions.{own, end}
use Rattle.compile_code.specs.Code.{Code, op, At, at}
use Rattle.compile_code.specs.Compile.{Around, global, labels, code_head, code_items}
use Rattle.compile_code.specs.Encode.{code_root, start_of_root}
use Rattle.compile_output.specs.declared.Cursor.{Cursor}
use Rattle.compile_output.specs.EmitRecord.{moved}
use Rattle.compile_output.specs.EmitCode.{lets, cursor_after, emitted}
use Rattle.compile_scopes.specs.Marks.{open_in}
use Rattle.compile_scopes.specs.HeadOps.{head_ops, head-cursor, head-emitted, holds-open}
use Rattle.compile_scopes.specs.Sight.{start_of_items, around_root}

module _ (t : Tree) where
  abbrev pub root_head : Code
  root_head = head_ops t.head (locals t.head) 0

  abbrev pub root_items : Code
  root_items = code_items t.head t.items (around_root t) [] (start_of_items t)

  abbrev pub root_lets : Code
  root_lets = lets (head_holds (locals t.head))

  module _ (cursor : Cursor) where
    pub root-cursor : cursor_after (code_root t) cursor ≡ moved (cursor_after root_lets (cursor_after root_items (cursor_after root_head cursor)))
    unfolding cursor_after
    root-cursor =
        rw (holds-open (locals t.head))
        (ap moved (head-cursor t.head (global own) (λ Δ q. code_items t.head t.items (labels t.items q.address ∷ Δ) [] q) (locals t.head) (start_of_root t) (at 0 0) cursor))

    pub root-emitted : (l : List ℕ) → let q = cursor_after root_head cursor in let r = cursor_after root_items q in
        emitted (code_root t) cursor l ≡ emitted (op end) (cursor_after root_lets r) (emitted root_lets r (emitted root_items q (emitted root_head cursor l)))
    unfolding cursor_after emitted
    root-emitted l =
        let f : List Around → At → Code = λ Δ q. code_items t.head t.items (labels t.items q.address ∷ Δ) [] q in
        let ds = locals t.head in
        let p = head-cursor t.head (global own) f ds (start_of_root t) (at 0 0) cursor in
        rw (holds-open ds)
        (ap (λ (z : Cursor). emitted (op end) z (emitted (code_head t.head (global own) ds (start_of_root t) (at 0 0) f) cursor l)) p
        ∙ ap (emitted (op end) (cursor_after (lets (open_in ds)) (cursor_after root_items (cursor_after root_head cursor)))) (head-emitted t.head (global own) f ds (start_of_root t) (at 0 0) cursor l))
