-- The whole code is short: at most 22 ops an entry, and a last op for each body, so at most 22 × 2,048 + 64 = 45,120.
use Rattle.std.specs.Prelude.{◌≡◌, ℕ, suc, ◌+◌, ◌*◌, ◌≤◌, length}
use Rattle.std.proofs.Math.Path.{refl, ap}
use Rattle.std.proofs.Common.{◌∙◌}
use mathlib.Core.List.{List, [], ◌∷◌}
use Rattle.std.proofs.Math.Option.{some}
use native.Mathlib.Omega.{arith}
use Rattle.std.proofs.Math.ListN.{get_elem?}
use Rattle.language.specs.Program.{total as sum_of}
use Rattle.language.specs.Tree.{Typed, Decl, declare, holding, Global, local, class, procedure, Tree, locals}
use Rattle.language.specs.Tree.{Body as TreeBody, proper, function}
use Rattle.language.specs.Names.{procedure_of, root_of}
use Rattle.language.specs.Faults.{size_items, size_body, size_global}
use Rattle.language.specs.Limits.{body_usage, root_usage, head_holds, holds_items}
use Rattle.bytecode.specs.Instructions.{own, root}
use Rattle.compile_code.specs.Code.{at, after, At}
use Rattle.compile_code.specs.Compile.{Around, inside, global, labels, scopes_of, passing, the_labels, ops_items, code_head, code_items, Proc, procs_of}
use Rattle.compile_code.specs.Encode.{proc_parts, parts, code_root, code_proc, code_body, parameter_cells, root_variables, start_of_root, around_body}
use Rattle.compile_simulation.specs.Sizes.{len_s, len_e, len_items, len_head}
use Rattle.compile_simulation.specs.Bound.{holds_in, few_head, few_s, few_items, few_e}
use Rattle.compile_macro.specs.Laid.{ops, after-ops, total}

unfoldable size_procs : List Proc → ℕ
size_procs [] = 0
size_procs (q ∷ ps) = size_body q.body + size_procs ps

in-heads : (gs : List Global) → length (locals gs) + size_procs (procs_of gs) ≤ sum_of size_global gs
unfolding locals procs_of size_procs sum_of
in-heads [] = omega arith
in-heads (local d ∷ gs) = let q = in-heads gs in omega arith
in-heads (class c xs ∷ gs) = let q = in-heads gs in omega arith
in-heads (procedure a xs b ∷ gs) = let q = in-heads gs in omega arith

pass-params : (xs : List Typed) (n : ℕ) (Γ : List Around) → passing (parameter_cells xs n Γ) ≡ passing Γ
unfolding parameter_cells passing
pass-params [] n Γ = refl
pass-params (x ∷ xs) n Γ = pass-params xs (suc n) Γ

pass-roots : (ds : List Decl) (n : ℕ) (Γ : List Around) → passing (root_variables ds n Γ) ≡ passing Γ
unfolding root_variables passing
pass-roots [] n Γ = refl
pass-roots (declare x ∷ ds) n Γ = pass-roots ds (suc n) (global root x.name n ∷ Γ)
pass-roots (holding g ∷ ds) n Γ = pass-roots ds n Γ

module _ (t : Tree) where
  none-around : (xs : List Typed) → holds_in (passing (around_body t xs)) ≡ 0
  unfolding passing holds_in
  none-around xs = ap holds_in (pass-params xs 0 (inside (procedure_of xs) ∷ root_variables (locals t.head) 0 (start_of_root t)) ∙ pass-roots (locals t.head) 0 (start_of_root t))

  body-few : (b : TreeBody) (xs : List Typed) (p : At) → (body_usage xs b).holds ≤ 16 → ops (code_body t.head b (around_body t xs) p) ≤ 22 * size_body b
  body-few (proper s) xs p h =
      let z = none-around xs in let q = few_s s (scopes_of (around_body t xs)) (passing (around_body t xs)) (omega arith) in
      let r = len_s t.head s (around_body t xs) [] p in let u = after-ops (code_body t.head (proper s) (around_body t xs) p) p in omega arith
  body-few (function y e) xs p h =
      let z = none-around xs in let q = few_e e (scopes_of (around_body t xs)) (passing (around_body t xs)) (omega arith) in
      let r = len_e t.head e (around_body t xs) [] p in let u = after-ops (code_body t.head (function y e) (around_body t xs) p) p in omega arith

  procs-few : (ps : List Proc) (a : ℕ) → ((k : ℕ) (q : Proc) → get_elem? ps k ≡ some q → (body_usage q.parameters q.body).holds ≤ 16) → total (proc_parts t ps a) ≤ 22 * size_procs ps + length ps
  unfolding proc_parts total size_procs ops
  procs-few [] a f = omega arith
  procs-few (q ∷ ps) a f =
      let z = body-few q.body q.parameters (at a (length q.parameters)) (f 0 q refl) in
      let y = procs-few ps (after (code_proc t q a) (at a 0)).address (λ k r h. f (suc k) r h) in omega arith

  by-global : (a c : ℕ) (Γ : List Around) → (passing (global own a c ∷ Γ) ≡ passing Γ) × (scopes_of (global own a c ∷ Γ) ≡ scopes_of Γ)
  unfolding passing scopes_of
  by-global a c Γ = (refl, refl)

  root-few : head_holds (locals t.head) + holds_items t.items ≤ 16 → ops (code_root t) ≤ 2 * length (locals t.head) + 22 * size_items t.items + 1
  unfolding ops passing scopes_of holds_in
  root-few h =
      let x = code_head t.head (global own) (locals t.head) (start_of_root t) (at 0 0) (λ Δ q. code_items t.head t.items (labels t.items q.address ∷ Δ) [] q) in
      let g = len_head t.head (global own) by-global (locals t.head) (start_of_root t) (at 0 0) (λ Δ q. code_items t.head t.items (labels t.items q.address ∷ Δ) [] q)
      (λ Φ. ops_items t.items (root_of t ∷ []) (the_labels t.items ∷ Φ)) (root_of t ∷ [])
      (λ Δ q e. len_items t.head t.items (labels t.items q.address ∷ Δ) [] q
      ∙ ap (λ z. q.address + ops_items t.items z (the_labels t.items ∷ passing Δ)) e) refl in
      let f = few_head (locals t.head) [] (λ Φ. ops_items t.items (root_of t ∷ []) (the_labels t.items ∷ Φ)) (22 * size_items t.items)
      (holds_items t.items) (λ Φ m. few_items t.items (root_of t ∷ []) (the_labels t.items ∷ Φ) m) (omega arith) in
      let u = after-ops x (at 0 0) in omega arith

  -- "At most 2,048 entries": the sizes count those below the root's own
  pub short : (root_usage t).holds ≤ 16 → ((k : ℕ) (q : Proc) → get_elem? (procs_of t.head) k ≡ some q → (body_usage q.parameters q.body).holds ≤ 16) → length (procs_of t.head) ≤ 63
      → sum_of size_global t.head + size_items t.items ≤ 2048 → total (parts t) ≤ 45120
  unfolding parts total
  short h f n l =
      let a = root-few h in let b = procs-few (procs_of t.head) (after (code_root t) (at 0 0)).address f in let c = in-heads t.head in omega arith
