-- A tree without faults is in order for the loading rules: every body, by its types.
use Rattle.std.specs.Prelude.{◌≡◌, ℕ, suc, length}
use Rattle.std.proofs.Math.Path.{refl, ap, sym}
use Rattle.std.proofs.Common.{◌∙◌, arith}
use mathlib.Core.List.{List, [], ◌∷◌, ◌++◌, map, append_assoc}
use Rattle.std.proofs.Math.Option.{some}
use Rattle.std.proofs.Math.ListN.{get_elem?, take, length-append}
use Rattle.values.specs.Types.{Ty}
use Rattle.language.specs.Tree.{Typed, Decl, declare, holding, Body, proper, function, Global, Tree, locals}
use Rattle.language.specs.Names.{Scope, types}
use Rattle.language.specs.Faults.{faults}
use Rattle.bytecode.specs.Macro.{Macro}
use Rattle.bytecode.specs.Instructions.{Owner, own, root, body_at, cells_of}
use Rattle.compile_code.specs.Code.{Code, At, at, skip, after, cells_in}
use Rattle.compile_code.specs.Compile.{Around, global, held, labels, scopes_of, Proc, procs_of, code_head, code_items, ty_in}
use Rattle.compile_code.specs.Encode.{root_variables, start_of_root, around_body, code_root, code_proc, proc_part, parts, compiled}
use Rattle.compile_rules.specs.Pass.{Celled, OkHead, OkItems}
use Rattle.compile_macro.specs.Right.{RootOk, OkBodyTy}
use Rattle.compile_macro.specs.Built.{shared, params-length, part-proc, head_of, root-celled}
use Rattle.compile_names.specs.Good.{GoodHead}
use Rattle.compile_names.specs.Known.{of_root, of_shared, Entered, Given}
use Rattle.compile_names.specs.Globals.{GoodBody, GlobalsIn, globals-root}
use Rattle.compile_names.specs.Inside.{Inside}
use Rattle.compile_names.specs.Fitting.{Tabled, CellTy, push_ok, has-type, typed-S, typed-E, typed-items}
use Rattle.compile_order.specs.Around.{root_scopes, good-globals, good-head, good-procedure, root-inside, root-reached, root-good, body-inside, body-reached}

-- ── classes and procedures stand by their numbers ──
take-front : (xs ys : List Ty) → take (length xs) (xs ++ ys) ≡ xs
take-front [] ys = refl
take-front (x ∷ xs) ys = ap (λ l. x ∷ l) (take-front xs ys)

module _ (t : Tree) where
  proc-there : (k : ℕ) (q : Proc) → get_elem? (procs_of t.head) k ≡ some q → (b : ℕ) × (body_at (compiled t) (suc k) ≡ some (proc_part t q b).head)
  unfolding parts
  proc-there k q e = let r = part-proc t (procs_of t.head) (after (code_root t) (at 0 0)).address k q e in (r.0, head_of t (suc k) (proc_part t q r.0) r.1)

  tabled : Tabled (compiled t) t.head
  unfolding compiled
  tabled = record {
    classes-are = refl;
    called = λ k q e. let r = proc-there k q e in let B = (proc_part t q r.0).head in let us = map (ty_in t.head) (types q.parameters) in
        (B, r.1, ap (λ n. take n B.cells) (sym (params-length (ty_in t.head) q.parameters)) ∙ take-front us (cells_in (code_proc t q r.0) []), refl);
  }

-- ── cells: of the root, of parameters, of the root's variables as a procedure finds them ──
module _ (m : Macro) (gs : List Global) where
  root_ok : (tables : Tabled m gs) (ss : List Scope) (seen : List ℕ) (ds : List Decl) (Γ : List Around) (Q : List Around → Type 0) → GlobalsIn gs ss → GoodHead ss seen ds
      → ((Δ : List Around) → Entered (CellTy m 0 gs) of_root ds Γ Δ → Q Δ) → OkHead m 0 gs (global own) ds Γ Q
  unfolding GoodHead Entered OkHead
  root_ok tables ss seen [] Γ Q g h f = f Γ refl
  root_ok tables ss seen (declare x ∷ ds) Γ Q g h f =
      (push_ok m 0 gs tables ss x.type g h.1, λ c e. root_ok tables ss (x.name ∷ seen) ds (global own x.name c ∷ Γ) Q g h.2 (λ Δ r. f Δ (c, e, r)))
  root_ok tables ss seen (holding q ∷ ds) Γ Q g h f = root_ok tables ss seen ds (held q ∷ Γ) Q g h f

  module _ (k : ℕ) where
    get-next : (pre post : List Ty) (t : Ty) → get_elem? (pre ++ (t ∷ post)) (length pre) ≡ some t
    get-next [] post t = refl
    get-next (x ∷ pre) post t = get-next pre post t

    given-typed : (xs : List Typed) (n : ℕ) (pre post : List Ty) → cells_of (body_at m k) ≡ pre ++ (map (ty_in gs) (types xs) ++ post) → length pre ≡ n → Given (CellTy m k gs) xs n
    unfolding Given types
    given-typed [] n pre post e l = tt
    given-typed (x ∷ xs) n pre post e l =
        let u = ty_in gs x.type in let us = map (ty_in gs) (types xs) ++ post in let q = length-append pre (u ∷ []) in (
          ap (λ cs. get_elem? cs n) e ∙ ap (λ i. get_elem? (pre ++ (u ∷ us)) i) (sym l) ∙ get-next pre us u,
          given-typed xs (suc n) (pre ++ (u ∷ [])) post (e ∙ sym (append_assoc pre (u ∷ []) us)) (omega arith),
        )

    shared-typed : (ds : List Decl) (Γ Θ : List Around) (p : At) (f : List Around → At → Code) → Celled m 0 gs (code_head gs (global own) ds Γ p f) p
        → Entered (CellTy m k gs) of_shared ds Θ (root_variables ds p.cell Θ)
    unfolding Celled code_head Entered root_variables after
    shared-typed [] Γ Θ p f c = refl
    shared-typed (declare x ∷ ds) Γ Θ p f c =
        (p.cell, c.0, shared-typed ds (global own x.name p.cell ∷ Γ) (global root x.name p.cell ∷ Θ) (at (suc (suc p.address)) (suc p.cell)) f c.1.1.1)
    shared-typed (holding g ∷ ds) Γ Θ p f c = shared-typed ds (held g ∷ Γ) Θ (skip 1 p) f c.1.0

-- ── the bodies ──
module _ (t : Tree) (h : faults t ≡ []) where
  pub root-typed : RootOk (compiled t) t
  root-typed =
      let m = compiled t in let P = CellTy m 0 t.head in
      root_ok m t.head (tabled t) (root_scopes t) [] (locals t.head) (start_of_root t) (λ Δ. (x : ℕ) → OkItems m 0 t.head t.items (labels t.items x ∷ Δ)) (globals-root t) (good-head t h)
      (λ Δ e x. typed-items m 0 t.head (tabled t) (root_scopes t) (good-globals t h) t.items (labels t.items x ∷ Δ) (root-inside t h P Δ e x)
      (root-reached t h P Δ e x) (root-good t h P Δ e x))

  pub proc-typed : (k : ℕ) (q : Proc) → get_elem? (procs_of t.head) k ≡ some q → OkBodyTy (compiled t) (suc k) t.head q.body (around_body t q.parameters)
  unfolding Celled
  proc-typed k q e = pick q.body (good-procedure t h k q e)
    where
      m : Macro
      m = compiled t

      Γ : List Around
      Γ = around_body t q.parameters

      P : Owner → ℕ → Ty → Type 0
      P = CellTy m (suc k) t.head

      given : Given P q.parameters 0
      given = let r = proc-there t k q e in given-typed m t.head (suc k) q.parameters 0 [] (cells_in (code_proc t q r.0) []) (ap cells_of r.1) refl

      entered : Entered P of_shared (locals t.head) (start_of_root t) (shared t)
      entered =
          shared-typed m t.head (suc k) (locals t.head) (start_of_root t) (start_of_root t) (at 0 0)
          (λ Δ p. code_items t.head t.items (labels t.items p.address ∷ Δ) [] p) (root-celled t).0

      known : Inside P t.head Γ
      known = body-inside t h P q.parameters given entered

      pick : (b : Body) → GoodBody (scopes_of Γ) b → OkBodyTy m (suc k) t.head b Γ
      pick (proper s) g = typed-S m (suc k) t.head (tabled t) (root_scopes t) (good-globals t h) s Γ known (body-reached t h P q.parameters) g
      pick (function u v) g = (typed-E m (suc k) t.head (tabled t) (root_scopes t) (good-globals t h) v Γ known g.0, has-type m (suc k) t.head Γ v u g.1)
