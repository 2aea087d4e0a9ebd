-- The bodies of a compiled macro: what is asked of the tree, and that each body's code keeps the loading rules.
use Rattle.std.specs.Prelude.{◌≡◌, ℕ, suc, ◌≤◌}
use Rattle.std.proofs.Math.Path.{refl, ap}
use Rattle.std.proofs.Common.{subst, arith}
use mathlib.Core.List.{List, [], ◌∷◌, map}
use Rattle.std.proofs.Math.Option.{Option, none, some}
use Rattle.std.proofs.Math.ListN.{length}
use Rattle.values.specs.Types.{Ty, sames}
use Rattle.language.specs.Tree.{Typed, Global, Tree, locals}
use Rattle.language.specs.Tree.{Body as TreeBody, proper, function}
use Rattle.language.specs.Names.{procedure_of}
use Rattle.language.specs.Names.{results as results_of}
use Rattle.language.specs.Limits.{body_usage, root_usage, holds_items}
use Rattle.language.specs.Formed.{InLimits}
use Rattle.bytecode.specs.Macro.{Body, Shape, shape, Macro}
use Rattle.bytecode.specs.Instructions.{own, return, procedure_at}
use Rattle.bytecode.specs.Rules.{effect, flow, at_first}
use Rattle.compile_code.specs.Code.{Code, At, at}
use Rattle.compile_code.specs.Compile.{Around, inside, global, labels, held_in, code_items, ty_e, ty_in, Proc}
use Rattle.compile_code.specs.Encode.{code_root, code_proc, code_body, parameter_cells, root_variables, start_of_root, around_body}
use Rattle.compile_rules.specs.Flows.{Goes, Seg, Marks}
use Rattle.compile_rules.specs.Faultless.{shape-refl}
use Rattle.compile_rules.specs.Pass.{Celled, OkHead, OkS, OkItems, OkE, Reaches, quiet-global, pass_head, pass_s, pass_items, pass_e, aims}
use Rattle.compile_macro.specs.Cells.{Cells, Known, cells-head, cells_ok_s, cells_ok_items, cells_ok_e}
use Rattle.compile_macro.specs.Shapes.{Heads, Typed!, mark-head, mark_s, mark_items, mark_e}

-- ── what is asked of the tree, by types and limits ──
abbrev pub OkBodyTy : Macro → ℕ → List Global → TreeBody → List Around → Type 0
OkBodyTy m k gs (proper s) Γ = OkS m k gs s Γ
OkBodyTy m k gs (function t e) Γ = OkE m k gs e Γ × (ty_e gs Γ e ≡ ty_in gs t)

module _ (m : Macro) (t : Tree) where
  -- what holds of the statements, whatever lies around them; their code
  abbrev Statements : List Around → Type 0
  Statements Δ = (x : ℕ) → OkItems m 0 t.head t.items (labels t.items x ∷ Δ)

  abbrev statements : List Around → At → Code
  statements Δ q = code_items t.head t.items (labels t.items q.address ∷ Δ) [] q

  -- the root
  abbrev pub RootOk : Type 0
  RootOk = OkHead m 0 t.head (global own) (locals t.head) (start_of_root t) Statements

  module _ (o : RootOk) (c : Celled m 0 t.head (code_root t) (at 0 0)) where
    pub root-cells-known : Cells (Known m 0 t.head) (code_root t)
    unfolding Celled Cells
    root-cells-known = (
      cells-head m 0 t.head (global own) (locals t.head) (start_of_root t) (at 0 0) Statements statements
          (λ Δ q o' c'. cells_ok_items m 0 t.head t.items (labels t.items q.address ∷ Δ) [] q (o' q.address) c') o c.0,
      tt,
    )

    pub root-marks-known : (H : Heads m) → Marks m 0 (Typed! m 0 t.head H) (code_root t) (at 0 0)
    unfolding Celled Marks
    root-marks-known H = (
      (mark-head m 0 t.head H (global own) (Unit {0}) (locals t.head) (start_of_root t) (at 0 0) Statements statements
          (λ Δ q o' c'. (mark_items m 0 t.head H t.items (labels t.items q.address ∷ Δ) [] q (o' q.address) c' tt, tt)) o c.0).0,
      tt,
    )

    pub root-flows : InLimits (root_usage t) → (Aim : ℕ → Shape → Type 0) → Marks m 0 Aim (code_root t) (at 0 0) → Seg m 0 Aim (code_root t) at_first none
    unfolding Celled Marks Seg held_in Reaches effect flow sames
    root-flows u Aim g =
        let l = u.holds in let n = u.need in (
          some (shape 0 []),
          pass_head m 0 t.head Aim (global own) (quiet-global m 0 t.head Aim) (locals t.head) (start_of_root t) [] [] (at 0 0) Statements statements (holds_items t.items)
              (λ Δ q o' r l' c' g'. pass_items m 0 t.head Aim t.items (labels t.items q.address ∷ Δ) [] q (o' q.address)
              (aims m 0 t.head Aim t.items Δ [] q g', r) l' (omega arith) c' g')
              o tt (omega arith) (omega arith) c.0 g.0,
          (shape 0 [], refl, refl),
        )

  -- a procedure
  reaches-params : (k : ℕ) (Aim : ℕ → Shape → Type 0) (xs : List Typed) (n : ℕ) (ys : List Typed) (Γ : List Around) (ts : List Ty)
      → Reaches m k t.head Aim (parameter_cells xs n (inside (procedure_of ys) ∷ Γ)) ts
  unfolding parameter_cells Reaches
  reaches-params k Aim [] n ys Γ ts = tt
  reaches-params k Aim (x ∷ xs) n ys Γ ts = reaches-params k Aim xs (suc n) ys Γ ts

  -- the k-th, with its code from address a
  module _ (k : ℕ) (q : Proc) (a : ℕ) where
    abbrev Γ : List Around
    Γ = around_body t q.parameters

    abbrev p : At
    p = at a (length q.parameters)

    abbrev code : TreeBody → Code
    code b = code_body t.head b Γ p

    module _ (o : OkBodyTy m (suc k) t.head q.body Γ) (c : Celled m (suc k) t.head (code_proc t q a) p) where
      pub proc-cells-known : Cells (Known m (suc k) t.head) (code_proc t q a)
      unfolding Celled Cells
      proc-cells-known = (go q.body o c.0, tt)
        where
          go : (b : TreeBody) → OkBodyTy m (suc k) t.head b Γ → Celled m (suc k) t.head (code b) p → Cells (Known m (suc k) t.head) (code b)
          go (proper s) o c = cells_ok_s m (suc k) t.head s Γ [] p o c
          go (function u e) o c = cells_ok_e m (suc k) t.head e Γ [] p o.0 c

      pub proc-marks-known : (H : Heads m) → Marks m (suc k) (Typed! m (suc k) t.head H) (code_proc t q a) p
      unfolding Celled Marks
      proc-marks-known H = (go q.body o c.0, tt)
        where
          go : (b : TreeBody) → OkBodyTy m (suc k) t.head b Γ → Celled m (suc k) t.head (code b) p → Marks m (suc k) (Typed! m (suc k) t.head H) (code b) p
          go (proper s) o c = mark_s m (suc k) t.head H s Γ [] p o c tt
          go (function u e) o c = (mark_e m (suc k) t.head H e Γ [] p o.0 c tt).0

      pub proc-flows : held_in Γ ≡ [] → (B : Body) → procedure_at m (suc k) ≡ some B → B.results ≡ map (ty_in t.head) (results_of q.body) → InLimits (body_usage q.parameters q.body)
          → (Aim : ℕ → Shape → Type 0) → Marks m (suc k) Aim (code_proc t q a) p → Seg m (suc k) Aim (code_proc t q a) at_first none
      unfolding Celled Marks Seg effect flow
      proc-flows z B there e u Aim g = go q.body o c.0 e u.holds u.need g.0
        where
          empty : length (held_in Γ) ≡ 0
          empty = ap length z

          go : (b : TreeBody) → OkBodyTy m (suc k) t.head b Γ → Celled m (suc k) t.head (code b) p → B.results ≡ map (ty_in t.head) (results_of b)
              → (body_usage q.parameters b).holds ≤ 16 → (body_usage q.parameters b).need ≤ 32 → Marks m (suc k) Aim (code b) p
              → (h : Option Shape) × Seg m (suc k) Aim (code b) at_first h × ((s : Shape) × (h ≡ some s) × Goes Aim (flow (effect m (suc k) return s) s) none)
          go (proper s) o c e l n g =
              let reach = reaches-params (suc k) Aim q.parameters 0 q.parameters (root_variables (locals t.head) 0 (start_of_root t)) [] in
              let w = pass_s m (suc k) t.head Aim s Γ [] p o reach (omega (arith, empty)) (omega arith) c g in
              (some (shape 0 []), subst (λ i. Seg m (suc k) Aim (code (proper s)) (some (shape i [])) (some (shape i []))) empty w, (shape 0 [], refl, rw (there, e, shape-refl (shape 0 [])) refl))
          go (function u x) o c e l n g =
              let w = pass_e m (suc k) t.head Aim x Γ [] p o.0 (omega (arith, empty)) (omega arith) c g in
              let v = subst (λ i. Seg m (suc k) Aim (code (function u x)) (some (shape i [])) (some (shape i (ty_e t.head Γ x ∷ [])))) empty w in
              let r = shape 0 (ty_in t.head u ∷ []) in
              (some r, subst (λ ty. Seg m (suc k) Aim (code (function u x)) (some (shape 0 [])) (some (shape 0 (ty ∷ [])))) o.1 v, (r, refl, rw (there, e, shape-refl r) refl))
