-- A tree without faults is in order for the simulation: every body, by its names.
use Rattle.std.specs.Prelude.{◌≡◌, List, [], ◌∷◌, ℕ}
use Rattle.std.proofs.Math.Option.{some}
use Rattle.std.proofs.Math.ListN.{get_elem?}
use Rattle.language.specs.Tree.{Body, proper, function, Tree, locals}
use Rattle.language.specs.Names.{procedure_of, root_of}
use Rattle.language.specs.Faults.{faults}
use Rattle.compile_code.specs.Compile.{Around, labels, scopes_of, Proc, procs_of}
use Rattle.compile_code.specs.Encode.{start_of_root, around_body}
use Rattle.compile_simulation.specs.Placed.{Fit}
use Rattle.compile_simulation.specs.Calls.{Static}
use Rattle.compile_simulation.specs.Sim.{OkItems, OkBody}
use Rattle.compile_simulation.specs.Root.{OkRoot, at_root}
use Rattle.compile_macro.specs.Built.{shared, setting_of}
use Rattle.compile_names.specs.Globals.{GoodBody, globals-root}
use Rattle.compile_names.specs.Inside.{Inside}
use Rattle.compile_names.specs.Named.{AnyCell, named-items, named-S, named-E}
use Rattle.compile_names.specs.Shared.{alike-start, root_ok, fit-root, static, any-given, entered-shared}
use Rattle.compile_order.specs.Around.{root_scopes, shared_alike, good-globals, good-head, good-procedure, root-inside, root-reached, root-good, body-inside, body-reached}

module _ (t : Tree) (h : faults t ≡ []) where
  module _ (o : ℕ → ℕ → ℕ) where
    -- what the simulation asks at the end of the root's head
    abbrev Entered : List Around → ℕ → Type 0
    Entered Δ n = Fit (setting_of t o) t.head (at_root (setting_of t o) t.head) Δ n × ((x : ℕ) → OkItems t.head t.items (labels t.items x ∷ Δ))

    pub root-named : OkRoot t.head (locals t.head) (start_of_root t) 0 Entered
    root-named = root_ok t.head (root_scopes t) [] (locals t.head) (start_of_root t) (start_of_root t) 0 Entered
        (globals-root t) (good-head t h) (alike-start t.head (root_of t)) (λ Δ n e al. (
          fit-root t.head (setting_of t o) Δ n al,
          λ x. named-items t.head (root_scopes t) (good-globals t h) t.items (labels t.items x ∷ Δ) (root-inside t h AnyCell Δ e x)
              (root-reached t h AnyCell Δ e x) (root-good t h AnyCell Δ e x),
        ))

  pub proc-named : (k : ℕ) (q : Proc) → get_elem? (procs_of t.head) k ≡ some q → OkBody t.head q.body (around_body t q.parameters)
  proc-named k q e = pick q.body (good-procedure t h k q e)
    where
      Γ : List Around
      Γ = around_body t q.parameters

      known : Inside AnyCell t.head Γ
      known = body-inside t h AnyCell q.parameters (any-given q.parameters 0) (entered-shared t.head (locals t.head) 0 (start_of_root t))

      pick : (b : Body) → GoodBody (scopes_of Γ) b → OkBody t.head b Γ
      pick (proper s) g = named-S t.head (root_scopes t) (good-globals t h) s Γ known (body-reached t h AnyCell q.parameters) g
      pick (function u v) g = named-E t.head (root_scopes t) (good-globals t h) v Γ known g.0

  pub proc-static : (q : Proc) → Static t.head (shared t) q.parameters (procedure_of q.parameters)
  proc-static q = let a = shared_alike t in static t.head a.0 (shared t) a.1 q.parameters (procedure_of q.parameters) a.2
