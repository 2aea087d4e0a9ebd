-- The bodies of a tree without faults: each is without faults in the scopes of what lies around it, and there its names are known and its labels reached.
use Rattle.std.specs.Prelude.{◌≡◌, refl, List, [], ◌∷◌, ℕ}
use Rattle.std.proofs.Math.Path.{ap, subst}
use Rattle.std.proofs.Common.{sym, ◌∙◌}
use Rattle.std.proofs.Math.Option.{none, some}
use Rattle.std.proofs.Math.ListN.{get_elem?}
use Rattle.values.specs.Types.{Ty}
use Rattle.language.specs.Tree.{Typed, Decl, declare, holding, Tree, locals}
use Rattle.language.specs.Names.{Scope, procedure_of, root_of}
use Rattle.language.specs.Faults.{faults}
use Rattle.bytecode.specs.Instructions.{Owner, own}
use Rattle.compile_code.specs.Compile.{Around, inside, global, held, labels, scopes_of, bound_at, Proc, procs_of}
use Rattle.compile_code.specs.Encode.{start_of_root, around_body}
use Rattle.compile_macro.specs.Built.{shared}
use Rattle.compile_names.specs.Good.{GoodTyped, GoodHead, GoodItems}
use Rattle.compile_names.specs.Known.{of_root, of_shared, Entered, entered-scopes, Given, scopes-parameters}
use Rattle.compile_names.specs.Labels.{Reached}
use Rattle.compile_names.specs.Globals.{GoodGlobals, GoodBody, good-locals, good-tree, procedure-at}
use Rattle.compile_names.specs.Inside.{Inside, in-labels}
use Rattle.compile_names.specs.Named.{AnyCell}
use Rattle.compile_names.specs.Bodies.{inside-root, reached-root, reached-procedure, inside-procedure}
use Rattle.compile_names.specs.Shared.{Alike, alike-start, alike_all, entered-shared, kept-global}

-- the root's head binds no name as a block does
entered-unbound : (P : Owner → ℕ → Ty → Type 0) (ds : List Decl) (Γ Δ : List Around) (a : ℕ) → Entered P of_root ds Γ Δ → bound_at a Γ ≡ none → bound_at a Δ ≡ none
unfolding Entered bound_at
entered-unbound P [] Γ Δ a e h = ap (bound_at a) e ∙ h
entered-unbound P (declare x ∷ ds) Γ Δ a e h = entered-unbound P ds (global own x.name e.0 ∷ Γ) Δ a e.2 h
entered-unbound P (holding g ∷ ds) Γ Δ a e h = entered-unbound P ds (held g ∷ Γ) Δ a e h

module _ (t : Tree) where
  abbrev pub root_scopes : List Scope
  root_scopes = root_of t ∷ []

  -- the root's variables, in the root and as procedures know them
  pub shared_alike : (Δ : List Around) × (n : ℕ) × Alike t.head Δ (shared t) n
  shared_alike = alike_all t.head (locals t.head) (start_of_root t) (start_of_root t) 0 (alike-start t.head (root_of t))

  shared-scopes : scopes_of (shared t) ≡ root_scopes
  unfolding scopes_of
  shared-scopes = entered-scopes AnyCell of_shared (locals t.head) (start_of_root t) (shared t) (entered-shared t.head (locals t.head) 0 (start_of_root t))

  body-scopes : (xs : List Typed) → scopes_of (around_body t xs) ≡ procedure_of xs ∷ root_scopes
  unfolding scopes_of
  body-scopes xs = scopes-parameters AnyCell xs 0 (inside (procedure_of xs) ∷ shared t) ∙ ap (λ ss. procedure_of xs ∷ ss) shared-scopes

  module _ (h : faults t ≡ []) where
    pub good-globals : GoodGlobals root_scopes [] t.head
    good-globals = (good-tree t h).0

    pub good-head : GoodHead root_scopes [] (locals t.head)
    good-head = good-locals t.head root_scopes [] [] (λ b z. z) good-globals

    module _ (k : ℕ) (q : Proc) (e : get_elem? (procs_of t.head) k ≡ some q) where
      pub good-parameters : GoodTyped (procedure_of q.parameters ∷ root_scopes) [] q.parameters
      good-parameters = (procedure-at t.head root_scopes [] k q good-globals e).0

      pub good-procedure : GoodBody (scopes_of (around_body t q.parameters)) q.body
      good-procedure = subst (λ ss. GoodBody ss q.body) (sym (body-scopes q.parameters)) (procedure-at t.head root_scopes [] k q good-globals e).1

    -- whatever is known of the cells
    module _ (P : Owner → ℕ → Ty → Type 0) where
      -- Δ lies around the root's statements
      module _ (Δ : List Around) (e : Entered P of_root (locals t.head) (start_of_root t) Δ) (x : ℕ) where
        pub root-inside : Inside P t.head (labels t.items x ∷ Δ)
        unfolding bound_at
        root-inside = in-labels P t.head t.items x Δ
            (inside-root P t good-globals of_root Δ (λ a. kept-global t.head a Δ (entered-unbound P (locals t.head) (start_of_root t) Δ a e refl)) e)

        pub root-reached : Reached (labels t.items x ∷ Δ)
        root-reached = reached-root P t good-globals of_root Δ x e

        pub root-good : GoodItems (scopes_of (labels t.items x ∷ Δ)) t.items
        unfolding scopes_of
        root-good = subst (λ ss. GoodItems ss t.items) (sym (entered-scopes P of_root (locals t.head) (start_of_root t) Δ e)) (good-tree t h).1

      pub body-inside : (xs : List Typed) → Given P xs 0 → Entered P of_shared (locals t.head) (start_of_root t) (shared t) → Inside P t.head (around_body t xs)
      body-inside xs g e = inside-procedure P t good-globals xs (shared t) g
          (inside-root P t good-globals of_shared (shared t) (λ a. kept-global t.head a (shared t) (shared_alike.2.unbound-there a)) e)

      pub body-reached : (xs : List Typed) → Reached (around_body t xs)
      body-reached xs = reached-procedure P t good-globals xs (shared t)
