-- Every table keeps its answer: whatever has the clauses of the former definition is the lookup by steps, on every chain of scopes.
use Rattle.std.specs.Prelude.{◌≡◌, ℕ}
use Rattle.std.proofs.Common.{ap, sym, ◌∙◌}
use mathlib.Core.List.{List, [], ◌∷◌}
use Rattle.language.specs.Names.{Definition, Scope, in_block, in_expression, in_procedure, in_loop, Found, nowhere, first_of, otherwise, across}
use Rattle.language.specs.Names.{lookup}
use Rattle.language_laws.specs.Lookup.{lookup-none, lookup-block, lookup-expression, lookup-procedure, lookup-loop, Former}

-- nothing lies around the root
pub lookup-root : (a : ℕ) (ds : List Definition) → lookup a (in_block ds ∷ []) ≡ otherwise (first_of a ds) nowhere
lookup-root a ds = lookup-block a ds [] ∙ ap (otherwise (first_of a ds)) (lookup-none a)

pub unchanged : {f : ℕ → List Scope → Found} → Former f → (a : ℕ) (ss : List Scope) → lookup a ss ≡ f a ss
unchanged h a [] = lookup-none a ∙ sym (h.at_none a)
unchanged h a (in_block ds ∷ ss) = lookup-block a ds ss ∙ ap (otherwise (first_of a ds)) (unchanged h a ss) ∙ sym (h.at_block a ds ss)
unchanged h a (in_expression ds ∷ ss) = lookup-expression a ds ss ∙ ap (λ x. otherwise (first_of a ds) (across x)) (unchanged h a ss) ∙ sym (h.at-expression a ds ss)
unchanged h a (in_procedure xs ∷ ss) = lookup-procedure a xs ss ∙ ap (λ x. otherwise (first_of a xs) (across x)) (unchanged h a ss) ∙ sym (h.at-procedure a xs ss)
unchanged h a (in_loop d ∷ ss) = lookup-loop a d ss ∙ ap (otherwise (first_of a (d ∷ []))) (unchanged h a ss) ∙ sym (h.at-loop a d ss)

pub former : Former lookup
former = record { at_none = lookup-none; at_block = lookup-block; at-expression = lookup-expression; at-procedure = lookup-procedure; at-loop = lookup-loop }
