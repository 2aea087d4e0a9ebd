-- The lookup by the steps of section 3 of 000 is the former one, which went from scope to scope and took parameters for a scope of their own: on all
-- that may lie around an entry it has that one's clauses, by which proofs go, and whatever has them is the lookup (`unchanged`). So every table keeps
-- its answer. And it makes no difference whether a block that follows a heading is that one block or stands in a block without names (`apart`, N26).
use Rattle.std.specs.Prelude.{◌≡◌, Bool, false, ℕ}
use Rattle.std.proofs.Math.Path.{refl}
use mathlib.Core.List.{List, [], ◌∷◌}
use Rattle.language.specs.Names.{Definition, Scope, in_block, in_expression, in_procedure, in_loop, Found, nowhere, first_of, otherwise, across, Heading, no_heading, Block}
use Rattle.language.specs.Names.{blocks_from, identify, lookup}

module _ (a : ℕ) where
  pub lookup-none : lookup a [] ≡ nowhere
  unfolding lookup blocks_from identify
  lookup-none = refl

  pub lookup-block : (ds : List Definition) (ss : List Scope) → lookup a (in_block ds ∷ ss) ≡ otherwise (first_of a ds) (lookup a ss)
  unfolding lookup blocks_from identify first_of
  lookup-block ds [] = refl
  lookup-block ds (in_block es ∷ ss) = refl
  lookup-block ds (in_expression es ∷ ss) = refl
  lookup-block ds (in_procedure xs ∷ ss) = refl
  lookup-block ds (in_loop d ∷ ss) = refl

  pub lookup-expression : (ds : List Definition) (ss : List Scope) → lookup a (in_expression ds ∷ ss) ≡ otherwise (first_of a ds) (across (lookup a ss))
  unfolding lookup blocks_from identify first_of
  lookup-expression ds [] = refl
  lookup-expression ds (in_block es ∷ ss) = refl
  lookup-expression ds (in_expression es ∷ ss) = refl
  lookup-expression ds (in_procedure xs ∷ ss) = refl
  lookup-expression ds (in_loop d ∷ ss) = refl

  pub lookup-procedure : (xs : List Definition) (ss : List Scope) → lookup a (in_procedure xs ∷ ss) ≡ otherwise (first_of a xs) (across (lookup a ss))
  unfolding lookup blocks_from identify first_of
  lookup-procedure xs ss = refl

  pub lookup-loop : (d : Definition) (ss : List Scope) → lookup a (in_loop d ∷ ss) ≡ otherwise (first_of a (d ∷ [])) (lookup a ss)
  unfolding lookup blocks_from identify first_of
  lookup-loop d ss = refl

-- the former definition, with a clause for what request 1 added
pub record Former (f : ℕ → List Scope → Found) : Type 0 where
  pub at_none : (a : ℕ) → f a [] ≡ nowhere
  pub at_block : (a : ℕ) (ds : List Definition) (ss : List Scope) → f a (in_block ds ∷ ss) ≡ otherwise (first_of a ds) (f a ss)
  pub at-expression : (a : ℕ) (ds : List Definition) (ss : List Scope) → f a (in_expression ds ∷ ss) ≡ otherwise (first_of a ds) (across (f a ss))
  pub at-procedure : (a : ℕ) (xs : List Definition) (ss : List Scope) → f a (in_procedure xs ∷ ss) ≡ otherwise (first_of a xs) (across (f a ss))
  pub at-loop : (a : ℕ) (d : Definition) (ss : List Scope) → f a (in_loop d ∷ ss) ≡ otherwise (first_of a (d ∷ [])) (f a ss)

-- a block with the heading before it; the same within a block without names, which has the heading
pub apart : (a : ℕ) (ds : List Definition) (closed : Bool) (h : Heading) (bs : List Block)
    → identify a (record { names = ds; closed = closed; heading = h } ∷ bs)
    ≡ identify a (record { names = ds; closed = closed; heading = no_heading } ∷ (record { names = []; closed = false; heading = h } ∷ bs))
unfolding identify first_of
apart a ds closed h bs = refl
