-- What holds of every procedure of a head holds of those that the compiler numbers.
use Rattle.std.specs.Prelude.{◌≡◌, refl, List, [], ◌∷◌, ℕ, zero, suc}
use Rattle.std.proofs.Common.{subst}
use Rattle.std.proofs.Math.Option.{some}
use Rattle.std.proofs.Math.ListN.{get_elem?}
use Rattle.language.specs.Tree.{Typed, Body, Global, local, class, procedure}
use Rattle.language.specs.Formed.{EveryProcedure}
use Rattle.logic.specs.OptionLaws.{never-some, same_some}
use Rattle.compile_code.specs.Compile.{Proc, procs_of}

pub every-numbered : (P : List Typed → Body → Type 0) (gs : List Global) → EveryProcedure gs P
    → (k : ℕ) (q : Proc) → get_elem? (procs_of gs) k ≡ some q → P q.parameters q.body
unfolding procs_of
every-numbered P [] f k q e = never-some e
every-numbered P (local d ∷ gs) f k q e = every-numbered P gs (λ i. f (suc i)) k q e
every-numbered P (class c xs ∷ gs) f k q e = every-numbered P gs (λ i. f (suc i)) k q e
every-numbered P (procedure a xs b ∷ gs) f zero q e = subst (λ (r : Proc). P r.parameters r.body) (same_some e) (f 0 a xs b refl)
every-numbered P (procedure a xs b ∷ gs) f (suc k) q e = every-numbered P gs (λ i. f (suc i)) k q e
