-- Which kinds are statements and which are expressions, and what the operands of each are read as. `sorts` says it once for all readers.
use Rattle.std.specs.Prelude.{Bool, ◌||◌, List, [], ◌∷◌, ◌++◌, ℕ, ◌/◌, ◌%◌, eqb, replicate}
use Rattle.logic.specs.Choice.{If◌then◌else◌}
use Rattle.table_read.specs.declared.kinds.Sort.{Sort}
use Rattle.table_read.specs.declared.kinds.Sort.TheVariants.{Typed, Decl, Part, Stmt, Target, Expr}

unfoldable pub is_s : ℕ → Bool
is_s k =
    eqb k 1 || (eqb k 21 || (eqb k 22 || (eqb k 23 || (eqb k 24
    || (eqb k 25 || (eqb k 26 || (eqb k 27 || (eqb k 28 || (eqb k 30 || eqb k 31)))))))))

unfoldable pub is_e : ℕ → Bool
is_e k =
    eqb k 40 || (eqb k 41 || (eqb k 42 || (eqb k 43 || (eqb k 44 || (eqb k 45
    || (eqb k 46 || (eqb k 47 || (eqb k 48 || (eqb k 49 || (eqb k 50 || (eqb k 51 || eqb k 53)))))))))))

-- the kinds that have no operands
unfoldable pub is_leaf : ℕ → Bool
is_leaf k = eqb k 10 || (eqb k 14 || (eqb k 20 || (eqb k 25 || (eqb k 40 || (eqb k 41 || (eqb k 42 || (eqb k 43 || eqb k 44)))))))

-- "its body: S when result is 0, E when result is 1, 2 or 3"
abbrev pub body_sort : ℕ → Sort
body_sort r = If eqb r 0 then Stmt else Expr

-- of an entry of kind k with a, and with b at n from 0
unfoldable pub sorts : ℕ → ℕ → ℕ → List Sort
sorts k a n =
    If eqb k 1 then replicate a Decl ++ replicate n Part else
    If eqb k 11 then replicate n Typed else
    If eqb k 12 then replicate (n / 256) Typed ++ (body_sort (n % 256) ∷ []) else
    If eqb k 21 then Target ∷ Expr ∷ [] else
    If eqb k 22 then Expr ∷ Stmt ∷ [] else
    If eqb k 23 then Expr ∷ Stmt ∷ Stmt ∷ [] else
    If eqb k 24 then Expr ∷ Stmt ∷ [] else
    If eqb k 26 then Expr ∷ [] else
    If eqb k 27 then replicate n Expr else
    If eqb k 28 then Expr ∷ Expr ∷ [] else
    If eqb k 30 then Expr ∷ replicate a Stmt else
    If eqb k 31 then Expr ∷ Expr ∷ Expr ∷ Stmt ∷ [] else
    If eqb k 45 then replicate n Expr else
    If eqb k 46 then Expr ∷ [] else
    If eqb k 47 then replicate n Expr else
    If eqb k 48 then Expr ∷ [] else
    If eqb k 49 then Expr ∷ Expr ∷ [] else
    If eqb k 50 then Expr ∷ Expr ∷ Expr ∷ [] else
    If eqb k 51 then Expr ∷ [] else
    If eqb k 53 then replicate a Decl ++ (replicate n Part ++ (Expr ∷ [])) else []
