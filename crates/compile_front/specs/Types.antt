-- The bytes of the types of entries, in the table's order: a variable, parameter or field has the type that it declares, a case is an integer's, and a for has
-- three integers.
use Rattle.std.specs.Prelude.{◌≡◌, Bool, true, false, ℕ, ◌+◌, eqb, nat_abs, length}
use Rattle.std.proofs.Math.Path.{refl, ap}
use Rattle.std.proofs.Common.{◌∙◌}
use mathlib.Core.List.{List, [], ◌∷◌, ◌++◌}
use native.Mathlib.Omega.{arith}
use Rattle.logic.specs.Choice.{If◌then◌else◌}
use Rattle.language.specs.Table.{Entry}
use Rattle.compile_symbols.specs.Numbers.{byte_of, cells_within}

-- an entry's, if it has any, before others; cs are the names of the classes
abbrev pub type_of : List ℕ → Entry → List ℕ → List ℕ
type_of cs e l =
    If eqb e.kind 10 then byte_of cs (nat_abs e.b) ∷ l else If eqb e.kind 30 then 1 ∷ l else If eqb e.kind 31 then 1 ∷ 1 ∷ 1 ∷ l else l

unfoldable pub types_of : List ℕ → List Entry → List ℕ → List ℕ
types_of cs [] l = l
types_of cs (e ∷ es) l = type_of cs e (types_of cs es l)

module _ (cs : List ℕ) where
  pub types-append : (us vs : List Entry) (l : List ℕ) → types_of cs (us ++ vs) l ≡ types_of cs us (types_of cs vs l)
  unfolding types_of
  types-append [] vs l = refl
  types-append (u ∷ us) vs l = ap (type_of cs u) (types-append us vs l)

  type-end : (a b c : Bool) (x : ℕ) (m l : List ℕ)
      → (If a then x ∷ (m ++ l) else If b then 1 ∷ (m ++ l) else If c then 1 ∷ 1 ∷ 1 ∷ (m ++ l) else (m ++ l))
      ≡ (If a then x ∷ m else If b then 1 ∷ m else If c then 1 ∷ 1 ∷ 1 ∷ m else m) ++ l
  type-end true b c x m l = refl
  type-end false true c x m l = refl
  type-end false false true x m l = refl
  type-end false false false x m l = refl

  pub types-end : (us : List Entry) (l : List ℕ) → types_of cs us l ≡ types_of cs us [] ++ l
  unfolding types_of
  types-end [] l = refl
  types-end (u ∷ us) l = ap (type_of cs u) (types-end us l) ∙ type-end (eqb u.kind 10) (eqb u.kind 30) (eqb u.kind 31) (byte_of cs (nat_abs u.b)) (types_of cs us []) l

  type-length : (a b c : Bool) (x : ℕ) (m : List ℕ)
      → length (If a then x ∷ m else If b then 1 ∷ m else If c then 1 ∷ 1 ∷ 1 ∷ m else m) ≡ (If a then 1 else If b then 1 else If c then 3 else 0) + length m
  type-length true b c x m = omega arith
  type-length false true c x m = omega arith
  type-length false false true x m = omega arith
  type-length false false false x m = omega arith

  -- as many as there are cells
  pub types-length : (us : List Entry) (l : List ℕ) → length (types_of cs us l) ≡ cells_within us + length l
  unfolding types_of cells_within
  types-length [] l = omega arith
  types-length (u ∷ us) l = omega (arith, type-length (eqb u.kind 10) (eqb u.kind 30) (eqb u.kind 31) (byte_of cs (nat_abs u.b)) (types_of cs us l), types-length us l)
