-- Null, and the ops that load and store a cell: at each exit, what was tested gives what the definition gives.
use mathlib.Core.Path.{◌≡◌}
use mathlib.Core.List.{List}
use Prim.Native.Nat.{ℕ, ◌+◌, ◌<◌, ◌≤◌}
use Rattle.std.specs.Prelude.{Option, Some, None}
use borrow.Author.Tests.{eq-eqb, lt-ltb, le-ltb}
use Rattle.words.specs.Numbers.{byte_at}
use Rattle.load_places.specs.Records.{classes, body_place}
use Rattle.load_places.specs.Rules.{bad, push, pop, op_null, owner_body, op_load, op_store}
use Rattle.load_rules.specs.Paired.{cell_type}
use Rattle.load_rules.proofs.Chains.{given, given-needs}

module _ (l : List ℕ) (a b h : ℕ) (s : List ℕ) (z : b ≡ 0) where
  pub null-over : classes l ≤ a → bad ≡ op_null l a b h s
  unfolding op_null
  null-over p = rw (eq-eqb b 0 z, le-ltb a (classes l) p)

  pub null-goes : a < classes l → (t : ℕ) → t ≡ 16 + a → push t h s ≡ op_null l a b h s
  unfolding op_null
  null-goes p t e = rw (eq-eqb b 0 z, lt-ltb a (classes l) p, e)

-- the type of a cell
module _ (l : List ℕ) (k a b : ℕ) where
  pub cell-far : 2 ≤ a → None ≡ cell_type l k a b
  unfolding cell_type
  cell-far p = rw (le-ltb a 2 p)

  module _ (z : a < 2) (o : ℕ) (x : o ≡ owner_body k a) (q : ℕ) (e : q ≡ body_place l o) (n : ℕ) (d : n ≡ byte_at l (q + 6)) where
    pub cell-over : n ≤ b → None ≡ cell_type l k a b
    unfolding cell_type
    cell-over p = rw (lt-ltb a 2 z, ← x, ← e, ← d, le-ltb b n p)

    pub cell-there : b < n → Some (byte_at l (q + 7 + b)) ≡ cell_type l k a b
    unfolding cell_type
    cell-there p = rw (lt-ltb a 2 z, ← x, ← e, ← d, lt-ltb b n p)

  -- the op on the cell, from its type
  module _ (h : ℕ) (s : List ℕ) (o : Option ℕ) (e : o ≡ cell_type l k a b) where
    pub loads : given o (λ t. push t h s) ≡ op_load l k a b h s
    unfolding cell_type op_load
    loads = rw e (given-needs _ _ _ (λ t. push t h s))

    pub stores : given o (λ t. pop t h s) ≡ op_store l k a b h s
    unfolding cell_type op_store
    stores = rw e (given-needs _ _ _ (λ t. pop t h s))
