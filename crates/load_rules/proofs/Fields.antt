-- The ops on records: at each exit, what was tested gives what the definition gives.
use mathlib.Core.Path.{◌≡◌}
use mathlib.Core.List.{List}
use Prim.Native.Nat.{ℕ, ◌+◌, ◌<◌, ◌≤◌}
use Rattle.std.specs.Prelude.{Option, Some, None}
use borrow.Author.Tests.{eq-eqb, lt-ltb, le-ltb}
use Rattle.words.specs.Numbers.{byte_at}
use Rattle.load_places.specs.Records.{classes, class_place}
use Rattle.load_places.specs.Rules.{Flow, bad, push, pop, chain, takes, trade1, op_make, op_get_field, op_put_field}
use Rattle.load_rules.specs.Paired.{field_type}
use Rattle.load_rules.proofs.Chains.{given, given-needs}

module _ (l : List ℕ) (a b h : ℕ) (s : List ℕ) (z : b ≡ 0) where
  pub make-over : classes l ≤ a → bad ≡ op_make l a b h s
  unfolding op_make
  make-over p = rw (eq-eqb b 0 z, le-ltb a (classes l) p)

  pub make-goes : a < classes l → (q : ℕ) → q ≡ class_place l a → (m : ℕ) → m ≡ byte_at l (q + 2) → (X : Flow) → X ≡ takes l (q + 3) m h s → (t : ℕ)
      → t ≡ 16 + a → chain X (λ g r. push t g r) ≡ op_make l a b h s
  unfolding op_make
  make-goes p q e m d X x t y = rw (eq-eqb b 0 z, lt-ltb a (classes l) p, ← e, ← d, ← x, y)

-- the type of a field
module _ (l : List ℕ) (a b : ℕ) where
  module _ (n : ℕ) (c : n ≡ classes l) where
    pub field-none : n ≤ a → None ≡ field_type l a b
    unfolding field_type
    field-none p = rw (← c, le-ltb a n p)

    module _ (p : a < n) (q : ℕ) (e : q ≡ class_place l a) (m : ℕ) (d : m ≡ byte_at l (q + 2)) where
      pub field-over : m ≤ b → None ≡ field_type l a b
      unfolding field_type
      field-over r = rw (← c, lt-ltb a n p, ← e, ← d, le-ltb b m r)

      pub field-there : b < m → Some (byte_at l (q + 3 + b)) ≡ field_type l a b
      unfolding field_type
      field-there r = rw (← c, lt-ltb a n p, ← e, ← d, lt-ltb b m r)

  -- the op on the field, from its type
  module _ (h : ℕ) (s : List ℕ) (o : Option ℕ) (e : o ≡ field_type l a b) (u : ℕ) (y : u ≡ 16 + a) where
    pub gets : given o (λ t. trade1 u t h s) ≡ op_get_field l a b h s
    unfolding field_type op_get_field
    gets = rw (e, y) (given-needs _ _ _ (λ t. trade1 (16 + a) t h s))

    pub puts : given o (λ t. chain (pop t h s) (λ g r. pop u g r)) ≡ op_put_field l a b h s
    unfolding field_type op_put_field
    puts = rw (e, y) (given-needs _ _ _ (λ t. chain (pop t h s) (λ g r. pop (16 + a) g r)))
