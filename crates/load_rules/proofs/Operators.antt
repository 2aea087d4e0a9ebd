-- The operators: what the test of their number that was made gives.
use mathlib.Core.Path.{◌≡◌}
use mathlib.Core.List.{List}
use Prim.Native.Nat.{ℕ, ◌<◌, ◌≤◌}
use native.Mathlib.Omega.{arith}
use borrow.Author.Tests.{lt-ltb, le-ltb}
use Rattle.load_places.specs.Rules.{bad, need, top_of, trade1, trade2, twofold, operates}

module _ (a h : ℕ) (s : List ℕ) where
  pub operates-none : a < 1 → bad ≡ operates a h s
  unfolding operates
  operates-none p = rw (lt-ltb a 1 p)

  pub operates-sum : 1 ≤ a → a < 6 → trade2 1 1 1 h s ≡ operates a h s
  unfolding operates
  operates-sum p q = rw (le-ltb a 1 p, lt-ltb a 6 q)

  pub operates-order : 6 ≤ a → a < 10 → trade2 1 1 2 h s ≡ operates a h s
  unfolding operates
  operates-order p q = rw (le-ltb a 1 (omega arith), le-ltb a 6 p, lt-ltb a 10 q)

  module _ (t : ℕ) (e : t ≡ top_of s) where
    pub operates-equal : 10 ≤ a → a < 12 → trade2 t t 2 h s ≡ operates a h s
    unfolding operates
    operates-equal p q = rw (le-ltb a 1 (omega arith), le-ltb a 6 (omega arith), le-ltb a 10 p, lt-ltb a 12 q, ← e)

    pub operates-both : 12 ≤ a → a < 14 → need (twofold t) (trade2 t t t h s) ≡ operates a h s
    unfolding operates
    operates-both p q = rw (le-ltb a 1 (omega arith), le-ltb a 6 (omega arith), le-ltb a 10 (omega arith), le-ltb a 12 p, lt-ltb a 14 q, ← e)

    pub operates-not : 22 ≤ a → a < 23 → need (twofold t) (trade1 t t h s) ≡ operates a h s
    unfolding operates
    operates-not p q =
        rw (
          le-ltb a 1 (omega arith),
          le-ltb a 6 (omega arith),
          le-ltb a 10 (omega arith),
          le-ltb a 12 (omega arith),
          le-ltb a 14 (omega arith),
          le-ltb a 16 (omega arith),
          le-ltb a 20 (omega arith),
          le-ltb a 22 p,
          lt-ltb a 23 q,
          ← e,
        )

  pub operates-shift : 14 ≤ a → a < 16 → trade2 3 1 3 h s ≡ operates a h s
  unfolding operates
  operates-shift p q = rw (le-ltb a 1 (omega arith), le-ltb a 6 (omega arith), le-ltb a 10 (omega arith), le-ltb a 12 (omega arith), le-ltb a 14 p, lt-ltb a 16 q)

  pub operates-gap : 16 ≤ a → a < 20 → bad ≡ operates a h s
  unfolding operates
  operates-gap p q = rw (le-ltb a 1 (omega arith), le-ltb a 6 (omega arith), le-ltb a 10 (omega arith), le-ltb a 12 (omega arith), le-ltb a 14 (omega arith), le-ltb a 16 p, lt-ltb a 20 q)

  pub operates-one : 20 ≤ a → a < 22 → trade1 1 1 h s ≡ operates a h s
  unfolding operates
  operates-one p q =
      rw (
        le-ltb a 1 (omega arith),
        le-ltb a 6 (omega arith),
        le-ltb a 10 (omega arith),
        le-ltb a 12 (omega arith),
        le-ltb a 14 (omega arith),
        le-ltb a 16 (omega arith),
        le-ltb a 20 p,
        lt-ltb a 22 q,
      )

  pub operates-past : 23 ≤ a → bad ≡ operates a h s
  unfolding operates
  operates-past p =
      rw (
        le-ltb a 1 (omega arith),
        le-ltb a 6 (omega arith),
        le-ltb a 10 (omega arith),
        le-ltb a 12 (omega arith),
        le-ltb a 14 (omega arith),
        le-ltb a 16 (omega arith),
        le-ltb a 20 (omega arith),
        le-ltb a 22 (omega arith),
        le-ltb a 23 p,
      )
