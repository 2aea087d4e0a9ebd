-- Bytes made 0 one after the other.
use mathlib.Core.Path.{◌≡◌, refl}
use mathlib.Core.List.{List}
use Prim.Native.Nat.{ℕ, zero, suc, ◌+◌}
use native.Mathlib.Nat.{add-zero, add-suc, suc-add}
use native.Mathlib.Numerals.{add-one}
use lib.ListN.{set}
use lib.Seq.{sets}
use Rattle.bytecode.specs.State.{zeros}

pub none-cleared : (l : List ℕ) (p : ℕ) → l ≡ sets l p (zeros 0)
unfolding zeros
none-cleared l p = refl

next : (l : List ℕ) (p k : ℕ) → set (sets l p (zeros k)) (p + k) 0 ≡ sets l p (zeros (suc k))
unfolding zeros
next l p zero = rw (add-zero p)
next l p (suc k) = rw (add-suc p k, ← suc-add p k) (next (set l p 0) (suc p) k)

pub one-cleared : (l : List ℕ) (p k : ℕ) → set (sets l p (zeros k)) (p + k) 0 ≡ sets l p (zeros (k + 1))
one-cleared l p k = rw (add-one k) (next l p k)
