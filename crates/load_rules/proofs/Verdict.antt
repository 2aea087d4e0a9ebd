-- The verdict from the records and the first fault, and the indexes that it starts with.
use mathlib.Core.Path.{◌≡◌, refl}
use mathlib.Core.Bool.{true}
use mathlib.Core.List.{List}
use Prim.Native.Nat.{ℕ, zero, suc, ◌*◌, ◌<◌, ◌≤◌}
use native.Mathlib.Omega.{arith}
use lib.ListN.{length, get_or, replicate, length-replicate}
use borrow.Author.Tests.{lt-ltb, le-ltb}
use Rattle.load_places.specs.Search.{first}
use Rattle.load_places.specs.Records.{count, bad_head, read_records}
use Rattle.load_places.specs.Rules.{broken, judge, passes, refused}
use Rattle.load_places.specs.Index.{vacant, Ready, Indexed}
use Rattle.load_rules.specs.Moves.{Able}
use Rattle.std.specs.Prelude.{Result, Ok, Err}
use Rattle.load_records.specs.Answer.{read_of}

pub able-ready : (l ix bx cx : List ℕ) (base : ℕ) → Ready l ix bx cx base → count l ≤ 8 * length ix → 64 ≤ length bx → 16 ≤ length cx → Able l ix bx cx
able-ready l ix bx cx base R x y z =
    record {
      shaped = record { well = R.well; ended = R.ended; indexed = R.indexed; long = x };
      bodied = record { well = R.well; of-bodies = R.of-bodies; long = y };
      classed = record { well = R.well; of-classes = R.of-classes; long = z };
    }

-- an index of zeros has the shapes of none
pub zeros-index : (l : List ℕ) (m n : ℕ) → Indexed l (replicate m 0) n 0
zeros-index l m n b h = vacant (go m b) (λ j g. absurd (omega arith))
  where
    go : (m x : ℕ) → ◌≡◌ {A = ℕ} (get_or (replicate m 0) x 0) 0
    go zero x = refl
    go (suc m) zero = refl
    go (suc m) (suc x) = go m x

pub zeros-long : (n m : ℕ) → n ≤ 8 * m → n ≤ 8 * length {A = ℕ} (replicate m 0)
zeros-long n m h = rw (length-replicate {A = ℕ} m 0) h

pub judge-head : (l : List ℕ) → bad_head l ≡ true → refused 8 0 ≡ judge l
unfolding judge read_records
judge-head l h = rw h

module _ (l : List ℕ) (r : Result ℕ ℕ) (e : read_of r ≡ read_records l) where
  pub judge-unread : (k : ℕ) → r ≡ Err k → refused 8 k ≡ judge l
  unfolding judge
  judge-unread k d = rw (← e, d)

  module _ (base : ℕ) (d : r ≡ Ok base) (n : ℕ) (en : n ≡ count l) (a : ℕ) (ea : a ≡ first (broken l) n) where
    pub judge-broken : a < n → refused 9 a ≡ judge l
    unfolding judge
    judge-broken p = rw (← e, d, ← en, ← ea, lt-ltb a n p)

    pub judge-passes : n ≤ a → passes ≡ judge l
    unfolding judge
    judge-passes p = rw (← e, d, ← en, ← ea, le-ltb a n p)
