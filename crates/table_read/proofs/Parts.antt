-- Whether an entry stands at the start of a part. Assumes nothing.
use mathlib.Core.Path.{◌≡◌, refl}
use mathlib.Core.Bool.{Bool, true, false, ◌&&◌}
use mathlib.Core.List.{List}
use Prim.Native.Nat.{ℕ, ◌≤◌, ◌<◌}
use native.Mathlib.Omega.{arith}
use native.Mathlib.Decide.{dec_le}
use lib.Dec.{eqb}
use lib.ListN.{length}
use Rattle.logic.specs.Tests.{clash, both_right}
use Rattle.language_laws.specs.Claims.{entries_of}
use Rattle.table_entries.specs.Entries.{entries_none}
use Rattle.table_read.specs.Walk.{kind_at, laid_at, stands_at}

-- an entry stands where its fields are read
pub laid-here : (l : List ℕ) → laid_at (entries_of l) ≡ true → 8 ≤ length l
laid-here l h =
    elim (dec_le 8 (length l)) [ yes k ↦ k | no k ↦ clash (let e = entries_none l (omega arith) in let z : false ≡ true = rw e at h in cc) ]

pub stands_here : (k : ℕ) (l : List ℕ) → stands_at k (entries_of l) ≡ true → 8 ≤ length l
stands_here k l t = laid-here l (both_right (eqb (kind_at (entries_of l)) k) (laid_at (entries_of l)) t)

pub unlaid : (l : List ℕ) (k : ℕ) → length l < 8 → false ≡ (eqb (kind_at (entries_of l)) k && laid_at (entries_of l))
unlaid l k h = rw (entries_none l h) (never (eqb 0 k))
  where
    never : (b : Bool) → false ≡ (b && false)
    never true = refl
    never false = refl
