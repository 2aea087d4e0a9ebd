-- Labels that need no look at the names in sight, one after the other. Assumes nothing.
use mathlib.Core.Path.{◌≡◌, ap, ◌∙◌}
use mathlib.Core.Bool.{Bool, true, false}
use mathlib.Core.List.{List}
use Prim.Native.Nat.{ℕ, suc, ◌+◌, ◌-◌, ◌*◌, ◌/◌, ◌<◌}
use native.Mathlib.Omega.{arith}
use native.Mathlib.Nat.{add-zero}
use lib.ListN.{length, get_or, length-drop}
use Rattle.logic.specs.Tests.{clash}
use Rattle.words.specs.Numbers.{half_at}
use Rattle.table_entries.specs.Entries.{half-part}
use Rattle.table_scopes.specs.Environment.{Item, env_of}
use Rattle.table_scopes.specs.Flaws.{once_flaw, Says}
use Rattle.table_scopes.specs.Items.{kind_at}
use Rattle.table_scopes.specs.Spared.{Free, Spared}
use Rattle.std.specs.Prelude.{Ok}
use Rattle.table_forms.specs.Forms.{StmtForm}
use Rattle.table_forms.specs.Walk.{Asks}
use Rattle.table_forms.specs.Part.{asked}

-- nothing is said
pub unspared : {l : List ℕ} {v : List Item} {p n : ℕ} → Spared false l v p n
unspared = record { free = λ e b. clash (let z : false ≡ true = e in cc) }

pub spared-kept : {b : Bool} {l : List ℕ} {v w : List Item} {p n : ℕ} → w ≡ v → Spared b l v p n → Spared b l w p n
spared-kept e s = rw e s

-- the first of them
pub spared-one : {b : Bool} {l : List ℕ} {v : List Item} {p n : ℕ} → 0 < n → Spared b l v p n → Spared b l v p 1
unfolding Free
spared-one {n = n} h s = record { free = λ t u. let e : n ≡ suc (n - 1) = omega arith in ((rw e at (s.free t u)).0, tt) }

module _ {l part : List ℕ} {nesting at : ℕ} {sizes env : List ℕ} {top : ℕ} (q : Asks StmtForm l part nesting at sizes env top) where
  -- a label has no fault
  pub spared-label : (b : Bool) → Spared b l (env_of env top) at 1 → b ≡ true → half_at part 0 ≡ 20 → Says (Ok 0) (once_flaw (env_of env top) (half_at part 2) at)
  unfolding Free
  spared-label b s t k =
      let whole = q.ready.table.whole in
      let kind : kind_at l at ≡ 20 = rw (whole, half-part l (8 * at) 0, add-zero (8 * at)) at k in
      rw (whole, half-part l (8 * at) 2) ((s.free t q.ready.table.legible.bytes).0 kind)

  -- those after it
  pub spared-next : {b : Bool} {left n : ℕ} {v w : List Item} → 0 < left → n ≡ get_or sizes at 0 → w ≡ v → Spared b l v at left → Spared b l w (at + n) (left - 1)
  unfolding Free
  spared-next {left = left} {n} h k e s =
      let m : left ≡ suc (left - 1) = omega arith in
      let within : at < length l / 8 = omega (arith, (asked q).long, ap length q.ready.table.whole, length-drop (8 * at) l) in
      record { free = λ t u. rw (e, k ∙ q.ready.table.known.sized at within) (rw m at (s.free t u)).1 }
