-- A filter of the innermost block's names: a slot for each remainder by 2,048. A slot of 0 says that the block has no name of its remainder.
use Rattle.std.specs.Prelude.{◌≡◌, refl, Bool, true, false, ◌&&◌, List, ◌∷◌, ℕ, ◌-◌, ◌*◌, ◌%◌, ◌≤◌, ◌<◌, eqb, ltb, length, get_or, set}
use Rattle.std.proofs.Common.{sym, ◌∙◌, arith, length-set, get_or-set_same, get_or-set_other, ne_eqb, eqb-true}
use Rattle.std.proofs.Math.Decide.{ℕ_discrete}
use Rattle.logic.specs.Choice.{If◌then◌else◌}
use Rattle.logic.specs.Tests.{clash}
use Rattle.table_scopes.specs.Environment.{Item, item, here, env_of}
use Rattle.table_scopes.specs.EnvironmentLaws.{here-mark, here-miss, here-none}

-- a filter of another length says nothing
abbrev pub absent_in : List ℕ → ℕ → Bool
absent_in l a = eqb (length l) 2048 && eqb (get_or l (a % 2048) 0) 0

abbrev pub noted : List ℕ → ℕ → List ℕ
noted l a = If eqb (length l) 2048 then set l (a % 2048) 1 else l

-- it is right about a block's names
pub record Covers (l : List ℕ) (v : List Item) : Type 0 where
  pub covers : (a : ℕ) → here a v ≡ true → absent_in l a ≡ false

pub covers-none : (l : List ℕ) (v : List Item) → ¬ (length l ≡ 2048) → Covers l v
covers-none l v h = record { covers = λ a e. rw (ne_eqb _ _ h) }

pub covers-absent : {l : List ℕ} {v : List Item} → Covers l v → (a : ℕ) → absent_in l a ≡ true → here a v ≡ false
covers-absent {l} {v} c a e = go (here a v) refl
  where
    go : (b : Bool) → here a v ≡ b → b ≡ false
    go true h = clash (let z : false ≡ true = sym (c.covers a h) ∙ e in cc)
    go false h = refl

-- ── a name more ──
slot_small : (a : ℕ) → a % 2048 < 2048
slot_small a = omega arith

pub noted-length : (l : List ℕ) (m : ℕ) → length (noted l m) ≡ length l
noted-length l m = go (eqb (length l) 2048)
  where
    go : (b : Bool) → length (If b then set l (m % 2048) 1 else l) ≡ length l
    go true = length-set l (m % 2048) 1
    go false = refl

noted_here : (l : List ℕ) (m : ℕ) → absent_in (noted l m) m ≡ false
noted_here l m = go (eqb (length l) 2048) refl
  where
    go : (b : Bool) → eqb (length l) 2048 ≡ b → absent_in (If b then set l (m % 2048) 1 else l) m ≡ false
    go true e = rw (length-set l (m % 2048) 1, e, get_or-set_same l (m % 2048) 1 0 (omega (arith, eqb-true (length l) 2048 e, slot_small m)))
    go false e = rw e

noted-keeps : (l : List ℕ) (m a : ℕ) → absent_in l a ≡ false → absent_in (noted l m) a ≡ false
noted-keeps l m a h = go (eqb (length l) 2048) refl
  where
    go : (b : Bool) → eqb (length l) 2048 ≡ b → absent_in (If b then set l (m % 2048) 1 else l) a ≡ false
    go false e = rw e
    go true e =
        elim (ℕ_discrete (a % 2048) (m % 2048)) [
          | yes z ↦ rw (length-set l (m % 2048) 1, e, z, get_or-set_same l (m % 2048) 1 0 (omega (arith, eqb-true (length l) 2048 e, slot_small m)))
          | no z ↦ rw (length-set l (m % 2048) 1, e, get_or-set_other l (m % 2048) (a % 2048) 1 0 z) (rw e at h)
        ]

pub covers-push : {l : List ℕ} {v : List Item} (m s n q : ℕ) → Covers l v → Covers (noted l m) (item m s n q ∷ v)
unfolding here
covers-push {l} {v} m s n q c = record { covers = λ a h. go a (ltb 65535 m) refl (eqb m a) refl h }
  where
    go : (a : ℕ) (b : Bool) → ltb 65535 m ≡ b → (d : Bool) → eqb m a ≡ d → (If b then false else If d then true else here a v) ≡ true → absent_in (noted l m) a ≡ false
    go a true x d y h = clash (let z : false ≡ true = h in cc)
    go a false x true y h = rw (← eqb-true m a y) (noted_here l m)
    go a false x false y h = noted-keeps l m a (c.covers a h)

-- ── all names of a block, from the last to the first: it is right about those that are passed ──
pub record CoversBut (l : List ℕ) (v w : List Item) : Type 0 where
  pub covers : (a : ℕ) → here a v ≡ true → here a w ≡ false → absent_in l a ≡ false

pub but-start : (l : List ℕ) (v : List Item) → CoversBut l v v
but-start l v = record { covers = λ a h k. clash (let z : true ≡ false = sym h ∙ k in cc) }

module _ {l : List ℕ} {v : List Item} (env : List ℕ) (i : ℕ) (c : CoversBut l v (env_of env i)) where
  pub but-next : 0 < i → get_or env (4 * (i - 1)) 0 ≤ 65535 → CoversBut (noted l (get_or env (4 * (i - 1)) 0)) v (env_of env (i - 1))
  but-next p s =
      let n = get_or env (4 * (i - 1)) 0 in
      record {
        covers = λ a h k. elim (ℕ_discrete n a) [
          | yes z ↦ rw (← z) (noted_here l n)
          | no z ↦ noted-keeps l n a (c.covers a h (here-miss env a i p s z ∙ k))
        ];
      }

  pub but-mark : 0 < i → 65535 < get_or env (4 * (i - 1)) 0 → Covers l v
  but-mark p s = record { covers = λ a h. c.covers a h (here-mark env a i p s) }

  pub but-none : i ≡ 0 → Covers l v
  but-none z = record { covers = λ a h. c.covers a h (here-none env a i z) }
