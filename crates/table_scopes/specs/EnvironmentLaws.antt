-- Laws of the names in sight.
use Rattle.std.proofs.Math.Path.{◌≡◌, refl}
use Rattle.std.proofs.Common.{ap, sym, ◌∙◌, add-one, add-zero, zero-add, inr}
use Rattle.std.specs.Prelude.{Bool, ◌||◌, ℕ, zero, suc, ◌+◌, ◌-◌, ◌*◌, ◌≤◌, ◌<◌, length, get_or}
use Rattle.std.proofs.Math.Bool.{true, false}
use mathlib.Core.List.{List, [], ◌∷◌, ◌++◌}
use native.Mathlib.Omega.{arith}
use Rattle.std.proofs.Math.Decide.{ℕ_discrete}
use Rattle.std.proofs.lemmas.List.Edits.{sets}
use Rattle.std.proofs.Math.Seq.{length-sets}
use Rattle.std.proofs.Math.Dec.{eqb}
use borrow.Author.Tests.{lt-ltb, le-ltb, eq-eqb, ne_eqb, eqb-true}
use Rattle.logic.specs.Choice.{If◌then◌else◌}
use Rattle.words.specs.Laws.{in-sets, out-sets}
use Rattle.table_scopes.specs.Environment.{Item, item, Found, Nothing, Def, name_of, find, here, adding, add_all, env_of, passing, shut, Grown}
use Rattle.logic.specs.Tests.{or-false}

-- ── the item on top ──
pub top-item : (l : List ℕ) (i : ℕ) → 0 < i → env_of l i ≡ item (get_or l (4 * (i - 1)) 0) (get_or l (4 * (i - 1) + 1) 0) (get_or l (4 * (i - 1) + 2) 0) (get_or l (4 * (i - 1) + 3) 0) ∷ env_of l (i - 1)
unfolding env_of
top-item l i h = let e : i ≡ suc (i - 1) = omega arith in ap (λ (m : ℕ). env_of l m) e

passing-passing : (b d : Bool) (f : Found) → passing b (passing d f) ≡ passing (b || d) f
passing-passing true d Nothing = refl
passing-passing true d (Def s n q c) = refl
passing-passing false d Nothing = refl
passing-passing false d (Def s n q c) = refl

pub passing-none : (f : Found) → f ≡ passing false f
passing-none Nothing = refl
passing-none (Def s n q c) = refl

module _ (l : List ℕ) (a i : ℕ) (b : Bool) (h : 0 < i) where
  pub find-hit : get_or l (4 * (i - 1)) 0 ≡ a → passing b (find a (env_of l i)) ≡ Def (get_or l (4 * (i - 1) + 1) 0) (get_or l (4 * (i - 1) + 2) 0) (get_or l (4 * (i - 1) + 3) 0) b
  unfolding find
  find-hit e = rw (top-item l i h, eq-eqb _ _ e, or-false)

  pub find-miss : ¬ (get_or l (4 * (i - 1)) 0 ≡ a) → passing b (find a (env_of l i)) ≡ passing (b || eqb (get_or l (4 * (i - 1)) 0) shut) (find a (env_of l (i - 1)))
  unfolding find
  find-miss e = rw (top-item l i h, ne_eqb _ _ e) (passing-passing b (eqb (get_or l (4 * (i - 1)) 0) shut) (find a (env_of l (i - 1))))

pub find_none : (l : List ℕ) (a i : ℕ) (b : Bool) → i ≡ 0 → passing b (find a (env_of l i)) ≡ Nothing
unfolding find env_of
find_none l a i b e = rw e

module _ (l : List ℕ) (a i : ℕ) (h : 0 < i) where
  pub here-mark : 65535 < get_or l (4 * (i - 1)) 0 → here a (env_of l i) ≡ false
  unfolding here
  here-mark e = rw (top-item l i h, lt-ltb _ _ e)

  pub here-hit : get_or l (4 * (i - 1)) 0 ≤ 65535 → get_or l (4 * (i - 1)) 0 ≡ a → here a (env_of l i) ≡ true
  unfolding here
  here-hit k e = rw (top-item l i h, le-ltb _ _ k, eq-eqb _ _ e)

  pub here-miss : get_or l (4 * (i - 1)) 0 ≤ 65535 → ¬ (get_or l (4 * (i - 1)) 0 ≡ a) → here a (env_of l i) ≡ here a (env_of l (i - 1))
  unfolding here
  here-miss k e = rw (top-item l i h, le-ltb _ _ k, ne_eqb _ _ e)

pub here-none : (l : List ℕ) (a i : ℕ) → i ≡ 0 → here a (env_of l i) ≡ false
unfolding here env_of
here-none l a i e = rw e

-- ── stores ──
below : (l : List ℕ) (i : ℕ) (xs : List ℕ) (j k : ℕ) → j + k < i → get_or (sets l i xs) (j + k) 0 ≡ get_or l (j + k) 0
below l i xs j k h = out-sets xs l i j (suc k) (inr (omega arith)) k (omega arith)

-- a store above the items in sight
pub above : (l : List ℕ) (i : ℕ) (xs : List ℕ) (n : ℕ) → n ≤ i → env_of (sets l (4 * i) xs) n ≡ env_of l n
unfolding env_of
above l i xs zero h = refl
above l i xs (suc n) h =
    let z : get_or (sets l (4 * i) xs) (4 * n) 0 ≡ get_or l (4 * n) 0 = rw (zero-add (4 * n)) at (below l (4 * i) xs 0 (4 * n) (omega arith)) in
    rw (z, below l (4 * i) xs (4 * n) 1 (omega arith), below l (4 * i) xs (4 * n) 2 (omega arith), below l (4 * i) xs (4 * n) 3 (omega arith), above l i xs n (omega arith))

-- fewer items in sight
pub fewer : (l m : List ℕ) (b n : ℕ) → b ≤ n → env_of l n ≡ env_of m n → env_of l b ≡ env_of m b
unfolding env_of
fewer l m b zero h e = let z : b ≡ 0 = omega arith in rw z
fewer l m b (suc n) h e = elim (ℕ_discrete b (suc n)) [ yes z ↦ rw z e | no z ↦ fewer l m b n (omega arith) (tails e) ]
  where
    tails : {x y : Item} {v w : List Item} → x ∷ v ≡ y ∷ w → v ≡ w
    tails k = cc

abbrev pub stored : List ℕ → ℕ → ℕ → ℕ → ℕ → ℕ → List ℕ
stored l n a s b q = sets l (4 * n) (a ∷ s ∷ b ∷ q ∷ [])

-- a store of a new item
pub pushed : (l : List ℕ) (n a s b q : ℕ) → 4 * (n + 1) ≤ length l → env_of (stored l n a s b q) (n + 1) ≡ item a s b q ∷ env_of l n
unfolding env_of
pushed l n a s b q h =
    let xs = a ∷ s ∷ b ∷ q ∷ [] in
    let in-at : (k : ℕ) → k < 4 → get_or (sets l (4 * n) xs) (4 * n + k) 0 ≡ get_or xs k 0 = λ k z. in-sets xs l (4 * n) (omega arith) k z in
    let z : get_or (sets l (4 * n) xs) (4 * n) 0 ≡ a = rw (add-zero (4 * n)) at (in-at 0 (omega arith)) in
    rw (add-one n, z, in-at 1 (omega arith), in-at 2 (omega arith), in-at 3 (omega arith), above l n xs n (omega arith))

pub grown-push : (l m : List ℕ) (n a s b q : ℕ) → 4 * (n + 1) ≤ length l → m ≡ stored l n a s b q → Grown n l m (n + 1) (item a s b q ∷ env_of l n) 1
grown-push l m n a s b q h e =
    rw e (record { now = pushed l n a s b q h; kept = above l n (a ∷ s ∷ b ∷ q ∷ []) n (omega arith); same = length-sets l (4 * n) (a ∷ s ∷ b ∷ q ∷ []); least = omega arith; most = omega arith })

-- one definition more
pub not-added : (l : List ℕ) (n a s b q : ℕ) {x : Bool} → x ≡ here a (env_of l n) → x ≡ true → Grown n l l n (adding (item a s b q) (env_of l n)) 1
not-added l n a s b q e k = record { now = rw (sym e ∙ k); kept = refl; same = refl; least = omega arith; most = omega arith }

pub is-added : (l m : List ℕ) (n a s b q : ℕ) {x : Bool} → 4 * (n + 1) ≤ length l → x ≡ here a (env_of l n) → x ≡ false → m ≡ stored l n a s b q
    → Grown n l m (n + 1) (adding (item a s b q) (env_of l n)) 1
is-added l m n a s b q h e k z = rw (sym e ∙ k) (grown-push l m n a s b q h z)

-- nothing more
pub grown-none : (l : List ℕ) (n : ℕ) → Grown n l l n (env_of l n) 0
grown-none l n = record { now = refl; kept = refl; same = refl; least = omega arith; most = omega arith }

-- ── what is found after a block's definitions were added: of two the first, and else what is found outside ──
pub all_append : (is js v : List Item) → add_all (is ++ js) v ≡ add_all js (add_all is v)
unfolding add_all
all_append [] js v = refl
all_append (i ∷ is) js v = all_append is js (adding i v)

unfoldable pub first_in : ℕ → List Item → Found
first_in a [] = Nothing
first_in a (item m s n q ∷ is) = If eqb m a then Def s n q false else first_in a is

abbrev pub or_outer : Found → Found → Found
or_outer Nothing g = g
or_outer (Def s n q c) g = Def s n q c

-- names are numbers of 16 bits
unfoldable pub Small : List Item → Type 0
Small [] = Unit {0}
Small (i ∷ is) = (name_of i < 65536) × Small is

pub small-append : (is js : List Item) → Small is → Small js → Small (is ++ js)
unfolding Small
small-append [] js s t = t
small-append (i ∷ is) js s t = (s.0, small-append is js s.1 t)

-- a definition, and else what is found behind it
pub find-item : (a b s n q : ℕ) (v : List Item) → b < 65536 → find a (item b s n q ∷ v) ≡ or_outer (first_in a (item b s n q ∷ [])) (find a v)
unfolding find first_in
find-item a b s n q v h = go (eqb b a) refl
  where
    go : (x : Bool) → eqb b a ≡ x
        → (If eqb b a then Def s n q false else passing (eqb b shut) (find a v)) ≡ or_outer (If eqb b a then Def s n q false else Nothing) (find a v)
    go true e = rw e
    go false e = let w : ¬ (b ≡ shut) = omega arith in rw (e, ne_eqb b shut w, ← passing-none (find a v))

module _ (a : ℕ) (small : a < 65536) where
  abbrev seen : List Item → Found → Found
  seen v g = If here a v then find a v else or_outer g (find a v)

  adds_one : (b s n q : ℕ) (v : List Item) (g : Found) → b < 65536 → seen (adding (item b s n q) v) g ≡ seen v (If eqb b a then Def s n q false else g)
  unfolding find here
  adds_one b s n q v g k = go (here b v) refl (eqb b a) refl (here a v) refl
    where
      go : (x : Bool) → here b v ≡ x → (y : Bool) → eqb b a ≡ y → (z : Bool) → here a v ≡ z
          → seen (adding (item b s n q) v) g ≡ seen v (If eqb b a then Def s n q false else g)
      go true e false f z h = rw (e, f)
      go true e true f true h = rw (e, f, h)
      go true e true f false h = let w : here a v ≡ true = rw (eqb-true b a f) at e in absurd (let z : ◌≡◌ {A = ℕ} 0 1 = cc in omega arith)
      go false e true f z h =
          let w : here a v ≡ false = rw (eqb-true b a f) at e in
          rw (e, w, le-ltb 65535 b (omega arith), f)
      go false e false f z h =
          let w : ¬ (b ≡ shut) = omega arith in
          rw (e, le-ltb 65535 b (omega arith), f, ne_eqb b shut w, ← passing-none (find a v))

  adds-all : (is v : List Item) → Small is → find a (add_all is v) ≡ seen v (first_in a is)
  unfolding add_all first_in Small
  adds-all [] v s = go (here a v)
    where
      go : (b : Bool) → find a v ≡ (If b then find a v else find a v)
      go true = refl
      go false = refl
  adds-all (item b x n q ∷ is) v s = adds-all is (adding (item b x n q) v) s.1 ∙ adds_one b x n q v (first_in a is) s.0

  at_mark : (k : ℕ) (v : List Item) → 65535 < k → here a (item k 0 0 0 ∷ v) ≡ false
  unfolding here
  at_mark k v h = rw (lt-ltb 65535 k h)

  pub past-mark : (k s n q : ℕ) (v : List Item) → 65535 < k → find a (item k s n q ∷ v) ≡ passing (eqb k shut) (find a v)
  unfolding find
  past-mark k s n q v h = let w : ¬ (k ≡ a) = omega arith in rw (ne_eqb k a w)

  pub find-block : (k : ℕ) (is v : List Item) → 65535 < k → Small is → find a (add_all is (item k 0 0 0 ∷ v)) ≡ or_outer (first_in a is) (passing (eqb k shut) (find a v))
  find-block k is v h s = adds-all is (item k 0 0 0 ∷ v) s ∙ rw (at_mark k v h, past-mark k 0 0 0 v h)
