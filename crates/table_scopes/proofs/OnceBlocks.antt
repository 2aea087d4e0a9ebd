-- Of two definitions of a name in one block the second is at fault: what stands at each definition of a block that was entered.
use Rattle.std.specs.Prelude.{◌≡◌, refl, Bool, true, false, ℕ, suc, ◌<◌, eqb}
use Rattle.std.proofs.Common.{◌∙◌, arith}
use mathlib.Core.List.{List, [], ◌∷◌}
use borrow.Author.Tests.{eq-eqb, ne_eqb}
use Rattle.logic.specs.Lists.{among}
use Rattle.logic.specs.Choice.{If◌then◌else◌}
use Rattle.values.specs.Ends.{refusal}
use Rattle.table_scopes.specs.Environment.{Item, item, Found, Nothing, Def, find, add_all, passing, shut}
use Rattle.table_scopes.specs.EnvironmentLaws.{first_in, or_outer, Small, find-block}
use Rattle.table_scopes.specs.Flaws.{once_of}
use Rattle.table_scopes.specs.Once.{OnceAll, Rising, Before, more, before_more, first-cons, or_assoc}

once-one : (f : Found) (seen : Bool) (s n p : ℕ) (g : Found) (q : ℕ) → (seen ≡ false → f ≡ Nothing) → (seen ≡ true → (s' : ℕ) × (n' : ℕ) × (q' : ℕ) × (f ≡ Def s' n' q' false) × (q' < p)) → q ≡ p
    → once_of (or_outer (or_outer f (Def s n q false)) g) p ≡ (If seen then refusal 3 p ∷ [] else [])
once-one f true s n p g q a b e = let (s', n', q', z, k) = b refl in rw (z, ne_eqb q' p (λ w. omega arith))
once-one f false s n p g q a b e = rw (a refl, eq-eqb q p e)

module _ (v : List Item) (outer : ℕ → Found) where
  once-from : (is : List Item) (f : ℕ → Found) (seen : List ℕ) (p : ℕ) → ((a : ℕ) → a < 65536 → find a v ≡ or_outer (or_outer (f a) (first_in a is)) (outer a))
      → Small is → Rising p is → Before f seen p → OnceAll v seen is
  unfolding OnceAll Rising Small first_in
  once-from [] f seen p g s r b = tt
  once-from (item a s n q ∷ is) f seen p g k r b = (
    rw (g a k.0, eq-eqb a a refl) (once-one (f a) (among a seen) s n q (outer a) q (b.none a) (λ e. let (s', n', q', z, w) = b.some a e in (s', n', q', z, omega (arith, r.0))) refl),
    once-from is (more f (item a s n q)) (a ∷ seen) (suc q)
        (λ x h. g x h ∙ rw (first-cons x (item a s n q) is, or_assoc (f x) (first_in x (item a s n q ∷ [])) (first_in x is)))
        k.1 r.1 (before_more f seen p (item a s n q) b r.0),
  )

-- the definitions of a block, above its mark
pub once-block : (k : ℕ) (is v : List Item) (p : ℕ) → 65535 < k → Small is → Rising p is → OnceAll (add_all is (item k 0 0 0 ∷ v)) [] is
unfolding among
once-block k is v p h s r =
    once-from (add_all is (item k 0 0 0 ∷ v)) (λ a. passing (eqb k shut) (find a v)) is (λ a. Nothing) [] p
    (λ a z. find-block a z k is v h s) s r (record { none = λ a e. refl; some = λ a e. absurd (let w : ◌≡◌ {A = ℕ} 0 1 = cc in omega arith) })
