-- A name is defined once in a block: what is found of it is this definition exactly if the block has none before.
use Rattle.std.specs.Prelude.{◌≡◌, refl, Bool, true, false, ◌||◌, ℕ, suc, ◌≤◌, ◌<◌, eqb}
use Rattle.std.proofs.Common.{sym, arith}
use mathlib.Core.List.{List, [], ◌∷◌}
use Rattle.logic.specs.Lists.{among}
use Rattle.logic.specs.Choice.{If◌then◌else◌}
use Rattle.language.specs.Faults.{twice}
use Rattle.table_scopes.specs.Environment.{Item, item, Found, Nothing, Def, name_of}
use Rattle.table_scopes.specs.EnvironmentLaws.{first_in, or_outer}
use Rattle.table_scopes.specs.Flaws.{once_flaw}
use Rattle.logic.specs.Tests.{eqb_comm}

abbrev pub place_of : Item → ℕ
place_of (item a s n q) = q

-- each definition of a block has the faults that the names before it give
unfoldable pub OnceAll : List Item → List ℕ → List Item → Type 0
OnceAll v seen [] = Unit {0}
OnceAll v seen (i ∷ is) = (once_flaw v (name_of i) (place_of i) ≡ twice (name_of i) seen (place_of i)) × OnceAll v (name_of i ∷ seen) is

-- places rise
unfoldable pub Rising : ℕ → List Item → Type 0
Rising p [] = Unit {0}
Rising p (i ∷ is) = (p ≤ place_of i) × Rising (suc (place_of i)) is

pub rising-later : (p q : ℕ) (is : List Item) → q ≤ p → Rising p is → Rising q is
unfolding Rising
rising-later p q [] h r = tt
rising-later p q (i ∷ is) h r = (omega (arith, r.0), r.1)

-- what the definitions before a place hold
pub record Before (f : ℕ → Found) (seen : List ℕ) (p : ℕ) : Type 0 where
  pub none : (a : ℕ) → among a seen ≡ false → f a ≡ Nothing
  pub some : (a : ℕ) → among a seen ≡ true → (s : ℕ) × (n : ℕ) × (q : ℕ) × (f a ≡ Def s n q false) × (q < p)

abbrev pub more : (ℕ → Found) → Item → ℕ → Found
more f i a = or_outer (f a) (first_in a (i ∷ []))

pub or_assoc : (f g h : Found) → or_outer (or_outer f g) h ≡ or_outer f (or_outer g h)
or_assoc Nothing g h = refl
or_assoc (Def s n q w) g h = refl

pub first-cons : (a : ℕ) (i : Item) (is : List Item) → first_in a (i ∷ is) ≡ or_outer (first_in a (i ∷ [])) (first_in a is)
unfolding first_in
first-cons a (item b s n q) is = go (eqb b a)
  where
    go : (x : Bool) → (If x then Def s n q false else first_in a is) ≡ or_outer (If x then Def s n q false else Nothing) (first_in a is)
    go true = refl
    go false = refl

pub before_more : (f : ℕ → Found) (seen : List ℕ) (p : ℕ) (i : Item) → Before f seen p → p ≤ place_of i → Before (more f i) (name_of i ∷ seen) (suc (place_of i))
unfolding among first_in
before_more f seen p (item b s n q) h r = record { none = λ a e. none_more a e; some = λ a e. some_more a e }
  where
    none_more : (a : ℕ) → (eqb a b || among a seen) ≡ false → or_outer (f a) (If eqb b a then Def s n q false else Nothing) ≡ Nothing
    none_more a e = go (eqb a b) refl (among a seen) refl
      where
        go : (x : Bool) → eqb a b ≡ x → (y : Bool) → among a seen ≡ y → or_outer (f a) (If eqb b a then Def s n q false else Nothing) ≡ Nothing
        go true u y w = absurd (let z : true ≡ false = rw u at e in let k : ◌≡◌ {A = ℕ} 0 1 = cc in omega arith)
        go false u true w = absurd (let z : true ≡ false = rw (u, w) at e in let k : ◌≡◌ {A = ℕ} 0 1 = cc in omega arith)
        go false u false w = rw (h.none a w, sym (eqb_comm a b), u)

    some_more : (a : ℕ) → (eqb a b || among a seen) ≡ true → (s' : ℕ) × (n' : ℕ) × (q' : ℕ) × (or_outer (f a) (If eqb b a then Def s n q false else Nothing) ≡ Def s' n' q' false) × (q' < suc q)
    some_more a e = go (among a seen) refl (eqb a b) refl
      where
        go : (y : Bool) → among a seen ≡ y → (x : Bool) → eqb a b ≡ x → (s' : ℕ) × (n' : ℕ) × (q' : ℕ)
            × (or_outer (f a) (If eqb b a then Def s n q false else Nothing) ≡ Def s' n' q' false) × (q' < suc q)
        go true w x u = let (s', n', q', z, k) = h.some a w in (s', n', q', rw z, omega arith)
        go false w true u = (s, n, q, rw (h.none a w, sym (eqb_comm a b), u), omega arith)
        go false w false u = absurd (let z : false ≡ true = rw (u, w) at e in let k : ◌≡◌ {A = ℕ} 0 1 = cc in omega arith)
