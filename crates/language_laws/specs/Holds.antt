-- What a trace says of holds: how often a group is held and released, and that holds are released last first.
use Rattle.std.specs.Prelude.{Bool, true, false, ◌≡◌, refl, ℕ, suc, ◌+◌, eqb}
use Rattle.std.proofs.Common.{◌∙◌, arith}
use mathlib.Core.List.{List, [], ◌∷◌, ◌++◌, reverse_aux, reverse}
use Rattle.values.specs.Trace.{set, hold, release, Item, event, reading}

-- ── counting ──
abbrev pub one_more : Bool → ℕ → ℕ
one_more true n = suc n
one_more false n = n

unfoldable pub count : {A : Type 0} → (A → Bool) → List A → ℕ
count test [] = 0
count test (x ∷ xs) = one_more (test x) (count test xs)

abbrev pub is_hold : ℕ → Item → Bool
is_hold g (event (set x y)) = false
is_hold g (event (hold h)) = eqb g h
is_hold g (event (release h)) = false
is_hold g (reading n v) = false

abbrev pub is_release : ℕ → Item → Bool
is_release g (event (set x y)) = false
is_release g (event (hold h)) = false
is_release g (event (release h)) = eqb g h
is_release g (reading n v) = false

-- how often group g is held, and how often released, in a trace
abbrev pub times_held : ℕ → List Item → ℕ
times_held g is = count (is_hold g) is

abbrev pub times_released : ℕ → List Item → ℕ
times_released g is = count (is_release g) is

-- how often it is among the open holds: "A group held twice is released twice."
abbrev pub times_open : ℕ → List ℕ → ℕ
times_open g gs = count (eqb g) gs

-- ── last first ──
-- an item of the trace that is neither a hold nor a release
abbrev pub Quiet : Item → Type 0
Quiet (event (set x y)) = Unit {0}
Quiet (event (hold g)) = ⊥
Quiet (event (release g)) = ⊥
Quiet (reading n v) = Unit {0}

-- the holds gs are open, then come these items, then hs are open; each release was of the hold taken last among those open (all with the latest first)
pub data LastFirst (gs : List ℕ) : List Item → List ℕ → Type 0 where
  nothing : LastFirst gs [] gs
  quiet : {is : List Item} {hs : List ℕ} (i : Item) → Quiet i → LastFirst gs is hs → LastFirst gs (i ∷ is) hs
  takes : {is : List Item} {hs : List ℕ} (g : ℕ) → LastFirst gs is hs → LastFirst gs (event (hold g) ∷ is) (g ∷ hs)
  lets : {is : List Item} {hs : List ℕ} (g : ℕ) → LastFirst gs is (g ∷ hs) → LastFirst gs (event (release g) ∷ is) hs

-- ── laws ──
pub onward : {gs hs ks : List ℕ} {is js : List Item} → LastFirst gs is hs → LastFirst hs js ks → LastFirst gs (js ++ is) ks
onward h nothing = h
onward h (quiet i q k) = quiet i q (onward h k)
onward h (takes g k) = takes g (onward h k)
onward h (lets g k) = lets g (onward h k)

-- what is held is released or stays open
one-taken : (b : Bool) (x y z w : ℕ) → x + y ≡ z + w → one_more b x + y ≡ z + one_more b w
one-taken true x y z w h = omega arith
one-taken false x y z w h = h

one-let-go : (b : Bool) (x z w : ℕ) → x ≡ z + one_more b w → x ≡ one_more b z + w
one-let-go true x z w h = omega arith
one-let-go false x z w h = h

pub accounts : {gs hs : List ℕ} {is : List Item} (g : ℕ) → LastFirst gs is hs → times_held g is + times_open g gs ≡ times_released g is + times_open g hs
unfolding count
accounts g nothing = refl
accounts g (quiet (event (set x y)) q k) = accounts g k
accounts g (quiet (event (hold h)) q k) = absurd q
accounts g (quiet (event (release h)) q k) = absurd q
accounts g (quiet (reading n v) q k) = accounts g k
accounts g (takes h k) = one-taken (eqb g h) _ _ _ _ (accounts g k)
accounts g (lets h k) = one-let-go (eqb g h) _ _ _ (accounts g k)

-- the order does not matter to a count
count-onto : {A : Type 0} (test : A → Bool) (xs ys : List A) → count test (reverse_aux xs ys) ≡ count test xs + count test ys
unfolding count
count-onto test [] ys = omega arith
count-onto test (x ∷ xs) ys = one-let-go (test x) _ _ _ (count-onto test xs (x ∷ ys))

pub count-reverse : {A : Type 0} (test : A → Bool) (xs : List A) → count test (reverse xs) ≡ count test xs
unfolding count
count-reverse test xs = count-onto test xs [] ∙ omega arith
