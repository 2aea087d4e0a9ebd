-- The stack of types as it stands in its slice: its top, what was pushed and what is popped.
use mathlib.Core.Path.{◌≡◌, refl, ap, ◌∙◌}
use mathlib.Core.List.{List, [], ◌∷◌}
use Prim.Native.Nat.{ℕ, zero, suc, ◌+◌, ◌-◌, ◌<◌, ◌≤◌}
use native.Mathlib.Omega.{arith}
use lib.ListN.{length, set}
use lib.Seq.{get_or-set_other, get_or-set_same}
use borrow.Author.Tests.{eq-eqb, ne_eqb, lt-ltb, le-ltb}
use Rattle.words.specs.Numbers.{byte_at}
use Rattle.load_places.specs.Search.{tops}
use Rattle.load_places.specs.Rules.{goes, bad, push, pop, top_of}

pub length-tops : (l : List ℕ) (q n : ℕ) → length (tops l q n) ≡ n
unfolding tops
length-tops l q zero = refl
length-tops l q (suc n) = ap suc (length-tops l q n)

pub tops-set : (l : List ℕ) (n i t : ℕ) → n ≤ i → tops (set l i t) 0 n ≡ tops l 0 n
unfolding tops
tops-set l zero i t h = refl
tops-set l (suc n) i t h = rw (tops-set l n i t (omega arith)) (ap (λ (x : ℕ). x ∷ tops l 0 n) (get_or-set_other l i (0 + n) t 0 (λ e. omega arith)))

pub tops-top : (l : List ℕ) (q d : ℕ) → 0 < d → tops l q d ≡ byte_at l (q + (d - 1)) ∷ tops l q (d - 1)
unfolding tops
tops-top l q zero h = absurd (omega arith)
tops-top l q (suc d) h = let e : suc d - 1 ≡ d = omega arith in rw e

pub stack_top : (st : List ℕ) (d : ℕ) → 0 < d → tops st 0 d ≡ byte_at st (d - 1) ∷ tops st 0 (d - 1)
stack_top st d h = let e : 0 + (d - 1) ≡ d - 1 = omega arith in tops-top st 0 d h ∙ rw e

pub stack-none : (st : List ℕ) (d : ℕ) → d ≡ 0 → tops st 0 d ≡ []
unfolding tops
stack-none st d e = rw e

pub stack_set : (st : List ℕ) (d t : ℕ) → d < length st → tops (set st d t) 0 (d + 1) ≡ t ∷ tops st 0 d
stack_set st d t h =
    let e : d + 1 - 1 ≡ d = omega arith in
    stack_top (set st d t) (d + 1) (omega arith) ∙ rw (e, get_or-set_same st d t 0 h, tops-set st d d t (omega arith))

pub top-none : (st : List ℕ) (d : ℕ) → d ≡ 0 → 0 ≡ top_of (tops st 0 d)
top-none st d e = rw (stack-none st d e)

pub top-some : (st : List ℕ) (d : ℕ) → (d ≡ 0 → ⊥) → byte_at st (d - 1) ≡ top_of (tops st 0 d)
top-some st d n = rw (stack_top st d (omega (arith, n)))

module _ (st : List ℕ) (t h d : ℕ) where
  pub push-over : 32 ≤ d → push t h (tops st 0 d) ≡ bad
  unfolding push
  push-over p = rw (length-tops st 0 d, le-ltb d 32 p)

  pub push-fits : d < 32 → d < length st → goes h (tops (set st d t) 0 (d + 1)) ≡ push t h (tops st 0 d)
  unfolding push
  push-fits p q = rw (length-tops st 0 d, lt-ltb d 32 p, stack_set st d t q)

  pub pop-none : d ≡ 0 → pop t h (tops st 0 d) ≡ bad
  unfolding pop
  pop-none e = rw (stack-none st d e)

  module _ (g : (d ≡ 0 → ⊥)) where
    pub pop-other : (byte_at st (d - 1) ≡ t → ⊥) → pop t h (tops st 0 d) ≡ bad
    unfolding pop
    pop-other e = rw (stack_top st d (omega (arith, g)), ne_eqb (byte_at st (d - 1)) t e)

    pub pop-takes : byte_at st (d - 1) ≡ t → pop t h (tops st 0 d) ≡ goes h (tops st 0 (d - 1))
    unfolding pop
    pop-takes e = rw (stack_top st d (omega (arith, g)), eq-eqb (byte_at st (d - 1)) t e)
