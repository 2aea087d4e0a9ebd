-- The types that a record lists, beside those of the stack: compared, loaded and taken; and a shape beside a state.
use mathlib.Core.Path.{◌≡◌, refl, sym, ap, ◌∙◌}
use mathlib.Core.Bool.{true, false}
use mathlib.Core.List.{List}
use Prim.Native.Nat.{ℕ, zero, suc, ◌+◌, ◌-◌, ◌<◌, ◌≤◌}
use native.Mathlib.Omega.{arith}
use lib.ListN.{length, set}
use borrow.Author.Tests.{eq-eqb, ne_eqb}
use Rattle.words.specs.Numbers.{byte_at}
use Rattle.load_places.specs.Search.{tops, alike}
use Rattle.load_places.specs.Rules.{Flow, goes, ends, bad, equals, pop, chain, takes}
use Rattle.load_rules.proofs.TypeStack.{length-tops, tops-top, stack_top, stack_set, pop-none, pop-other, pop-takes}

module _ (st l : List ℕ) (q d : ℕ) (p : 0 < d) where
  pub alike-down : byte_at st (d - 1) ≡ byte_at l (q + (d - 1)) → alike (tops st 0 d) (tops l q d) ≡ alike (tops st 0 (d - 1)) (tops l q (d - 1))
  unfolding alike
  alike-down e = rw (stack_top st d p, tops-top l q d p, eq-eqb (byte_at st (d - 1)) (byte_at l (q + (d - 1))) e)

  pub alike-off : (byte_at st (d - 1) ≡ byte_at l (q + (d - 1)) → ⊥) → alike (tops st 0 d) (tops l q d) ≡ false
  unfolding alike
  alike-off e = rw (stack_top st d p, tops-top l q d p, ne_eqb (byte_at st (d - 1)) (byte_at l (q + (d - 1))) e)

pub alike_end : (st l : List ℕ) (q d : ℕ) → d ≤ 0 → alike (tops st 0 d) (tops l q d) ≡ true
unfolding alike tops
alike_end st l q d p = let e : d ≡ 0 = omega arith in rw e

pub tops-none : (st l : List ℕ) (q : ℕ) → tops st 0 0 ≡ tops l q 0
unfolding tops
tops-none st l q = refl

pub tops-load : (st l : List ℕ) (q i : ℕ) → i < length st → tops st 0 i ≡ tops l q i → tops (set st i (byte_at l (q + i))) 0 (i + 1) ≡ tops l q (i + 1)
tops-load st l q i h e =
    let z : i + 1 - 1 ≡ i = omega arith in
    stack_set st i (byte_at l (q + i)) h ∙ sym (tops-top l q (i + 1) (omega arith) ∙ rw (z, e))

module _ (l st : List ℕ) (q n h e : ℕ) where
  pub takes-end : n ≤ 0 → takes l q n h (tops st 0 e) ≡ goes h (tops st 0 e)
  unfolding takes
  takes-end p = let z : n ≡ 0 = omega arith in rw z

  takes-on : 0 < n → takes l q n h (tops st 0 e) ≡ chain (pop (byte_at l (q + (n - 1))) h (tops st 0 e)) (λ g r. takes l q (n - 1) g r)
  unfolding takes
  takes-on p = let z : n ≡ suc (n - 1) = omega arith in ap (λ (m : ℕ). takes l q m h (tops st 0 e)) z

  module _ (p : 0 < n) where
    pub takes_none : e ≡ 0 → takes l q n h (tops st 0 e) ≡ bad
    takes_none z = takes-on p ∙ rw (pop-none st (byte_at l (q + (n - 1))) h e z)

    pub takes-other : (e ≡ 0 → ⊥) → (byte_at st (e - 1) ≡ byte_at l (q + (n - 1)) → ⊥) → takes l q n h (tops st 0 e) ≡ bad
    takes-other z o = takes-on p ∙ rw (pop-other st (byte_at l (q + (n - 1))) h e z o)

    pub takes_one : (e ≡ 0 → ⊥) → byte_at st (e - 1) ≡ byte_at l (q + (n - 1)) → takes l q n h (tops st 0 e) ≡ takes l q (n - 1) h (tops st 0 (e - 1))
    takes_one z o = takes-on p ∙ rw (pop-takes st (byte_at l (q + (n - 1))) h e z o)

-- what is left of the types goes on as it is
pub takes-kept : (l : List ℕ) (q n h : ℕ) (s : List ℕ) → chain (takes l q n h s) (λ g r. goes g r) ≡ takes l q n h s
unfolding takes
takes-kept l q zero h s = refl
takes-kept l q (suc n) h s = go (pop (byte_at l (q + n)) h s) (λ g r. takes-kept l q n g r)
  where
    go : (X : Flow) → ((g : ℕ) (r : List ℕ) → chain (takes l q n g r) (λ i t. goes i t) ≡ takes l q n g r)
        → chain (chain X (λ g r. takes l q n g r)) (λ g r. goes g r) ≡ chain X (λ g r. takes l q n g r)
    go (goes g r) k = k g r
    go ends k = refl
    go bad k = refl

-- a shape and a state
module _ (l st : List ℕ) (p h d : ℕ) where
  pub equals-holds : (h ≡ byte_at l (p + 4) → ⊥) → equals l p h (tops st 0 d) ≡ false
  unfolding equals
  equals-holds e = simp (ne_eqb _ _ e)

  pub equals-depth : h ≡ byte_at l (p + 4) → (d ≡ byte_at l (p + 5) → ⊥) → equals l p h (tops st 0 d) ≡ false
  unfolding equals
  equals-depth e f = simp (eq-eqb _ _ e, length-tops, ne_eqb _ _ f)

  pub equals-types : h ≡ byte_at l (p + 4) → d ≡ byte_at l (p + 5) → equals l p h (tops st 0 d) ≡ alike (tops st 0 d) (tops l (p + 6) d)
  unfolding equals
  equals-types e f = rw (eq-eqb _ _ e, length-tops st 0 d, eq-eqb _ _ f, f)
