-- Laws of the walk that tests where activations stand.
use mathlib.Core.Path.{◌≡◌, refl, sym, ap, ◌∙◌}
use mathlib.Core.Bool.{Bool, true, false, cond, ◌&&◌, false≢true, true≢false}
use mathlib.Core.List.{List}
use Prim.Native.Nat.{ℕ, ◌+◌, ◌<◌, ◌≤◌}
use native.Mathlib.Omega.{arith}
use lib.Dec.{ltb, eqb}
use borrow.Author.Tests.{eq-eqb, ne_eqb, lt-ltb, le-ltb, eqb-true, eqb-false, ltb-true, ltb-false}
use Rattle.words.specs.Numbers.{byte_at, half_at}
use Rattle.load_places.specs.Search.{tops, alike}
use Rattle.load_places.specs.Records.{body_place}
use Rattle.load_places.specs.Rules.{Flow, goes, ends, bad, chain, leave, body_of, found, step, into, broken}
use Rattle.state_sound.specs.Each.{each, each-alike, each_none, each_all}
use Rattle.state_sound.specs.Fits.{frame_at, body_in, depth_in, open_in, address_in, taken_in, operands_in, value_in, row_fits, stands_in, stands, activations_in}
use Rattle.state_check.specs.Inspecting.{records_in}
use Rattle.state_check.specs.Tested.{args_fit, standing, fit_before, Upto}
use Rattle.state_check.proofs.TypeRows.{by-test, alike-rows, each_and}
use Rattle.bytecode.specs.State.{operand_types_at, operand_words_at}
use Rattle.logic.specs.Tests.{and-true}

-- ── the arguments ──
module _ (c l : List ℕ) (n k : ℕ) (st : List ℕ) (a d : ℕ) where
  pub args-top : n ≤ k + 1 → eqb a d ≡ args_fit c l n k st a d
  unfolding args_fit
  args-top h = let z : a + 0 ≡ a = omega arith in rw (le-ltb (k + 1) n h, z) (by-test (eqb a d) (λ p. rw (p, each_none)) (λ p. rw p))

  module _ (h : k + 1 < n) (q : ℕ) (e : q ≡ body_place c (body_in l (k + 1))) where
    pub args-off : (a + byte_at c (q + 4) ≡ d → ⊥) → false ≡ args_fit c l n k st a d
    unfolding args_fit
    args-off z = let z' : (a + byte_at c (body_place c (body_in l (k + 1)) + 4) ≡ d → ⊥) = rw e at z in rw (lt-ltb (k + 1) n h, ne_eqb (a + byte_at c (body_place c (body_in l (k + 1)) + 4)) d z')

    pub args_row : a + byte_at c (q + 4) ≡ d → each (λ j. eqb (byte_at c (q + 7 + j)) (byte_at st (a + j))) 0 (byte_at c (q + 4)) ≡ args_fit c l n k st a d
    unfolding args_fit
    args_row z = let z' : a + byte_at c (body_place c (body_in l (k + 1)) + 4) ≡ d = rw e at z in rw (e, lt-ltb (k + 1) n h, eq-eqb (a + byte_at c (body_place c (body_in l (k + 1)) + 4)) d z')

pub args-few : (c l : List ℕ) (n k : ℕ) (st : List ℕ) (a d : ℕ) → args_fit c l n k st a d ≡ true → a ≤ d
unfolding args_fit
args-few c l n k st a d e = by-test (eqb (a + taken_in c l n k) d) (λ p. omega (arith, eqb-true (a + taken_in c l n k) d p)) (λ p. absurd (false≢true (rw p at e)))

-- ── an activation where it stands ──
module _ (c l : List ℕ) (r n k b : ℕ) (st : List ℕ) (h d : ℕ) where
  pub stands-1 : (body_in l k ≡ b → ⊥) → false ≡ stands_in c l r n k b h (tops st 0 d)
  unfolding stands_in
  stands-1 e = simp (ne_eqb (body_in l k) b e)

  module _ (e : body_in l k ≡ b) where
    pub stands-2 : (open_in l k ≡ h → ⊥) → false ≡ stands_in c l r n k b h (tops st 0 d)
    unfolding stands_in
    stands-2 f = simp (eq-eqb (body_in l k) b e, ne_eqb (open_in l k) h f)

    module _ (f : open_in l k ≡ h) where
      abbrev args : Bool
      args = args_fit c l n k st (depth_in l k) d

      together : cond (alike (operands_in c l n k) (tops st 0 d)) (each (value_in c l r (frame_at k + operand_types_at) (frame_at k + operand_words_at)) 0 (depth_in l k)) false
          ≡ cond args (row_fits c l r st 0 (frame_at k + operand_types_at) (frame_at k + operand_words_at) (depth_in l k)) false
      unfolding args_fit row_fits
      together =
          rw (
            alike-rows c l st (body_place c (body_in l (k + 1)) + 7) (taken_in c l n k) (frame_at k + operand_types_at) (depth_in l k) d,
            ← each_and (λ j. eqb (byte_at l (frame_at k + operand_types_at + j)) (byte_at st (0 + j))) (value_in c l r (frame_at k + operand_types_at) (frame_at k + operand_words_at)) (depth_in l k) 0,
          )
          (by-test (eqb (depth_in l k + taken_in c l n k) d) (λ p. rw p (turn
          (each (λ j. eqb (byte_at c (body_place c (body_in l (k + 1)) + 7 + j)) (byte_at st (depth_in l k + j))) 0 (taken_in c l n k))
          (each (λ j. eqb (byte_at l (frame_at k + operand_types_at + j)) (byte_at st (0 + j))) 0 (depth_in l k))
          (each (value_in c l r (frame_at k + operand_types_at) (frame_at k + operand_words_at)) 0 (depth_in l k)))) (λ p. rw p))
        where
          turn : (x y z : Bool) → cond (x && y) z false ≡ cond x (y && z) false
          turn true true z = refl
          turn true false z = refl
          turn false y z = refl

      pub stands-3 : args ≡ false → false ≡ stands_in c l r n k b h (tops st 0 d)
      unfolding stands_in
      stands-3 g = rw (eq-eqb (body_in l k) b e, eq-eqb (open_in l k) h f, together, g)

      pub stands-4 : args ≡ true → row_fits c l r st 0 (frame_at k + operand_types_at) (frame_at k + operand_words_at) (depth_in l k) ≡ stands_in c l r n k b h (tops st 0 d)
      unfolding stands_in
      stands-4 g = rw (eq-eqb (body_in l k) b e, eq-eqb (open_in l k) h f, together, g)

abbrev pub stand_at : List ℕ → List ℕ → ℕ → ℕ → ℕ → ℕ → ℕ → List ℕ → ℕ → Bool
stand_at c l r n i b h s k = cond (eqb (address_in l k) i) (stands_in c l r n k b h s) true

-- ── one address more ──
module _ (c l : List ℕ) (r n i : ℕ) (ok : Bool) (next : ℕ) (U : Upto c l r n i ok next) where
  pub skipped : i < next → Upto c l r n (i + 1) ok next
  skipped h = record {
    tested = U.tested ∙ each-alike _ _ n (λ k p. by-test (ltb (address_in l k) i)
        (λ e. rw (e, lt-ltb (address_in l k) (i + 1) (omega (arith, ltb-true (address_in l k) i e))))
        (λ e. let g : i ≤ address_in l k = ltb-false (address_in l k) i e in rw (e, le-ltb (address_in l k) (i + 1) (omega (arith, U.ahead k p g)))));
    ahead = λ k p q. U.ahead k p (omega arith);
  }

  -- no state is found only at a fault
  fault : (F : Flow) → F ≡ found c i (into c i) → broken c i ≡ false → chain F (λ h s. goes h s) ≡ bad → ⊥
  unfolding broken step leave
  fault (goes h s) e q z = let y : ◌≡◌ {A = ℕ} 0 1 = cc in omega arith
  fault ends e q z = true≢false (rw (← e) at q)
  fault bad e q z = true≢false (rw (← e) at q)

  tests-more : (F : Flow) (b : ℕ) → F ≡ found c i (into c i) → b ≡ body_of c i → broken c i ≡ false → (ok && standing c l r n i b F) ≡ fit_before c l r n (i + 1)
  unfolding stands
  tests-more (goes h s) b e d q =
      rw U.tested (each_and _ _ n 0 ∙ each-alike _ _ n (λ k p.
      by-test (ltb (address_in l k) i)
      (λ x. let g : address_in l k < i = ltb-true (address_in l k) i x in
      rw (x, ne_eqb (address_in l k) i (λ z. omega arith), lt-ltb (address_in l k) (i + 1) (omega arith)) (and-true (stands c l r n k)))
      (λ x. let g : i ≤ address_in l k = ltb-false (address_in l k) i x in
      rw x (by-test (eqb (address_in l k) i)
      (λ y. let z : address_in l k ≡ i = eqb-true (address_in l k) i y in rw (y, lt-ltb (address_in l k) (i + 1) (omega arith), z, ← e, ← d))
      (λ y. let z : (address_in l k ≡ i → ⊥) = eqb-false (address_in l k) i y in rw (y, le-ltb (address_in l k) (i + 1) (omega (arith, z))))))))
  tests-more ends b e d q = absurd (fault ends e q refl)
  tests-more bad b e d q = absurd (fault bad e q refl)

  pub looked : (F : Flow) (b : ℕ) (f : Bool) (j : ℕ) → F ≡ found c i (into c i) → b ≡ body_of c i → broken c i ≡ false → f ≡ standing c l r n i b F
      → ((k : ℕ) → k < n → i + 1 ≤ address_in l k → j ≤ address_in l k) → (x : Bool) → x ≡ (ok && f) → Upto c l r n (i + 1) x j
  looked F b f j e d q g a x y = record { tested = y ∙ rw g (tests-more F b e d q); ahead = a }

-- ── what is wanted ──
pub nearer-more : (l : List ℕ) (i k best x a : ℕ) → ((j : ℕ) → j < k → i ≤ address_in l j → best ≤ address_in l j) → x ≤ best → (i ≤ a → x ≤ a) → a ≡ address_in l k
    → (j : ℕ) → j < k + 1 → i ≤ address_in l j → x ≤ address_in l j
nearer-more l i k best x a b h g e j p q =
    by-test (eqb j k)
    (λ d. let z : address_in l k ≡ address_in l j = ap (address_in l) (sym (eqb-true j k d)) in omega (arith, g (omega arith)))
    (λ d. omega (arith, b j (omega (arith, eqb-false j k d)) q))

pub counts-not : (l : List ℕ) (p : Bool) → p ≡ false → (0 ≡ cond p (activations_in l) 0) × (0 ≡ cond p (records_in l) 0)
counts-not l p e = (rw e, rw e)

module _ (l : List ℕ) (p : Bool) (e : p ≡ true) where
  pub counts-other : (byte_at l 0 ≡ 0 → ⊥) → (0 ≡ cond p (activations_in l) 0) × (0 ≡ cond p (records_in l) 0)
  counts-other n = (rw (e, ne_eqb (byte_at l 0) 0 n), rw (e, ne_eqb (byte_at l 0) 0 n))

  pub counts-in : byte_at l 0 ≡ 0 → (byte_at l 2 ≡ cond p (activations_in l) 0) × (half_at l 4 ≡ cond p (records_in l) 0)
  counts-in z = (rw (e, eq-eqb (byte_at l 0) 0 z), rw (e, eq-eqb (byte_at l 0) 0 z))

-- ── the walk ──
pub begins : (c l : List ℕ) (r n next : ℕ) → ((k : ℕ) → k < n → 0 ≤ address_in l k → next ≤ address_in l k) → Upto c l r n 0 true next
begins c l r n next a = record { tested = sym (each_all _ n (λ k p. rw (le-ltb (address_in l k) 0 (omega arith)))); ahead = a }

pub ends_at : (c l : List ℕ) (r n i : ℕ) (ok : Bool) (next m : ℕ) → Upto c l r n i ok next → i ≡ m → ok ≡ fit_before c l r n m
ends_at c l r n i ok next m U e = U.tested ∙ ap (fit_before c l r n) e
